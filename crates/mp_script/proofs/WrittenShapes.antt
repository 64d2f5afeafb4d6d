-- What a line says, and the line that says it in the canonical text.
use Rattle.std.proofs.Common.{inl, inr, ◌≡◌, ℕ, ◌<◌, ◌≤◌, Bool, true, false, ◌&&◌, ◌||◌, List, [], ◌∷◌, length, Option, Some, None, refl, sym, ap, ◌∙◌, arith}
use Rattle.std.specs.Prelude.{not, nat_le, nat_lt, is_some, codes, if◌then◌else◌, unwrap_or}
use Rattle.std.specs.List.{list_all, join_with_byte}
use Rattle.std.specs.Fmt.{decimal}
use Rattle.std.proofs.lemmas.Bool.{false≢true, and_parts, cases_Bool}
use Rattle.std.proofs.lemmas.Bool.Decides.{nat_tests}
use Rattle.std.proofs.lemmas.Slice.Eq.{bytes_eq-Decides}
use Rattle.mp_checks.specs.Checks.{if_there}
use Rattle.mp_topology.specs.declared.topology.Controller.{Controller}
use Rattle.mp_script.specs.Splitting.{number_of, value_of, is_in}
use Rattle.mp_script.specs.Shape.{Shape, skipped, unknown, answer, lane, keeper, submit, finish, requeue, log, ctrl, anatt, add, remove, reap, policy, is_word, shape_0, shape_1, shape_2, shape_3, shape_of_words, shape_of}
use Rattle.mp_script.specs.Wording.{has_numbers, is_named, is_node, is_submitted, has_box, has_ana, is_there}
use Rattle.mp_script.specs.Before.{Before, begins_lane, is_keeper, submitted_of, repeats}
use Rattle.mp_script.specs.Lines.{stands, is_keepers}
use Rattle.mp_script.specs.Plans.{line_of, page_of, finish_of}
use Rattle.mp_script.specs.declared.script.Line.{Line}
use Rattle.mp_script.proofs.WrittenNumbers.{number_decimal, plain_decimal}
use Rattle.mp_script.proofs.WrittenWords.{is_plain, words_of_line}

-- the words of a line that says this
abbrev pub words_of_shape : Shape → List (List ℕ)
words_of_shape skipped = []
words_of_shape unknown = []
words_of_shape (answer r a s) = codes "answer" ∷ r ∷ a ∷ s ∷ []
words_of_shape lane = codes "lane" ∷ []
words_of_shape keeper = codes "keeper" ∷ []
words_of_shape (submit r n) = codes "submit" ∷ r ∷ n ∷ []
words_of_shape (finish r) = codes "finish" ∷ r ∷ []
words_of_shape requeue = codes "requeue" ∷ []
words_of_shape (log c k) = codes "log" ∷ c ∷ k ∷ []
words_of_shape (ctrl c s) = codes "ctrl" ∷ c ∷ s ∷ []
words_of_shape (anatt c) = codes "anatt" ∷ c ∷ []
words_of_shape (add c k) = codes "add" ∷ c ∷ k ∷ []
words_of_shape (remove c) = codes "remove" ∷ c ∷ []
words_of_shape reap = codes "reap" ∷ []
words_of_shape (policy p) = codes "policy" ∷ p ∷ []

-- there are at most four of them
pub few_words : (s : Shape) → nat_le (length (words_of_shape s)) 4 ≡ true
few_words skipped = refl
few_words unknown = refl
few_words (answer r a s) = refl
few_words lane = refl
few_words keeper = refl
few_words (submit r n) = refl
few_words (finish r) = refl
few_words requeue = refl
few_words (log c k) = refl
few_words (ctrl c s) = refl
few_words (anatt c) = refl
few_words (add c k) = refl
few_words (remove c) = refl
few_words reap = refl
few_words (policy p) = refl

-- it is a line of the form's
abbrev pub is_form : Shape → Bool
is_form skipped = false
is_form unknown = false
is_form _ = true

-- its words are read as the same
shape_words : (s : Shape) → is_form s ≡ true → shape_of_words (words_of_shape s) ≡ s
unfolding shape_0 shape_1 shape_2 shape_3
shape_words skipped h = absurd (false≢true h)
shape_words unknown h = absurd (false≢true h)
shape_words (answer r a s) h = refl
shape_words lane h = refl
shape_words keeper h = refl
shape_words (submit r n) h = refl
shape_words (finish r) h = refl
shape_words requeue h = refl
shape_words (log c k) h = refl
shape_words (ctrl c s) h = refl
shape_words (anatt c) h = refl
shape_words (add c k) h = refl
shape_words (remove c) h = refl
shape_words reap h = refl
shape_words (policy p) h = refl

-- the line of these words
abbrev pub text_of : Shape → List ℕ
text_of s = join_with_byte 32 (words_of_shape s)

pub shape_text : (s : Shape) → is_form s ≡ true → list_all is_plain (words_of_shape s) ≡ true → shape_of (text_of s) ≡ s
unfolding shape_of
shape_text s form plain = ap shape_of_words (words_of_line (words_of_shape s) plain) ∙ shape_words s form

-- ---- the same with canonical numbers

abbrev pub canon_number : List ℕ → List ℕ
canon_number w = decimal (value_of w)

abbrev pub canon_unless : List ℕ → List ℕ → List ℕ
canon_unless word w = if is_word w word then word else canon_number w

abbrev pub canon : Shape → Shape
canon skipped = skipped
canon unknown = unknown
canon (answer r a s) = answer r a s
canon lane = lane
canon keeper = keeper
canon (submit r n) = submit (canon_number r) (canon_number n)
canon (finish r) = finish (canon_unless (codes "all") r)
canon requeue = requeue
canon (log c k) = log c (canon_number k)
canon (ctrl c s) = ctrl c s
canon (anatt c) = anatt c
canon (add c k) = add c (canon_unless (codes "-") k)
canon (remove c) = remove c
canon reap = reap
canon (policy p) = policy p

same_option : (o : Option ℕ) → is_some o ≡ true → unwrap_or o 0 < 4294967296 → number_of (decimal (unwrap_or o 0)) ≡ o
same_option None there lt = absurd (false≢true there)
same_option (Some n) there lt = number_decimal n lt

-- the number is read again
same_number : (w : List ℕ) → is_some (number_of w) ≡ true → value_of w < 4294967296 → number_of (canon_number w) ≡ number_of w
same_number w there lt = same_option (number_of w) there lt

in_option : (low high : ℕ) (o : Option ℕ) → is_some o && if_there (λ n. nat_le low n && nat_le n high) o ≡ true → (is_some o ≡ true) × (unwrap_or o 0 ≤ high)
in_option low high None h = absurd (false≢true h)
in_option low high (Some n) h = (refl, grind (arith, nat_tests))

pub in_range : (low high : ℕ) (w : List ℕ) → is_in low high w ≡ true → (is_some (number_of w) ≡ true) × (value_of w ≤ high)
in_range low high w h = in_option low high (number_of w) h

pub same_word : (w word : List ℕ) → is_word w word ≡ true → w ≡ word
same_word w word h = (bytes_eq-Decides w word).0 h

canon_yes : (word w : List ℕ) → is_word w word ≡ true → canon_unless word w ≡ w
canon_yes word w h = rw h (sym (same_word w word h))

-- a number is no word that is none
pub other_word : (w word : List ℕ) → is_some (number_of w) ≡ true → is_some (number_of word) ≡ false → is_word w word ≡ false
other_word w word there none = elim (cases_Bool (is_word w word)) [
  | inl e ↦ absurd (false≢true (sym none ∙ ap (λ v. is_some (number_of v)) (sym (same_word w word e)) ∙ there))
  | inr e ↦ e
]

-- all that the checks and the script look at
pub record Seen : Type 0 where
  pub begins : Bool
  pub keeper : Bool
  pub stands : Bool
  pub keepers : Bool
  pub numbers : Bool
  pub named : Bool
  pub submitted : Bool
  pub repeats : Bool
  pub submit : Option ℕ
  pub line : Option Line

abbrev pub seen : List Controller → ℕ → ℕ → ℕ → List ℕ → Before → Shape → Seen
seen controllers nodes pages lanes submits b s = record {
  begins = begins_lane s;
  keeper = is_keeper s;
  stands = stands lanes s;
  keepers = is_keepers s;
  numbers = has_numbers nodes s;
  named = is_named controllers pages s;
  submitted = is_submitted submits s;
  repeats = repeats b s;
  submit = submitted_of s;
  line = line_of controllers s;
}

pub or_right : (a b : Bool) → a ≡ false → a || b ≡ true → b ≡ true
or_right true b e h = absurd (false≢true (sym e))
or_right false b e h = h

-- a number of 32 bits
abbrev pub IsNumber : List ℕ → Type 0
IsNumber w = (is_some (number_of w) ≡ true) × (value_of w < 4294967296)

pub number_again : (w : List ℕ) → IsNumber w → number_of (canon_number w) ≡ number_of w
number_again w h = same_number w h.0 h.1

pub plain_number : (w : List ℕ) → IsNumber w → is_plain (canon_number w) ≡ true
plain_number w h = plain_decimal (value_of w) h.1

-- the numbers of these words
pub submit_numbers : (nodes : ℕ) (r n : List ℕ) → nodes ≤ 8 → has_numbers nodes (submit r n) ≡ true → IsNumber r × IsNumber n
unfolding has_numbers is_node
submit_numbers nodes r n few h =
    let p = and_parts (is_in 0 65535 r) (is_some (number_of n) && nat_lt (value_of n) nodes) h in
    let q = and_parts (is_some (number_of n)) (nat_lt (value_of n) nodes) p.1 in
    let a = in_range 0 65535 r p.0 in
    ((a.0, omega (arith, a.1)), (q.0, grind (arith, nat_tests)))

pub finish_number : (nodes : ℕ) (r : List ℕ) → is_word r (codes "all") ≡ false → has_numbers nodes (finish r) ≡ true → IsNumber r
unfolding has_numbers
finish_number nodes r other h =
    let a = in_range 0 65535 r (or_right (is_word r (codes "all")) (is_in 0 65535 r) other h) in
    (a.0, omega (arith, a.1))

pub box_number : (pages : ℕ) (k : List ℕ) → is_some (number_of k) ≡ true → has_box pages k ≡ true → IsNumber k
unfolding has_box
box_number pages k there h =
    let p = and_parts (nat_lt (value_of k) pages) (nat_le (value_of k) 4294967295) h in
    (there, grind (arith, nat_tests))

pub log_number : (controllers : List Controller) (nodes pages : ℕ) (c k : List ℕ) → has_numbers nodes (log c k) ≡ true → is_named controllers pages (log c k) ≡ true → IsNumber k
unfolding has_numbers is_named
log_number controllers nodes pages c k h named =
    let p = and_parts (is_there controllers c) (has_ana controllers c && has_box pages k) named in
    box_number pages k h (and_parts (has_ana controllers c) (has_box pages k) p.1).1

pub add_number : (controllers : List Controller) (nodes pages : ℕ) (c k : List ℕ) → is_word k (codes "-") ≡ false → has_numbers nodes (add c k) ≡ true → is_named controllers pages (add c k) ≡ true → IsNumber k
unfolding has_numbers is_named
add_number controllers nodes pages c k other h named =
    let there : is_some (number_of k) ≡ true = or_right (is_word k (codes "-")) (is_some (number_of k)) other h in
    let p = and_parts (is_there controllers c) (if is_word k (codes "-") then not (has_ana controllers c) else has_ana controllers c && has_box pages k) named in
    let q : has_ana controllers c && has_box pages k ≡ true = rw other at p.1 in
    box_number pages k there (and_parts (has_ana controllers c) (has_box pages k) q).1

-- the same is seen of the canonical line
pub canon_seen : (controllers : List Controller) (nodes pages lanes : ℕ) (submits : List ℕ) (b : Before) (s : Shape) → nodes ≤ 8 → has_numbers nodes s ≡ true → is_named controllers pages s ≡ true
    → seen controllers nodes pages lanes submits b (canon s) ≡ seen controllers nodes pages lanes submits b s
unfolding has_numbers is_node is_named is_submitted has_box repeats line_of page_of finish_of
canon_seen controllers nodes pages lanes submits b skipped few h named = refl
canon_seen controllers nodes pages lanes submits b unknown few h named = refl
canon_seen controllers nodes pages lanes submits b (answer r a s) few h named = refl
canon_seen controllers nodes pages lanes submits b lane few h named = refl
canon_seen controllers nodes pages lanes submits b keeper few h named = refl
canon_seen controllers nodes pages lanes submits b (submit r n) few h named =
    let e = submit_numbers nodes r n few h in
    rw (number_again r e.0, number_again n e.1) refl
canon_seen controllers nodes pages lanes submits b (finish r) few h named = elim (cases_Bool (is_word r (codes "all"))) [
  | inl e ↦ ap (λ w. seen controllers nodes pages lanes submits b (finish w)) (canon_yes (codes "all") r e)
  | inr e ↦
      let n = finish_number nodes r e h in
      let again = number_again r n in
      let other : is_word (canon_number r) (codes "all") ≡ false = other_word (canon_number r) (codes "all") (ap is_some again ∙ n.0) refl in
      rw (e, again, other) refl
]
canon_seen controllers nodes pages lanes submits b requeue few h named = refl
canon_seen controllers nodes pages lanes submits b (log c k) few h named = rw (number_again k (log_number controllers nodes pages c k h named)) refl
canon_seen controllers nodes pages lanes submits b (ctrl c s) few h named = refl
canon_seen controllers nodes pages lanes submits b (anatt c) few h named = refl
canon_seen controllers nodes pages lanes submits b (add c k) few h named = elim (cases_Bool (is_word k (codes "-"))) [
  | inl e ↦ ap (λ w. seen controllers nodes pages lanes submits b (add c w)) (canon_yes (codes "-") k e)
  | inr e ↦
      let n = add_number controllers nodes pages c k e h named in
      let again = number_again k n in
      let other : is_word (canon_number k) (codes "-") ≡ false = other_word (canon_number k) (codes "-") (ap is_some again ∙ n.0) refl in
      rw (e, again, other) refl
]
canon_seen controllers nodes pages lanes submits b (remove c) few h named = refl
canon_seen controllers nodes pages lanes submits b reap few h named = refl
canon_seen controllers nodes pages lanes submits b (policy p) few h named = refl
