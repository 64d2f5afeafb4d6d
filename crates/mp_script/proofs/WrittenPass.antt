-- The checks of a text's lines, one line after the other, and of the canonical text's.
use Rattle.std.proofs.Common.{inl, inr, ◌≡◌, ℕ, suc, ◌+◌, ◌≤◌, Bool, true, false, ◌&&◌, List, [], ◌∷◌, ◌++◌, length, take, filter, Option, None, All, refl, sym, ap, subst, ◌∙◌, append_assoc, arith}
use Rattle.std.specs.Prelude.{not, nat_le, if◌then◌else◌}
use Rattle.std.specs.List.{list_any, last_or}
use Rattle.std.proofs.lemmas.Bool.{false≢true, and_parts, cases_Bool}
use Rattle.std.proofs.lemmas.Bool.Decides.{nat_tests}
use Rattle.std.proofs.lemmas.List.{map-append, length-append, append-nil}
use Rattle.mp_checks.specs.Checks.{AllPass, each_from}
use Rattle.mp_checks.proofs.CheckLaws.{pass_split, pass_join}
use Rattle.mp_topology.specs.Controllers.{is_name}
use Rattle.mp_topology.specs.declared.topology.Topology.{Topology}
use Rattle.mp_script.specs.Shape.{Shape, skipped, unknown, answer, lane, keeper, submit, finish, requeue, log, ctrl, anatt, add, remove, reap, policy, shape_of}
use Rattle.mp_script.specs.Wording.{is_named, is_submitted}
use Rattle.mp_script.specs.Before.{Before, begins_lane, is_keeper, is_keepers_lane, each_of, submitted_of, lanes_in, before, repeats, submitted_in}
use Rattle.mp_script.specs.Lines.{stands, is_keepers, is_within, shape_checks, line_checks}
use Rattle.mp_script.specs.declared.errors.ScriptError.{ScriptError}
use Rattle.mp_script.specs.declared.errors.ScriptError.TheVariants as errors
use Rattle.mp_script.proofs.WrittenShapes.{Seen, seen, canon, canon_seen, text_of, shape_text}
use Rattle.mp_script.proofs.WrittenLine.{is_kept, kept_form, IsRight, plain_words}

-- these lines pass their checks behind those
abbrev pub PassFrom : Topology → ℕ → List ℕ → List (List ℕ) → List (List ℕ) → Type 0
PassFrom t pages submits front [] = Unit {0}
PassFrom t pages submits front (l ∷ ls) = AllPass (shape_checks t pages submits (before front) (length front + 1) (shape_of l)) × PassFrom t pages submits (front ++ l ∷ []) ls

take_front : {X : Type 0} (front rest : List X) → take (length front) (front ++ rest) ≡ front
take_front [] rest = refl
take_front (x ∷ front) rest = ap (λ xs. x ∷ xs) (take_front front rest)

pub length_more : {X : Type 0} (front : List X) (x : X) → length (front ++ x ∷ []) ≡ suc (length front)
length_more front x = omega (arith, length-append front (x ∷ []))

pub from_checks : (t : Topology) (pages : ℕ) (lines front ls : List (List ℕ)) → lines ≡ front ++ ls → AllPass (each_from (line_checks t pages lines) (length front) ls) → PassFrom t pages (submitted_in t.near.nodes lines) front ls
unfolding line_checks
from_checks t pages lines front [] e h = tt
from_checks t pages lines front (l ∷ ls) e h =
    let p = pass_split (line_checks t pages lines (length front) l) (each_from (line_checks t pages lines) (suc (length front)) ls) h in
    let same : take (length front) lines ≡ front = ap (take (length front)) e ∙ take_front front (l ∷ ls) in
    let here : AllPass (shape_checks t pages (submitted_in t.near.nodes lines) (before front) (length front + 1) (shape_of l)) = rw same at p.0 in
    let rest : AllPass (each_from (line_checks t pages lines) (length (front ++ l ∷ [])) ls) = rw length_more p.1 in
    (here, from_checks t pages lines (front ++ l ∷ []) ls (e ∙ sym (append_assoc front (l ∷ []) ls)) rest)

pub to_checks : (t : Topology) (pages : ℕ) (lines front ls : List (List ℕ)) → lines ≡ front ++ ls → PassFrom t pages (submitted_in t.near.nodes lines) front ls → AllPass (each_from (line_checks t pages lines) (length front) ls)
unfolding line_checks
to_checks t pages lines front [] e h = tt
to_checks t pages lines front (l ∷ ls) e h =
    let same : take (length front) lines ≡ front = ap (take (length front)) e ∙ take_front front (l ∷ ls) in
    let here : AllPass (line_checks t pages lines (length front) l) = rw same h.0 in
    let rest : AllPass (each_from (line_checks t pages lines) (length (front ++ l ∷ [])) ls) = to_checks t pages lines (front ++ l ∷ []) ls (e ∙ sym (append_assoc front (l ∷ []) ls)) h.1 in
    let more : AllPass (each_from (line_checks t pages lines) (suc (length front)) ls) = rw length_more at rest in
    pass_join (line_checks t pages lines (length front) l) (each_from (line_checks t pages lines) (suc (length front)) ls) here more

pub pass_both : (t : Topology) (pages : ℕ) (submits : List ℕ) (front xs ys : List (List ℕ)) → PassFrom t pages submits front xs → PassFrom t pages submits (front ++ xs) ys → PassFrom t pages submits front (xs ++ ys)
pass_both t pages submits front [] ys p q = rw append-nil at q
pass_both t pages submits front (x ∷ xs) ys p q = (p.0, pass_both t pages submits (front ++ x ∷ []) xs ys p.1 (rw append_assoc q))

-- there are no more lines than are allowed
pub few_lines : (t : Topology) (pages : ℕ) (submits : List ℕ) (front ls : List (List ℕ)) → length front ≤ 65536 → PassFrom t pages submits front ls → length front + length ls ≤ 65536
unfolding shape_checks
few_lines t pages submits front [] most h = omega (arith, most)
few_lines t pages submits front (l ∷ ls) most h =
    let p = and_parts (nat_le (length front + 1) 65536) (not (begins_lane (shape_of l) && nat_le 16 (before front).lanes)) h.0.0 in
    let one : length front + 1 ≤ 65536 = grind (arith, nat_tests) in
    let rest = few_lines t pages submits (front ++ l ∷ []) ls (omega (arith, one, length_more front l)) h.1 in
    omega (arith, rest, length_more front l)

-- ---- the lines of lanes in the canonical text

abbrev pub kept_line : Shape → List (List ℕ)
kept_line s = if is_kept s then text_of (canon s) ∷ [] else []

abbrev pub kept_lines : List (List ℕ) → List (List ℕ)
kept_lines [] = []
kept_lines (l ∷ ls) = kept_line (shape_of l) ++ kept_lines ls

-- the same lanes and the same submits stand in both
pub record IsLike (front kept : List (List ℕ)) : Type 0 where
  pub lanes : lanes_in kept ≡ lanes_in front
  pub submits : each_of submitted_of kept ≡ each_of submitted_of front

pub each_of_append : {X : Type 0} (f : Shape → Option X) (xs ys : List (List ℕ)) → each_of f (xs ++ ys) ≡ each_of f xs ++ each_of f ys
each_of_append f [] ys = refl
each_of_append f (x ∷ xs) ys = rw (each_of_append f xs ys, append_assoc) refl

filter_append : {X : Type 0} (p : X → Bool) (xs ys : List X) → filter p (xs ++ ys) ≡ filter p xs ++ filter p ys
filter_append p [] ys = refl
filter_append p (x ∷ xs) ys = elim (cases_Bool (p x)) [
  | inl e ↦ rw (e, filter_append p xs ys) refl
  | inr e ↦ rw (e, filter_append p xs ys) refl
]

pub lanes_append : (xs ys : List (List ℕ)) → lanes_in (xs ++ ys) ≡ lanes_in xs ++ lanes_in ys
lanes_append xs ys = rw (map-append, filter_append) refl

-- ---- one line

-- the checks look at what is seen alone
abbrev pub seen_checks : Seen → Before → ℕ → List (Bool × ScriptError)
seen_checks v b n =
    (nat_le n 65536 && not (v.begins && nat_le 16 b.lanes), errors.Limit n)
    ∷ (v.stands, errors.Line n)
    ∷ (not (v.keepers && not b.in_keeper), errors.NotKeeper n)
    ∷ (v.numbers, errors.Number n)
    ∷ (v.named && v.submitted, errors.Unknown n)
    ∷ (not v.repeats, errors.Repeat n)
    ∷ []

checks_seen : (t : Topology) (pages : ℕ) (submits : List ℕ) (b : Before) (n : ℕ) (s : Shape) → shape_checks t pages submits b n s ≡ seen_checks (seen t.controllers t.near.nodes pages b.lanes submits b s) b n
unfolding shape_checks
checks_seen t pages submits b n s = refl

canon_passes : (t : Topology) (pages : ℕ) (submits : List ℕ) (b : Before) (n : ℕ) (s : Shape) → IsRight t pages s → AllPass (shape_checks t pages submits b n s) → AllPass (shape_checks t pages submits b n (canon s))
canon_passes t pages submits b n s right h =
    let e = canon_seen t.controllers t.near.nodes pages b.lanes submits b s right.nodes right.numbers right.named in
    let same : shape_checks t pages submits b n (canon s) ≡ shape_checks t pages submits b n s =
    checks_seen t pages submits b n (canon s) ∙ ap (λ v. seen_checks v b n) e ∙ sym (checks_seen t pages submits b n s) in
    subst AllPass (sym same) h

-- nothing else of the lines before tells but the answers, which no line of a lane looks at
same_repeats : (b c : Before) (s : Shape) → is_kept s ≡ true → c.submitted ≡ b.submitted → c.had_keeper ≡ b.had_keeper → repeats c s ≡ repeats b s
unfolding repeats
same_repeats b c skipped h e f = absurd (false≢true h)
same_repeats b c unknown h e f = absurd (false≢true h)
same_repeats b c (answer r a s) h e f = absurd (false≢true h)
same_repeats b c lane h e f = refl
same_repeats b c keeper h e f = f
same_repeats b c (submit r n) h e f = rw e refl
same_repeats b c (finish r) h e f = refl
same_repeats b c requeue h e f = refl
same_repeats b c (log c' k) h e f = refl
same_repeats b c (ctrl c' s) h e f = refl
same_repeats b c (anatt c') h e f = refl
same_repeats b c (add c' k) h e f = refl
same_repeats b c (remove c') h e f = refl
same_repeats b c reap h e f = refl
same_repeats b c (policy p) h e f = refl

moved : (t : Topology) (pages : ℕ) (submits : List ℕ) (b c : Before) (m n : ℕ) (s : Shape) → is_kept s ≡ true → n ≤ 65536 → c.lanes ≡ b.lanes → c.in_keeper ≡ b.in_keeper → c.submitted ≡ b.submitted → c.had_keeper ≡ b.had_keeper
    → AllPass (shape_checks t pages submits b m s) → AllPass (shape_checks t pages submits c n s)
unfolding shape_checks
moved t pages submits b c m n s kept most lanes in_keeper submitted had_keeper h =
    let p = and_parts (nat_le m 65536) (not (begins_lane s && nat_le 16 b.lanes)) h.0 in
    let few : nat_le n 65536 ≡ true = grind (arith, nat_tests) in
    let limit : is_within n c.lanes s ≡ true = rw (few, lanes) p.1 in
    let line : stands c.lanes s ≡ true = rw lanes h.1.0 in
    let own : not (is_keepers s && not c.in_keeper) ≡ true = rw in_keeper h.1.1.0 in
    let again : not (repeats c s) ≡ true = rw (same_repeats b c s kept submitted had_keeper) h.1.1.1.1.1.0 in
    (limit, (line, (own, (h.1.1.1.0, (h.1.1.1.1.0, (again, tt))))))

like_before : (front kept : List (List ℕ)) → IsLike front kept
    → ((before kept).lanes ≡ (before front).lanes) × ((before kept).in_keeper ≡ (before front).in_keeper) × ((before kept).submitted ≡ (before front).submitted) × ((before kept).had_keeper ≡ (before front).had_keeper)
unfolding before
like_before front kept like = (ap length like.lanes, ap (λ ls. is_keepers_lane (last_or None ls)) like.lanes, like.submits, ap (list_any is_keeper) like.lanes)

pub right_line : (t : Topology) (pages : ℕ) (submits : List ℕ) (b : Before) (n : ℕ) (s : Shape) → t.near.nodes ≤ 8 → All (λ c. is_name c.name ≡ true) t.controllers → AllPass (shape_checks t pages submits b n s) → IsRight t pages s
unfolding shape_checks
right_line t pages submits b n s nodes names h = record {
  nodes = nodes;
  names = names;
  numbers = h.1.1.1.0;
  named = (and_parts (is_named t.controllers pages s) (is_submitted submits s) h.1.1.1.1.0).0;
}

-- the canonical line passes behind the canonical lines before it
kept_passes : (t : Topology) (pages : ℕ) (submits : List ℕ) (front kept : List (List ℕ)) (s : Shape) → is_kept s ≡ true → IsRight t pages s → length kept + 1 ≤ 65536 → IsLike front kept
    → AllPass (shape_checks t pages submits (before front) (length front + 1) s) → AllPass (shape_checks t pages submits (before kept) (length kept + 1) (shape_of (text_of (canon s))))
kept_passes t pages submits front kept s is right most like h =
    let e = like_before front kept like in
    let there = moved t pages submits (before front) (before kept) (length front + 1) (length kept + 1) s is most e.0 e.1 e.2 e.3 h in
    rw (shape_text (canon s) (kept_form s is) (plain_words t pages s right is)) (canon_passes t pages submits (before kept) (length kept + 1) s right there)

-- ---- all of them

-- what is seen of a canonical line
kept_begins : (t : Topology) (pages : ℕ) (s : Shape) → IsRight t pages s → begins_lane (canon s) ≡ begins_lane s
kept_begins t pages s right = ap (λ (v : Seen). v.begins) (canon_seen t.controllers t.near.nodes pages 0 [] (before []) s right.nodes right.numbers right.named)

pub kept_submit : (t : Topology) (pages : ℕ) (s : Shape) → IsRight t pages s → submitted_of (canon s) ≡ submitted_of s
kept_submit t pages s right = ap (λ (v : Seen). v.submit) (canon_seen t.controllers t.near.nodes pages 0 [] (before []) s right.nodes right.numbers right.named)

canon_lane : (s : Shape) → filter begins_lane (canon s ∷ []) ≡ filter begins_lane (s ∷ [])
canon_lane skipped = refl
canon_lane unknown = refl
canon_lane (answer r a s) = refl
canon_lane lane = refl
canon_lane keeper = refl
canon_lane (submit r n) = refl
canon_lane (finish r) = refl
canon_lane requeue = refl
canon_lane (log c k) = refl
canon_lane (ctrl c s) = refl
canon_lane (anatt c) = refl
canon_lane (add c k) = refl
canon_lane (remove c) = refl
canon_lane reap = refl
canon_lane (policy p) = refl

pub other_lane : (s : Shape) → is_kept s ≡ false → (filter begins_lane (s ∷ []) ≡ []) × (submitted_of s ≡ None)
other_lane skipped h = (refl, refl)
other_lane unknown h = (refl, refl)
other_lane (answer r a s) h = (refl, refl)
other_lane lane h = absurd (false≢true (sym h))
other_lane keeper h = absurd (false≢true (sym h))
other_lane (submit r n) h = absurd (false≢true (sym h))
other_lane (finish r) h = absurd (false≢true (sym h))
other_lane requeue h = absurd (false≢true (sym h))
other_lane (log c k) h = absurd (false≢true (sym h))
other_lane (ctrl c s) h = absurd (false≢true (sym h))
other_lane (anatt c) h = absurd (false≢true (sym h))
other_lane (add c k) h = absurd (false≢true (sym h))
other_lane (remove c) h = absurd (false≢true (sym h))
other_lane reap h = absurd (false≢true (sym h))
other_lane (policy p) h = absurd (false≢true (sym h))

like_more : (t : Topology) (pages : ℕ) (front kept : List (List ℕ)) (l : List ℕ) → is_kept (shape_of l) ≡ true → IsRight t pages (shape_of l) → IsLike front kept → IsLike (front ++ l ∷ []) (kept ++ text_of (canon (shape_of l)) ∷ [])
like_more t pages front kept l is right like =
    let s = shape_of l in
    let read : shape_of (text_of (canon s)) ≡ canon s = shape_text (canon s) (kept_form s is) (plain_words t pages s right is) in
    record {
      lanes = rw (lanes_append, lanes_append, like.lanes, read, canon_lane s) refl;
      submits = rw (each_of_append, each_of_append, like.submits, read, kept_submit t pages s right) refl;
    }

like_past : (front kept : List (List ℕ)) (l : List ℕ) → is_kept (shape_of l) ≡ false → IsLike front kept → IsLike (front ++ l ∷ []) kept
like_past front kept l other like =
    let e = other_lane (shape_of l) other in
    record {
      lanes = rw (lanes_append, like.lanes, e.0, append-nil) refl;
      submits = rw (each_of_append, like.submits, e.1, append-nil) refl;
    }

pub kept_yes : (l : List ℕ) (ls : List (List ℕ)) → is_kept (shape_of l) ≡ true → kept_lines (l ∷ ls) ≡ text_of (canon (shape_of l)) ∷ kept_lines ls
kept_yes l ls h = rw h refl

pub kept_no : (l : List ℕ) (ls : List (List ℕ)) → is_kept (shape_of l) ≡ false → kept_lines (l ∷ ls) ≡ kept_lines ls
kept_no l ls h = rw h refl

pub kept_pass : (t : Topology) (pages : ℕ) (submits : List ℕ) (front kept ls : List (List ℕ)) → t.near.nodes ≤ 8 → All (λ c. is_name c.name ≡ true) t.controllers → IsLike front kept → length kept + length (kept_lines ls) ≤ 65536
    → PassFrom t pages submits front ls → PassFrom t pages submits kept (kept_lines ls)
kept_pass t pages submits front kept [] nodes names like most h = tt
kept_pass t pages submits front kept (l ∷ ls) nodes names like most h =
    let right = right_line t pages submits (before front) (length front + 1) (shape_of l) nodes names h.0 in
    elim (cases_Bool (is_kept (shape_of l))) [
      | inl e ↦
          let text = text_of (canon (shape_of l)) in
          let many : length kept + suc (length (kept_lines ls)) ≤ 65536 = omega (arith, most, ap length (kept_yes l ls e)) in
          let here = kept_passes t pages submits front kept (shape_of l) e right (omega (arith, many)) like h.0 in
          let rest = kept_pass t pages submits (front ++ l ∷ []) (kept ++ text ∷ []) ls nodes names (like_more t pages front kept l e right like) (omega (arith, many, length_more kept text)) h.1 in
          rw (kept_yes l ls e) (here, rest)
      | inr e ↦ rw (kept_no l ls e) (kept_pass t pages submits (front ++ l ∷ []) kept ls nodes names (like_past front kept l e like) (omega (arith, most, ap length (kept_no l ls e))) h.1)
    ]
