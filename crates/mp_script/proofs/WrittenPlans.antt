-- The lanes of the canonical text.
use Rattle.std.proofs.Common.{inl, inr, ◌≡◌, ℕ, ◌+◌, ◌≤◌, true, false, List, [], ◌∷◌, ◌++◌, length, map, filter, Option, Some, None, All, refl, sym, ap, ◌∙◌, arith}
use Rattle.std.specs.Prelude.{is_some, option_map, option_and_then, if◌then◌else◌}
use Rattle.std.specs.Option.{option_to_list}
use Rattle.std.specs.List.{AllByRecursion, flat_map, join_with_byte}
use Rattle.std.proofs.lemmas.Bool.{false≢true, and_parts, cases_Bool}
use Rattle.std.proofs.lemmas.List.{length-map}
use Rattle.mp_checks.specs.Checks.{AllPass}
use Rattle.mp_words.specs.Names.{policy_named, cstate_named}
use Rattle.mp_topology.specs.Controllers.{is_name}
use Rattle.mp_topology.specs.declared.topology.Controller.{Controller}
use Rattle.mp_topology.specs.declared.topology.Topology.{Topology}
use Rattle.mp_script.specs.Shape.{Shape, skipped, unknown, answer, lane, keeper, submit, finish, requeue, log, ctrl, anatt, add, remove, reap, policy, shape_of}
use Rattle.mp_script.specs.Splitting.{value_of}
use Rattle.mp_script.specs.Wording.{place_in, is_there, is_named, has_numbers}
use Rattle.mp_script.specs.Before.{begins_lane, is_keeper, each_of, submitted_of, lanes_in, before, in_lanes, right_submit, submitted_in}
use Rattle.mp_script.specs.Lines.{stands, shape_checks}
use Rattle.mp_script.specs.Plans.{page_of, line_of, body, plans}
use Rattle.mp_script.specs.Written.{line_words, lane_words, plan_lines, numbered_from, plans_from}
use Rattle.mp_script.specs.declared.script.Line.{Line}
use Rattle.mp_script.specs.declared.script.Line.TheVariants as line
use Rattle.mp_script.specs.declared.script.Numbered1.{Numbered1}
use Rattle.mp_script.proofs.WrittenWords.{are_plain, are_short}
use Rattle.mp_script.proofs.WrittenShapes.{Seen, seen, canon, canon_seen, words_of_shape, few_words, text_of, shape_text}
use Rattle.mp_script.proofs.Holding.{some_is}
use Rattle.mp_script.proofs.WrittenLine.{is_kept, kept_form, IsRight, plain_words, written_words}
use Rattle.mp_script.proofs.WrittenPass.{PassFrom, right_line, kept_lines, kept_yes, kept_no, kept_submit, lanes_append, other_lane}

-- ---- what passing tells of the lines

abbrev pub AllRight : Topology → ℕ → List (List ℕ) → Type 0
AllRight t pages ls = AllByRecursion (λ l. IsRight t pages (shape_of l)) ls

pub all_right : (t : Topology) (pages : ℕ) (submits : List ℕ) (front ls : List (List ℕ)) → t.near.nodes ≤ 8 → All (λ c. is_name c.name ≡ true) t.controllers → PassFrom t pages submits front ls → AllRight t pages ls
all_right t pages submits front [] nodes names h = tt
all_right t pages submits front (l ∷ ls) nodes names h =
    (right_line t pages submits (before front) (length front + 1) (shape_of l) nodes names h.0, all_right t pages submits (front ++ l ∷ []) ls nodes names h.1)

-- lines before the first lane
abbrev pub AreFirst : List (List ℕ) → Type 0
AreFirst [] = Unit {0}
AreFirst (l ∷ ls) = (begins_lane (shape_of l) ≡ false → (is_kept (shape_of l) ≡ false) × AreFirst ls)

stands_first : (s : Shape) → stands 0 s ≡ true → begins_lane s ≡ false → is_kept s ≡ false
stands_first skipped h e = refl
stands_first unknown h e = refl
stands_first (answer r a s) h e = refl
stands_first lane h e = absurd (false≢true (sym e))
stands_first keeper h e = absurd (false≢true (sym e))
stands_first (submit r n) h e = absurd (false≢true h)
stands_first (finish r) h e = absurd (false≢true h)
stands_first requeue h e = absurd (false≢true h)
stands_first (log c k) h e = absurd (false≢true h)
stands_first (ctrl c s) h e = absurd (false≢true h)
stands_first (anatt c) h e = absurd (false≢true h)
stands_first (add c k) h e = absurd (false≢true h)
stands_first (remove c) h e = absurd (false≢true h)
stands_first reap h e = absurd (false≢true h)
stands_first (policy p) h e = absurd (false≢true h)

stands_at : (t : Topology) (pages : ℕ) (submits : List ℕ) (front : List (List ℕ)) (n : ℕ) (s : Shape) → lanes_in front ≡ [] → AllPass (shape_checks t pages submits (before front) n s) → stands 0 s ≡ true
unfolding shape_checks before
stands_at t pages submits front n s none h = rw (ap length none) at h.1.0

pub are_first : (t : Topology) (pages : ℕ) (submits : List ℕ) (front ls : List (List ℕ)) → lanes_in front ≡ [] → PassFrom t pages submits front ls → AreFirst ls
are_first t pages submits front [] none h = tt
are_first t pages submits front (l ∷ ls) none h = λ e.
    let other = stands_first (shape_of l) (stands_at t pages submits front (length front + 1) (shape_of l) none h.0) e in
    let still : lanes_in (front ++ l ∷ []) ≡ [] = lanes_append front (l ∷ []) ∙ ap (λ ls. ls ++ filter begins_lane (shape_of l ∷ [])) none ∙ (other_lane (shape_of l) other).0 in
    (other, are_first t pages submits (front ++ l ∷ []) ls still h.1)

-- ---- what is submitted

right_same : (nodes : ℕ) (s : Shape) → has_numbers nodes s ≡ true → right_submit nodes s ≡ submitted_of s
right_same nodes s h = rw h refl

rights : (t : Topology) (pages : ℕ) (ls : List (List ℕ)) → AllRight t pages ls → each_of (right_submit t.near.nodes) ls ≡ each_of submitted_of ls
rights t pages [] h = refl
rights t pages (l ∷ ls) h = rw (right_same t.near.nodes (shape_of l) h.0.numbers, rights t pages ls h.1) refl

begins_none : (s : Shape) → begins_lane s ≡ true → submitted_of s ≡ None
begins_none lane h = refl
begins_none keeper h = refl
begins_none skipped h = refl
begins_none unknown h = refl
begins_none (answer r a s) h = refl
begins_none (submit r n) h = absurd (false≢true h)
begins_none (finish r) h = refl
begins_none requeue h = refl
begins_none (log c k) h = refl
begins_none (ctrl c s) h = refl
begins_none (anatt c) h = refl
begins_none (add c k) h = refl
begins_none (remove c) h = refl
begins_none reap h = refl
begins_none (policy p) h = refl

in_lanes_submits : (t : Topology) (pages : ℕ) (ls : List (List ℕ)) → AllRight t pages ls → AreFirst ls → each_of (right_submit t.near.nodes) (in_lanes ls) ≡ each_of submitted_of ls
in_lanes_submits t pages [] h first = refl
in_lanes_submits t pages (l ∷ ls) h first = elim (cases_Bool (begins_lane (shape_of l))) [
  | inl e ↦ rw (e, begins_none (shape_of l) e) (rights t pages ls h.1)
  | inr e ↦ rw (e, (other_lane (shape_of l) (first e).0).1) (in_lanes_submits t pages ls h.1 (first e).1)
]

pub submitted_same : (t : Topology) (pages : ℕ) (ls : List (List ℕ)) → AllRight t pages ls → AreFirst ls → submitted_in t.near.nodes ls ≡ each_of submitted_of ls
unfolding submitted_in
submitted_same t pages ls h first = in_lanes_submits t pages ls h first

pub kept_submits : (t : Topology) (pages : ℕ) (ls : List (List ℕ)) → AllRight t pages ls → each_of submitted_of (kept_lines ls) ≡ each_of submitted_of ls
kept_submits t pages [] h = refl
kept_submits t pages (l ∷ ls) h =
    let s = shape_of l in
    elim (cases_Bool (is_kept s)) [
      | inl e ↦
          let read : shape_of (text_of (canon s)) ≡ canon s = shape_text (canon s) (kept_form s e) (plain_words t pages s h.0 e) in
          let one : submitted_of (shape_of (text_of (canon s))) ≡ submitted_of s = ap submitted_of read ∙ kept_submit t pages s h.0 in
          rw (kept_yes l ls e, one, kept_submits t pages ls h.1) refl
      | inr e ↦ rw (kept_no l ls e, (other_lane s e).1) (kept_submits t pages ls h.1)
    ]

-- ---- the lanes

map_some : {X Y : Type 0} (f : X → Y) (o : Option X) → is_some o ≡ true → is_some (option_map f o) ≡ true
map_some f None h = absurd (false≢true h)
map_some f (Some x) h = refl

then_some : {X Y Z : Type 0} (f : X → Y → Z) (o : Option X) (q : Option Y) → is_some o ≡ true → is_some q ≡ true → is_some (option_and_then (λ x. option_map (f x) q) o) ≡ true
then_some f None q h k = absurd (false≢true h)
then_some f (Some x) q h k = map_some (f x) q k

asks : (controllers : List Controller) (pages : ℕ) (s : Shape) → is_named controllers pages s ≡ true → is_kept s ≡ true → begins_lane s ≡ false → is_some (line_of controllers s) ≡ true
unfolding line_of is_named is_there
asks controllers pages skipped named h e = absurd (false≢true h)
asks controllers pages unknown named h e = absurd (false≢true h)
asks controllers pages (answer r a s) named h e = absurd (false≢true h)
asks controllers pages lane named h e = absurd (false≢true (sym e))
asks controllers pages keeper named h e = absurd (false≢true (sym e))
asks controllers pages (submit r n) named h e = refl
asks controllers pages (finish r) named h e = refl
asks controllers pages requeue named h e = refl
asks controllers pages (log c k) named h e = map_some (λ p. line.Log p (value_of k)) (place_in controllers c) (and_parts (is_some (place_in controllers c)) _ named).0
asks controllers pages (ctrl c s) named h e =
    let p = and_parts (is_some (place_in controllers c)) (is_some (cstate_named s)) named in
    then_some line.Ctrl (place_in controllers c) (cstate_named s) p.0 p.1
asks controllers pages (anatt c) named h e = map_some line.Anatt (place_in controllers c) named
asks controllers pages (add c k) named h e = map_some (λ p. line.Add p (page_of k)) (place_in controllers c) (and_parts (is_some (place_in controllers c)) _ named).0
asks controllers pages (remove c) named h e = map_some line.Remove (place_in controllers c) named
asks controllers pages reap named h e = refl
asks controllers pages (policy p) named h e = map_some line.Policy (policy_named p) named

asks_none : (controllers : List Controller) (s : Shape) → is_kept s ≡ false → (begins_lane s ≡ false) × (line_of controllers s ≡ None)
unfolding line_of
asks_none controllers skipped h = (refl, refl)
asks_none controllers unknown h = (refl, refl)
asks_none controllers (answer r a s) h = (refl, refl)
asks_none controllers lane h = absurd (false≢true (sym h))
asks_none controllers keeper h = absurd (false≢true (sym h))
asks_none controllers (submit r n) h = absurd (false≢true (sym h))
asks_none controllers (finish r) h = absurd (false≢true (sym h))
asks_none controllers requeue h = absurd (false≢true (sym h))
asks_none controllers (log c k) h = absurd (false≢true (sym h))
asks_none controllers (ctrl c s) h = absurd (false≢true (sym h))
asks_none controllers (anatt c) h = absurd (false≢true (sym h))
asks_none controllers (add c k) h = absurd (false≢true (sym h))
asks_none controllers (remove c) h = absurd (false≢true (sym h))
asks_none controllers reap h = absurd (false≢true (sym h))
asks_none controllers (policy p) h = absurd (false≢true (sym h))

-- the canonical line, as it is read
pub kept_read : (t : Topology) (pages : ℕ) (s : Shape) → IsRight t pages s → is_kept s ≡ true → shape_of (text_of (canon s)) ≡ canon s
kept_read t pages s right e = shape_text (canon s) (kept_form s e) (plain_words t pages s right e)

abbrev pub seen_of : Topology → ℕ → Shape → Seen
seen_of t pages s = seen t.controllers t.near.nodes pages 0 [] (before []) s

pub kept_seen : (t : Topology) (pages : ℕ) (s : Shape) → IsRight t pages s → is_kept s ≡ true → seen_of t pages (shape_of (text_of (canon s))) ≡ seen_of t pages s
kept_seen t pages s right e = ap (seen_of t pages) (kept_read t pages s right e) ∙ canon_seen t.controllers t.near.nodes pages 0 [] (before []) s right.nodes right.numbers right.named

-- the lines of a lane
body_begins : (controllers : List Controller) (n : ℕ) (l : List ℕ) (ls : List (List ℕ)) → begins_lane (shape_of l) ≡ true → body controllers n (l ∷ ls) ≡ []
body_begins controllers n l ls e = rw e refl

abbrev pub at_line : ℕ → Line → Numbered1
at_line n x = record { number = n; line = x }

body_asks : (controllers : List Controller) (n : ℕ) (l : List ℕ) (ls : List (List ℕ)) (x : Line) → begins_lane (shape_of l) ≡ false → line_of controllers (shape_of l) ≡ Some x → body controllers n (l ∷ ls) ≡ at_line n x ∷ body controllers (n + 1) ls
body_asks controllers n l ls x e f = rw (e, f) refl

body_none : (controllers : List Controller) (n : ℕ) (l : List ℕ) (ls : List (List ℕ)) → begins_lane (shape_of l) ≡ false → line_of controllers (shape_of l) ≡ None → body controllers n (l ∷ ls) ≡ body controllers (n + 1) ls
body_none controllers n l ls e f = rw (e, f) refl

plans_begins : (controllers : List Controller) (n : ℕ) (l : List ℕ) (ls : List (List ℕ)) → begins_lane (shape_of l) ≡ true
    → plans controllers n (l ∷ ls) ≡ record { keeper = is_keeper (shape_of l); lines = body controllers (n + 1) ls } ∷ plans controllers (n + 1) ls
plans_begins controllers n l ls e = rw e refl

pub plans_past : (controllers : List Controller) (n : ℕ) (l : List ℕ) (ls : List (List ℕ)) → begins_lane (shape_of l) ≡ false → plans controllers n (l ∷ ls) ≡ plans controllers (n + 1) ls
plans_past controllers n l ls e = rw e refl

-- of a line: it begins a lane, or asks for something, or neither
data Kind (controllers : List Controller) (s : Shape) : Type 0 where
  begins : is_kept s ≡ true → begins_lane s ≡ true → Kind controllers s
  asking : (x : Line) → is_kept s ≡ true → begins_lane s ≡ false → line_of controllers s ≡ Some x → Kind controllers s
  other : is_kept s ≡ false → begins_lane s ≡ false → line_of controllers s ≡ None → Kind controllers s

kind_of : (t : Topology) (pages : ℕ) (s : Shape) → IsRight t pages s → Kind t.controllers s
kind_of t pages s right = elim (cases_Bool (is_kept s)) [
  | inl e ↦ elim (cases_Bool (begins_lane s)) [
    | inl f ↦ begins e f
    | inr f ↦ let found = some_is (line_of t.controllers s) (asks t.controllers pages s right.named e f) in asking found.0 e f found.1
  ]
  | inr e ↦ let p = asks_none t.controllers s e in other e p.0 p.1
]

pub kept_body : (t : Topology) (pages : ℕ) (ls : List (List ℕ)) (m n : ℕ) → AllRight t pages ls → body t.controllers m (kept_lines ls) ≡ numbered_from m (body t.controllers n ls)
kept_body t pages [] m n h = refl
kept_body t pages (l ∷ ls) m n h = elim (kind_of t pages (shape_of l) h.0) [
  | begins e f ↦
      let same = kept_seen t pages (shape_of l) h.0 e in
      let g : begins_lane (shape_of (text_of (canon (shape_of l)))) ≡ true = ap (λ (v : Seen). v.begins) same ∙ f in
      rw (kept_yes l ls e, body_begins t.controllers m (text_of (canon (shape_of l))) (kept_lines ls) g, body_begins t.controllers n l ls f) refl
  | asking x e f a ↦
      let same = kept_seen t pages (shape_of l) h.0 e in
      let g : begins_lane (shape_of (text_of (canon (shape_of l)))) ≡ false = ap (λ (v : Seen). v.begins) same ∙ f in
      let b : line_of t.controllers (shape_of (text_of (canon (shape_of l)))) ≡ Some x = ap (λ (v : Seen). v.line) same ∙ a in
      rw (kept_yes l ls e, body_asks t.controllers m (text_of (canon (shape_of l))) (kept_lines ls) x g b, body_asks t.controllers n l ls x f a)
      (ap (λ ys. at_line m x ∷ ys) (kept_body t pages ls (m + 1) (n + 1) h.1))
  | other e f a ↦ rw (kept_no l ls e, body_none t.controllers n l ls f a) (kept_body t pages ls m (n + 1) h.1)
]

pub kept_plans : (t : Topology) (pages : ℕ) (ls : List (List ℕ)) (m n : ℕ) → AllRight t pages ls → plans t.controllers m (kept_lines ls) ≡ plans_from (m + length (body t.controllers n ls)) (plans t.controllers n ls)
kept_plans t pages [] m n h = refl
kept_plans t pages (l ∷ ls) m n h = elim (kind_of t pages (shape_of l) h.0) [
  | begins e f ↦
      let same = kept_seen t pages (shape_of l) h.0 e in
      let text = text_of (canon (shape_of l)) in
      let g : begins_lane (shape_of text) ≡ true = ap (λ (v : Seen). v.begins) same ∙ f in
      let k : is_keeper (shape_of text) ≡ is_keeper (shape_of l) = ap (λ (v : Seen). v.keeper) same in
      let none : m + length (body t.controllers n (l ∷ ls)) ≡ m = omega (arith, ap length (body_begins t.controllers n l ls f)) in
      rw (none, kept_yes l ls e, plans_begins t.controllers m text (kept_lines ls) g, plans_begins t.controllers n l ls f, k, kept_body t pages ls (m + 1) (n + 1) h.1, kept_plans t pages ls (m + 1) (n + 1) h.1) refl
  | asking x e f a ↦
      let same = kept_seen t pages (shape_of l) h.0 e in
      let text = text_of (canon (shape_of l)) in
      let g : begins_lane (shape_of text) ≡ false = ap (λ (v : Seen). v.begins) same ∙ f in
      let more : m + length (body t.controllers n (l ∷ ls)) ≡ m + 1 + length (body t.controllers (n + 1) ls) = omega (arith, ap length (body_asks t.controllers n l ls x f a)) in
      rw (more, kept_yes l ls e, plans_past t.controllers m text (kept_lines ls) g, plans_past t.controllers n l ls f) (kept_plans t pages ls (m + 1) (n + 1) h.1)
  | other e f a ↦
      rw (kept_no l ls e, body_none t.controllers n l ls f a, plans_past t.controllers n l ls f) (kept_plans t pages ls m (n + 1) h.1)
]

-- no line stands before the first lane
pub first_body : (controllers : List Controller) (n : ℕ) (ls : List (List ℕ)) → AreFirst ls → body controllers n ls ≡ []
first_body controllers n [] first = refl
first_body controllers n (l ∷ ls) first = elim (cases_Bool (begins_lane (shape_of l))) [
  | inl e ↦ body_begins controllers n l ls e
  | inr e ↦
      let p = asks_none controllers (shape_of l) (first e).0 in
      body_none controllers n l ls p.0 p.1 ∙ first_body controllers (n + 1) ls (first e).1
]

-- ---- the words that are written

abbrev pub kept_words : List (List ℕ) → List (List (List ℕ))
kept_words [] = []
kept_words (l ∷ ls) = (if is_kept (shape_of l) then words_of_shape (canon (shape_of l)) ∷ [] else []) ++ kept_words ls

words_yes : (l : List ℕ) (ls : List (List ℕ)) → is_kept (shape_of l) ≡ true → kept_words (l ∷ ls) ≡ words_of_shape (canon (shape_of l)) ∷ kept_words ls
words_yes l ls h = rw h refl

words_no : (l : List ℕ) (ls : List (List ℕ)) → is_kept (shape_of l) ≡ false → kept_words (l ∷ ls) ≡ kept_words ls
words_no l ls h = rw h refl

pub joined_words : (ls : List (List ℕ)) → map (join_with_byte 32) (kept_words ls) ≡ kept_lines ls
joined_words [] = refl
joined_words (l ∷ ls) = elim (cases_Bool (is_kept (shape_of l))) [
  | inl e ↦ rw (words_yes l ls e, kept_yes l ls e, joined_words ls) refl
  | inr e ↦ rw (words_no l ls e, kept_no l ls e) (joined_words ls)
]

pub plain_kept : (t : Topology) (pages : ℕ) (ls : List (List ℕ)) → AllRight t pages ls → are_plain (kept_words ls) ≡ true
plain_kept t pages [] h = refl
plain_kept t pages (l ∷ ls) h = elim (cases_Bool (is_kept (shape_of l))) [
  | inl e ↦ rw (words_yes l ls e, plain_words t pages (shape_of l) h.0 e, plain_kept t pages ls h.1) refl
  | inr e ↦ rw (words_no l ls e) (plain_kept t pages ls h.1)
]

pub short_kept : (ls : List (List ℕ)) → are_short (kept_words ls) ≡ true
short_kept [] = refl
short_kept (l ∷ ls) = elim (cases_Bool (is_kept (shape_of l))) [
  | inl e ↦ rw (words_yes l ls e, few_words (canon (shape_of l)), short_kept ls) refl
  | inr e ↦ rw (words_no l ls e) (short_kept ls)
]

pub length_kept : (ls : List (List ℕ)) → length (kept_words ls) ≡ length (kept_lines ls)
length_kept ls = sym (length-map (kept_words ls) (join_with_byte 32)) ∙ ap length (joined_words ls)

lane_begins : (s : Shape) → is_kept s ≡ true → begins_lane s ≡ true → words_of_shape (canon s) ≡ lane_words (is_keeper s)
lane_begins lane h e = refl
lane_begins keeper h e = refl
lane_begins skipped h e = absurd (false≢true h)
lane_begins unknown h e = absurd (false≢true h)
lane_begins (answer r a s) h e = absurd (false≢true h)
lane_begins (submit r n) h e = absurd (false≢true e)
lane_begins (finish r) h e = absurd (false≢true e)
lane_begins requeue h e = absurd (false≢true e)
lane_begins (log c k) h e = absurd (false≢true e)
lane_begins (ctrl c s) h e = absurd (false≢true e)
lane_begins (anatt c) h e = absurd (false≢true e)
lane_begins (add c k) h e = absurd (false≢true e)
lane_begins (remove c) h e = absurd (false≢true e)
lane_begins reap h e = absurd (false≢true e)
lane_begins (policy p) h e = absurd (false≢true e)

asked_words : (t : Topology) (pages : ℕ) (s : Shape) (x : Line) → IsRight t pages s → is_kept s ≡ true → begins_lane s ≡ false → line_of t.controllers s ≡ Some x → line_words t x ∷ [] ≡ words_of_shape (canon s) ∷ []
asked_words t pages s x right e f a = ap (λ o. map (line_words t) (option_to_list o)) (sym a) ∙ written_words t pages s right e f

pub lane_written : (t : Topology) (pages : ℕ) (ls : List (List ℕ)) (n : ℕ) → AllRight t pages ls
    → map (λ l. line_words t l.line) (body t.controllers n ls) ++ flat_map (plan_lines t) (plans t.controllers n ls) ≡ kept_words ls
lane_written t pages [] n h = refl
lane_written t pages (l ∷ ls) n h = elim (kind_of t pages (shape_of l) h.0) [
  | begins e f ↦
      rw (body_begins t.controllers n l ls f, plans_begins t.controllers n l ls f, words_yes l ls e, lane_begins (shape_of l) e f)
      (ap (λ ws. lane_words (is_keeper (shape_of l)) ∷ ws) (lane_written t pages ls (n + 1) h.1))
  | asking x e f a ↦
      rw (body_asks t.controllers n l ls x f a, plans_past t.controllers n l ls f, words_yes l ls e)
      (ap (λ ws. ws ++ (map (λ l. line_words t l.line) (body t.controllers (n + 1) ls) ++ flat_map (plan_lines t) (plans t.controllers (n + 1) ls))) (asked_words t pages (shape_of l) x h.0 e f a)
      ∙ ap (λ ws. words_of_shape (canon (shape_of l)) ∷ ws) (lane_written t pages ls (n + 1) h.1))
  | other e f a ↦
      rw (body_none t.controllers n l ls f a, plans_past t.controllers n l ls f, words_no l ls e) (lane_written t pages ls (n + 1) h.1)
]
