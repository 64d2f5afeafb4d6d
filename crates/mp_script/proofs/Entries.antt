-- Answers by request and attempt.
use Rattle.std.proofs.Common.{◌⊎◌, inl, inr, ◌≡◌, ◌==◌, ◌||◌, ℕ, Bool, true, false, List, [], ◌∷◌, nat_lt, refl, ap, ◌∙◌, arith}
use Rattle.std.specs.Prelude.{is_some}
use Rattle.std.specs.List.{AllByRecursion, list_any}
use Rattle.std.specs.Map.{lookup}
use Rattle.std.specs.BTreeMap.{is_at, insert_entry}
use Rattle.std.specs.Ordering.{nat_cmp, ordering_then}
use Rattle.std.specs.declared.cmp.Ordering.{Ordering}
use Rattle.std.specs.declared.cmp.Ordering.TheVariants.{Less, Equal, Greater}
use Rattle.std.proofs.lemmas.Bool.{cases_Bool}
use Rattle.std.proofs.lemmas.Bool.Decides.{nat_tests}
use Rattle.mp_words.specs.declared.answers.Answer.{Answer}
use Rattle.mp_words.specs.Answers.{is_of, is_earlier, put_answer, IsAnswer}
use Rattle.mp_words.proofs.Rising.{put_answers}
use Rattle.mp_script.specs.Answered.{Entry, answers_in, IsKeyed, AreEntries}

-- how two numbers compare
record IsLess (x y : ℕ) : Type 0 where
  less : nat_lt x y ≡ true
  other : (y == x) ≡ false
  back : nat_lt y x ≡ false
  cmp : nat_cmp x y ≡ Less

record IsGreater (x y : ℕ) : Type 0 where
  less : nat_lt y x ≡ true
  other : (y == x) ≡ false
  cmp : nat_cmp x y ≡ Greater

record IsSame (x y : ℕ) : Type 0 where
  less : nat_lt y x ≡ false
  same : (y == x) ≡ true
  cmp : nat_cmp x y ≡ Equal

cases_cmp : (x y : ℕ) → IsLess x y ⊎ (IsSame x y ⊎ IsGreater x y)
cases_cmp x y = elim (cases_Bool (nat_lt x y)) [
  | inl e ↦ inl (record { less = e; other = grind (arith, nat_tests); back = grind (arith, nat_tests); cmp = rw e refl })
  | inr e ↦ elim (cases_Bool (x == y)) [
    | inl f ↦ inr (inl (record { less = grind (arith, nat_tests); same = grind (arith, nat_tests); cmp = rw (e, f) refl }))
    | inr f ↦ inr (inr (record { less = grind (arith, nat_tests); other = grind (arith, nat_tests); cmp = rw (e, f) refl }))
  ]
]

abbrev pub pair_cmp : ℕ × ℕ → ℕ × ℕ → Ordering
pair_cmp x y = ordering_then (nat_cmp x.0 y.0) (nat_cmp x.1 y.1)

abbrev IsBehind : ℕ → ℕ → Answer → Type 0
IsBehind r a y = (pair_cmp (r, a) (y.req, y.attempt) ≡ Greater) × (is_earlier r a y ≡ true) × (is_of r a y ≡ false)

abbrev IsAhead : ℕ → ℕ → Answer → Type 0
IsAhead r a y = (pair_cmp (r, a) (y.req, y.attempt) ≡ Less) × (is_earlier r a y ≡ false) × (is_of r a y ≡ false)

abbrev IsThere : ℕ → ℕ → Answer → Type 0
IsThere r a y = (pair_cmp (r, a) (y.req, y.attempt) ≡ Equal) × (is_of r a y ≡ true)

cases_pair : (r a : ℕ) (y : Answer) → IsAhead r a y ⊎ (IsThere r a y ⊎ IsBehind r a y)
cases_pair r a y = elim (cases_cmp r y.req) [
  | inl p ↦ inl (rw p.cmp refl, rw (p.back, p.other) refl, rw p.other refl)
  | inr more ↦ elim more [
    | inl p ↦ elim (cases_cmp a y.attempt) [
      | inl q ↦ inl (rw (p.cmp, q.cmp) refl, rw (p.less, p.same, q.back) refl, rw (p.same, q.other) refl)
      | inr rest ↦ elim rest [
        | inl q ↦ inr (inl (rw (p.cmp, q.cmp) refl, rw (p.same, q.same) refl))
        | inr q ↦ inr (inr (rw (p.cmp, q.cmp) refl, rw (p.less, p.same, q.less) refl, rw (p.same, q.other) refl))
      ]
    ]
    | inr p ↦ inr (inr (rw p.cmp refl, rw p.less refl, rw p.other refl))
  ]
]

pub lookup_is : (r a : ℕ) (entries : List Entry) → AllByRecursion IsKeyed entries → is_some (lookup (is_at (pair_cmp (r, a))) entries) ≡ list_any (is_of r a) (answers_in entries)
lookup_is r a [] keyed = refl
lookup_is r a (e ∷ entries) keyed = elim (cases_pair r a e.1) [
  | inl p ↦ rw (keyed.0.0, keyed.0.1, p.0, p.2) (lookup_is r a entries keyed.1)
  | inr more ↦ elim more [
    | inl p ↦ rw (keyed.0.0, keyed.0.1, p.0, p.1) refl
    | inr p ↦ rw (keyed.0.0, keyed.0.1, p.0, p.2) (lookup_is r a entries keyed.1)
  ]
]

or_parts : (a b : Bool) → (a || b) ≡ false → (a ≡ false) × (b ≡ false)
or_parts true b e = absurd cc
or_parts false b e = (refl, e)

abbrev with_entry : Answer → List Entry → List Entry
with_entry x entries = insert_entry pair_cmp entries (x.req, x.attempt) x

insert_is : (x : Answer) (entries : List Entry) → AllByRecursion IsKeyed entries → list_any (is_of x.req x.attempt) (answers_in entries) ≡ false
    → (answers_in (with_entry x entries) ≡ put_answer x (answers_in entries)) × AllByRecursion IsKeyed (with_entry x entries)
insert_is x [] keyed apart = (refl, ((refl, refl), tt))
insert_is x (e ∷ entries) keyed apart =
    let parts = or_parts (is_of x.req x.attempt e.1) (list_any (is_of x.req x.attempt) (answers_in entries)) apart in
    let rest = insert_is x entries keyed.1 parts.1 in
    elim (cases_pair x.req x.attempt e.1) [
      | inl p ↦ let c : pair_cmp (x.req, x.attempt) e.0 ≡ Less = rw (keyed.0.0, keyed.0.1) p.0 in
          rw (c, p.1) (refl, ((refl, refl), keyed))
      | inr more ↦ elim more [
        | inl p ↦ absurd cc
        | inr p ↦ let c : pair_cmp (x.req, x.attempt) e.0 ≡ Greater = rw (keyed.0.0, keyed.0.1) p.0 in
            rw (c, p.1) (ap (λ (xs : List Answer). e.1 ∷ xs) rest.0, (keyed.0, rest.1))
      ]
    ]

pub inserted : (x : Answer) (xs : List Answer) (entries new : List Entry) (r : ℕ) → AreEntries entries → IsAnswer x → answers_in entries ≡ xs → list_any (is_of x.req x.attempt) xs ≡ false → r ≡ x.req
    → new ≡ insert_entry pair_cmp entries (r, x.attempt) x → (answers_in new ≡ put_answer x xs) × AreEntries new
inserted x xs entries new r are one view apart number is =
    let here : list_any (is_of x.req x.attempt) (answers_in entries) ≡ false = rw view apart in
    let p = insert_is x entries are.keyed here in
    let e : new ≡ with_entry x entries = is ∙ rw number refl in
    (rw (e, ← view) p.0, record { answers = rw (e, p.0) (put_answers x (answers_in entries) are.answers one here); keyed = rw e p.1 })
