-- A walk finds the first of one kind and the last of another.
use Rattle.std.proofs.Common.{◌≡◌, ◌∙◌, ◌<◌, ◌≤◌, inl, inr, ◌==◌, ℕ, Bool, true, false, cond, List, [], ◌∷◌, length, get_or, fold, find, filter, Option, Some, None, refl, sym, ap, arith}
use Rattle.std.specs.List.{last_or, position_or_len}
use Rattle.std.specs.Option.{option_or}
use Rattle.std.proofs.lemmas.List.Folds.{find_at}
use Rattle.std.proofs.lemmas.List.Sums.{passes_at_first}
use Rattle.std.proofs.lemmas.Option.{slice_get_read, slice_get_cases}
use Rattle.std.specs.Prelude.{slice_get}
use Rattle.std.proofs.lemmas.Bool.Decides.{nat_tests}
use Rattle.mp_words.specs.declared.path.Path.{Path}
use Rattle.mp_policy.specs.declared.walk.Walked.{Walked}
use Rattle.mp_words.specs.PathTable.{is_in, has_slot}
use Rattle.mp_policy.specs.Walks.{walk_step}

or_none : (a : Option Path) → option_or a None ≡ a
or_none None = refl
or_none (Some p) = refl

first_part : (b : Bool) (a : Option Path) (x : Path) (rest : Option Path) → option_or (option_or a (cond b (Some x) None)) rest ≡ option_or a (cond b (Some x) rest)
first_part true None x rest = refl
first_part true (Some p) x rest = refl
first_part false None x rest = refl
first_part false (Some p) x rest = refl

last_part : (b : Bool) (x : Path) (a : Option Path) (xs : List Path) → last_or (option_or (cond b (Some x) None) a) xs ≡ last_or a (cond b (x ∷ xs) xs)
last_part true x a xs = refl
last_part false x a xs = refl

filter_part : (test : Path → Bool) (x : Path) (xs : List Path) → filter test (x ∷ xs) ≡ cond (test x) (x ∷ filter test xs) (filter test xs)
filter_part test x xs = refl

pub walked : (walk : List Path) (w : Walked) → fold walk_step w walk ≡ record { first = option_or w.first (find (is_in 1) walk); last = last_or w.last (filter (is_in 2) walk) }
walked [] w = λ i. record { first = sym (or_none w.first) i; last = w.last }
walked (x ∷ xs) w =
    walked xs (walk_step w x) ∙ (λ i. record {
      first = first_part (is_in 1 x) w.first x (find (is_in 1) xs) i;
      last = (last_part (is_in 2 x) x w.last (filter (is_in 2) xs) ∙ ap (last_or w.last) (sym (filter_part (is_in 2) x xs))) i;
    })

pub same_slot : (a b : ℕ) → (a == b) ≡ true → a ≡ b
same_slot a b e = grind (arith, nat_tests)

pub found_at : (slot : ℕ) (paths : List Path) (p : ℕ) (path : Path) → p ≡ position_or_len (has_slot slot) paths → p < length paths → path ≡ get_or paths p path → find (has_slot slot) paths ≡ Some path
found_at slot paths p path is below at = find_at (has_slot slot) paths ∙ ap (slice_get paths) (sym is) ∙ slice_get_read paths (length paths) p path refl below at

pub slot_at : (slot : ℕ) (paths : List Path) (p : ℕ) (path : Path) → p ≡ position_or_len (has_slot slot) paths → p < length paths → path ≡ get_or paths p path → path.slot ≡ slot
slot_at slot paths p path is below at =
    let passes : has_slot slot (get_or paths (position_or_len (has_slot slot) paths) path) ≡ true = passes_at_first (has_slot slot) paths path (omega arith) in
    let here : has_slot slot path ≡ true = ap (has_slot slot) at ∙ ap (λ k. has_slot slot (get_or paths k path)) is ∙ passes in
    same_slot path.slot slot here

pub missed : (slot : ℕ) (paths : List Path) → length paths ≤ position_or_len (has_slot slot) paths → find (has_slot slot) paths ≡ None
missed slot paths past =
    find_at (has_slot slot) paths ∙ (elim ((slice_get_cases paths (position_or_len (has_slot slot) paths)).1) [
      | inl h ↦ absurd (let m = h.1 in omega arith)
      | inr h ↦ h.1
    ])
