-- Requests that stand by number, where no two have the same.
use Rattle.std.proofs.Common.{◌≡◌, ℕ, Bool, suc, ◌+◌, ◌<◌, ◌≤◌, true, false, ◌==◌, ◌||◌, cond, List, [], ◌∷◌, map, length, get_or, inl, inr, refl, sym, ap, ◌∙◌, arith}
use Rattle.std.specs.List.{AllByRecursion, count_by}
use Rattle.std.specs.List.Sorted.{IsPermutation, IsNonDecreasingBy}
use Rattle.std.proofs.lemmas.Bool.{cases_Bool}
use Rattle.std.proofs.lemmas.Bool.Decides.{nat_tests}
use Rattle.std.proofs.lemmas.List.Recursion.{is_count_by}
use Rattle.std.proofs.lemmas.List.Sorted.{sum_by-IsPermutation}
use Rattle.mp_checks.specs.Marks.{has}
use Rattle.mp_words.specs.RequestView.{RequestView}
use Rattle.mp_words.specs.Request.{asked_of}
use Rattle.mp_script.specs.Distinct.{IsDistinct}
use Rattle.mp_legal.specs.Gathering.{AreNumbered}

-- how often a number stands
abbrev times : ℕ → List RequestView → ℕ
times n [] = 0
times n (r ∷ requests) = cond (r.id == n) (1 + times n requests) (times n requests)

abbrev has_number : ℕ → RequestView → Bool
has_number n r = r.id == n

times_count : (n : ℕ) (requests : List RequestView) → times n requests ≡ count_by (has_number n) requests
times_count n requests = is_count_by (times n) (has_number n) refl (λ r rest. refl) requests

none_times : (n : ℕ) (requests : List RequestView) → has (map (λ r. r.id) requests) n ≡ false → times n requests ≡ 0
none_times n [] none = refl
none_times n (r ∷ requests) none =
    let parts = neither (r.id == n) (has (map (λ q. q.id) requests) n) none in
    rw parts.0 (none_times n requests parts.1)
  where
    neither : (a b : Bool) → (a || b) ≡ false → (a ≡ false) × (b ≡ false)
    neither true b e = absurd cc
    neither false b e = (refl, e)

equal : (a b : ℕ) → (a == b) ≡ true → a ≡ b
equal a b on = grind (arith, nat_tests)

distinct_once : (requests : List RequestView) → IsDistinct (map (λ r. r.id) requests) → (n : ℕ) → times n requests ≤ 1
distinct_once [] distinct n = omega arith
distinct_once (r ∷ requests) distinct n =
    elim (cases_Bool (r.id == n)) [
      | inl on ↦ let none : times n requests ≡ 0 = none_times n requests (ap (has (map (λ q. q.id) requests)) (sym (equal r.id n on)) ∙ distinct.0) in rw on (omega (arith, none))
      | inr off ↦ rw off (distinct_once requests distinct.1 n)
    ]

-- another order changes no number's times
pub still_once : (requests others : List RequestView) → IsPermutation requests others → IsDistinct (map (λ r. r.id) requests) → (n : ℕ) → times n others ≤ 1
still_once requests others moved distinct n =
    omega (arith, times_count n requests, times_count n others, sum_by-IsPermutation (λ (r : RequestView). cond (r.id == n) 1 0) requests others moved, distinct_once requests distinct n)

parts_of : (b : Bool) (t : ℕ) → cond b (1 + t) t ≡ 0 → (b ≡ false) × (t ≡ 0)
parts_of true t e = absurd (omega (arith, e))
parts_of false t e = (refl, e)

strict : (a b : ℕ) → a ≤ b → (b == a) ≡ false → a < b
strict a b le apart = grind (arith, nat_tests)

above_all : (m : ℕ) (requests : List RequestView) → ((j : ℕ) (d : RequestView) → j < length requests → m ≤ (get_or requests j d).id) → times m requests ≡ 0 → AllByRecursion (λ b. m < b.req) (map asked_of requests)
above_all m [] le none = tt
above_all m (r ∷ requests) le none =
    let parts = parts_of (r.id == m) (times m requests) none in
    (strict m r.id (le 0 r (omega arith)) parts.0, above_all m requests (λ j d lt. le (suc j) d (omega (arith, lt))) parts.1)

-- numbers that are in order and differ rise
pub numbered : (requests : List RequestView) → IsNonDecreasingBy (λ (r : RequestView). r.id) requests → ((n : ℕ) → times n requests ≤ 1) → AreNumbered (map asked_of requests)
numbered [] sorted once = tt
numbered (r ∷ requests) sorted once = (
  above_all r.id requests (λ j d lt. sorted 0 (suc j) d (omega arith) (omega (arith, lt))) (no_more (once r.id)),
  numbered requests (λ i j d le lt. sorted (suc i) (suc j) d (omega (arith, le)) (omega (arith, lt))) (λ n. fewer n (once n)),
)
  where
    own : (a : ℕ) → (a == a) ≡ true
    own a = grind (arith, nat_tests)

    no_more : times r.id (r ∷ requests) ≤ 1 → times r.id requests ≡ 0
    no_more le = let e = rw (own r.id) at le in omega (arith, e)

    fewer : (n : ℕ) → times n (r ∷ requests) ≤ 1 → times n requests ≤ 1
    fewer n le = elim (cases_Bool (r.id == n)) [ inl on ↦ let e = rw on at le in omega (arith, e) | inr off ↦ rw off at le ]
