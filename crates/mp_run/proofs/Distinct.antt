-- Numbers that differ.
use Rattle.std.proofs.Common.{[], ◌≡◌, ℕ, Bool, true, false, ◌||◌, ◌==◌, List, ◌∷◌, ◌++◌, map, refl, sym, ap, ◌∙◌, arith}
use Rattle.std.proofs.lemmas.Bool.Decides.{nat_tests}
use Rattle.mp_words.specs.Request.{Asked}
use Rattle.mp_checks.specs.Marks.{has}
use Rattle.mp_legal.specs.Numbers.{has_req}
use Rattle.mp_script.specs.Distinct.{IsDistinct}
use Rattle.mp_run.proofs.ByNumber.{or_false}

or_join : (a b : Bool) → a ≡ false → b ≡ false → (a || b) ≡ false
or_join a b p q = rw (p, q) refl

pub has-append : (xs ys : List ℕ) (n : ℕ) → has (xs ++ ys) n ≡ (has xs n || has ys n)
has-append [] ys n = refl
has-append (x ∷ xs) ys n = rw (has-append xs ys n) (or_assoc (x == n) (has xs n) (has ys n))
  where
    or_assoc : (a b c : Bool) → (a || (b || c)) ≡ ((a || b) || c)
    or_assoc true b c = refl
    or_assoc false b c = refl

eq_swap : (a b : ℕ) → (a == b) ≡ false → (b == a) ≡ false
eq_swap a b e = grind (arith, nat_tests)

-- a number in the middle stands neither before nor after
pub distinct_middle : (xs : List ℕ) (n : ℕ) (ys : List ℕ) → IsDistinct (xs ++ n ∷ ys) → (has xs n ≡ false) × (has ys n ≡ false)
distinct_middle [] n ys d = (refl, d.0)
distinct_middle (x ∷ xs) n ys d =
    let rest = distinct_middle xs n ys d.1 in
    let parts = or_false (has xs x) (has (n ∷ ys) x) (sym (has-append xs (n ∷ ys) x) ∙ d.0) in
    let other : (n == x) ≡ false = (or_false (n == x) (has ys x) parts.1).0 in
    (or_join (x == n) (has xs n) (eq_swap n x other) rest.0, rest.1)

-- the numbers of requests
pub has-reqs : (requests : List Asked) (req : ℕ) → has (map (λ a. a.req) requests) req ≡ has_req req requests
has-reqs [] req = refl
has-reqs (a ∷ requests) req = ap (λ b. (a.req == req) || b) (has-reqs requests req)
