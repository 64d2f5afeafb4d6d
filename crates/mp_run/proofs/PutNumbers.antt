-- Numbers of requests, each put where it stands in order.
use Rattle.std.proofs.Common.{[], ◌≡◌, ℕ, suc, ◌<◌, ◌≤◌, Bool, true, false, ◌==◌, nat_lt, cond, List, ◌∷◌, ◌++◌, inl, inr, refl, sym, ap, ◌∙◌, append-nil, arith}
use Rattle.std.specs.List.{AllByRecursion}
use Rattle.std.proofs.lemmas.Bool.{cases_Bool}
use Rattle.std.proofs.lemmas.Bool.Decides.{nat_tests}
use Rattle.mp_checks.specs.Marks.{has}
use Rattle.mp_words.specs.Request.{Asked}
use Rattle.mp_script.specs.Distinct.{IsDistinct}
use Rattle.mp_legal.specs.PlainState.{with_new}
use Rattle.mp_run.specs.Told.{AreNumbered}
use Rattle.mp_run.proofs.ByNumber.{or_false}
use Rattle.mp_run.proofs.OnTurns.{numbers}
use Rattle.mp_run.proofs.TurnFacts.{count, count-append, count_distinct, distinct_count}

-- the numbers in order, with one more
abbrev pub put_number : ℕ → List ℕ → List ℕ
put_number n [] = n ∷ []
put_number n (m ∷ ns) = cond (nat_lt n m) (n ∷ m ∷ ns) (m ∷ put_number n ns)

-- the numbers in order, with these besides
abbrev pub put_all : List ℕ → List ℕ → List ℕ
put_all ns [] = ns
put_all ns (m ∷ more) = put_all (put_number m ns) more

pub put_all-append : (ns xs ys : List ℕ) → put_all ns (xs ++ ys) ≡ put_all (put_all ns xs) ys
put_all-append ns [] ys = refl
put_all-append ns (x ∷ xs) ys = put_all-append (put_number x ns) xs ys

-- a request more is a number more
pub numbers-new : (a : Asked) (requests : List Asked) → numbers (with_new a requests) ≡ put_number a.req (numbers requests)
numbers-new a [] = refl
numbers-new a (b ∷ requests) =
    elim (cases_Bool (nat_lt a.req b.req)) [
      | inl low ↦ rw low refl
      | inr high ↦ rw high (ap (λ (ns : List ℕ). b.req ∷ ns) (numbers-new a requests))
    ]

-- ---- how often each number stands

two_more : (p q : Bool) (c : ℕ) → cond p (suc (cond q (suc c) c)) (cond q (suc c) c) ≡ cond q (suc (cond p (suc c) c)) (cond p (suc c) c)
two_more true true c = refl
two_more true false c = refl
two_more false true c = refl
two_more false false c = refl

count-put : (n m : ℕ) (ns : List ℕ) → count n (put_number m ns) ≡ count n (m ∷ ns)
count-put n m [] = refl
count-put n m (k ∷ ns) =
    elim (cases_Bool (nat_lt m k)) [
      | inl low ↦ rw low refl
      | inr high ↦ rw high (ap (λ c. cond (k == n) (suc c) c) (count-put n m ns) ∙ two_more (k == n) (m == n) (count n ns))
    ]

pub count-all : (n : ℕ) (ns more : List ℕ) → count n (put_all ns more) ≡ count n (ns ++ more)
count-all n ns [] = ap (count n) (sym (append-nil ns))
count-all n ns (m ∷ more) =
    let rest = count-all n (put_number m ns) more in
    let front = count-append n (put_number m ns) more in
    let whole = count-append n ns (m ∷ more) in
    elim (cases_Bool (m == n)) [
      | inl on ↦ let own : count n (put_number m ns) ≡ suc (count n ns) = count-put n m ns ∙ rw on refl in
          let next : count n (m ∷ more) ≡ suc (count n more) = rw on refl in omega (arith, rest, front, whole, own, next)
      | inr off ↦ let own : count n (put_number m ns) ≡ count n ns = count-put n m ns ∙ rw off refl in
          let next : count n (m ∷ more) ≡ count n more = rw off refl in omega (arith, rest, front, whole, own, next)
    ]

pub distinct_put : (ns more rest : List ℕ) → IsDistinct (ns ++ (more ++ rest)) → IsDistinct (put_all ns more ++ rest)
distinct_put ns more rest d =
    count_distinct (put_all ns more ++ rest)
    (λ n. omega (arith, count-append n (put_all ns more) rest, count-all n ns more, count-append n ns more, count-append n ns (more ++ rest), count-append n more rest, distinct_count n (ns ++ (more ++ rest)) d))

pub distinct_all : (more : List ℕ) → IsDistinct more → IsDistinct (put_all [] more)
distinct_all more d = count_distinct (put_all [] more) (λ n. omega (arith, count-all n [] more, distinct_count n more d))

-- ---- in order

-- no number is below one before it
abbrev pub Climbs : List ℕ → Type 0
Climbs [] = Unit {0}
Climbs (n ∷ ns) = AllByRecursion (λ m. n ≤ m) ns × Climbs ns

all_put : (k m : ℕ) (ns : List ℕ) → AllByRecursion (λ j. k ≤ j) ns → k ≤ m → AllByRecursion (λ j. k ≤ j) (put_number m ns)
all_put k m [] all le = (le, tt)
all_put k m (n ∷ ns) all le =
    elim (cases_Bool (nat_lt m n)) [
      | inl low ↦ rw low (le, all)
      | inr high ↦ rw high (all.0, all_put k m ns all.1 le)
    ]

all_lower : (a b : ℕ) (ns : List ℕ) → a ≤ b → AllByRecursion (λ j. b ≤ j) ns → AllByRecursion (λ j. a ≤ j) ns
all_lower a b [] le all = tt
all_lower a b (n ∷ ns) le all = (omega (arith, all.0), all_lower a b ns le all.1)

climbs_put : (m : ℕ) (ns : List ℕ) → Climbs ns → Climbs (put_number m ns)
climbs_put m [] climbs = (tt, tt)
climbs_put m (n ∷ ns) climbs =
    elim (cases_Bool (nat_lt m n)) [
      | inl low ↦ let le : m ≤ n = below m n low in rw low ((le, all_lower m n ns le climbs.0), climbs)
      | inr high ↦ rw high (all_put n m ns climbs.0 (above m n high), climbs_put m ns climbs.1)
    ]
  where
    below : (a b : ℕ) → nat_lt a b ≡ true → a ≤ b
    below a b lt = grind (arith, nat_tests)

    above : (a b : ℕ) → nat_lt a b ≡ false → b ≤ a
    above a b ge = grind (arith, nat_tests)

pub climbs_all : (ns more : List ℕ) → Climbs ns → Climbs (put_all ns more)
climbs_all ns [] climbs = climbs
climbs_all ns (m ∷ more) climbs = climbs_all (put_number m ns) more (climbs_put m ns climbs)

strict : (a b : ℕ) → a ≤ b → (b == a) ≡ false → a < b
strict a b le apart = grind (arith, nat_tests)

all_above : (n : ℕ) (requests : List Asked) → AllByRecursion (λ m. n ≤ m) (numbers requests) → has (numbers requests) n ≡ false → AllByRecursion (λ b. n < b.req) requests
all_above n [] all none = tt
all_above n (b ∷ requests) all none =
    let parts = or_false (b.req == n) (has (numbers requests) n) none in
    (strict n b.req all.0 parts.0, all_above n requests all.1 parts.1)

-- requests whose numbers are in order and differ stand by number, each once
pub numbered_once : (requests : List Asked) → Climbs (numbers requests) → IsDistinct (numbers requests) → AreNumbered requests
numbered_once [] climbs distinct = tt
numbered_once (a ∷ requests) climbs distinct = (all_above a.req requests climbs.0 distinct.0, numbered_once requests climbs.1 distinct.1)
