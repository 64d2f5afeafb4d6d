-- Requests that stand by number are the same list where they are the same requests.
use Rattle.std.proofs.Common.{◌≡◌, ℕ, Bool, ◌<◌, ◌≤◌, true, false, ◌==◌, ◌||◌, cond, List, [], ◌∷◌, map, inl, inr, refl, sym, ap, ◌∙◌, subst, arith}
use Rattle.std.specs.Prelude.{Option}
use Rattle.std.specs.List.{AllByRecursion, count_by}
use Rattle.std.specs.Coded.{Coded, code_by, coded_ℕ, coded_list, coded×, coded_option}
use Rattle.std.specs.List.Sorted.{IsPermutation}
use Rattle.std.proofs.lemmas.List.Sorted.{sum_by-IsPermutation}
use Rattle.std.proofs.lemmas.Bool.{cases_Bool}
use Rattle.std.proofs.lemmas.Bool.Decides.{nat_tests}
use Rattle.mp_checks.specs.Marks.{has}
use Rattle.mp_words.specs.declared.trying.TryEnd.{TryEnd}
use Rattle.mp_words.specs.declared.trying.Back.{Back}
use Rattle.mp_words.specs.contracts.trying.TryEnd as end
use Rattle.mp_words.specs.contracts.trying.Back as back
use Rattle.mp_words.specs.RequestView.{RequestView}
use Rattle.mp_words.specs.Request.{Asked, Tried, asked_of}
use Rattle.mp_script.specs.Distinct.{IsDistinct}
use Rattle.mp_legal.specs.Gathering.{AreNumbered, HaveSameItems}
use Rattle.mp_legal.proofs.SameItems.{is_item, item_own, item_equal, count_on, count_off, lengths_same}

abbrev tries : Coded Tried
tries = code_by (TryEnd × (List ℕ × Option Back)) (coded× (end.the_row).coded (coded× (coded_list coded_ℕ) (coded_option (back.the_row).coded))) (λ t. (t.end, (t.statuses, t.back))) (λ p. record { end = p.0; statuses = p.1.0; back = p.1.1 }) (λ t. refl)

abbrev requests_told : Coded Asked
requests_told = code_by (ℕ × (ℕ × List Tried)) (coded× coded_ℕ (coded× coded_ℕ (coded_list tries))) (λ a. (a.req, (a.node, a.tries))) (λ p. record { req = p.0; node = p.1.0; tries = p.1.1 }) (λ a. refl)

-- some item that passes has what each has
found : (P : Asked → Type 0) (Q : Type 0) (p : Asked → Bool) (xs : List Asked) → AllByRecursion P xs → 1 ≤ count_by p xs → ((z : Asked) → p z ≡ true → P z → Q) → Q
found P Q p [] all some use_it = absurd (omega (arith, some))
found P Q p (x ∷ xs) all some use_it =
    elim (cases_Bool (p x)) [
      | inl on ↦ use_it x on all.0
      | inr off ↦ found P Q p xs all.1 (omega (arith, some, count_off p x xs off)) use_it
    ]

-- the first ones are the same
heads_same : (x y : Asked) (xs ys : List Asked) → AllByRecursion (λ b. x.req < b.req) xs → AllByRecursion (λ b. y.req < b.req) ys → HaveSameItems (x ∷ xs) (y ∷ ys) → x ≡ y
heads_same x y xs ys above over same =
    elim (cases_Bool (is_item requests_told x y)) [
      | inl on ↦ sym (item_equal requests_told x y on)
      | inr off ↦ elim (cases_Bool (is_item requests_told y x)) [
        | inl on ↦ item_equal requests_told y x on
        | inr apart ↦ absurd (cross (low off) (high apart))
      ]
    ]
  where
    cross : y.req < x.req → x.req < y.req → ⊥
    cross a b = omega (arith, a, b)

    low : is_item requests_told x y ≡ false → y.req < x.req
    low off =
        found (λ b. y.req < b.req) (y.req < x.req) (is_item requests_told x) ys over
        (omega (arith, count_on (is_item requests_told x) x xs (item_own requests_told x), same (is_item requests_told x), count_off (is_item requests_told x) y ys off))
        (λ z on lt. subst (λ (a : Asked). y.req < a.req) (item_equal requests_told x z on) lt)

    high : is_item requests_told y x ≡ false → x.req < y.req
    high off =
        found (λ b. x.req < b.req) (x.req < y.req) (is_item requests_told y) xs above
        (omega (arith, count_on (is_item requests_told y) y ys (item_own requests_told y), same (is_item requests_told y), count_off (is_item requests_told y) x xs off))
        (λ z on lt. subst (λ (a : Asked). x.req < a.req) (item_equal requests_told y z on) lt)

rest_same : (x : Asked) (xs ys : List Asked) → HaveSameItems (x ∷ xs) (x ∷ ys) → HaveSameItems xs ys
rest_same x xs ys same p =
    elim (cases_Bool (p x)) [
      | inl on ↦ omega (arith, count_on p x xs on, count_on p x ys on, same p)
      | inr off ↦ omega (arith, count_off p x xs off, count_off p x ys off, same p)
    ]

pub numbered_same : (xs ys : List Asked) → AreNumbered xs → AreNumbered ys → HaveSameItems xs ys → xs ≡ ys
numbered_same [] [] rise climb same = refl
numbered_same [] (y ∷ ys) rise climb same = absurd (omega (arith, lengths_same [] (y ∷ ys) same))
numbered_same (x ∷ xs) [] rise climb same = absurd (omega (arith, lengths_same (x ∷ xs) [] same))
numbered_same (x ∷ xs) (y ∷ ys) rise climb same =
    let first : x ≡ y = heads_same x y xs ys rise.0 climb.0 same in
    let rest : HaveSameItems xs ys = rest_same x xs ys (subst (λ (z : Asked). HaveSameItems (x ∷ xs) (z ∷ ys)) (sym first) same) in
    ap (λ (z : Asked). z ∷ xs) first ∙ ap (λ (zs : List Asked). y ∷ zs) (numbered_same xs ys rise.1 climb.1 rest)

abbrev has_number : ℕ → Asked → Bool
has_number n a = a.req == n

differ : (a b : ℕ) → a < b → (b == a) ≡ false
differ a b lt = grind (arith, nat_tests)

none_above : (n : ℕ) (xs : List Asked) → AllByRecursion (λ b. n < b.req) xs → count_by (has_number n) xs ≡ 0
none_above n [] all = refl
none_above n (x ∷ xs) all = count_off (has_number n) x xs (differ n x.req all.0) ∙ none_above n xs all.1

numbered_once : (xs : List Asked) → AreNumbered xs → (n : ℕ) → count_by (has_number n) xs ≤ 1
numbered_once [] rise n = omega arith
numbered_once (x ∷ xs) rise n =
    elim (cases_Bool (x.req == n)) [
      | inl on ↦ let none : count_by (has_number n) xs ≡ 0 = ap (λ m. count_by (has_number m) xs) (sym (equal x.req n on)) ∙ none_above x.req xs rise.0 in omega (arith, none, count_on (has_number n) x xs on)
      | inr off ↦ omega (arith, count_off (has_number n) x xs off, numbered_once xs rise.1 n)
    ]
  where
    equal : (a b : ℕ) → (a == b) ≡ true → a ≡ b
    equal a b on = grind (arith, nat_tests)

has_some : (n : ℕ) (requests : List RequestView) → has (map (λ r. r.id) requests) n ≡ true → 1 ≤ count_by (has_number n) (map asked_of requests)
has_some n [] on = absurd cc
has_some n (r ∷ requests) on =
    elim (cases_Bool (r.id == n)) [
      | inl here ↦ omega (arith, count_on (has_number n) (asked_of r) (map asked_of requests) here)
      | inr off ↦ omega (arith, count_off (has_number n) (asked_of r) (map asked_of requests) off, has_some n requests (second (r.id == n) (has (map (λ q. q.id) requests) n) off on))
    ]
  where
    second : (a b : Bool) → a ≡ false → (a || b) ≡ true → b ≡ true
    second true b off e = absurd cc
    second false b off e = e

once_distinct : (requests : List RequestView) → ((n : ℕ) → count_by (has_number n) (map asked_of requests) ≤ 1) → IsDistinct (map (λ r. r.id) requests)
once_distinct [] once = tt
once_distinct (r ∷ requests) once = (not_there (has (map (λ q. q.id) requests) r.id) refl, once_distinct requests (λ n. fewer n (once n)))
  where
    own : (a : ℕ) → (a == a) ≡ true
    own a = grind (arith, nat_tests)

    not_there : (b : Bool) → has (map (λ q. q.id) requests) r.id ≡ b → b ≡ false
    not_there false e = refl
    not_there true e = absurd (omega (arith, once r.id, has_some r.id requests e, count_on (has_number r.id) (asked_of r) (map asked_of requests) (own r.id)))

    fewer : (n : ℕ) → count_by (has_number n) (map asked_of (r ∷ requests)) ≤ 1 → count_by (has_number n) (map asked_of requests) ≤ 1
    fewer n le =
        elim (cases_Bool (r.id == n)) [
          | inl on ↦ omega (arith, le, count_on (has_number n) (asked_of r) (map asked_of requests) on)
          | inr off ↦ omega (arith, le, count_off (has_number n) (asked_of r) (map asked_of requests) off)
        ]

-- requests that are those of a list by number have numbers that differ
pub numbers_differ : (told : List Asked) (requests : List RequestView) → AreNumbered told → HaveSameItems (map asked_of requests) told → IsDistinct (map (λ r. r.id) requests)
numbers_differ told requests rise same = once_distinct requests (λ n. omega (arith, same (has_number n), numbered_once told rise n))

count_map : (p : Asked → Bool) (requests : List RequestView) → count_by p (map asked_of requests) ≡ count_by (λ r. p (asked_of r)) requests
count_map p [] = refl
count_map p (r ∷ requests) =
    elim (cases_Bool (p (asked_of r))) [
      | inl on ↦ omega (arith, count_on p (asked_of r) (map asked_of requests) on, count_on (λ (q : RequestView). p (asked_of q)) r requests on, count_map p requests)
      | inr off ↦ omega (arith, count_off p (asked_of r) (map asked_of requests) off, count_off (λ (q : RequestView). p (asked_of q)) r requests off, count_map p requests)
    ]

-- another order tells the same requests
moved_same : (requests others : List RequestView) → IsPermutation requests others → HaveSameItems (map asked_of others) (map asked_of requests)
moved_same requests others moved p =
    count_map p others ∙ sum_by-IsPermutation (λ (r : RequestView). cond (p (asked_of r)) 1 0) requests others moved ∙ sym (count_map p requests)

-- requests in any order, put in the order of their numbers, are the list by number
pub ordered_same : (told : List Asked) (requests others : List RequestView) → AreNumbered told → HaveSameItems (map asked_of requests) told → IsPermutation requests others → AreNumbered (map asked_of others) → map asked_of others ≡ told
ordered_same told requests others rise same moved climb =
    numbered_same (map asked_of others) told climb rise (λ p. moved_same requests others moved p ∙ same p)
