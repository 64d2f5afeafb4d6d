-- The list of turns.
use Rattle.std.proofs.Common.{[], ◌≡◌, ℕ, zero, suc, ◌+◌, ◌<◌, ◌≤◌, false, ◌==◌, List, ◌∷◌, ◌++◌, take, length, get_or, None, refl, sym, ap, ◌∙◌, append-nil, add-one, arith}
use Rattle.std.specs.Prelude.{slice_get}
use Rattle.std.specs.List.{enumerate_from, range_with_len, flat_map}
use Rattle.std.proofs.lemmas.Bool.Decides.{nat_tests}
use Rattle.std.proofs.lemmas.List.{take_more, length-take-le}
use Rattle.std.proofs.lemmas.Grind.{flat_map-append}
use Rattle.mp_script.specs.declared.script.LanePlan.{LanePlan}
use Rattle.mp_legal.specs.Turns.{Turn, turn_in, round_of}

-- with an index more
pub enumerate-more : {X : Type 0} (n : ℕ) (xs : List X) (x : X) → enumerate_from n (xs ++ x ∷ []) ≡ enumerate_from n xs ++ (n + length xs, x) ∷ []
enumerate-more n [] x = let e : n ≡ n + 0 = omega arith in ap (λ m. (m, x) ∷ []) e
enumerate-more n (y ∷ xs) x =
    let e : n + 1 + length xs ≡ n + suc (length xs) = omega arith in
    ap (λ rest. (n, y) ∷ rest) (enumerate-more (n + 1) xs x ∙ ap (λ m. enumerate_from (n + 1) xs ++ (m, x) ∷ []) e)

pub get_past : {X : Type 0} (xs : List X) (place : ℕ) → length xs ≤ place → slice_get xs place ≡ None
get_past [] place le = refl
get_past (y ∷ xs) zero le = absurd (omega arith)
get_past (y ∷ xs) (suc place) le = get_past xs place (omega arith)

test_gt : (a b : ℕ) → b < a → (a == b) ≡ false
test_gt a b lt = grind (arith, nat_tests)

pub none_in : (round lane : ℕ) (plan : LanePlan) → length plan.lines < round → turn_in round (lane, plan) ≡ []
none_in round lane plan lt = rw (test_gt round (length plan.lines) lt, get_past plan.lines round (omega arith)) refl

-- one lane more
pub round_more : (plans : List LanePlan) (place round : ℕ) (plan : LanePlan) → place < length plans → plan ≡ get_or plans place plan
    → round_of (take (place + 1) plans) round ≡ round_of (take place plans) round ++ turn_in round (place, plan)
round_more plans place round plan lt is =
    let front = take place plans in
    let taken : take (place + 1) plans ≡ front ++ plan ∷ [] = take_more plans place plan lt ∙ ap (λ (p : LanePlan). front ++ p ∷ []) (sym is) in
    let at : 0 + length front ≡ place = omega (arith, length-take-le place plans (omega arith)) in
    ap (λ (ps : List LanePlan). flat_map (turn_in round) (enumerate_from 0 ps)) taken
    ∙ ap (flat_map (turn_in round)) (enumerate-more 0 front plan)
    ∙ flat_map-append (turn_in round) (enumerate_from 0 front) ((0 + length front, plan) ∷ [])
    ∙ ap (λ (ts : List Turn). round_of front round ++ ts) (append-nil (turn_in round (0 + length front, plan)) ∙ ap (λ n. turn_in round (n, plan)) at)

-- one round more
range-more : (a n : ℕ) → range_with_len a (suc n) ≡ range_with_len a n ++ (a + n) ∷ []
range-more a zero = let e : a ≡ a + 0 = omega arith in ap (λ m. m ∷ []) e
range-more a (suc n) =
    let e : a + 1 + n ≡ a + suc n = omega arith in
    ap (λ ns. a ∷ ns) (range-more (a + 1) n ∙ ap (λ m. range_with_len (a + 1) n ++ m ∷ []) e)

pub rounds_more : (f : ℕ → List Turn) (n : ℕ) → flat_map f (range_with_len 0 (n + 1)) ≡ flat_map f (range_with_len 0 n) ++ f n
rounds_more f n = rw (add-one n) (ap (flat_map f) (range-more 0 n) ∙ flat_map-append f (range_with_len 0 n) ((0 + n) ∷ []) ∙ ap (λ (ts : List Turn). flat_map f (range_with_len 0 n) ++ ts) (append-nil (f (0 + n)) ∙ ap f (zero_add n)))
  where
    zero_add : (m : ℕ) → 0 + m ≡ m
    zero_add m = omega arith
