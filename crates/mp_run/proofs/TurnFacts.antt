-- What holds of all turns.
use Rattle.std.proofs.Common.{[], ◌≡◌, ℕ, zero, suc, ◌+◌, ◌<◌, ◌≤◌, max, Bool, true, false, ◌==◌, List, ◌∷◌, ◌++◌, inl, inr, map, length, fold, Option, Some, None, refl, sym, ap, ◌∙◌, cond, add-one, arith, eq-eqb}
use Rattle.std.specs.Prelude.{slice_get}
use Rattle.std.specs.List.{enumerate_from, range_with_len, flat_map, AllByRecursion}
use Rattle.std.proofs.lemmas.Bool.{cases_Bool, eqb-true}
use Rattle.std.proofs.lemmas.Bool.Decides.{nat_tests}
use Rattle.std.proofs.lemmas.Grind.{flat_map-append}
use Rattle.std.proofs.lemmas.List.{length-append}
use Rattle.mp_checks.specs.Marks.{has}
use Rattle.mp_script.specs.declared.script.LanePlan.{LanePlan}
use Rattle.mp_script.specs.declared.script.Numbered1.{Numbered1}
use Rattle.mp_legal.specs.Turns.{Turn, turn_in, line_turn, round_of, longest, turns_of}
use Rattle.mp_script.specs.Distinct.{IsDistinct}
use Rattle.mp_run.specs.LaneTurns.{submit_in, turns_submits}
use Rattle.mp_script.specs.Facts.{submit_of, submits_of, submits_in}
use Rattle.mp_run.specs.OnTurns.{AreTurnsOf}
use Rattle.mp_run.proofs.ByNumber.{or_false}
use Rattle.mp_run.proofs.Changes.{not_true}

-- ---- no lane is longer than all lines

longest_from : (plans : List LanePlan) (m bound : ℕ) → m ≤ bound → length (flat_map (λ plan. plan.lines) plans) ≤ bound → fold max m (map (λ plan. length plan.lines) plans) ≤ bound
longest_from [] m bound low all = low
longest_from (p ∷ plans) m bound low all =
    let both = length-append p.lines (flat_map (λ (plan : LanePlan). plan.lines) plans) in
    longest_from plans (max m (length p.lines)) bound (omega (arith, both)) (omega (arith, both))

pub longest_few : (plans : List LanePlan) (bound : ℕ) → length (flat_map (λ plan. plan.lines) plans) ≤ bound → longest plans ≤ bound
longest_few plans bound all = longest_from plans 0 bound (omega arith) all

shorter_from : (plans : List LanePlan) (m : ℕ) → (m ≤ fold max m (map (λ plan. length plan.lines) plans)) × AllByRecursion (λ plan. length plan.lines ≤ fold max m (map (λ p. length p.lines) plans)) plans
shorter_from [] m = (omega arith, tt)
shorter_from (p ∷ plans) m =
    let rest = shorter_from plans (max m (length p.lines)) in
    (omega (arith, rest.0), (omega (arith, rest.0), rest.1))

pub shorter : (plans : List LanePlan) → AllByRecursion (λ plan. length plan.lines ≤ longest plans) plans
shorter plans = (shorter_from plans 0).1

-- ---- each turn is of a lane

of-append : (n : ℕ) (xs ys : List Turn) → AreTurnsOf n xs → AreTurnsOf n ys → AreTurnsOf n (xs ++ ys)
of-append n [] ys p q = q
of-append n (x ∷ xs) ys p q = (p.0, of-append n xs ys p.1 q)

line_of : (n lane : ℕ) (lines : List Numbered1) (round : ℕ) → lane < n → AreTurnsOf n (line_turn lane (slice_get lines round))
line_of n lane [] round lt = tt
line_of n lane (l ∷ lines) zero lt = (lt, tt)
line_of n lane (l ∷ lines) (suc round) lt = line_of n lane lines round lt

turn_of : (n round lane : ℕ) (plan : LanePlan) → lane < n → AreTurnsOf n (turn_in round (lane, plan))
turn_of n round lane plan lt =
    elim (cases_Bool (round == length plan.lines)) [
      | inl on ↦ rw on (lt, tt)
      | inr off ↦ rw off (line_of n lane plan.lines round lt)
    ]

round_of_lanes : (n round k : ℕ) (plans : List LanePlan) → k + length plans ≤ n → AreTurnsOf n (flat_map (turn_in round) (enumerate_from k plans))
round_of_lanes n round k [] le = tt
round_of_lanes n round k (p ∷ plans) le =
    of-append n (turn_in round (k, p)) (flat_map (turn_in round) (enumerate_from (k + 1) plans)) (turn_of n round k p (omega arith))
    (round_of_lanes n round (k + 1) plans (omega arith))

rounds_of_lanes : (n : ℕ) (plans : List LanePlan) (rounds : List ℕ) → length plans ≤ n → AreTurnsOf n (flat_map (round_of plans) rounds)
rounds_of_lanes n plans [] le = tt
rounds_of_lanes n plans (r ∷ rounds) le =
    of-append n (round_of plans r) (flat_map (round_of plans) rounds) (round_of_lanes n r 0 plans (omega arith)) (rounds_of_lanes n plans rounds le)

pub turns_of_lanes : (plans : List LanePlan) → AreTurnsOf (length plans) (turns_of plans)
turns_of_lanes plans = rounds_of_lanes (length plans) plans (range_with_len 0 (longest plans + 1)) (omega arith)

-- ---- all turns submit what the lanes submit

-- how often a number stands in a list
abbrev pub count : ℕ → List ℕ → ℕ
count n [] = 0
count n (x ∷ xs) = cond (x == n) (suc (count n xs)) (count n xs)

pub count-append : (n : ℕ) (xs ys : List ℕ) → count n (xs ++ ys) ≡ count n xs + count n ys
count-append n [] ys = omega arith
count-append n (x ∷ xs) ys =
    let more = count-append n xs ys in
    elim (cases_Bool (x == n)) [ inl on ↦ rw on (omega arith) | inr off ↦ rw off (omega arith) ]

pub has_count : (n : ℕ) (xs : List ℕ) → has xs n ≡ true → 1 ≤ count n xs
has_count n [] e = absurd cc
has_count n (x ∷ xs) e =
    elim (cases_Bool (x == n)) [ inl on ↦ rw on (omega arith) | inr off ↦ rw off (has_count n xs (rw off at e)) ]

pub none_count : (n : ℕ) (xs : List ℕ) → has xs n ≡ false → count n xs ≡ 0
none_count n [] e = refl
none_count n (x ∷ xs) e = let parts = or_false (x == n) (has xs n) e in rw parts.0 (none_count n xs parts.1)

pub distinct_count : (n : ℕ) (xs : List ℕ) → IsDistinct xs → count n xs ≤ 1
distinct_count n [] d = omega arith
distinct_count n (x ∷ xs) d =
    elim (cases_Bool (x == n)) [
      | inl on ↦ let e : x ≡ n = eqb-true x n on in let none : count n xs ≡ 0 = none_count n xs (ap (has xs) (sym e) ∙ d.0) in rw on (omega arith)
      | inr off ↦ rw off (distinct_count n xs d.1)
    ]

pub count_distinct : (xs : List ℕ) → ((n : ℕ) → count n xs ≤ 1) → IsDistinct xs
count_distinct [] all = tt
count_distinct (x ∷ xs) all =
    (not_true (has xs x) (λ e. let one : count x (x ∷ xs) ≡ suc (count x xs) = rw (eq-eqb x x refl) refl in absurd (omega (arith, all x, has_count x xs e))), count_distinct xs (λ n. fewer n (all n)))
  where
    fewer : (n : ℕ) → count n (x ∷ xs) ≤ 1 → count n xs ≤ 1
    fewer n le = elim (cases_Bool (x == n)) [ inl on ↦ let e = rw on at le in omega arith | inr off ↦ rw off at le ]

subs-append : (xs ys : List Turn) → turns_submits (xs ++ ys) ≡ turns_submits xs ++ turns_submits ys
subs-append xs ys = flat_map-append (λ (t : Turn). submit_in t.line) xs ys

split_count : (n : ℕ) (f g : ℕ → List Turn) (rs : List ℕ)
    → count n (turns_submits (flat_map (λ r. f r ++ g r) rs)) ≡ count n (turns_submits (flat_map f rs)) + count n (turns_submits (flat_map g rs))
split_count n f g [] = refl
split_count n f g (r ∷ rs) =
    let more = split_count n f g rs in
    let whole : count n (turns_submits ((f r ++ g r) ++ flat_map (λ q. f q ++ g q) rs)) ≡ count n (turns_submits (f r)) + count n (turns_submits (g r)) + count n (turns_submits (flat_map (λ q. f q ++ g q) rs)) =
    rw (subs-append (f r ++ g r) (flat_map (λ q. f q ++ g q) rs), subs-append (f r) (g r)) (rw (count-append n (turns_submits (f r) ++ turns_submits (g r)) (turns_submits (flat_map (λ q. f q ++ g q) rs)), count-append n (turns_submits (f r)) (turns_submits (g r))) refl) in
    let left : count n (turns_submits (f r ++ flat_map f rs)) ≡ count n (turns_submits (f r)) + count n (turns_submits (flat_map f rs)) =
    rw (subs-append (f r) (flat_map f rs)) (count-append n (turns_submits (f r)) (turns_submits (flat_map f rs))) in
    let right : count n (turns_submits (g r ++ flat_map g rs)) ≡ count n (turns_submits (g r)) + count n (turns_submits (flat_map g rs)) =
    rw (subs-append (g r) (flat_map g rs)) (count-append n (turns_submits (g r)) (turns_submits (flat_map g rs))) in
    omega (arith, more, whole, left, right)

pub flat_same : (f g : ℕ → List Turn) (rs : List ℕ) → ((r : ℕ) → f r ≡ g r) → flat_map f rs ≡ flat_map g rs
flat_same f g [] same = refl
flat_same f g (r ∷ rs) same = rw (same r) (ap (λ (ts : List Turn). g r ++ ts) (flat_same f g rs same))

pub flat_nothing : (f : ℕ → List Turn) (rs : List ℕ) → ((r : ℕ) → f r ≡ []) → flat_map f rs ≡ []
flat_nothing f [] none = refl
flat_nothing f (r ∷ rs) none = rw (none r) (flat_nothing f rs none)

pub range_shift : (f : ℕ → List Turn) (a m : ℕ) → flat_map f (range_with_len (a + 1) m) ≡ flat_map (λ r. f (r + 1)) (range_with_len a m)
range_shift f a zero = refl
range_shift f a (suc m) = ap (λ (ts : List Turn). f (a + 1) ++ ts) (range_shift f (a + 1) m)

-- the turns of one lane
abbrev pub lane_turn : ℕ → Bool → List Numbered1 → ℕ → List Turn
lane_turn lane keeper lines round = turn_in round (lane, record { keeper = keeper; lines = lines })

test_suc : (a b : ℕ) → (a + 1 == suc b) ≡ (a == b)
test_suc a b = elim (cases_Bool (a == b)) [
  | inl on ↦ let e : a ≡ b = eqb-true a b on in let e2 : a + 1 ≡ suc b = omega arith in eq-eqb (a + 1) (suc b) e2 ∙ sym on
  | inr off ↦ let other : (a + 1 == suc b) ≡ false = grind (arith, nat_tests) in other ∙ sym off
]

get_suc : (l : Numbered1) (lines : List Numbered1) (r : ℕ) → slice_get (l ∷ lines) (r + 1) ≡ slice_get lines r
get_suc l lines r = rw (add-one r) refl

pub next_turn : (lane : ℕ) (keeper : Bool) (l : Numbered1) (lines : List Numbered1) (r : ℕ) → lane_turn lane keeper (l ∷ lines) (r + 1) ≡ lane_turn lane keeper lines r
next_turn lane keeper l lines r =
    ap (λ b. cond b (record { lane = lane; line = None } ∷ []) (line_turn lane (slice_get (l ∷ lines) (r + 1)))) (test_suc r (length lines))
    ∙ ap (λ (o : Option Numbered1). cond (r == length lines) (record { lane = lane; line = None } ∷ []) (line_turn lane o)) (get_suc l lines r)

pub over_turn : (lane : ℕ) (keeper : Bool) (r : ℕ) → lane_turn lane keeper [] (r + 1) ≡ []
over_turn lane keeper r = let off : (r + 1 == 0) ≡ false = grind (arith, nat_tests) in rw off refl

pub first_turn : (lane : ℕ) (keeper : Bool) (l : Numbered1) (lines : List Numbered1) → lane_turn lane keeper (l ∷ lines) 0 ≡ record { lane = lane; line = Some l } ∷ []
first_turn lane keeper l lines = let off : (0 == suc (length lines)) ≡ false = grind (arith, nat_tests) in rw off refl

lane_submits : (lane : ℕ) (keeper : Bool) (lines : List Numbered1) (m : ℕ) → length lines < m → turns_submits (flat_map (lane_turn lane keeper lines) (range_with_len 0 m)) ≡ submits_of lines
lane_submits lane keeper lines zero lt = absurd (omega arith)
lane_submits lane keeper [] (suc m) lt =
    let none : flat_map (lane_turn lane keeper []) (range_with_len (0 + 1) m) ≡ [] =
    range_shift (lane_turn lane keeper []) 0 m ∙ flat_nothing (λ r. lane_turn lane keeper [] (r + 1)) (range_with_len 0 m) (over_turn lane keeper) in
    ap (λ (ts : List Turn). turns_submits (record { lane = lane; line = None } ∷ ts)) none
lane_submits lane keeper (l ∷ lines) (suc m) lt =
    let rest : flat_map (lane_turn lane keeper (l ∷ lines)) (range_with_len (0 + 1) m) ≡ flat_map (lane_turn lane keeper lines) (range_with_len 0 m) =
    range_shift (lane_turn lane keeper (l ∷ lines)) 0 m ∙ flat_same (λ r. lane_turn lane keeper (l ∷ lines) (r + 1)) (lane_turn lane keeper lines) (range_with_len 0 m) (next_turn lane keeper l lines) in
    ap (λ (ts : List Turn). turns_submits (ts ++ flat_map (lane_turn lane keeper (l ∷ lines)) (range_with_len (0 + 1) m))) (first_turn lane keeper l lines)
    ∙ ap (λ (ts : List Turn). turns_submits (record { lane = lane; line = Some l } ∷ ts)) rest
    ∙ ap (λ ns. submit_of l.line ++ ns) (lane_submits lane keeper lines m (omega arith))

count_rounds : (n k : ℕ) (plans : List LanePlan) (m : ℕ) → AllByRecursion (λ plan. length plan.lines < m) plans
    → count n (turns_submits (flat_map (λ r. flat_map (turn_in r) (enumerate_from k plans)) (range_with_len 0 m))) ≡ count n (submits_in plans)
count_rounds n k [] m all = ap (λ (ts : List Turn). count n (turns_submits ts)) (flat_nothing (λ r. []) (range_with_len 0 m) (λ r. refl))
count_rounds n k (p ∷ plans) m all =
    split_count n (λ r. turn_in r (k, p)) (λ r. flat_map (turn_in r) (enumerate_from (k + 1) plans)) (range_with_len 0 m)
    ∙ ap (λ ns. count n ns + count n (turns_submits (flat_map (λ r. flat_map (turn_in r) (enumerate_from (k + 1) plans)) (range_with_len 0 m)))) (lane_submits k p.keeper p.lines m all.0)
    ∙ ap (λ c. count n (submits_of p.lines) + c) (count_rounds n (k + 1) plans m all.1)
    ∙ sym (count-append n (submits_of p.lines) (submits_in plans))

pub below_more : (plans : List LanePlan) (m : ℕ) → AllByRecursion (λ plan. length plan.lines ≤ m) plans → AllByRecursion (λ plan. length plan.lines < m + 1) plans
below_more [] m all = tt
below_more (p ∷ plans) m all = (omega (arith, all.0), below_more plans m all.1)

pub turns_count : (n : ℕ) (plans : List LanePlan) → count n (turns_submits (turns_of plans)) ≡ count n (submits_in plans)
turns_count n plans = count_rounds n 0 plans (longest plans + 1) (below_more plans (longest plans) (shorter plans))

pub fresh_turns : (plans : List LanePlan) → IsDistinct (submits_in plans) → IsDistinct (turns_submits (turns_of plans))
fresh_turns plans distinct = count_distinct (turns_submits (turns_of plans)) (λ n. rw (turns_count n plans) (distinct_count n (submits_in plans) distinct))
