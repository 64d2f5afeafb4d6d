-- The turns that each lane has ahead at the start.
use Rattle.std.proofs.Common.{[], ◌≡◌, ℕ, zero, suc, ◌+◌, ◌<◌, Bool, true, false, ◌==◌, List, ◌∷◌, ◌++◌, inl, inr, map, length, get_or, Option, Some, None, refl, sym, ap, ◌∙◌, arith, eq-eqb, append-nil}
use Rattle.std.specs.Prelude.{slice_get}
use Rattle.std.specs.List.{enumerate_from, range_with_len, flat_map, AllByRecursion}
use Rattle.std.proofs.lemmas.Bool.{cases_Bool}
use Rattle.std.proofs.lemmas.Bool.Decides.{nat_tests}
use Rattle.mp_script.specs.declared.script.LanePlan.{LanePlan}
use Rattle.mp_script.specs.declared.script.Numbered1.{Numbered1}
use Rattle.mp_legal.specs.Turns.{Turn, turn_in, line_turn, longest, turns_of}
use Rattle.mp_run.specs.Beginning.{first_lane}
use Rattle.mp_run.specs.Runner.{no_lane, turns_left}
use Rattle.mp_run.specs.Turning.{turns_at}
use Rattle.mp_run.proofs.TurnFacts.{below_more, first_turn, flat_nothing, flat_same, lane_turn, next_turn, over_turn, range_shift, shorter}

-- a plan of no lane
abbrev pub no_plan : LanePlan
no_plan = record { keeper = false; lines = [] }

at-append : (n : ℕ) (xs ys : List Turn) → turns_at n (xs ++ ys) ≡ turns_at n xs ++ turns_at n ys
at-append n [] ys = refl
at-append n (x ∷ xs) ys = elim (cases_Bool (x.lane == n)) [
  | inl on ↦ rw on (ap (λ (ts : List (Option Numbered1)). x.line ∷ ts) (at-append n xs ys))
  | inr off ↦ rw off (at-append n xs ys)
]

at_own : (n : ℕ) (line : Option Numbered1) (ts : List Turn) → turns_at n (record { lane = n; line = line } ∷ ts) ≡ line ∷ turns_at n ts
at_own n line ts = let is : (n == n) ≡ true = eq-eqb n n refl in rw is refl

at_other : (n k : ℕ) (line : Option Numbered1) → (k == n) ≡ false → turns_at n (record { lane = k; line = line } ∷ []) ≡ []
at_other n k line off = rw off refl

-- ---- one lane

lane_ahead : (lane : ℕ) (keeper : Bool) (lines : List Numbered1) (m : ℕ) → length lines < m → turns_at lane (flat_map (lane_turn lane keeper lines) (range_with_len 0 m)) ≡ turns_left lines
lane_ahead lane keeper lines zero lt = absurd (omega (arith, lt))
lane_ahead lane keeper [] (suc m) lt =
    let none : flat_map (lane_turn lane keeper []) (range_with_len (0 + 1) m) ≡ [] =
    range_shift (lane_turn lane keeper []) 0 m ∙ flat_nothing (λ r. lane_turn lane keeper [] (r + 1)) (range_with_len 0 m) (over_turn lane keeper) in
    ap (λ (ts : List Turn). turns_at lane (record { lane = lane; line = None } ∷ ts)) none ∙ at_own lane None []
lane_ahead lane keeper (l ∷ lines) (suc m) lt =
    let rest : flat_map (lane_turn lane keeper (l ∷ lines)) (range_with_len (0 + 1) m) ≡ flat_map (lane_turn lane keeper lines) (range_with_len 0 m) =
    range_shift (lane_turn lane keeper (l ∷ lines)) 0 m ∙ flat_same (λ r. lane_turn lane keeper (l ∷ lines) (r + 1)) (lane_turn lane keeper lines) (range_with_len 0 m) (next_turn lane keeper l lines) in
    ap (λ (ts : List Turn). turns_at lane (ts ++ flat_map (lane_turn lane keeper (l ∷ lines)) (range_with_len (0 + 1) m))) (first_turn lane keeper l lines)
    ∙ ap (λ (ts : List Turn). turns_at lane (record { lane = lane; line = Some l } ∷ ts)) rest
    ∙ at_own lane (Some l) (flat_map (lane_turn lane keeper lines) (range_with_len 0 m))
    ∙ ap (λ (ts : List (Option Numbered1)). Some l ∷ ts) (lane_ahead lane keeper lines m (omega (arith, lt)))

-- ---- the others

line_other : (n k : ℕ) (o : Option Numbered1) → (k == n) ≡ false → turns_at n (line_turn k o) ≡ []
line_other n k None off = refl
line_other n k (Some l) off = at_other n k (Some l) off

turn_other : (n r k : ℕ) (p : LanePlan) → (k == n) ≡ false → turns_at n (turn_in r (k, p)) ≡ []
turn_other n r k p off = elim (cases_Bool (r == length p.lines)) [
  | inl on ↦ rw on (at_other n k None off)
  | inr more ↦ rw more (line_other n k (slice_get p.lines r) off)
]

apart_of : (k n : ℕ) → n < k → (k == n) ≡ false
apart_of k n lt = grind (arith, nat_tests)

round_other : (n r k : ℕ) (plans : List LanePlan) → n < k → turns_at n (flat_map (turn_in r) (enumerate_from k plans)) ≡ []
round_other n r k [] lt = refl
round_other n r k (p ∷ plans) lt =
    at-append n (turn_in r (k, p)) (flat_map (turn_in r) (enumerate_from (k + 1) plans))
    ∙ ap (λ (ts : List (Option Numbered1)). ts ++ turns_at n (flat_map (turn_in r) (enumerate_from (k + 1) plans))) (turn_other n r k p (apart_of k n lt))
    ∙ round_other n r (k + 1) plans (omega (arith, lt))

-- turns of which the second part, or the first, are none of this lane
first_part : (n : ℕ) (f g : ℕ → List Turn) (rs : List ℕ) → ((r : ℕ) → turns_at n (g r) ≡ []) → turns_at n (flat_map (λ r. f r ++ g r) rs) ≡ turns_at n (flat_map f rs)
first_part n f g [] none = refl
first_part n f g (r ∷ rs) none =
    at-append n (f r ++ g r) (flat_map (λ q. f q ++ g q) rs)
    ∙ (λ j. (at-append n (f r) (g r) ∙ ap (λ (ts : List (Option Numbered1)). turns_at n (f r) ++ ts) (none r) ∙ append-nil (turns_at n (f r))) j ++ first_part n f g rs none j)
    ∙ sym (at-append n (f r) (flat_map f rs))

second_part : (n : ℕ) (f g : ℕ → List Turn) (rs : List ℕ) → ((r : ℕ) → turns_at n (f r) ≡ []) → turns_at n (flat_map (λ r. f r ++ g r) rs) ≡ turns_at n (flat_map g rs)
second_part n f g [] none = refl
second_part n f g (r ∷ rs) none =
    at-append n (f r ++ g r) (flat_map (λ q. f q ++ g q) rs)
    ∙ (λ j. (at-append n (f r) (g r) ∙ ap (λ (ts : List (Option Numbered1)). ts ++ turns_at n (g r)) (none r)) j ++ second_part n f g rs none j)
    ∙ sym (at-append n (g r) (flat_map g rs))

below_eqb : (k n : ℕ) → k < n → (k == n) ≡ false
below_eqb k n lt = grind (arith, nat_tests)

rounds_ahead : (k n : ℕ) (plans : List LanePlan) (m : ℕ) → n < length plans → AllByRecursion (λ plan. length plan.lines < m) plans
    → turns_at (k + n) (flat_map (λ r. flat_map (turn_in r) (enumerate_from k plans)) (range_with_len 0 m)) ≡ turns_left (get_or plans n no_plan).lines
rounds_ahead k n [] m lt all = absurd (omega (arith, lt))
rounds_ahead k zero (p ∷ plans) m lt all =
    let same : k + 0 ≡ k = omega arith in
    ap (λ j. turns_at j (flat_map (λ r. flat_map (turn_in r) (enumerate_from k (p ∷ plans))) (range_with_len 0 m))) same
    ∙ first_part k (λ r. turn_in r (k, p)) (λ r. flat_map (turn_in r) (enumerate_from (k + 1) plans)) (range_with_len 0 m) (λ r. round_other k r (k + 1) plans (omega arith))
    ∙ lane_ahead k p.keeper p.lines m all.0
rounds_ahead k (suc n) (p ∷ plans) m lt all =
    let same : k + suc n ≡ k + 1 + n = omega arith in
    second_part (k + suc n) (λ r. turn_in r (k, p)) (λ r. flat_map (turn_in r) (enumerate_from (k + 1) plans)) (range_with_len 0 m) (λ r. turn_other (k + suc n) r k p (below_eqb k (k + suc n) (omega arith)))
    ∙ ap (λ j. turns_at j (flat_map (λ r. flat_map (turn_in r) (enumerate_from (k + 1) plans)) (range_with_len 0 m))) same
    ∙ rounds_ahead (k + 1) n plans m (omega (arith, lt)) all.1

pub turns_ahead : (n : ℕ) (plans : List LanePlan) → n < length plans → turns_at n (turns_of plans) ≡ turns_left (get_or plans n no_plan).lines
turns_ahead n plans lt =
    let same : 0 + n ≡ n = omega arith in
    ap (λ j. turns_at j (turns_of plans)) (sym same) ∙ rounds_ahead 0 n plans (longest plans + 1) lt (below_more plans (longest plans) (shorter plans))

-- ---- the lanes at the start

first_at : (k n : ℕ) (plans : List LanePlan) → n < length plans → get_or (map first_lane (enumerate_from k plans)) n no_lane ≡ first_lane (k + n, get_or plans n no_plan)
first_at k n [] lt = absurd (omega (arith, lt))
first_at k zero (p ∷ plans) lt = let e : k ≡ k + 0 = omega arith in ap (λ j. first_lane (j, p)) e
first_at k (suc n) (p ∷ plans) lt =
    let e : k + 1 + n ≡ k + suc n = omega arith in
    first_at (k + 1) n plans (omega (arith, lt)) ∙ ap (λ j. first_lane (j, get_or plans n no_plan)) e

pub first_lane_at : (n : ℕ) (plans : List LanePlan) → n < length plans → get_or (map first_lane (enumerate_from 0 plans)) n no_lane ≡ first_lane (n, get_or plans n no_plan)
first_lane_at n plans lt = let e : 0 + n ≡ n = omega arith in first_at 0 n plans lt ∙ ap (λ j. first_lane (j, get_or plans n no_plan)) e
