-- Sums over all turns are sums over all lines.
use Rattle.std.proofs.Common.{[], ◌≡◌, ℕ, zero, suc, ◌+◌, ◌<◌, Bool, List, ◌∷◌, ◌++◌, length, Option, Some, None, refl, ap, ◌∙◌, arith}
use Rattle.std.specs.List.{enumerate_from, range_with_len, flat_map, AllByRecursion}
use Rattle.mp_script.specs.declared.script.LanePlan.{LanePlan}
use Rattle.mp_script.specs.declared.script.Numbered1.{Numbered1}
use Rattle.mp_legal.specs.Turns.{Turn, turn_in, longest, turns_of}
use Rattle.mp_run.proofs.TurnFacts.{lane_turn, range_shift, flat_same, flat_nothing, next_turn, over_turn, first_turn, below_more, shorter}

-- a number of each turn, summed up
abbrev pub turn_sum : (Option Numbered1 → ℕ) → List Turn → ℕ
turn_sum f [] = 0
turn_sum f (t ∷ ts) = f t.line + turn_sum f ts

-- the same of the lines of a lane, and of all lanes with their ends
abbrev pub lines_sum : (Option Numbered1 → ℕ) → List Numbered1 → ℕ
lines_sum f [] = 0
lines_sum f (l ∷ ls) = f (Some l) + lines_sum f ls

abbrev pub plans_sum : (Option Numbered1 → ℕ) → List LanePlan → ℕ
plans_sum f [] = 0
plans_sum f (p ∷ ps) = lines_sum f p.lines + f None + plans_sum f ps

sum-append : (f : Option Numbered1 → ℕ) (xs ys : List Turn) → turn_sum f (xs ++ ys) ≡ turn_sum f xs + turn_sum f ys
sum-append f [] ys = omega arith
sum-append f (x ∷ xs) ys = let rest = sum-append f xs ys in omega (arith, rest)

split_sum : (f : Option Numbered1 → ℕ) (g h : ℕ → List Turn) (rs : List ℕ)
    → turn_sum f (flat_map (λ r. g r ++ h r) rs) ≡ turn_sum f (flat_map g rs) + turn_sum f (flat_map h rs)
split_sum f g h [] = refl
split_sum f g h (r ∷ rs) =
    let more = split_sum f g h rs in
    let whole = sum-append f (g r ++ h r) (flat_map (λ q. g q ++ h q) rs) in
    let both = sum-append f (g r) (h r) in
    let one = sum-append f (g r) (flat_map g rs) in
    let two = sum-append f (h r) (flat_map h rs) in
    omega (arith, more, whole, both, one, two)

lane_sum : (f : Option Numbered1 → ℕ) (lane : ℕ) (keeper : Bool) (lines : List Numbered1) (m : ℕ) → length lines < m
    → turn_sum f (flat_map (lane_turn lane keeper lines) (range_with_len 0 m)) ≡ lines_sum f lines + f None
lane_sum f lane keeper lines zero lt = absurd (omega arith)
lane_sum f lane keeper [] (suc m) lt =
    let none : flat_map (lane_turn lane keeper []) (range_with_len (0 + 1) m) ≡ [] =
    range_shift (lane_turn lane keeper []) 0 m ∙ flat_nothing (λ r. lane_turn lane keeper [] (r + 1))
    (range_with_len 0 m) (over_turn lane keeper) in
    ap (λ (ts : List Turn). turn_sum f (record { lane = lane; line = None } ∷ ts)) none ∙ swapped (f None)
  where
    swapped : (n : ℕ) → n + 0 ≡ 0 + n
    swapped n = omega arith
lane_sum f lane keeper (l ∷ lines) (suc m) lt =
    let rest : flat_map (lane_turn lane keeper (l ∷ lines)) (range_with_len (0 + 1) m) ≡ flat_map
    (lane_turn lane keeper lines) (range_with_len 0 m) =
    range_shift (lane_turn lane keeper (l ∷ lines)) 0 m ∙ flat_same (λ r. lane_turn lane keeper (l ∷ lines) (r + 1))
    (lane_turn lane keeper lines) (range_with_len 0 m) (next_turn lane keeper l lines) in
    let first : turn_sum f (flat_map (lane_turn lane keeper (l ∷ lines)) (range_with_len 0 (suc m))) ≡ f (Some l)
    + turn_sum f (flat_map (lane_turn lane keeper lines) (range_with_len 0 m)) =
    ap (λ (ts : List Turn). turn_sum f (ts ++ flat_map (lane_turn lane keeper (l ∷ lines)) (range_with_len (0 + 1) m)))
    (first_turn lane keeper l lines)
    ∙ ap (λ (ts : List Turn). turn_sum f (record { lane = lane; line = Some l } ∷ ts)) rest in
    let later = lane_sum f lane keeper lines m (omega arith) in
    omega (arith, first, later)

rounds_sum : (f : Option Numbered1 → ℕ) (k : ℕ) (plans : List LanePlan) (m : ℕ)
    → AllByRecursion (λ plan. length plan.lines < m) plans
    → turn_sum f (flat_map (λ r. flat_map (turn_in r) (enumerate_from k plans)) (range_with_len 0 m)) ≡ plans_sum f plans
rounds_sum f k [] m all = ap (turn_sum f) (flat_nothing (λ r. []) (range_with_len 0 m) (λ r. refl))
rounds_sum f k (p ∷ plans) m all =
    let parts =
    split_sum f (λ r. turn_in r (k, p)) (λ r. flat_map (turn_in r) (enumerate_from (k + 1) plans))
    (range_with_len 0 m) in
    let own = lane_sum f k p.keeper p.lines m all.0 in
    let others = rounds_sum f (k + 1) plans m all.1 in
    omega (arith, parts, own, others)

pub turns_sum : (f : Option Numbered1 → ℕ) (plans : List LanePlan) → turn_sum f (turns_of plans) ≡ plans_sum f plans
turns_sum f plans = rounds_sum f 0 plans (longest plans + 1) (below_more plans (longest plans) (shorter plans))
