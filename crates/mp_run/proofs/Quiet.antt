-- Each lane's last turn is its end.
use Rattle.std.proofs.Common.{[], ◌≡◌, ℕ, zero, suc, ◌+◌, ◌<◌, Bool, true, false, not, ◌==◌, cond, List, ◌∷◌, ◌++◌, inl, inr, length, Option, Some, None, refl, sym, ap, ◌∙◌, eq-eqb, arith}
use Rattle.std.specs.Prelude.{is_some, slice_get}
use Rattle.std.specs.List.{enumerate_from, range_with_len, flat_map, AllByRecursion}
use Rattle.std.proofs.lemmas.Bool.{cases_Bool, eqb-true}
use Rattle.std.proofs.lemmas.Bool.Decides.{nat_tests}
use Rattle.mp_script.specs.declared.script.LanePlan.{LanePlan}
use Rattle.mp_script.specs.declared.script.Numbered1.{Numbered1}
use Rattle.mp_legal.specs.Turns.{Turn, turn_in, line_turn, longest, turns_of}
use Rattle.mp_run.specs.Quiet.{closes}
use Rattle.mp_run.proofs.TurnFacts.{lane_turn, range_shift, flat_same, flat_nothing, next_turn, over_turn, first_turn, below_more, shorter}

closes-append : (l : ℕ) (q : Bool) (xs ys : List Turn) → closes l q (xs ++ ys) ≡ closes l (closes l q xs) ys
closes-append l q [] ys = refl
closes-append l q (t ∷ xs) ys = closes-append l (cond (t.lane == l) (not (is_some t.line)) q) xs ys

foreign_line : (l lane : ℕ) (q : Bool) (o : Option Numbered1) → (lane == l) ≡ false → closes l q (line_turn lane o) ≡ q
foreign_line l lane q None other = refl
foreign_line l lane q (Some n) other = rw other refl

foreign_turn : (l lane round : ℕ) (q : Bool) (plan : LanePlan) → (lane == l) ≡ false → closes l q (turn_in round (lane, plan)) ≡ q
foreign_turn l lane round q plan other =
    elim (cases_Bool (round == length plan.lines)) [
      | inl on ↦ rw (on, other) refl
      | inr off ↦ rw off (foreign_line l lane q (slice_get plan.lines round) other)
    ]

below : (l k : ℕ) → l < k → (k == l) ≡ false
below l k lt = grind (arith, nat_tests)

foreign_round : (l round k : ℕ) (q : Bool) (plans : List LanePlan) → l < k → closes l q (flat_map (turn_in round) (enumerate_from k plans)) ≡ q
foreign_round l round k q [] lt = refl
foreign_round l round k q (p ∷ plans) lt =
    closes-append l q (turn_in round (k, p)) (flat_map (turn_in round) (enumerate_from (k + 1) plans))
    ∙ ap (λ b. closes l b (flat_map (turn_in round) (enumerate_from (k + 1) plans))) (foreign_turn l k round q p (below l k lt))
    ∙ foreign_round l round (k + 1) q plans (omega arith)

without_right : (l : ℕ) (q : Bool) (f g : ℕ → List Turn) (rs : List ℕ) → ((r : ℕ) (b : Bool) → closes l b (g r) ≡ b) → closes l q (flat_map (λ r. f r ++ g r) rs) ≡ closes l q (flat_map f rs)
without_right l q f g [] none = refl
without_right l q f g (r ∷ rs) none =
    closes-append l q (f r ++ g r) (flat_map (λ n. f n ++ g n) rs)
    ∙ ap (λ b. closes l b (flat_map (λ n. f n ++ g n) rs)) (closes-append l q (f r) (g r) ∙ none r (closes l q (f r)))
    ∙ without_right l (closes l q (f r)) f g rs none
    ∙ sym (closes-append l q (f r) (flat_map f rs))

without_left : (l : ℕ) (q : Bool) (f g : ℕ → List Turn) (rs : List ℕ) → ((r : ℕ) (b : Bool) → closes l b (f r) ≡ b) → closes l q (flat_map (λ r. f r ++ g r) rs) ≡ closes l q (flat_map g rs)
without_left l q f g [] none = refl
without_left l q f g (r ∷ rs) none =
    closes-append l q (f r ++ g r) (flat_map (λ n. f n ++ g n) rs)
    ∙ ap (λ b. closes l b (flat_map (λ n. f n ++ g n) rs)) (closes-append l q (f r) (g r) ∙ ap (λ b. closes l b (g r)) (none r q))
    ∙ without_left l (closes l q (g r)) f g rs none
    ∙ sym (closes-append l q (g r) (flat_map g rs))

lane_closes : (l : ℕ) (q keeper : Bool) (lines : List Numbered1) (m : ℕ) → length lines < m → closes l q (flat_map (lane_turn l keeper lines) (range_with_len 0 m)) ≡ true
lane_closes l q keeper lines zero lt = absurd (omega arith)
lane_closes l q keeper [] (suc m) lt =
    let none : flat_map (lane_turn l keeper []) (range_with_len (0 + 1) m) ≡ [] =
    range_shift (lane_turn l keeper []) 0 m ∙ flat_nothing (λ r. lane_turn l keeper [] (r + 1)) (range_with_len 0 m) (over_turn l keeper) in
    ap (λ (ts : List Turn). closes l q (record { lane = l; line = None } ∷ ts)) none ∙ rw (eq-eqb l l refl) refl
lane_closes l q keeper (n ∷ lines) (suc m) lt =
    let rest : flat_map (lane_turn l keeper (n ∷ lines)) (range_with_len (0 + 1) m) ≡ flat_map (lane_turn l keeper lines) (range_with_len 0 m) =
    range_shift (lane_turn l keeper (n ∷ lines)) 0 m ∙ flat_same (λ r. lane_turn l keeper (n ∷ lines) (r + 1)) (lane_turn l keeper lines) (range_with_len 0 m) (next_turn l keeper n lines) in
    ap (λ (ts : List Turn). closes l q (ts ++ flat_map (lane_turn l keeper (n ∷ lines)) (range_with_len (0 + 1) m))) (first_turn l keeper n lines)
    ∙ ap (λ (ts : List Turn). closes l q (record { lane = l; line = Some n } ∷ ts)) rest
    ∙ lane_closes l (cond (l == l) false q) keeper lines m (omega arith)

rounds_close : (l k : ℕ) (q : Bool) (plans : List LanePlan) (m : ℕ) → AllByRecursion (λ plan. length plan.lines < m) plans → q ≡ true
    → closes l q (flat_map (λ r. flat_map (turn_in r) (enumerate_from k plans)) (range_with_len 0 m)) ≡ true
rounds_close l k q [] m all is = ap (closes l q) (flat_nothing (λ r. []) (range_with_len 0 m) (λ r. refl)) ∙ is
rounds_close l k q (p ∷ plans) m all is =
    elim (cases_Bool (k == l)) [
      | inl on ↦ let here : k ≡ l = eqb-true k l on in
          without_right l q (λ r. turn_in r (k, p)) (λ r. flat_map (turn_in r) (enumerate_from (k + 1) plans)) (range_with_len 0 m) (λ r b. foreign_round l r (k + 1) b plans (omega arith))
          ∙ ap (λ n. closes l q (flat_map (lane_turn n p.keeper p.lines) (range_with_len 0 m))) here ∙ lane_closes l q p.keeper p.lines m all.0
      | inr off ↦ without_left l q (λ r. turn_in r (k, p)) (λ r. flat_map (turn_in r) (enumerate_from (k + 1) plans)) (range_with_len 0 m) (λ r b. foreign_turn l k r b p off)
          ∙ rounds_close l (k + 1) q plans m all.1 is
    ]

pub turns_close : (plans : List LanePlan) (l : ℕ) → closes l true (turns_of plans) ≡ true
turns_close plans l = rounds_close l 0 true plans (longest plans + 1) (below_more plans (longest plans) (shorter plans)) refl
