-- The weight of a lane.
use Rattle.std.proofs.Common.{◌≡◌, ◌≤◌, ◌+◌, ℕ, true, false, Bool, List, [], ◌∷◌, length, refl, sym, ap, arith, cond, if◌then◌else◌}
use Rattle.std.specs.Prelude.{Result, Ok, Err, IfOk, OnErr, count_by}
use Rattle.std.proofs.lemmas.List.Sums.{sum_by-cons}
use Rattle.mp_words.specs.RequestView.{RequestView}
use Rattle.mp_script.specs.declared.script.Numbered1.{Numbered1}
use Rattle.mp_core.specs.Core.{Core}
use Rattle.mp_desk.specs.declared.halt.Halt.{Halt}
use Rattle.mp_desk.specs.declared.halt.Halt.TheVariants as halt
use Rattle.mp_desk.specs.DeskView.{DeskView, unended}
use Rattle.mp_lane.specs.declared.error.LaneError.{LaneError}
use Rattle.mp_lane.specs.declared.stepped.Stepped.{Stepped}
use Rattle.mp_lane.specs.declared.wants.Wants.TheVariants as wants
use Rattle.mp_lane.specs.LaneView.{LaneView, next_submits, requeues, submits, wants_next, wants_of, weight_of}
use Rattle.mp_lane.specs.Steps.{Settles, Stops, behind, has_line}

-- how many of these lines submit
abbrev lines_weigh : List Numbered1 → ℕ
lines_weigh rest = count_by (λ l. submits l.line) rest

lines_next : (rest : List Numbered1) → lines_weigh rest ≡ next_submits rest + lines_weigh (behind rest)
lines_next [] = refl
lines_next (l ∷ rest) = sum_by-cons (λ (m : Numbered1). cond (submits m.line) 1 0) l rest

none_next : (rest : List Numbered1) → has_line rest ≡ false → next_submits rest ≡ 0
none_next [] has = refl
none_next (l ∷ rest) has = absurd cc

-- a lane that stops weighs no more
pub stops_weigh : (v w : LaneView) (a b : Core) → Stops v w a b → weight_of w ≤ weight_of v
stops_weigh v w a b h =
    let now : weight_of w ≡ lines_weigh v.rest + 0 + length w.desk.flying + length w.desk.out = ap weight_of h.lane in
    let flying : length w.desk.flying ≡ 0 = ap (λ (d : DeskView). length d.flying) h.ends.desk in
    let out : length w.desk.out ≡ length v.desk.out = ap (λ (d : DeskView). length d.out) h.ends.desk in
    omega (arith, now, flying, out)

-- and so it is where its line or its end failed
failed_weighs : (v r w : LaneView) (a b : Core) → r ≡ record v { list = []; desk = r.desk } → unended r.desk ≤ unended v.desk + length v.list → Stops r w a b → weight_of w ≤ weight_of v
failed_weighs v r w a b is fails h =
    let stopped : weight_of w ≤ weight_of r = stops_weigh r w a b h in
    let was : weight_of r ≡ lines_weigh v.rest + 0 + length r.desk.flying + length r.desk.out = ap weight_of is in
    omega (arith, stopped, was, fails)

-- a step never raises the weight
pub settles_weigh : (ran : Result Bool Halt) (result : Result Stepped LaneError) (v r w : LaneView) (a b : Core) → r ≡ record v { list = []; desk = r.desk } → unended r.desk ≤ unended v.desk + (length v.list + next_submits v.rest)
    → OnErr ran (unended r.desk ≤ unended v.desk + length v.list) → IfOk ran (λ x. x ≡ has_line v.rest) → Settles ran result r w a b → weight_of w ≤ weight_of v
settles_weigh (Ok true) result v r w a b is more fails has h =
    let now : weight_of w ≡ lines_weigh (behind r.rest) + length r.list + length r.desk.flying + length r.desk.out = ap weight_of h.1 in
    let lines : lines_weigh (behind r.rest) ≡ lines_weigh (behind v.rest) = ap (λ (z : LaneView). lines_weigh (behind z.rest)) is in
    let list : length r.list ≡ 0 = ap (λ (z : LaneView). length z.list) is in
    let next : lines_weigh v.rest ≡ next_submits v.rest + lines_weigh (behind v.rest) = lines_next v.rest in
    omega (arith, now, lines, list, next, more)
settles_weigh (Ok false) result v r w a b is more fails has h =
    let now : weight_of w ≡ lines_weigh r.rest + length r.list + length r.desk.flying + length r.desk.out = ap weight_of h.1 in
    let lines : lines_weigh r.rest ≡ lines_weigh v.rest = ap (λ (z : LaneView). lines_weigh z.rest) is in
    let list : length r.list ≡ 0 = ap (λ (z : LaneView). length z.list) is in
    let next : next_submits v.rest ≡ 0 = none_next v.rest (sym has) in
    omega (arith, now, lines, list, next, more)
settles_weigh (Err halt.Spent) result v r w a b is more fails has h = failed_weighs v r w a b is fails h.1
settles_weigh (Err halt.NoMemory) result v r w a b is more fails has h = failed_weighs v r w a b is fails h.1

-- a lane that wants the list was given none
pub none_given : (v : LaneView) → wants_of v ≡ wants.List → v.listed ≡ false
none_given v is = by_over v.over v.rest v.listed is
  where
    by_rest : (l : Numbered1) (rest : List Numbered1) (r listed : Bool) → requeues l.line ≡ r → wants_next listed (l ∷ rest) ≡ wants.List → listed ≡ false
    by_rest l rest r false so is = refl
    by_rest l rest true true so is = absurd (let h = rw so at is in cc)
    by_rest l rest false true so is = absurd (let h = rw so at is in cc)

    by_over : (over : Bool) (rest : List Numbered1) (listed : Bool) → (if over then wants.Nothing else wants_next listed rest) ≡ wants.List → listed ≡ false
    by_over true rest listed is = absurd cc
    by_over false [] listed is = absurd cc
    by_over false (l ∷ rest) listed is = by_rest l rest (requeues l.line) listed refl is

-- the list that it was given is its weight more
pub given_weighs : (v : LaneView) (list : List RequestView) → v.list ≡ [] → weight_of (record v { list = list; listed = true }) ≡ weight_of v + length list
given_weighs v list none = let zero_of : length v.list ≡ 0 = ap length none in omega (arith, zero_of)
