-- A run is within its bound.
use Rattle.std.proofs.Common.{[], ◌≡◌, ℕ, zero, suc, ◌+◌, ◌*◌, ◌≤◌, Bool, true, false, cond, List, ◌∷◌, ◌++◌, map, length, Some, refl, sym, ap, ◌∙◌, subst, arith, if◌then◌else◌}
use Rattle.std.specs.Prelude.{Ok}
use Rattle.std.proofs.lemmas.Bool.{both_ways}
use Rattle.std.specs.List.{flat_map, list_any, count_by, AllByRecursion, range_with_len}
use Rattle.std.proofs.Math.Nat.{suc-mul}
use Rattle.std.proofs.lemmas.List.{length-append, length-map}
use Rattle.std.proofs.lemmas.List.Sums.{sum_by-cons, sum_by-append, length-filter, count_by-le-length}
use Rattle.mp_words.specs.declared.answers.Answer.{Answer}
use Rattle.mp_topology.specs.declared.topology.Topology.{Topology}
use Rattle.mp_script.specs.declared.script.Line.{Line}
use Rattle.mp_script.specs.declared.script.Line.TheVariants as line
use Rattle.mp_script.specs.declared.script.Numbered1.{Numbered1}
use Rattle.mp_script.specs.declared.script.LanePlan.{LanePlan}
use Rattle.mp_script.specs.declared.script.Script.{Script}
use Rattle.mp_script.specs.Distinct.{IsDistinct}
use Rattle.mp_script.specs.Facts.{IsScript, submit_of, submits_of, submits_in}
use Rattle.mp_script.specs.declared.script.World.{World}
use Rattle.mp_policy.specs.Choices.{has_usable}
use Rattle.mp_record.specs.RunView.{RunView}
use Rattle.mp_legal.specs.Inputs.{inputs_for}
use Rattle.mp_script.specs.Written.{answer_words, line_words, plan_lines, script_lines}
use Rattle.mp_status.specs.Disposition.{is_path_related}
use Rattle.mp_legal.specs.Enough.{units_used, lists, listings}
use Rattle.mp_legal.specs.Opening.{opening}
use Rattle.mp_legal.specs.PlainState.{State, paths_of}
use Rattle.mp_legal.specs.PlainCall.{Inputs, Call, submit, finish, change, add, remove, set_policy, reap}
use Rattle.mp_legal.specs.PlainRun.{taken, state_after, plain_run, run_over}
use Rattle.mp_legal.specs.RunCalls.{Called, turns_calls, drain_calls, run_calls}
use Rattle.mp_legal.specs.Stepped.{Stepped}
use Rattle.mp_legal.specs.Turns.{Turn, longest, turns_of}
use Rattle.mp_legal.specs.Units.{needs, uses, serial_run, serial_over}
use Rattle.mp_legal.specs.Unnamed.{lines_in, stays_usable}
use Rattle.mp_run.specs.Bound.{is_requeue, requeues, path_answers, most_listings, units_bound, lines_bound}
use Rattle.mp_run.proofs.Coming.{left}
use Rattle.mp_run.proofs.ComingBack.{of_paths}
use Rattle.mp_run.proofs.Costs.{price_of, prices, listed_in, prices-append, listed-append, line_free, line_begun, drain_costs}
use Rattle.mp_run.proofs.LastRounds.{left_few}
use Rattle.mp_run.proofs.Listings.{NoneChosen, line_lists, line_news, turns_costs, turns_listed, turns_requests, drain_lists}
use Rattle.mp_run.proofs.PaidRun.{AreOfLanes, rounds_of_lanes}
use Rattle.mp_run.proofs.SerialRun.{serial_over_is, run_over_is}
use Rattle.mp_run.proofs.TrailsCalls.{Holds}
use Rattle.mp_run.proofs.TrailsRun.{opening_holds, turns_leave, events_by}
use Rattle.mp_run.proofs.TurnFacts.{fresh_turns}
use Rattle.mp_run.proofs.TurnSums.{lines_sum, plans_sum, turns_sum}

-- ---- units and prices

use_price : (c : Call) (step : Stepped) → uses c step ≤ needs c → uses c step ≤ price_of c step
use_price (submit req) step le = omega (arith, le)
use_price (finish f) step le = omega arith
use_price (change ctrl o) step le = omega (arith, le)
use_price (add gift) step le = omega (arith, le)
use_price (remove ctrl) step le = omega (arith, le)
use_price (set_policy policy) step le = omega (arith, le)
use_price reap step le = omega (arith, le)

used_prices : (cs : List Called) → AllByRecursion (λ c. uses c.done c.step ≤ needs c.done) cs
    → units_used cs ≤ prices cs
used_prices [] all = omega arith
used_prices (c ∷ cs) all =
    let whole = sum_by-cons (λ (x : Called). uses x.done x.step) c cs in
    let one = use_price c.done c.step all.0 in
    let rest = used_prices cs all.1 in
    omega (arith, whole, one, rest)

-- ---- sums over lines

news_lines : (lines : List Numbered1) → lines_sum line_news lines ≡ length (submits_of lines)
news_lines [] = refl
news_lines (l ∷ lines) = let rest = news_lines lines in let whole = length-append (submit_of l.line) (submits_of lines)
    in omega (arith, rest, whole)

news_plans : (plans : List LanePlan) → plans_sum line_news plans ≡ length (submits_in plans)
news_plans [] = refl
news_plans (p ∷ plans) =
    let rest = news_plans plans in
    let own = news_lines p.lines in
    let whole = length-append (submits_of p.lines) (submits_in plans) in
    omega (arith, rest, own, whole)

-- how many of these lines take the list
abbrev takes : List Numbered1 → ℕ
takes lines = count_by (λ l. is_requeue l.line) lines

lists_line : (most n : ℕ) (l : Line)
    → line_lists most (Some (record { number = n; line = l })) ≡ length (submit_of l) + cond (is_requeue l) most 0
lists_line most n (line.Submit req node) = refl
lists_line most n (line.Finish req) = refl
lists_line most n line.FinishAll = refl
lists_line most n line.Requeue = omega arith
lists_line most n (line.Log ctrl box) = refl
lists_line most n (line.Ctrl ctrl to) = refl
lists_line most n (line.Anatt ctrl) = refl
lists_line most n (line.Add ctrl box) = refl
lists_line most n (line.Remove ctrl) = refl
lists_line most n line.Reap = refl
lists_line most n (line.Policy policy) = refl

lists_lines : (most : ℕ) (lines : List Numbered1)
    → lines_sum (line_lists most) lines ≡ length (submits_of lines) + takes lines * most
lists_lines most [] = omega arith
lists_lines most (l ∷ lines) =
    by (is_requeue l.line) (lists_line most l.number l.line)
    (sum_by-cons (λ (x : Numbered1). cond (is_requeue x.line) 1 0) l lines) (lists_lines most lines)
  where
    by : (b : Bool) → line_lists most (Some l) ≡ length (submit_of l.line) + cond b most 0
        → takes (l ∷ lines) ≡ cond b 1 0 + takes lines
        → lines_sum (line_lists most) lines ≡ length (submits_of lines) + takes lines * most
        → line_lists most (Some l) + lines_sum (line_lists most) lines ≡ length (submit_of l.line ++ submits_of lines) + takes (l ∷ lines) * most
    by true one count rest =
        let more : takes (l ∷ lines) * most ≡ takes lines * most + most =
        ap (λ n. n * most) (count ∙ next (takes lines)) ∙ suc-mul (takes lines) most in
        let whole = length-append (submit_of l.line) (submits_of lines) in
        omega (arith, one, rest, more, whole)
      where
        next : (n : ℕ) → 1 + n ≡ suc n
        next n = omega arith
    by false one count rest =
        let more : takes (l ∷ lines) * most ≡ takes lines * most = ap (λ n. n * most) (count ∙ none (takes lines)) in
        let whole = length-append (submit_of l.line) (submits_of lines) in
        omega (arith, one, rest, more, whole)
      where
        none : (n : ℕ) → 0 + n ≡ n
        none n = omega arith

add_mul : (a b r : ℕ) → (a + b) * r ≡ a * r + b * r
add_mul zero b r = ap (λ n. n * r) (none b) ∙ sym (none (b * r)) ∙ ap (λ n. n + b * r) (nought r)
  where
    none : (n : ℕ) → 0 + n ≡ n
    none n = omega arith

    nought : (n : ℕ) → 0 ≡ 0 * n
    nought n = omega arith
add_mul (suc a) b r =
    let rest = add_mul a b r in
    let one = suc-mul a r in
    let two : (suc a + b) * r ≡ (a + b) * r + r = ap (λ n. n * r) (next a b) ∙ suc-mul (a + b) r in
    omega (arith, rest, one, two)
  where
    next : (a b : ℕ) → suc a + b ≡ suc (a + b)
    next a b = omega arith

lists_plans : (most : ℕ) (plans : List LanePlan)
    → plans_sum (line_lists most) plans ≡ length (submits_in plans) + requeues plans * most
lists_plans most [] = omega arith
lists_plans most (p ∷ plans) =
    let rest = lists_plans most plans in
    let own = lists_lines most p.lines in
    let whole = length-append (submits_of p.lines) (submits_in plans) in
    let count : requeues (p ∷ plans) ≡ takes p.lines + requeues plans =
    sum_by-append (λ (x : Numbered1). cond (is_requeue x.line) 1 0) p.lines (lines_in plans) in
    let more : requeues (p ∷ plans) * most ≡ takes p.lines * most + requeues plans * most =
    ap (λ n. n * most) count ∙ add_mul (takes p.lines) (requeues plans) most in
    omega (arith, rest, own, whole, more)

free_line : (n : ℕ) (l : Line)
    → line_free (Some (record { number = n; line = l })) + 16 * line_begun (Some (record { number = n; line = l })) ≤ length (submit_of l) + 17
free_line n (line.Submit req node) = omega arith
free_line n (line.Finish req) = omega arith
free_line n line.FinishAll = omega arith
free_line n line.Requeue = omega arith
free_line n (line.Log ctrl box) = omega arith
free_line n (line.Ctrl ctrl to) = omega arith
free_line n (line.Anatt ctrl) = omega arith
free_line n (line.Add ctrl box) = omega arith
free_line n (line.Remove ctrl) = omega arith
free_line n line.Reap = omega arith
free_line n (line.Policy policy) = omega arith

free_lines : (lines : List Numbered1)
    → lines_sum line_free lines + 16 * lines_sum line_begun lines ≤ length (submits_of lines) + 17 * length lines
free_lines [] = omega arith
free_lines (l ∷ lines) =
    let one = free_line l.number l.line in
    let rest = free_lines lines in
    let whole = length-append (submit_of l.line) (submits_of lines) in
    omega (arith, one, rest, whole)

free_plans : (plans : List LanePlan)
    → plans_sum line_free plans + 16 * plans_sum line_begun plans ≤ length (submits_in plans) + 17 * length (lines_in plans)
free_plans [] = omega arith
free_plans (p ∷ plans) =
    let own = free_lines p.lines in
    let rest = free_plans plans in
    let whole = length-append (submits_of p.lines) (submits_in plans) in
    let count = length-append p.lines (lines_in plans) in
    omega (arith, own, rest, whole, count)

-- ---- the run

abbrev turns_end : Inputs → List LanePlan → State
turns_end i plans = state_after (opening i) (taken i (opening i) (turns_of plans))

turns_hold : (i : Inputs) (plans : List LanePlan) → length plans ≤ 16 → IsDistinct (submits_in plans)
    → Holds i.answers (turns_end i plans) [] (events_by (taken i (opening i) (turns_of plans)))
turns_hold i plans few distinct =
    turns_leave i (opening i) (turns_of plans)
    (rounds_of_lanes 17 plans (range_with_len 0 (longest plans + 1)) (omega (arith, few))) (λ r e. refl)
    (fresh_turns plans distinct) [] (opening_holds i)

-- what a run lists: each request at its submit, at each line that takes the list, and twice in the drain
pub run_listed : (law : NoneChosen) (i : Inputs) (plans : List LanePlan) → length plans ≤ 16
    → IsDistinct (submits_in plans) → listed_in (run_calls i plans) ≤ (requeues plans + 3) * length (submits_in plans)
run_listed law i plans few distinct =
    let ts : List Turn = turns_of plans in
    let r : ℕ = length (submits_in plans) in
    let of : AreOfLanes 17 ts = rounds_of_lanes 17 plans (range_with_len 0 (longest plans + 1)) (omega (arith, few)) in
    let new = turns_sum line_news plans ∙ news_plans plans in
    let turns =
    turns_listed i (opening i) ts [] r of (λ q e. refl) (fresh_turns plans distinct) (opening_holds i)
    (omega (arith, new)) in
    let all = turns_sum (line_lists r) plans ∙ lists_plans r plans in
    let count = turns_requests i (opening i) ts [] of (λ q e. refl) (fresh_turns plans distinct) (opening_holds i) in
    let drain =
    drain_lists law i (turns_end i plans) (events_by (taken i (opening i) ts)) r (turns_hold i plans few distinct)
    (omega (arith, count, new)) in
    let both = listed-append (turns_calls i (opening i) ts) (drain_calls i (turns_end i plans)) in
    let whole = add_mul (requeues plans) 3 r in
    omega (arith, turns, all, drain, both, whole)

-- the units of a run, by what it lists
pub run_units : (i : Inputs) (plans : List LanePlan) → length plans ≤ 16 → IsDistinct (submits_in plans)
    → AllByRecursion (λ c. uses c.done c.step ≤ needs c.done) (run_calls i plans)
    → units_used (run_calls i plans) ≤ length (submits_in plans) + 2 * path_answers i.answers + 17 * length (lines_in plans) + listed_in (run_calls i plans)
run_units i plans few distinct uses =
    let ts : List Turn = turns_of plans in
    let of : AreOfLanes 17 ts = rounds_of_lanes 17 plans (range_with_len 0 (longest plans + 1)) (omega (arith, few)) in
    let here : List Called = turns_calls i (opening i) ts in
    let later : List Called = drain_calls i (turns_end i plans) in
    let turns = turns_costs i (opening i) ts [] of (λ q e. refl) (fresh_turns plans distinct) (opening_holds i) in
    let drain =
    drain_costs i (turns_end i plans) (events_by (taken i (opening i) ts)) (turns_hold i plans few distinct) in
    let free = turns_sum line_free plans in
    let begun = turns_sum line_begun plans in
    let most = free_plans plans in
    let first : left (of_paths i.answers) [] ≤ path_answers i.answers = let fewest = left_few (of_paths i.answers) [] in
    let count = length-filter (λ (a : Answer). is_path_related a.status) i.answers in omega (arith, fewest, count) in
    let paid = used_prices (here ++ later) uses in
    let price = prices-append here later in
    let listed = listed-append here later in
    omega (arith, turns.cost, turns.removals, drain, free, begun, most, first, paid, price, listed)

-- the lines of the canonical text
plans_text : (t : Topology) (plans : List LanePlan) → length (lines_in plans) ≤ length (flat_map (plan_lines t) plans)
plans_text t [] = omega arith
plans_text t (p ∷ plans) =
    let rest = plans_text t plans in
    let count = length-append p.lines (lines_in plans) in
    let whole = length-append (plan_lines t p) (flat_map (plan_lines t) plans) in
    let own = length-map p.lines (λ (n : Numbered1). line_words t n.line) in
    omega (arith, rest, count, whole, own)

paths_within : (answers : List Answer) → path_answers answers ≤ length answers
paths_within answers = count_by-le-length (λ (a : Answer). is_path_related a.status) answers

pub text_lines : (t : Topology) (script : Script)
    → path_answers script.answers + length (lines_in script.lanes) ≤ length (script_lines t script)
text_lines t script =
    let plans = plans_text t script.lanes in
    let whole = length-append (map answer_words script.answers) (flat_map (plan_lines t) script.lanes) in
    let own = length-map script.answers answer_words in
    let within = paths_within script.answers in
    omega (arith, plans, whole, own, within)

-- what is listed, counted the other way
pub listings_in : (cs : List Called) → listings cs ≡ listed_in cs
listings_in [] = refl
listings_in (c ∷ cs) = let whole = sum_by-cons (λ (x : Called). cond (lists x) 1 0) c cs in let rest = listings_in cs in
    omega (arith, whole, rest)

-- where a path is usable before each call, nothing is listed
none_listed : (cs : List Called) → AllByRecursion (λ c. lists c ≡ true → has_usable (paths_of c.before) ≡ false) cs
    → AllByRecursion (λ c. has_usable (paths_of c.before) ≡ true) cs → listed_in cs ≡ 0
none_listed [] never usable = refl
none_listed (c ∷ cs) never usable =
    let here : lists c ≡ false =
    not_on (lists c) (λ e. both_ways (has_usable (paths_of c.before)) (never.0 e) usable.0) in
    ap (λ b. cond b 1 0 + listed_in cs) here ∙ ap (λ n. 0 + n) (none_listed cs never.1 usable.1)
  where
    not_on : (b : Bool) → (b ≡ true → ⊥) → b ≡ false
    not_on true no_way = absurd (no_way refl)
    not_on false no_way = refl

listed_within : (law : NoneChosen) (world : World) (script : Script) → IsScript script
    → AllByRecursion (λ c. lists c ≡ true → has_usable (paths_of c.before) ≡ false) (run_calls (inputs_for world script) script.lanes)
    → (list_any (stays_usable world.topology script.lanes) world.topology.opening ≡ true → AllByRecursion (λ c. has_usable (paths_of c.before) ≡ true) (run_calls (inputs_for world script) script.lanes))
    → listed_in (run_calls (inputs_for world script) script.lanes) ≤ most_listings world script
listed_within law world script is never usable =
    by (list_any (stays_usable world.topology script.lanes) world.topology.opening) refl
  where
    cs : List Called
    cs = run_calls (inputs_for world script) script.lanes

    none : (n : ℕ) → n ≡ 0 → n ≤ 0
    none n e = omega arith

    by : (b : Bool) → list_any (stays_usable world.topology script.lanes) world.topology.opening ≡ b
        → listed_in (run_calls (inputs_for world script) script.lanes) ≤ (if b then 0 else (requeues script.lanes + 3) * length (submits_in script.lanes))
    by true e = none (listed_in cs) (none_listed cs never (usable e))
    by false e = run_listed law (inputs_for world script) script.lanes is.few_lanes is.distinct

pub run_within : (law : NoneChosen) (allowance : ℕ) (world : World) (script : Script) → IsScript script
    → AllByRecursion (λ c. uses c.done c.step ≤ needs c.done) (run_calls (inputs_for world script) script.lanes)
    → AllByRecursion (λ c. lists c ≡ true → has_usable (paths_of c.before) ≡ false) (run_calls (inputs_for world script) script.lanes)
    → (list_any (stays_usable world.topology script.lanes) world.topology.opening ≡ true → AllByRecursion (λ c. has_usable (paths_of c.before) ≡ true) (run_calls (inputs_for world script) script.lanes))
    → (units_used (run_calls (inputs_for world script) script.lanes) + 16 ≤ allowance → serial_run allowance (inputs_for world script) script.lanes ≡ Ok (plain_run (inputs_for world script) script.lanes))
    → units_bound world script ≤ allowance → serial_over allowance world script ≡ Ok (run_over world script)
run_within law allowance world script is few never usable enough within =
    let units = run_units (inputs_for world script) script.lanes is.few_lanes is.distinct few in
    let listed = listed_within law world script is never usable in
    let text = text_lines world.topology script in
    serial_over_is allowance world script ∙ enough (omega (arith, units, listed, text, within)) ∙ ap
    (λ (run : RunView). Ok run) (sym (run_over_is world script))

pub run_within_lines : (law : NoneChosen) (allowance : ℕ) (i : Inputs) (lanes : List LanePlan) → length lanes ≤ 16
    → IsDistinct (submits_in lanes) → AllByRecursion (λ c. uses c.done c.step ≤ needs c.done) (run_calls i lanes)
    → (units_used (run_calls i lanes) + 16 ≤ allowance → serial_run allowance i lanes ≡ Ok (plain_run i lanes))
    → lines_bound i lanes ≤ allowance → serial_run allowance i lanes ≡ Ok (plain_run i lanes)
run_within_lines law allowance i lanes few distinct uses enough within =
    let units = run_units i lanes few distinct uses in
    let listed = run_listed law i lanes few distinct in
    let paths = paths_within i.answers in
    enough (omega (arith, units, listed, paths, within))

pub run_listings : (law : NoneChosen) (i : Inputs) (lanes : List LanePlan) → length lanes ≤ 16
    → IsDistinct (submits_in lanes) → listings (run_calls i lanes) ≤ (requeues lanes + 3) * length (submits_in lanes)
run_listings law i lanes few distinct =
    subst (λ n. n ≤ (requeues lanes + 3) * length (submits_in lanes)) (sym (listings_in (run_calls i lanes)))
    (run_listed law i lanes few distinct)
