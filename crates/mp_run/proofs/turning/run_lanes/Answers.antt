use Rattle.std.proofs.Common.{◌≡◌, ◌+◌, ◌<◌, ℕ, List, None, replicate, Some, true, false, ap, sym, ◌∙◌, length, map, arith, subst}
use Rattle.std.specs.Prelude.{Result, Err, is_none, position}
use Rattle.mp_legal.specs.Inputs.{inputs_for}
use Rattle.mp_legal.specs.Turns.{Turn, turns_of}
use Rattle.mp_run.specs.Beginning.{first_story}
use Rattle.mp_run.specs.LaneTurns.{turn_of, turns_submits}
use Rattle.mp_run.specs.Runner.{lane_at}
use Rattle.mp_run.specs.Turning.{all_turns, often, total_of, AreAhead, AreNew}
use Rattle.mp_run.proofs.LaneOpening.{lanes_count}
use Rattle.mp_run.proofs.TurnFacts.{longest_few, turns_of_lanes, fresh_turns}
use Rattle.mp_run.proofs.TurnsTaken.{first_ahead, first_spent_is, fits_all, none_spent, on_all, takes_all}
use Rattle.mp_run.specs.declared.error.RunError.{RunError}
use Rattle.mp_run.specs.declared.error.RunError.TheVariants as error
use Rattle.mp_run.proofs.turning.run_lanes.Goals as goal

same_lane : {T : Type 0} (a b : ℕ) → ◌≡◌ {A = Result T RunError} (Err (error.Spent a)) (Err (error.Spent b)) → a ≡ b
same_lane a b is = cc

pub turns-requires-clause-few : goal.turns-requires-clause-few
turns-requires-clause-few c =
    let all = longest_few c.args.script.now.lanes 65536 c.requires.script.few_lines in
    rw c.as_slice.ensures (omega (arith, all))

pub take_turns-requires-clause-tied : goal.take_turns-requires-clause-tied
take_turns-requires-clause-tied c =
    let plans = c.args.script.now.lanes in
    let all : map turn_of c.deref.result.now ≡ turns_of plans = ap (map turn_of) c.deref.ensures.value ∙ c.in_ok-turns.ensures.exact ∙ ap turns_of c.as_slice.ensures in
    (first_story, c.requires.tied, subst (λ (ts : List Turn). AreNew ts first_story) (sym all) (fresh_turns plans c.requires.script.distinct))

pub take_turns-requires-clause-turns : goal.take_turns-requires-clause-turns
take_turns-requires-clause-turns c =
    let plans = c.args.script.now.lanes in
    let all : map turn_of c.deref.result.now ≡ turns_of plans = ap (map turn_of) c.deref.ensures.value ∙ c.in_ok-turns.ensures.exact ∙ ap turns_of c.as_slice.ensures in
    let count : length c.args.runner.now.lanes.items ≡ length plans = ap length c.requires.lanes ∙ lanes_count plans in
    rw (count, all) (turns_of_lanes plans)

pub take_turns-requires-clause-ahead : goal.take_turns-requires-clause-ahead
take_turns-requires-clause-ahead c =
    let plans = c.args.script.now.lanes in
    let pages = c.args.world.now.pages in
    let all : map turn_of c.deref.result.now ≡ turns_of plans = ap (map turn_of) c.deref.ensures.value ∙ c.in_ok-turns.ensures.exact ∙ ap turns_of c.as_slice.ensures in
    subst (λ (ts : List Turn). AreAhead pages (replicate 16 false) ts c.args.runner.now) (sym all) (first_ahead pages (replicate 16 false) plans c.args.runner.now (fits_all pages c.requires.world.pages) c.requires.lanes)

pub returns-in-Some-clause-spent : goal.returns-in-Some-clause-spent
returns-in-Some-clause-spent c lane is =
    let plans = c.args.script.now.lanes in
    let i = inputs_for c.args.world.now c.args.script.now in
    let all : map turn_of c.deref.result.now ≡ turns_of plans = ap (map turn_of) c.deref.ensures.value ∙ c.in_ok-turns.ensures.exact ∙ ap turns_of c.as_slice.ensures in
    let it = on_all i plans (map turn_of c.deref.result.now) c.args.runner.now c.take_turns.new.runner c.take_turns.new.spent all (fresh_turns plans c.requires.script.distinct) (c.in_ok-take_turns.ensures.on first_story c.requires.tied) in
    first_spent_is i plans c.args.runner.now c.take_turns.new.runner c.take_turns.new.spent it.0 c.take_turns.array_long c.in_ok-take_turns.ensures.count it.2 c.in_ok-take_turns.ensures.others
    ∙ sym c.first_spent.ensures ∙ c.in-Some.is ∙ ap (λ n. Some n) (same_lane c.in-Some.lane lane is)

pub returns-clause-takes : goal.returns-clause-takes
returns-clause-takes c =
    let plans = c.args.script.now.lanes in
    let i = inputs_for c.args.world.now c.args.script.now in
    let all : map turn_of c.deref.result.now ≡ turns_of plans = ap (map turn_of) c.deref.ensures.value ∙ c.in_ok-turns.ensures.exact ∙ ap turns_of c.as_slice.ensures in
    let it = on_all i plans (map turn_of c.deref.result.now) c.args.runner.now c.take_turns.new.runner c.take_turns.new.spent all (fresh_turns plans c.requires.script.distinct) (c.in_ok-take_turns.ensures.on first_story c.requires.tied) in
    let first = first_spent_is i plans c.args.runner.now c.take_turns.new.runner c.take_turns.new.spent it.0 c.take_turns.array_long c.in_ok-take_turns.ensures.count it.2 c.in_ok-take_turns.ensures.others in
    let over : (n : ℕ) → n < length c.take_turns.new.runner.lanes.items → position is_none (all_turns i plans c.args.runner.now).lefts ≡ None → (lane_at n c.take_turns.new.runner).over ≡ true =
    λ n low none. c.in_ok-take_turns.ensures.over n low (none_spent c.take_turns.new.spent (sym first ∙ none) n) in
    let lost : (req : ℕ) → position is_none (all_turns i plans c.args.runner.now).lefts ≡ None → total_of req c.take_turns.new.runner ≡ total_of req c.args.runner.now + often req (turns_submits (turns_of plans)) =
    λ req none. c.in_ok-take_turns.ensures.all (none_spent c.take_turns.new.spent (sym first ∙ none)) req ∙ ap (λ (ts : List Turn). total_of req c.args.runner.now + often req (turns_submits ts)) all in
    (it.0, takes_all i plans c.args.runner.now c.take_turns.new.runner c.take_turns.new.spent it.0 c.requires.lanes c.in_ok-take_turns.ensures.count it.1 it.2 c.in_ok-take_turns.ensures.desk over lost c.in_ok-take_turns.ensures.drain)

pub returns-clause-enough : goal.returns-clause-enough
returns-clause-enough c =
    let plans = c.args.script.now.lanes in
    let i = inputs_for c.args.world.now c.args.script.now in
    let all : map turn_of c.deref.result.now ≡ turns_of plans = ap (map turn_of) c.deref.ensures.value ∙ c.in_ok-turns.ensures.exact ∙ ap turns_of c.as_slice.ensures in
    let it = on_all i plans (map turn_of c.deref.result.now) c.args.runner.now c.take_turns.new.runner c.take_turns.new.spent all (fresh_turns plans c.requires.script.distinct) (c.in_ok-take_turns.ensures.on first_story c.requires.tied) in
    first_spent_is i plans c.args.runner.now c.take_turns.new.runner c.take_turns.new.spent it.0 c.take_turns.array_long c.in_ok-take_turns.ensures.count it.2 c.in_ok-take_turns.ensures.others
    ∙ sym c.first_spent.ensures ∙ c.in-None.is
