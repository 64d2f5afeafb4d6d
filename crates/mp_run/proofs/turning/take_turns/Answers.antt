use Rattle.std.proofs.Common.{◌≡◌, ◌∷◌, ◌+◌, ◌++◌, List, map, drop, [], sym, ap, ◌∙◌, subst, arith, length}
use Rattle.std.proofs.lemmas.List.{drop_all, drop_more}
use Rattle.mp_legal.specs.Inputs.{inputs_for}
use Rattle.mp_run.specs.declared.turns.LaneTurn.{LaneTurn}
use Rattle.mp_run.specs.LaneTurns.{submit_in, turn_of, turns_submits}
use Rattle.mp_run.specs.OnTurns.{AreTurnsOf, IsOn}
use Rattle.mp_run.specs.Runner.{lane_at}
use Rattle.mp_run.specs.Turning.{AreAhead, AreNew, left_or, often, stage_by, total_of, turns_at}
use Rattle.mp_run.proofs.TurnTaking.{ahead_next, all_next, none_ahead, none_before, new_next, new_now, on_next, ready_now}
use Rattle.mp_run.proofs.turning.take_turns.Goals as goal

pub turn-requires-clause-ready : goal.turn-requires-clause-ready
turn-requires-clause-ready c off =
    let turns = c.args.turns.now in
    let k = c.loop-each.each-index in
    let t = c.each-item.result in
    let rest : List LaneTurn = drop (k + 1) turns in
    let left : drop k turns ≡ t ∷ rest = drop_more turns k t c.loop-each-test.true ∙ ap (λ (u : LaneTurn). u ∷ rest) (sym c.each-item.is) in
    let own : AreTurnsOf (length c.args.runner.now.lanes.items) (turn_of t ∷ map turn_of rest) = rw left at c.loop-each.invariant.turns in
    let ahead : AreAhead c.args.world.now.pages c.loop-each.spent (turn_of t ∷ map turn_of rest) c.loop-each.runner = rw left at c.loop-each.invariant.ahead in
    ready_now c.args.world.now.pages t.lane t.line (map turn_of rest) c.loop-each.spent c.loop-each.runner (omega (arith, own.0, c.loop-each.invariant.count)) ahead off

pub loop-each-preserved : goal.loop-each-preserved
loop-each-preserved c =
    let turns = c.args.turns.now in
    let k = c.loop-each.each-index in
    let t = c.each-item.result in
    let i = inputs_for c.args.world.now c.args.script.now in
    let a = c.loop-each.runner in
    let b = c.turn.new.runner in
    let spent = c.loop-each.spent in
    let now = c.turn.new.spent in
    let rest : List LaneTurn = drop (k + 1) turns in
    let left : drop k turns ≡ t ∷ rest = drop_more turns k t c.loop-each-test.true ∙ ap (λ (u : LaneTurn). u ∷ rest) (sym c.each-item.is) in
    let own : AreTurnsOf (length c.args.runner.now.lanes.items) (turn_of t ∷ map turn_of rest) = rw left at c.loop-each.invariant.turns in
    let ahead : AreAhead c.args.world.now.pages spent (turn_of t ∷ map turn_of rest) a = rw left at c.loop-each.invariant.ahead in
    let low = own.0 in
    let count = c.loop-each.invariant.count in
    let have = c.loop-each.invariant.tied in
    let new : AreNew (turn_of t ∷ map turn_of rest) have.0 = subst (λ (ts : List LaneTurn). AreNew (map turn_of ts) have.0) left have.2 in
    let it = c.in_ok-turn.ensures.takes have.0 have.1 (new_now t.line t.lane (map turn_of rest) have.0 new) in
    record {
      on = λ s tied fresh.
          let was = c.loop-each.invariant.on s tied fresh in
          let news : AreNew (turn_of t ∷ map turn_of rest) was.0 = subst (λ (ts : List LaneTurn). AreNew (map turn_of ts) was.0) left was.2 in
          let on : IsOn i (map turn_of turns) (turn_of t ∷ map turn_of rest) (stage_by c.args.spent.now c.args.runner.now s) (stage_by spent a was.0) =
          subst (λ (ts : List LaneTurn). IsOn i (map turn_of turns) (map turn_of ts) (stage_by c.args.spent.now c.args.runner.now s) (stage_by spent a was.0)) left was.3 in
          let step = c.in_ok-turn.ensures.takes was.0 was.1 (new_now t.line t.lane (map turn_of rest) was.0 news) in (
            step.0,
            step.1.tied,
            new_next i t.line t.lane (map turn_of rest) (left_or spent t.lane a) spent now a b was.0 step.0 step.1 news,
            on_next i (map turn_of turns) (map turn_of rest) t.lane t.line (stage_by c.args.spent.now c.args.runner.now s) spent now a b was.0 step.0 was.1.few (omega (arith, low, count)) on step.1,
          );
      tied = (it.0, it.1.tied, new_next i t.line t.lane (map turn_of rest) (left_or spent t.lane a) spent now a b have.0 it.0 it.1 new);
      turns = own.1;
      ahead = ahead_next c.args.world.now.pages t.lane t.line (map turn_of rest) _ spent now a b have.0 it.0 (omega (arith, low, count)) ahead it.1;
      count = it.1.count ∙ count;
      others = λ lane ge lt. it.1.others lane lt (λ e. absurd (omega (arith, e, ge, own.0))) ∙ c.loop-each.invariant.others lane ge lt;
      all = λ none req.
          let before = c.loop-each.invariant.all (none_before t.lane t.line _ spent now a b have.0 it.0 it.1 none) req in
          let sum : total_of req a + often req (submit_in t.line ++ turns_submits (map turn_of rest)) ≡ total_of req c.args.runner.now + often req (turns_submits (map turn_of turns)) =
          subst (λ (ts : List LaneTurn). total_of req a + often req (turns_submits (map turn_of ts)) ≡ total_of req c.args.runner.now + often req (turns_submits (map turn_of turns))) left before in
          all_next req (total_of req a) (total_of req b) (total_of req c.args.runner.now) (submit_in t.line) (turns_submits (map turn_of rest)) (turns_submits (map turn_of turns)) (it.1.all (none t.lane) req) sum;
      desk = it.1.desk ∙ c.loop-each.invariant.desk;
      drain = it.1.drain ∙ c.loop-each.invariant.drain;
    }

pub returns-clause-on : goal.returns-clause-on
returns-clause-on c s tied new =
    let none : drop c.loop-each.each-index c.args.turns.now ≡ [] = drop_all c.loop-each.each-index c.args.turns.now (omega (arith, c.loop-each-test.false)) in
    let was = c.loop-each.invariant.on s tied new in
    (was.0, was.1, subst (λ (ts : List LaneTurn). IsOn (inputs_for c.args.world.now c.args.script.now) (map turn_of c.args.turns.now) (map turn_of ts) (stage_by c.args.spent.now c.args.runner.now s) (stage_by c.loop-each.spent c.loop-each.runner was.0)) none was.3)

pub returns-clause-all : goal.returns-clause-all
returns-clause-all c none req =
    let over : drop c.loop-each.each-index c.args.turns.now ≡ [] = drop_all c.loop-each.each-index c.args.turns.now (omega (arith, c.loop-each-test.false)) in
    let sum = c.loop-each.invariant.all none req in
    let rest = ap (λ (ts : List LaneTurn). often req (turns_submits (map turn_of ts))) over in
    omega (arith, sum, rest)

pub returns-clause-over : goal.returns-clause-over
returns-clause-over c n low off =
    let over : drop c.loop-each.each-index c.args.turns.now ≡ [] = drop_all c.loop-each.each-index c.args.turns.now (omega (arith, c.loop-each-test.false)) in
    let ahead = (c.loop-each.invariant.ahead n low off).0 in
    none_ahead (lane_at n c.loop-each.runner) (sym (ap (λ (ts : List LaneTurn). turns_at n (map turn_of ts)) over) ∙ ahead)
