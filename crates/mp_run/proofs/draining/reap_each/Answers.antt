use Rattle.std.proofs.Common.{◌-◌, ◌+◌, length, arith}
use Rattle.mp_run.specs.Draining.{drain_means, drain_stand}
use Rattle.mp_run.proofs.DrainReaps.{reaps_err, reaps_last, reaps_next}
use Rattle.mp_run.proofs.draining.reap_each.Goals as goal

pub returns-in-Err-clause-reaps : goal.returns-in-Err-clause-reaps
returns-in-Err-clause-reaps c near answers =
    let all = length c.args.keeper.now.removals in
    reaps_err c.reap.result (Unit {0}) c.in-Err.halt (drain_means near answers) all (all - c.loop.counter) (all - (c.loop.counter + 1)) (drain_stand c.args.plain.now c.args.desk.now c.args.keeper.now) (drain_stand c.loop.plain c.loop.desk c.loop.keeper)
    (drain_stand c.reap.new.steps c.reap.new.self c.reap.new.keeper) (c.loop.invariant.done near answers) (omega (arith, c.loop-test.true, c.removals-end.ensures)) c.in-Err.is (c.reap.ensures.does near answers)

pub loop-preserved : goal.loop-preserved
loop-preserved c = record {
  sits = c.reap.ensures.leaves.sits;
  stands = c.reap.ensures.leaves.stands;
  done = λ near answers.
      let all = length c.args.keeper.now.removals in
      reaps_next c.reap.result c.in-Ok.field-0 (drain_means near answers) all (all - c.loop.counter) (all - (c.loop.counter + 1)) (drain_stand c.args.plain.now c.args.desk.now c.args.keeper.now) (drain_stand c.loop.plain c.loop.desk c.loop.keeper)
      (drain_stand c.reap.new.steps c.reap.new.self c.reap.new.keeper) (c.loop.invariant.done near answers) (omega (arith, c.loop-test.true, c.removals-end.ensures)) c.in-Ok.is (c.reap.ensures.does near answers);
}

pub returns-clause-reaps : goal.returns-clause-reaps
returns-clause-reaps c near answers =
    let all = length c.args.keeper.now.removals in
    reaps_last (drain_means near answers) all (all - c.loop.counter) (drain_stand c.args.plain.now c.args.desk.now c.args.keeper.now) (drain_stand c.loop.plain c.loop.desk c.loop.keeper) (c.loop.invariant.done near answers)
    (omega (arith, c.loop-test.false, c.loop.auto.counter-end, c.removals-end.ensures))
