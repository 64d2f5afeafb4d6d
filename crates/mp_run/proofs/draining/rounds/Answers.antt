use Rattle.std.proofs.Common.{◌-◌, ◌+◌, arith}
use Rattle.mp_run.specs.Draining.{drain_means, drain_stand}
use Rattle.mp_run.proofs.DrainSends.{rounds_err, rounds_last, rounds_next, rounds_over}
use Rattle.mp_run.proofs.draining.rounds.Goals as goal

pub returns-then-not-sent : goal.returns-then-not-sent
returns-then-not-sent c = record {
  rounds = λ k.
      rounds_over (drain_means c.args.near.now c.args.answers.now) c.args.most (c.args.most - c.loop.counter) c.args.first c.loop.sent c.args.list.now c.loop.list (drain_stand c.args.plain.now c.args.desk.now k) (drain_stand c.loop.plain c.loop.desk k)
      (c.loop.invariant.done k) c.if-not-sent.true;
}

pub returns-in-Err : goal.returns-in-Err
returns-in-Err c = record {
  rounds = λ k.
      rounds_err (Unit {0}) c.round.result c.in-Err.halt (drain_means c.args.near.now c.args.answers.now) c.args.most (c.args.most - c.loop.counter) (c.args.most - (c.loop.counter + 1)) c.args.first c.loop.sent c.args.list.now c.loop.list c.round.new.list c.round.new.list
      (drain_stand c.args.plain.now c.args.desk.now k) (drain_stand c.loop.plain c.loop.desk k) (drain_stand c.round.new.plain c.round.new.desk k) (c.loop.invariant.done k) (omega (arith, c.loop-test.true)) c.if-not-sent.false c.in-Err.is (c.round.ensures.rounds k);
}

pub loop-preserved : goal.loop-preserved
loop-preserved c = record {
  sits = c.in-Ok.ensures.sits;
  waiting = c.in-Ok.ensures.waiting;
  done = λ k.
      rounds_next c.round.result (drain_means c.args.near.now c.args.answers.now) c.args.most (c.args.most - c.loop.counter) (c.args.most - (c.loop.counter + 1)) c.args.first c.loop.sent c.in-Ok.more c.args.list.now c.loop.list c.round.new.list
      (drain_stand c.args.plain.now c.args.desk.now k) (drain_stand c.loop.plain c.loop.desk k) (drain_stand c.round.new.plain c.round.new.desk k) (c.loop.invariant.done k) (omega (arith, c.loop-test.true)) c.if-not-sent.false c.in-Ok.is (c.round.ensures.rounds k);
}

pub returns : goal.returns
returns c = record {
  rounds = λ k.
      rounds_last (drain_means c.args.near.now c.args.answers.now) c.args.most (c.args.most - c.loop.counter) c.args.first c.loop.sent c.args.list.now c.loop.list (drain_stand c.args.plain.now c.args.desk.now k) (drain_stand c.loop.plain c.loop.desk k)
      (c.loop.invariant.done k) (omega (arith, c.loop-test.false, c.loop.auto.counter-end));
}
