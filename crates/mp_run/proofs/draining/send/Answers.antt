use Rattle.mp_run.specs.Draining.{drain_means, drain_stand}
use Rattle.mp_run.proofs.DrainSends.{finish_err, finish_ok, submit_err, submit_ok}
use Rattle.mp_run.proofs.draining.send.Goals as goal

pub returns-in-Err-clause-sends : goal.returns-in-Err-clause-sends
returns-in-Err-clause-sends c k =
    submit_err c.submit.result c.in-Err.halt (drain_means c.args.near.now c.args.answers.now) c.args.request (drain_stand c.args.plain.now c.args.desk.now k) (drain_stand c.submit.new.steps c.submit.new.self k)
    c.in-Err.is (c.submit.ensures.does c.args.answers.now 0 k)

pub returns-in-Ok-finish-clause-sends : goal.returns-in-Ok-finish-clause-sends
returns-in-Ok-finish-clause-sends c k = record {
  mid = drain_stand c.submit.new.steps c.submit.new.self k;
  submits = submit_ok c.submit.result c.in-Ok.field-0 (drain_means c.args.near.now c.args.answers.now) c.args.request (drain_stand c.args.plain.now c.args.desk.now k) (drain_stand c.submit.new.steps c.submit.new.self k)
      c.in-Ok.is (c.submit.ensures.does c.args.answers.now 0 k);
  sent_is = c.is_aloft-sent.ensures;
  finishes = finish_ok c.finish.result c.in-Ok-finish.field-0 (drain_means c.args.near.now c.args.answers.now) (drain_stand c.submit.new.steps c.submit.new.self k) (drain_stand c.finish.new.steps c.finish.new.self k)
      c.in-Ok-finish.is (c.finish.ensures.does c.args.near.now 0 k);
}

pub returns-in-Err-finish-clause-sends : goal.returns-in-Err-finish-clause-sends
returns-in-Err-finish-clause-sends c k =
    finish_err c.finish.result c.in-Err-finish.halt (drain_means c.args.near.now c.args.answers.now) c.args.request (drain_stand c.args.plain.now c.args.desk.now k) (drain_stand c.submit.new.steps c.submit.new.self k) (drain_stand c.finish.new.steps c.finish.new.self k)
    (submit_ok c.submit.result c.in-Ok.field-0 (drain_means c.args.near.now c.args.answers.now) c.args.request (drain_stand c.args.plain.now c.args.desk.now k) (drain_stand c.submit.new.steps c.submit.new.self k) c.in-Ok.is (c.submit.ensures.does c.args.answers.now 0 k))
    c.in-Err-finish.is (c.finish.ensures.does c.args.near.now 0 k)
