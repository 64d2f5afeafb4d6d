use Rattle.std.proofs.Common.{sym, subst, List, false, arith}
use Rattle.std.specs.List.{AllByRecursion}
use Rattle.std.proofs.lemmas.List.{nil_from_length}
use Rattle.mp_words.specs.RequestView.{RequestView}
use Rattle.mp_desk.specs.Calls.{IsWaiting}
use Rattle.mp_run.specs.Draining.{drain_means, drain_stand}
use Rattle.mp_run.proofs.DrainSends.{SentSoFar, sent_all, sent_err, sent_first, sent_next}
use Rattle.mp_run.proofs.draining.send_each.Goals as goal

pub loop-request-init : goal.loop-request-init
loop-request-init c =
    let w = drain_means c.args.near.now c.args.answers.now in
    let all = c.into_iter-request-iterator.ensures.into_iter_gives.0 in
    record {
      sits = c.requires.sits;
      waiting = subst (λ (rs : List RequestView). AllByRecursion IsWaiting rs) (sym all) c.requires.waiting;
      sent = λ k. subst (λ (rs : List RequestView). SentSoFar w c.args.requests.items rs false (drain_stand c.args.plain.now c.args.desk.now k) (drain_stand c.args.plain.now c.args.desk.now k)) (sym all)
          (sent_first w c.args.requests.items (drain_stand c.args.plain.now c.args.desk.now k));
    }

pub loop-request-preserved : goal.loop-request-preserved
loop-request-preserved c = record {
  sits = c.send.ensures.sits;
  waiting = (subst (λ (rs : List RequestView). AllByRecursion IsWaiting rs) c.in-Some.ensures.steps.0 c.loop-request.invariant.waiting).1;
  sent = λ k.
      sent_next c.send.result (drain_means c.args.near.now c.args.answers.now) c.args.requests.items c.loop-request.request-iterator.rest.items c.next.new.self.rest.items c.in-Some.request c.loop-request.any c.in-Ok.sent
      (drain_stand c.args.plain.now c.args.desk.now k) (drain_stand c.loop-request.plain c.loop-request.desk k) (drain_stand c.send.new.plain c.send.new.desk k) (c.loop-request.invariant.sent k) c.in-Some.ensures.steps.0 c.in-Ok.is (c.send.ensures.sends k);
}

pub returns-in-Err-clause-sends : goal.returns-in-Err-clause-sends
returns-in-Err-clause-sends c k =
    sent_err c.send.result c.in-Err.halt (drain_means c.args.near.now c.args.answers.now) c.args.requests.items c.loop-request.request-iterator.rest.items c.next.new.self.rest.items c.in-Some.request c.loop-request.any
    (drain_stand c.args.plain.now c.args.desk.now k) (drain_stand c.loop-request.plain c.loop-request.desk k) (drain_stand c.send.new.plain c.send.new.desk k) (c.loop-request.invariant.sent k) c.in-Some.ensures.steps.0 c.in-Err.is (c.send.ensures.sends k)

pub returns-clause-sends : goal.returns-clause-sends
returns-clause-sends c k =
    sent_all (drain_means c.args.near.now c.args.answers.now) c.args.requests.items c.loop-request.request-iterator.rest.items c.loop-request.any (drain_stand c.args.plain.now c.args.desk.now k) (drain_stand c.loop-request.plain c.loop-request.desk k)
    (c.loop-request.invariant.sent k) (nil_from_length c.loop-request.request-iterator.rest.items (omega (arith, c.in-None.ensures.steps.0)))
