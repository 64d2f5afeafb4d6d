use Rattle.std.proofs.Common.{List, subst}
use Rattle.mp_words.specs.RequestView.{RequestView}
use Rattle.mp_run.specs.Draining.{Rounds, drain_means, drain_stand}
use Rattle.mp_run.proofs.draining.round.Goals as goal

pub returns-clause-rounds : goal.returns-clause-rounds
returns-clause-rounds c k =
    subst (λ (rs : List RequestView). Rounds c.round_over-answer.result (drain_means c.args.near.now c.args.answers.now) rs c.round_over-answer.new.list (drain_stand c.args.plain.now c.args.desk.now k) (drain_stand c.round_over-answer.new.plain c.round_over-answer.new.desk k))
    c.take_all-requests.ensures.taken (c.round_over-answer.ensures.rounds k)
