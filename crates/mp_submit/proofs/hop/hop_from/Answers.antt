use Rattle.std.proofs.Common.{◌∙◌, ap}
use Rattle.mp_words.specs.Answers.{answer_for}
use Rattle.mp_status.specs.Disposition.{is_retry}
use Rattle.mp_status.specs.Hop.{class_of_hop}
use Rattle.mp_submit.proofs.Hops.{six_places, six_count}
use Rattle.mp_submit.proofs.hop.hop_from.Goals as goal

pub returns-clause-last : goal.returns-clause-last
returns-clause-last c = ap (λ hop. is_retry (class_of_hop hop)) c.attempts.ensures.statuses ∙ c.last_status_is_not_retried.ensures (answer_for c.args.answers.now c.args.req) c.args.attempt

pub returns-clause-six : goal.returns-clause-six
returns-clause-six c = six_places c.attempts.result.statuses c.attempts.result.count _ c.attempts.ensures.places c.attempts.ensures.rest c.attempts.ensures.statuses

pub returns-clause-count : goal.returns-clause-count
returns-clause-count c = six_count c.attempts.result.statuses c.attempts.result.count _ c.attempts.ensures.places c.attempts.ensures.high c.attempts.ensures.statuses
