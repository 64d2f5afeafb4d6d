use Rattle.std.proofs.Common.{rules, ◌≡◌, ◌+◌, true, false, [], ◌∷◌, refl, ap, sym, ◌∙◌}
use Rattle.mp_words.specs.Answers.{answer_for}
use Rattle.mp_status.specs.Hop.{ends_hop, statuses_behind}
use Rattle.mp_submit.proofs.Hops.{behind_none, behind_last, behind_more, last_taken, more_taken, zeros, rest_zero}
use Rattle.mp_submit.proofs.hop.attempts.Goals as goal

pub attempts-init : goal.attempts-init
attempts-init c = (refl, refl, behind_none c.args.answers.now c.args.req c.args.attempt, λ i past. zeros i)

pub returns-then-ends_hop-clause-statuses : goal.returns-then-ends_hop-clause-statuses
returns-then-ends_hop-clause-statuses c =
    let is : c.status-status.result ≡ answer_for c.args.answers.now c.args.req (c.args.attempt + c.attempts.k) = c.status-status.ensures ∙ ap (λ n. answer_for c.args.answers.now c.args.req (c.args.attempt + n)) c.from.ensures in
    let ends : ends_hop (c.attempts.k, answer_for c.args.answers.now c.args.req (c.args.attempt + c.attempts.k)) ≡ true = ap (λ s. ends_hop (c.attempts.k, s)) (sym is) ∙ sym c.ends_hop.ensures ∙ c.if-ends_hop.true in
    last_taken c.attempts.hop.statuses c.attempts.k c.status-status.result (statuses_behind (answer_for c.args.answers.now c.args.req) c.args.attempt c.attempts.k) _
    (rw c.attempts.invariant.1 (search rules)) c.attempts.invariant.2 (behind_last c.args.answers.now c.args.req c.args.attempt c.attempts.k (search rules) ends ∙ ap (λ x. x ∷ []) (sym is))

pub attempts-preserved : goal.attempts-preserved
attempts-preserved c =
    let is : c.status-status.result ≡ answer_for c.args.answers.now c.args.req (c.args.attempt + c.attempts.k) = c.status-status.ensures ∙ ap (λ n. answer_for c.args.answers.now c.args.req (c.args.attempt + n)) c.from.ensures in
    let goes_on : ends_hop (c.attempts.k, answer_for c.args.answers.now c.args.req (c.args.attempt + c.attempts.k)) ≡ false = ap (λ s. ends_hop (c.attempts.k, s)) (sym is) ∙ sym c.ends_hop.ensures ∙ c.if-ends_hop.false in (
      refl,
      search rules,
      more_taken c.attempts.hop.statuses c.attempts.k c.status-status.result (statuses_behind (answer_for c.args.answers.now c.args.req) c.args.attempt c.attempts.k) (statuses_behind (answer_for c.args.answers.now c.args.req) c.args.attempt (c.attempts.k + 1)) _
          (rw c.attempts.invariant.1 (search rules)) c.attempts.invariant.2 (behind_more c.args.answers.now c.args.req c.args.attempt c.attempts.k (search rules) goes_on ∙ ap (λ x. x ∷ statuses_behind (answer_for c.args.answers.now c.args.req) c.args.attempt (c.attempts.k + 1)) (sym is)),
      rest_zero c.attempts.hop.statuses c.attempts.k c.status-status.result c.attempts.invariant.3,
    )
