use Rattle.std.proofs.Common.{ℕ, ap, subst, sym}
use Rattle.mp_words.specs.declared.note.Note.{Note}
use Rattle.mp_submit.specs.Selects.{Selects}
use Rattle.mp_submit.specs.Submits.{Dispatches, open_try}
use Rattle.mp_submit.proofs.Submitting.{submitted}
use Rattle.mp_submit.proofs.submit.submit.Goals as goal

pub returns : goal.returns
returns g c =
    let near = c.args.near.now in
    let order = c.load_order-order.result in
    let choice = c.select-choice.result in
    let c0 = g.S.Steps.core c.args.steps.now in
    let c1 = g.S.Steps.core c.begin-section.new.steps in
    let c2 = g.S.Steps.core c.load_order-order.new.self in
    let c3 = g.S.Steps.core c.select-choice.new.steps in
    let c4 = g.S.Steps.core c.leave.new.self in
    let s1 = c.begin-section.result in
    let s2 = c.load_order-order.new.section in
    let s3 = c.select-choice.new.section in
    let d = c.dispatch-end.result in
    let n = c.leave.result in
    let r = c.args.request.now in
    let made = open_try c.next-hop.result d.end n in (
      made,
      submitted near c0 c1 c2 c3 c4 s1 s2 s3 order choice c.keeps_choice-keeps.result d.end d.answer n r c.tried.new.self made
          c.begin-section.ensures
          c.load_order-order.ensures
          (subst (λ (n : ℕ). Selects near n order c2 c3 s2 s3 choice) c.node-node.ensures c.select-choice.ensures)
          c.keeps_choice-keeps.ensures
          (subst (λ (p : ℕ × ℕ). Dispatches c.keeps_choice-keeps.result p.0 p.1 c3 c4 s3 choice d.end d.answer n) (λ i. (c.node-node.ensures i, c.id.ensures i)) (subst (λ (m : Note). Dispatches c.keeps_choice-keeps.result c.node-node.result c.id.result c3 c4 s3 choice d.end d.answer m) (sym c.leave.ensures.note) (c.dispatch-end.ensures.done c4 c.leave.ensures.kind)))
          c.dispatch-end.ensures.range
          (ap (λ h. open_try h d.end n) c.next-hop.ensures)
          c.tried.ensures.tries
          c.tried.ensures.id
          c.tried.ensures.node,
    )
