use Rattle.std.proofs.Common.{◌≡◌, ◌-◌, length, ap, arith}
use Rattle.mp_words.specs.declared.op.Maker.TheVariants.{Hop}
use Rattle.mp_words.specs.declared.trying.Back.TheVariants as back
use Rattle.mp_submit.specs.Finishes.{hop_of, back_of}
use Rattle.mp_submit.proofs.Finishing.{came_back}
use Rattle.mp_submit.proofs.finish.fail_over.Goals as goal

pub returns-in-Set : goal.returns-in-Set
returns-in-Set g c =
    let a = g.S.Steps.core c.args.steps.now in
    let r = c.args.request.now in
    let m = c.mark_pending-end.result in
    let number : c.next.result - 1 ≡ length r.tries = omega arith in
    let maker : Hop c.lane.result c.id.result (c.next.result - 1) ≡ hop_of a.lane r = λ i. Hop (c.lane.ensures i) (c.id.ensures i) (number i) in
    came_back c.args.answers.now a (g.S.Steps.core c.mark_pending-end.new.steps) (g.S.Steps.core c.come_back.new.steps) c.args.flight r c.come_back.new.request (Hop c.lane.result c.id.result (c.next.result - 1)) m.end m.note (back.Set c.in-Set.entry) c.args.hop.now.statuses c.args.hop.now.count
    c.requires.class c.requires.six c.requires.count c.requires.high maker c.mark_pending-end.ensures (ap back_of c.in-Set.is) c.come_back.ensures.lands c.come_back.ensures.tries c.come_back.ensures.id c.come_back.ensures.node

pub returns-in-NoAna : goal.returns-in-NoAna
returns-in-NoAna g c =
    let a = g.S.Steps.core c.args.steps.now in
    let r = c.args.request.now in
    let m = c.mark_pending-end.result in
    let d = c.come_back-in-NoAna in
    let number : c.next.result - 1 ≡ length r.tries = omega arith in
    let maker : Hop c.lane.result c.id.result (c.next.result - 1) ≡ hop_of a.lane r = λ i. Hop (c.lane.ensures i) (c.id.ensures i) (number i) in
    came_back c.args.answers.now a (g.S.Steps.core c.mark_pending-end.new.steps) (g.S.Steps.core d.new.steps) c.args.flight r d.new.request (Hop c.lane.result c.id.result (c.next.result - 1)) m.end m.note back.Unset c.args.hop.now.statuses c.args.hop.now.count
    c.requires.class c.requires.six c.requires.count c.requires.high maker c.mark_pending-end.ensures (ap back_of c.in-NoAna.is) d.ensures.lands d.ensures.tries d.ensures.id d.ensures.node
