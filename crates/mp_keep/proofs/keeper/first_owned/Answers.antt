use Rattle.std.proofs.Common.{◌∙◌, ◌<◌, length, None, Some, sym, ap, arith}
use Rattle.std.proofs.lemmas.List.{get_or_default}
use Rattle.mp_keep.specs.Keeps.{is_owner}
use Rattle.mp_keep.proofs.Finding.{position_hit, position_miss}
use Rattle.mp_keep.proofs.keeper.first_owned.Goals as goal

pub returns-then-is_owner : goal.returns-then-is_owner
returns-then-is_owner c =
    let sized = c.type_inv.owners in
    let at = c.loop-n-test.true in
    let l : c.loop-n.n < length c.args.owners.now = omega arith in
    ap Some c.slot_of.ensures ∙ sym (position_hit (is_owner c.args.owner.now) c.args.owners.now c.loop-n.n None l c.loop-n.invariant
    (ap (is_owner c.args.owner.now) (get_or_default c.args.owners.now c.loop-n.n None c.index-owners-n.result l) ∙ sym c.is_owner.ensures ∙ c.if-is_owner.true))

pub returns : goal.returns
returns c =
    let sized = c.type_inv.owners in
    let end = c.loop-n-test.false in
    sym (position_miss (is_owner c.args.owner.now) c.args.owners.now None (λ k (l : k < length c.args.owners.now). c.loop-n.invariant k (omega arith)))
