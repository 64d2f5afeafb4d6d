use Rattle.std.proofs.Common.{◌∙◌, ◌==◌, ◌<◌, length, get_or, sym, ap, arith}
use Rattle.std.proofs.lemmas.List.{get_or_default}
use Rattle.mp_keep.specs.Keeper.{no_removal}
use Rattle.mp_keep.specs.declared.removal.Removal.{Removal}
use Rattle.mp_keep.proofs.Finding.{find_hit, find_miss, same_is}
use Rattle.mp_keep.proofs.keeper.is_among.Goals as goal

pub returns-then-get : goal.returns-then-get
returns-then-get c =
    let at = c.loop-place-test.true in
    let is = sym c.get.ensures.number ∙ c.if-get.true ∙ c.get-in-loop-place.ensures.number in
    sym (find_hit (λ (r : Removal). r.slot == c.args.slot) c.args.removals.now c.loop-place.place no_removal at
    (same_is (get_or c.args.removals.now c.loop-place.place no_removal).slot c.args.slot (ap (λ (r : Removal). r.slot) (get_or_default c.args.removals.now c.loop-place.place no_removal c.index-removals-place.result at) ∙ is)))

pub returns : goal.returns
returns c =
    let end = c.loop-place-test.false in
    sym (find_miss (λ (r : Removal). r.slot == c.args.slot) c.args.removals.now no_removal (λ k (l : k < length c.args.removals.now). c.loop-place.invariant k (omega arith)))
