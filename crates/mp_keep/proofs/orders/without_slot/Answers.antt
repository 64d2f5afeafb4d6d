use Rattle.std.proofs.Common.{◌≡◌, ◌∙◌, length, take, replicate, ◌++◌, subst, ap, arith}
use Rattle.mp_keep.proofs.Lists.{kept, kept_more, without_is}
use Rattle.mp_keep.proofs.orders.without_slot.Goals as goal

pub loop-place-preserved : goal.loop-place-preserved
loop-place-preserved c =
    let at = c.loop-place-test.true in
    let end = c.from-place-end.ensures in
    let places = c.requires.order.places in
    let within = c.requires.order.within in
    kept_more c.args.slot c.loop-place.place c.index-order-place.result c.args.order.now.slots c.loop-place.len c.keep_unless-len.result c.loop-place.slots c.keep_unless-len.new.slots
    (omega arith) (omega arith) c.loop-place.invariant.1 c.loop-place.invariant.0 c.loop-place.invariant.2 c.keep_unless-len.ensures.len c.keep_unless-len.ensures.slots

pub returns : goal.returns
returns c =
    let past = c.loop-place-test.false in
    let upto = c.loop-place.auto.place-end in
    let all : c.loop-place.place ≡ c.args.order.now.len = subst (λ n. c.loop-place.place ≡ n) c.from-place-end.ensures (omega arith) in
    without_is c.args.order.now c.args.slot c.loop-place.len c.loop-place.slots c.requires.order
    (c.loop-place.invariant.0 ∙ ap (λ n. length (kept c.args.slot n c.args.order.now.slots)) all)
    (c.loop-place.invariant.2 ∙ ap (λ n. take 8 (kept c.args.slot n c.args.order.now.slots ++ replicate 8 0)) all)
