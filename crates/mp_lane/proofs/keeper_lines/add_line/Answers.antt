use Rattle.std.proofs.Common.{sym, subst}
use Rattle.mp_words.specs.Effect.{IsState}
use Rattle.mp_words.specs.declared.op.Gift.{Gift}
use Rattle.mp_page.specs.Page.{page_in}
use Rattle.mp_lane.proofs.NoPage.{gift_state, read_of_some}
use Rattle.mp_lane.proofs.keeper_lines.add_line.Goals as goal

pub gift_line-requires-in-Ok-clause-state : goal.gift_line-requires-in-Ok-clause-state
gift_line-requires-in-Ok-clause-state g c =
    let world = c.args.world.now in
    let nsid = world.topology.nsid in
    let bytes = read_of_some (page_in world.topology.anagrpmax) world.pages c.in-Some.number c.in-Ok.page c.in-Ok.ensures in
    subst (λ (gift : Gift). IsState gift.state) (sym c.page_gift-gift.ensures) (gift_state nsid c.args.ctrl c.in-Ok.page (c.stated_state_is_in_range.ensures world.topology.anagrpmax bytes.0 c.in-Ok.page nsid bytes.1))
