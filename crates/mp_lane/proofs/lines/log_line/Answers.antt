use Rattle.std.proofs.Common.{sym, subst}
use Rattle.mp_page.specs.Gifts.{state_for}
use Rattle.mp_page.specs.Page.{page_in}
use Rattle.mp_change.specs.Changes.{IsLineOp}
use Rattle.mp_lane.proofs.NoPage.{read_of_some, stated_by}
use Rattle.mp_lane.proofs.lines.log_line.Goals as goal

pub change_line-requires-clause-op : goal.change_line-requires-clause-op
change_line-requires-clause-op g c =
    let world = c.args.world.now in
    let bytes = read_of_some (page_in world.topology.anagrpmax) world.pages c.args.number c.in-Ok.page c.in-Ok.ensures in
    subst IsLineOp (sym c.log_op-op.ensures) (stated_by (state_for c.in-Ok.page world.topology.nsid) (c.stated_state_is_in_range.ensures world.topology.anagrpmax bytes.0 c.in-Ok.page world.topology.nsid bytes.1))
