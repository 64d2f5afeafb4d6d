use Rattle.std.proofs.Common.{◌≡◌, None, sym}
use Rattle.std.specs.Prelude.{slice_get}
use Rattle.mp_page.specs.Page.{page_in}
use Rattle.mp_lane.proofs.NoPage.{no_page}
use Rattle.mp_lane.proofs.pages.page_in.Goals as goal

pub returns-in-None : goal.returns-in-None
returns-in-None c other =
    let pages = c.args.world.now.pages in
    let none : None ≡ slice_get pages c.args.number = rw c.in-None.is at c.get.ensures in
    no_page (page_in c.args.world.now.topology.anagrpmax) pages c.args.number (sym none)
