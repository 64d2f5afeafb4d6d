use Rattle.mp_page.proofs.Pages.{found, only, refused, gives}
use Rattle.mp_page.proofs.Writable.{writable}
use Rattle.mp_page.proofs.reading.read_page.Goals as goal

pub returns-clause-found : goal.returns-clause-found
returns-clause-found c = found c.args.anagrpmax c.args.bytes.now c.checked_page.result c.checked_page.ensures

pub returns-clause-only : goal.returns-clause-only
returns-clause-only c = λ page is. only c.args.anagrpmax c.args.bytes.now page c.checked_page.result c.checked_page.ensures is

pub returns-clause-refused : goal.returns-clause-refused
returns-clause-refused c = refused c.args.anagrpmax c.args.bytes.now c.checked_page.result c.checked_page.ensures

pub returns-clause-gives : goal.returns-clause-gives
returns-clause-gives c = gives c.args.anagrpmax c.args.bytes.now c.checked_page.result c.checked_page.ensures

pub returns-clause-writable : goal.returns-clause-writable
returns-clause-writable c = writable c.args.anagrpmax c.args.bytes.now c.checked_page.result c.requires (found c.args.anagrpmax c.args.bytes.now c.checked_page.result c.checked_page.ensures)
