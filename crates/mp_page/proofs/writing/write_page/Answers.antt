use Rattle.std.proofs.Common.{rules, append_assoc}
use Rattle.mp_page.proofs.Written.{short_lists, page_written}
use Rattle.mp_page.proofs.Pages.{page_found}
use Rattle.mp_page.proofs.writing.write_page.Goals as goal

pub put_groups-requires : goal.put_groups-requires
put_groups-requires c = short_lists c.args.page.now c.as_slice.result.now c.as_slice.ensures c.requires.length

pub returns-clause-page : goal.returns-clause-page
returns-clause-page c = λ max within. page_written max c.args.page.now c.as_slice.result.now _ c.as_slice.ensures c.requires c.put_u64.ensures.fits c.in_ok-put_groups.ensures.fits within (search (rules, append_assoc))

pub returns-clause-again : goal.returns-clause-again
returns-clause-again c = λ max within. page_found max _ c.args.page.now (page_written max c.args.page.now c.as_slice.result.now _ c.as_slice.ensures c.requires c.put_u64.ensures.fits c.in_ok-put_groups.ensures.fits within (search (rules, append_assoc)))
