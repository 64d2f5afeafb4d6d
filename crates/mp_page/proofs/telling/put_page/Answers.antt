use Rattle.std.proofs.Common.{rules, append_assoc}
use Rattle.mp_page.proofs.telling.put_page.Goals as goal

pub returns : goal.returns
returns c = search (rules, append_assoc)
