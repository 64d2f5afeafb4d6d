use Rattle.mp_script.proofs.Pieces.{cut_line, behind_less}
use Rattle.mp_script.proofs.shapes.take_line.Goals as goal

pub returns-clause-line : goal.returns-clause-line
returns-clause-line c = rw c.line_at.ensures.behind (cut_line c.args.bytes.now c.requires)

pub returns-clause-shorter : goal.returns-clause-shorter
returns-clause-shorter c = rw c.line_at.ensures.behind (behind_less c.args.bytes.now c.requires)
