use Rattle.std.proofs.Common.{◌∙◌}
use Rattle.mp_record.proofs.Noted.{text-noted}
use Rattle.mp_record.proofs.text.run_text.Goals as goal

pub returns-in-Ok : goal.returns-in-Ok
returns-in-Ok c = c.in-Ok.ensures ∙ text-noted c.args.notes c.args.topology.now c.args.run.now
