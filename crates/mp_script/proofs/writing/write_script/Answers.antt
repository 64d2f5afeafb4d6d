use Rattle.std.proofs.Common.{◌∙◌, ap, Vec, ℕ, Global}
use Rattle.mp_script.proofs.WrittenBack.{made_again}
use Rattle.mp_script.proofs.writing.write_script.Goals as goal

pub returns-in-Ok-clause-again : goal.returns-in-Ok-clause-again
returns-in-Ok-clause-again c = made_again c.args.topology.now c.args.script.now c.into_bytes.result.items (ap (λ (v : Vec ℕ Global). v.items) c.into_bytes.ensures.value ∙ c.in-Ok.ensures)
