use Rattle.std.proofs.Common.{ap, sym}
use Rattle.std.specs.Prelude.{◌==◌, ℕ}
use Rattle.std.proofs.lemmas.List.{length-map}
use Rattle.toml.specs.View.{view}
use Rattle.mp_topology.proofs.distance.has_rows.Goals as goal

pub returns : goal.returns
returns c = ap (λ (n : ℕ). n == c.args.nodes) (sym (length-map c.args.items.now view))
