use Rattle.std.proofs.Common.{◌∙◌, ap, map, sym}
use Rattle.std.proofs.lemmas.List.{take-map}
use Rattle.toml.specs.View.{view}
use Rattle.mp_topology.proofs.distance.front.Goals as goal

pub returns-clause-items : goal.returns-clause-items
returns-clause-items c = ap (map view) c.split_at.ensures.front ∙ sym (take-map view c.args.n c.args.items.now)
