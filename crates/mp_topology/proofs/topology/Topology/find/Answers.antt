use Rattle.std.proofs.Common.{◌∙◌, List, map, sym, ap}
use Rattle.mp_topology.specs.Controllers.{place_of}
use Rattle.mp_topology.specs.declared.topology.Controller.{Controller}
use Rattle.mp_topology.proofs.Places.{name_of, placed_there, placed_nowhere}
use Rattle.mp_topology.proofs.topology.Topology.find.Goals as goal

pub returns-clause-there : goal.returns-clause-there
returns-clause-there c = placed_there c.args.name.now c.args.self.now.controllers c.place_of.result
    (ap (λ (cs : List Controller). place_of c.args.name.now (map name_of cs)) (sym c.as_slice.ensures) ∙ sym c.place_of.ensures)

pub returns-clause-nowhere : goal.returns-clause-nowhere
returns-clause-nowhere c = λ e. placed_nowhere c.args.name.now c.args.self.now.controllers
    (ap (λ (cs : List Controller). place_of c.args.name.now (map name_of cs)) (sym c.as_slice.ensures) ∙ (sym c.place_of.ensures ∙ e))
