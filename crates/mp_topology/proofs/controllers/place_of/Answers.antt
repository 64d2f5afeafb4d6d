use Rattle.std.proofs.Common.{◌∙◌, sym, map, rules, arith}
use Rattle.std.proofs.lemmas.Iterator.Adapters.{position_from-zero}
use Rattle.std.specs.Str.{bytes_eq}
use Rattle.mp_topology.specs.Controllers.{place_of}
use Rattle.mp_topology.proofs.Places.{name_of, place_hit, place_end, made_some}
use Rattle.mp_topology.proofs.controllers.place_of.Goals as goal

pub loop-i-init : goal.loop-i-init
loop-i-init c = sym (position_from-zero (λ x. bytes_eq x c.args.name.now) (map name_of c.args.controllers.now))

pub returns-then-has_name : goal.returns-then-has_name
unfolding place_of
returns-then-has_name c =
    made_some c.make.result c.loop-i.i c.make.ensures (omega (arith, c.loop-i-test.true, c.requires))
    ∙ place_hit c.args.controllers.now c.loop-i.i c.index-controllers-i.result c.args.name.now _ c.loop-i-test.true c.index-controllers-i.is (search rules) c.loop-i.invariant

pub returns : goal.returns
unfolding place_of
returns c = place_end c.args.controllers.now c.loop-i.i c.args.name.now _ c.loop-i-test.false c.loop-i.invariant
