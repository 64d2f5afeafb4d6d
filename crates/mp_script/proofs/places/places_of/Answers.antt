use Rattle.std.proofs.Common.{◌∙◌}
use Rattle.mp_script.proofs.PlaceMap.{no_places, places_more}
use Rattle.mp_script.proofs.places.places_of.Goals as goal

pub loop-i-init : goal.loop-i-init
loop-i-init c = no_places c.new-places.result c.new-places.ensures.empty

pub loop-i-preserved : goal.loop-i-preserved
loop-i-preserved c = places_more c.args.controllers.now c.loop-i.i c.index-controllers-i.result c.index-controllers-i.result c.as_bytes-name.result c.loop-i.places c.in_ok-places.places c.ctrl_at.result
    c.loop-i-test.true c.index-controllers-i.is (c.as_bytes-name.ensures.value ∙ c.as_str.ensures) c.ctrl_at.ensures c.loop-i.invariant c.in_ok-places.ensures
