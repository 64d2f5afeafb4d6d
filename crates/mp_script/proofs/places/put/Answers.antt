use Rattle.std.proofs.Common.{sym, ◌∙◌}
use Rattle.mp_script.proofs.PlaceMap.{put_is}
use Rattle.mp_script.proofs.places.put.Goals as goal

pub returns-in-Ok : goal.returns-in-Ok
returns-in-Ok c = λ w. put_is c.args.name w c.args.places c.insert.new.self c.args.ctrl c.in-Ok.ensures.updates.0 (sym c.contains_key.ensures ∙ c.if-contains_key.false)
