use Rattle.std.proofs.Common.{◌∷◌, ◌⊎◌, [], subst}
use Rattle.mp_desk.specs.Calls.{BreaksTo, CallsTo, DoesNothing, StopsTo, submit}
use Rattle.mp_desk.specs.Desks.{desk_of, stand}
use Rattle.mp_lane.specs.Lines.{means_of, new_request, reads_of}
use Rattle.mp_lane.specs.Steps.{Told}
use Rattle.mp_lane.proofs.OneCall.{any_room, one}
use Rattle.mp_desk.proofs.Sitting.{ok_so}
use Rattle.mp_lane.proofs.lines.submit_line.Goals as goal

pub returns-clause-runs : goal.returns-clause-runs
returns-clause-runs g c answers k =
    let w = means_of (reads_of c.args.world.now answers) c.args.line in
    let a = g.S.Steps.core c.args.steps.now in
    let q = stand (g.S.Steps.core c.submit.new.steps) (desk_of c.submit.new.self) k in
    let new = new_request c.args.req c.args.node in
    let said = ok_so c.say.result c.is_err.result c.is_err.ensures.value c.if-is_err.false c.say.ensures.said in
    subst (λ d. Told c.submit.result (CallsTo w (submit new ∷ []) (stand a d k) q) (StopsTo w (submit new ∷ []) (stand a d k) q) (DoesNothing (stand a (desk_of c.args.desk.now) k) q ⊎ BreaksTo w (submit new ∷ []) (stand a d k) q)) said
    (one c.submit.result w (submit new) (stand a (desk_of c.say.new.self) k) q (DoesNothing (stand a (desk_of c.args.desk.now) k) q)
    (any_room c.submit.result w c.make.result new (stand a (desk_of c.say.new.self) k) q (λ i. record { id = c.make.ensures.id i; node = c.make.ensures.node i; tries = c.make.ensures.tries i; spare = 0 }) (c.submit.ensures.does answers c.args.line k))
    (c.submit.ensures.breaks answers c.args.line k))
