-- The worked cases of units: lanes of submits alone.
use Rattle.std.specs.Prelude.{List, [], ◌∷◌}
use Rattle.mp_words.specs.declared.row.CState.TheVariants as cstate
use Rattle.mp_words.specs.declared.row.Policy.TheVariants as policy
use Rattle.mp_script.specs.declared.script.Line.TheVariants as line
use Rattle.mp_script.specs.declared.script.LanePlan.{LanePlan}
use Rattle.mp_legal.specs.PlainCall.{Inputs}
use Rattle.mp_legal.specs.CaseParts.{near_and_far, lane}

-- the inputs of the cases
abbrev pub inputs : Inputs
inputs = near_and_far policy.Numa cstate.Live

-- a lane of two submits, whose flights are finished at its end
abbrev pub two_submits : List LanePlan
two_submits = lane 2 (line.Submit 0 0 ∷ line.Submit 1 0 ∷ []) ∷ []

-- a lane of three submits, whose flights are finished at its end
abbrev pub three_submits : List LanePlan
three_submits = lane 2 (line.Submit 0 0 ∷ line.Submit 1 0 ∷ line.Submit 2 0 ∷ []) ∷ []
