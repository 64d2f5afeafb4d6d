-- A worked case: empty script.
use Rattle.std.specs.Prelude.{ℕ, List, [], ◌++◌, codes}
use Rattle.mp_words.specs.declared.row.CState.TheVariants as cstate
use Rattle.mp_words.specs.declared.row.Policy.TheVariants as policy
use Rattle.mp_script.specs.declared.script.LanePlan.{LanePlan}
use Rattle.mp_legal.specs.PlainCall.{Inputs}
use Rattle.mp_legal.specs.CaseParts.{near_and_far}

-- the inputs of the case
abbrev pub inputs : Inputs
inputs = near_and_far policy.Numa cstate.Live

-- the lanes of its script
abbrev pub lanes : List LanePlan
lanes = []

-- the text of the run
abbrev pub text : List ℕ
text =
    codes "anamp 1\n"
    ++ codes "head 1 numa\n"
    ++ codes "row 0 0 open a live optimized r\n"
    ++ codes "row 1 0 open b live optimized r\n"
    ++ codes "order 0 open numa 0,1\n"
    ++ codes "drain\n"
    ++ codes "at 0 requeue 0\n"
    ++ codes "end\n"
