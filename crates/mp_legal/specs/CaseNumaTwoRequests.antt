-- A worked case: numa two requests.
use Rattle.std.specs.Prelude.{ℕ, List, [], ◌∷◌, ◌++◌, codes}
use Rattle.mp_words.specs.declared.row.CState.TheVariants as cstate
use Rattle.mp_words.specs.declared.row.Policy.TheVariants as policy
use Rattle.mp_script.specs.declared.script.Line.TheVariants as line
use Rattle.mp_script.specs.declared.script.LanePlan.{LanePlan}
use Rattle.mp_legal.specs.PlainCall.{Inputs}
use Rattle.mp_legal.specs.CaseParts.{near_and_far, lane}

-- the inputs of the case
abbrev pub inputs : Inputs
inputs = near_and_far policy.Numa cstate.Live

-- the lanes of its script
abbrev pub lanes : List LanePlan
lanes = lane 2 (line.Submit 0 0 ∷ line.Submit 1 1 ∷ line.FinishAll ∷ []) ∷ []

-- the text of the run
abbrev pub text : List ℕ
text =
    codes "anamp 1\n"
    ++ codes "head 1 numa\n"
    ++ codes "row 0 0 open a live optimized r\n"
    ++ codes "row 1 0 open b live optimized r\n"
    ++ codes "order 0 open numa 0,1\n"
    ++ codes "lane 0\n"
    ++ codes "at 2 submit\n"
    ++ codes "try 0 1 sent 0 0\n"
    ++ codes "at 3 submit\n"
    ++ codes "try 1 1 sent 1 0\n"
    ++ codes "at 4 finish 2\n"
    ++ codes "fin 0 1 0000 done\n"
    ++ codes "fin 1 1 0000 done\n"
    ++ codes "at 0 finish 0\n"
    ++ codes "drain\n"
    ++ codes "at 0 requeue 0\n"
    ++ codes "request 0 0 a done 0000 1\n"
    ++ codes "request 1 1 b done 0000 1\n"
    ++ codes "end\n"
