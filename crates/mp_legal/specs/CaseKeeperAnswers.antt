-- A worked case: keeper answers.
use Rattle.std.specs.Prelude.{ℕ, List, [], ◌∷◌, ◌++◌, codes}
use Rattle.mp_words.specs.declared.row.CState.TheVariants as cstate
use Rattle.mp_words.specs.declared.row.Policy.TheVariants as policy
use Rattle.mp_script.specs.declared.script.Line.TheVariants as line
use Rattle.mp_script.specs.declared.script.LanePlan.{LanePlan}
use Rattle.mp_legal.specs.PlainCall.{Inputs}
use Rattle.mp_legal.specs.CaseParts.{near_and_far, keeper_lane}

-- the inputs of the case
abbrev pub inputs : Inputs
inputs = near_and_far policy.Numa cstate.Live

-- the lanes of its script
abbrev pub lanes : List LanePlan
lanes =
    keeper_lane 2 (line.Remove 0 ∷ line.Remove 0 ∷ line.Ctrl 0 cstate.Dead ∷ line.Policy policy.RoundRobin
    ∷ line.Reap ∷ line.Ctrl 0 cstate.Dead ∷ []) ∷ []

-- the text of the run
abbrev pub text : List ℕ
text =
    codes "anamp 1\n"
    ++ codes "head 1 numa\n"
    ++ codes "row 0 0 open a live optimized r\n"
    ++ codes "row 0 1 0.2 a live optimized m\n"
    ++ codes "row 0 2 0.6 free\n"
    ++ codes "row 1 0 open b live optimized r\n"
    ++ codes "order 0 open numa 0,1\n"
    ++ codes "order 1 0.5 round-robin 0,1\n"
    ++ codes "order 2 0.6 round-robin 1\n"
    ++ codes "keeper 0\n"
    ++ codes "at 2 marked 0 1\n"
    ++ codes "at 3 no-path 0\n"
    ++ codes "at 4 refused 0 1 live\n"
    ++ codes "at 5 policy 1\n"
    ++ codes "at 6 freed 0 2 2\n"
    ++ codes "at 7 no-path 2\n"
    ++ codes "at 0 finish 0\n"
    ++ codes "drain\n"
    ++ codes "at 0 requeue 0\n"
    ++ codes "end\n"
