-- A worked case: change arms and timer expires.
use Rattle.std.specs.Prelude.{ℕ, List, [], ◌∷◌, ◌++◌, codes}
use Rattle.mp_words.specs.declared.row.Policy.TheVariants as policy
use Rattle.mp_script.specs.declared.script.Line.TheVariants as line
use Rattle.mp_script.specs.declared.script.LanePlan.{LanePlan}
use Rattle.mp_legal.specs.PlainCall.{Inputs}
use Rattle.mp_legal.specs.CaseParts.{on_one_node, lane}

-- the inputs of the case
abbrev pub inputs : Inputs
inputs = on_one_node policy.Numa 0 (0 ∷ 1 ∷ []) []

-- the lanes of its script
abbrev pub lanes : List LanePlan
lanes = lane 2 (line.Log 0 3 ∷ line.Anatt 0 ∷ line.Anatt 0 ∷ line.Log 0 5 ∷ []) ∷ []

-- the text of the run
abbrev pub text : List ℕ
text =
    codes "anamp 1\n"
    ++ codes "head 1 numa\n"
    ++ codes "row 0 0 open a live optimized rn\n"
    ++ codes "row 0 1 0.2 a live change ran\n"
    ++ codes "row 0 2 0.3 a resetting change rn\n"
    ++ codes "row 1 0 open b live optimized rn\n"
    ++ codes "order 0 open numa 0,1\n"
    ++ codes "lane 0\n"
    ++ codes "at 2 changed 0 1\n"
    ++ codes "at 3 changed 0 2\n"
    ++ codes "at 4 not-armed 0 2\n"
    ++ codes "at 5 page short-list 16\n"
    ++ codes "at 0 finish 0\n"
    ++ codes "drain\n"
    ++ codes "at 0 requeue 0\n"
    ++ codes "end\n"
