-- A worked case: six attempts end retries.
use Rattle.std.specs.Prelude.{ℕ, List, [], ◌∷◌, ◌++◌, codes}
use Rattle.mp_words.specs.declared.row.Policy.TheVariants as policy
use Rattle.mp_script.specs.declared.script.Line.TheVariants as line
use Rattle.mp_script.specs.declared.script.LanePlan.{LanePlan}
use Rattle.mp_legal.specs.PlainCall.{Inputs}
use Rattle.mp_legal.specs.CaseParts.{on_one_node, answer, lane}

-- the inputs of the case
abbrev pub inputs : Inputs
inputs =
    on_one_node policy.Numa 0 (0 ∷ 1 ∷ [])
    (answer 0 1 0x0006 ∷ answer 0 2 0x0006 ∷ answer 0 3 0x0006
    ∷ answer 0 4 0x0006 ∷ answer 0 5 0x0006 ∷ answer 0 6 0x0006 ∷ [])

-- the lanes of its script
abbrev pub lanes : List LanePlan
lanes = lane 8 (line.Submit 0 0 ∷ line.FinishAll ∷ []) ∷ []

-- the text of the run
abbrev pub text : List ℕ
text =
    codes "anamp 1\n"
    ++ codes "head 1 numa\n"
    ++ codes "row 0 0 open a live optimized rn\n"
    ++ codes "row 1 0 open b live optimized rn\n"
    ++ codes "order 0 open numa 0,1\n"
    ++ codes "lane 0\n"
    ++ codes "at 8 submit\n"
    ++ codes "try 0 1 sent 0 0\n"
    ++ codes "at 9 finish 1\n"
    ++ codes "fin 0 1 0006,0006,0006,0006,0006,0006 done\n"
    ++ codes "at 0 finish 0\n"
    ++ codes "drain\n"
    ++ codes "at 0 requeue 0\n"
    ++ codes "request 0 0 a done 0006 6\n"
    ++ codes "end\n"
