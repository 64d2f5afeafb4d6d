-- A worked case: queue depth first of equals.
use Rattle.std.specs.Prelude.{ℕ, List, [], ◌∷◌, ◌++◌, codes}
use Rattle.mp_words.specs.declared.row.Policy.TheVariants as policy
use Rattle.mp_script.specs.declared.script.Line.TheVariants as line
use Rattle.mp_script.specs.declared.script.LanePlan.{LanePlan}
use Rattle.mp_legal.specs.PlainCall.{Inputs}
use Rattle.mp_legal.specs.CaseParts.{on_one_node, lane}

-- the inputs of the case
abbrev pub inputs : Inputs
inputs = on_one_node policy.QueueDepth 0 (0 ∷ 1 ∷ []) []

-- the lanes of its script
abbrev pub lanes : List LanePlan
lanes = lane 2 (line.Submit 0 0 ∷ line.Submit 1 0 ∷ line.Submit 2 0 ∷ []) ∷ []

-- the text of the run
abbrev pub text : List ℕ
text =
    codes "anamp 1\n"
    ++ codes "head 1 queue-depth\n"
    ++ codes "row 0 0 open a live optimized rn\n"
    ++ codes "row 1 0 open b live optimized rn\n"
    ++ codes "order 0 open queue-depth 0,1\n"
    ++ codes "lane 0\n"
    ++ codes "at 2 submit\n"
    ++ codes "try 0 1 sent 0 0\n"
    ++ codes "at 3 submit\n"
    ++ codes "try 1 1 sent 1 0\n"
    ++ codes "at 4 submit\n"
    ++ codes "try 2 1 sent 0 0\n"
    ++ codes "at 0 finish 3\n"
    ++ codes "fin 0 1 0000 done\n"
    ++ codes "fin 1 1 0000 done\n"
    ++ codes "fin 2 1 0000 done\n"
    ++ codes "drain\n"
    ++ codes "at 0 requeue 0\n"
    ++ codes "request 0 0 a done 0000 1\n"
    ++ codes "request 1 0 b done 0000 1\n"
    ++ codes "request 2 0 a done 0000 1\n"
    ++ codes "end\n"
