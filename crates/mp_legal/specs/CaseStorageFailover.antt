-- A worked case: storage failover.
use Rattle.std.specs.Prelude.{ℕ, List, [], ◌∷◌, ◌++◌, codes, Result}
use Rattle.mp_words.specs.declared.row.Policy.TheVariants as policy
use Rattle.mp_page.specs.declared.page.Page.{Page}
use Rattle.mp_page.specs.declared.page.PageError.{PageError}
use Rattle.mp_script.specs.declared.script.Line.TheVariants as line
use Rattle.mp_script.specs.declared.script.LanePlan.{LanePlan}
use Rattle.mp_topology.specs.declared.topology.Controller.{Controller}
use Rattle.mp_legal.specs.PlainCall.{Inputs}
use Rattle.mp_legal.specs.CaseParts.{inputs_with, topology, two_nodes, with_ana, page, group, lane}

-- two sides of a storage, each with the other's state for namespace 2
abbrev pub sides : List (Result Page PageError)
sides = page (group 1 1 (1 ∷ []) ∷ group 2 2 (2 ∷ []) ∷ []) ∷ page (group 1 2 (1 ∷ []) ∷ group 2 1 (2 ∷ []) ∷ []) ∷ []

-- its controllers, each with the page of its side
abbrev pub controllers : List Controller
controllers =
    with_ana (codes "a") 0 0 ∷ with_ana (codes "b") 1 0 ∷ with_ana (codes "c") 0 1 ∷ with_ana (codes "d") 1 1 ∷ []

-- the inputs of the case
abbrev pub inputs : Inputs
inputs = inputs_with (topology policy.Numa two_nodes controllers (0 ∷ 1 ∷ 2 ∷ 3 ∷ [])) sides []

-- the lanes of its script
abbrev pub lanes : List LanePlan
lanes =
    lane 2 (line.Submit 0 0 ∷ line.Submit 1 1 ∷ line.Submit 2 0 ∷ line.Submit 3 1 ∷ line.FinishAll ∷ line.Log 0 1
    ∷ line.Log 1 1 ∷ line.Submit 4 0 ∷ line.Submit 5 1 ∷ line.Log 2 0 ∷ line.Log 3 0 ∷ line.Submit 6 0
    ∷ line.Submit 7 1 ∷ line.Submit 8 0 ∷ line.Submit 9 1 ∷ line.FinishAll ∷ line.Submit 10 0 ∷ line.Submit 11 1
    ∷ []) ∷ []

-- the text of the run
abbrev pub text : List ℕ
text =
    codes "anamp 1\n"
    ++ codes "head 1 numa\n"
    ++ codes "row 0 0 open a live optimized rn\n"
    ++ codes "row 0 1 0.7 a live non-optimized rn\n"
    ++ codes "row 1 0 open b live optimized rn\n"
    ++ codes "row 1 1 0.8 b live non-optimized rn\n"
    ++ codes "row 2 0 open c live non-optimized rn\n"
    ++ codes "row 2 1 0.11 c live optimized rn\n"
    ++ codes "row 3 0 open d live non-optimized rn\n"
    ++ codes "row 3 1 0.12 d live optimized rn\n"
    ++ codes "order 0 open numa 0,1,2,3\n"
    ++ codes "lane 0\n"
    ++ codes "at 2 submit\n"
    ++ codes "try 0 1 sent 0 0\n"
    ++ codes "at 3 submit\n"
    ++ codes "try 1 1 sent 1 0\n"
    ++ codes "at 4 submit\n"
    ++ codes "try 2 1 sent 0 0\n"
    ++ codes "at 5 submit\n"
    ++ codes "try 3 1 sent 1 0\n"
    ++ codes "at 6 finish 4\n"
    ++ codes "fin 0 1 0000 done\n"
    ++ codes "fin 1 1 0000 done\n"
    ++ codes "fin 2 1 0000 done\n"
    ++ codes "fin 3 1 0000 done\n"
    ++ codes "at 7 changed 0 1\n"
    ++ codes "at 8 changed 1 1\n"
    ++ codes "at 9 submit\n"
    ++ codes "try 4 1 sent 0 1\n"
    ++ codes "at 10 submit\n"
    ++ codes "try 5 1 sent 1 1\n"
    ++ codes "at 11 changed 2 1\n"
    ++ codes "at 12 changed 3 1\n"
    ++ codes "at 13 submit\n"
    ++ codes "try 6 1 sent 2 1\n"
    ++ codes "at 14 submit\n"
    ++ codes "try 7 1 sent 3 1\n"
    ++ codes "at 15 submit\n"
    ++ codes "try 8 1 sent 2 1\n"
    ++ codes "at 16 submit\n"
    ++ codes "try 9 1 sent 3 1\n"
    ++ codes "at 17 finish 6\n"
    ++ codes "fin 4 1 0000 done\n"
    ++ codes "fin 5 1 0000 done\n"
    ++ codes "fin 6 1 0000 done\n"
    ++ codes "fin 7 1 0000 done\n"
    ++ codes "fin 8 1 0000 done\n"
    ++ codes "fin 9 1 0000 done\n"
    ++ codes "at 18 submit\n"
    ++ codes "try 10 1 sent 2 1\n"
    ++ codes "at 19 submit\n"
    ++ codes "try 11 1 sent 3 1\n"
    ++ codes "at 0 finish 2\n"
    ++ codes "fin 10 1 0000 done\n"
    ++ codes "fin 11 1 0000 done\n"
    ++ codes "drain\n"
    ++ codes "at 0 requeue 0\n"
    ++ codes "request 0 0 a done 0000 1\n"
    ++ codes "request 1 1 b done 0000 1\n"
    ++ codes "request 2 0 a done 0000 1\n"
    ++ codes "request 3 1 b done 0000 1\n"
    ++ codes "request 4 0 a done 0000 1\n"
    ++ codes "request 5 1 b done 0000 1\n"
    ++ codes "request 6 0 c done 0000 1\n"
    ++ codes "request 7 1 d done 0000 1\n"
    ++ codes "request 8 0 c done 0000 1\n"
    ++ codes "request 9 1 d done 0000 1\n"
    ++ codes "request 10 0 c done 0000 1\n"
    ++ codes "request 11 1 d done 0000 1\n"
    ++ codes "end\n"
