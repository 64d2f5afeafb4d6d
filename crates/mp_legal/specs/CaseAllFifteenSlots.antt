-- A worked case: all fifteen slots.
use Rattle.std.specs.Prelude.{ℕ, List, [], ◌∷◌, ◌++◌, codes, map, None}
use Rattle.std.specs.List.{range_with_len}
use Rattle.mp_words.specs.declared.row.CState.TheVariants as cstate
use Rattle.mp_words.specs.declared.row.Policy.TheVariants as policy
use Rattle.mp_script.specs.declared.script.Line.TheVariants as line
use Rattle.mp_script.specs.declared.script.LanePlan.{LanePlan}
use Rattle.mp_topology.specs.declared.topology.Controller.{Controller}
use Rattle.mp_legal.specs.PlainCall.{Inputs}
use Rattle.mp_legal.specs.CaseParts.{inputs_with, topology, one_node, without_ana, keeper_lane}

-- controllers without ANA with these letters as names, all live on one node
abbrev pub lettered : List ℕ → List Controller
lettered letters = map (λ letter. without_ana (letter ∷ []) 0 cstate.Live) letters

-- the inputs of the case
abbrev pub inputs : Inputs
inputs =
    inputs_with (topology policy.QueueDepth one_node (lettered (codes "abcdefghijklmnop")) (range_with_len 0 8)) [] []

-- the lanes of its script
abbrev pub lanes : List LanePlan
lanes =
    keeper_lane 2 (line.Add 8 None ∷ line.Submit 0 0 ∷ line.Submit 1 0 ∷ line.Submit 2 0 ∷ line.Submit 3 0
    ∷ line.Submit 4 0 ∷ line.Submit 5 0 ∷ line.Submit 6 0 ∷ line.Remove 0 ∷ line.Remove 1 ∷ line.Remove 2
    ∷ line.Remove 3 ∷ line.Remove 4 ∷ line.Remove 5 ∷ line.Remove 6 ∷ line.Reap ∷ line.Add 8 None ∷ line.Add 9 None
    ∷ line.Add 10 None ∷ line.Add 11 None ∷ line.Add 12 None ∷ line.Add 13 None ∷ line.Add 14 None
    ∷ line.Add 15 None ∷ line.Remove 7 ∷ line.Add 15 None ∷ line.Reap ∷ line.Add 15 None ∷ line.Add 15 None ∷ []) ∷ []

-- the text of the run
abbrev pub text : List ℕ
text =
    codes "anamp 1\n"
    ++ codes "head 1 queue-depth\n"
    ++ codes "row 0 0 open a live optimized r\n"
    ++ codes "row 0 1 0.10 a live optimized m\n"
    ++ codes "row 0 2 16.0 free\n"
    ++ codes "row 1 0 open b live optimized r\n"
    ++ codes "row 1 1 0.11 b live optimized m\n"
    ++ codes "row 1 2 16.0 free\n"
    ++ codes "row 2 0 open c live optimized r\n"
    ++ codes "row 2 1 0.12 c live optimized m\n"
    ++ codes "row 2 2 16.0 free\n"
    ++ codes "row 3 0 open d live optimized r\n"
    ++ codes "row 3 1 0.13 d live optimized m\n"
    ++ codes "row 3 2 16.0 free\n"
    ++ codes "row 4 0 open e live optimized r\n"
    ++ codes "row 4 1 0.14 e live optimized m\n"
    ++ codes "row 4 2 16.0 free\n"
    ++ codes "row 5 0 open f live optimized r\n"
    ++ codes "row 5 1 0.15 f live optimized m\n"
    ++ codes "row 5 2 16.0 free\n"
    ++ codes "row 6 0 open g live optimized r\n"
    ++ codes "row 6 1 0.16 g live optimized m\n"
    ++ codes "row 6 2 16.0 free\n"
    ++ codes "row 7 0 open h live optimized r\n"
    ++ codes "row 7 1 0.26 h live optimized m\n"
    ++ codes "row 7 2 0.28 free\n"
    ++ codes "row 7 3 0.29 p live optimized r\n"
    ++ codes "row 8 1 0.18 i live optimized r\n"
    ++ codes "row 9 1 0.19 j live optimized r\n"
    ++ codes "row 10 1 0.20 k live optimized r\n"
    ++ codes "row 11 1 0.21 l live optimized r\n"
    ++ codes "row 12 1 0.22 m live optimized r\n"
    ++ codes "row 13 1 0.23 n live optimized r\n"
    ++ codes "row 14 1 0.24 o live optimized r\n"
    ++ codes "order 0 open queue-depth 0,1,2,3,4,5,6,7\n"
    ++ codes "order 1 0.17 queue-depth 1,2,3,4,5,6,7\n"
    ++ codes "order 2 0.17 queue-depth 2,3,4,5,6,7\n"
    ++ codes "order 3 0.17 queue-depth 3,4,5,6,7\n"
    ++ codes "order 4 0.17 queue-depth 4,5,6,7\n"
    ++ codes "order 5 0.17 queue-depth 5,6,7\n"
    ++ codes "order 6 0.17 queue-depth 6,7\n"
    ++ codes "order 7 0.17 queue-depth 7\n"
    ++ codes "order 8 0.18 queue-depth 7,8\n"
    ++ codes "order 9 0.19 queue-depth 7,8,9\n"
    ++ codes "order 10 0.20 queue-depth 7,8,9,10\n"
    ++ codes "order 11 0.21 queue-depth 7,8,9,10,11\n"
    ++ codes "order 12 0.22 queue-depth 7,8,9,10,11,12\n"
    ++ codes "order 13 0.23 queue-depth 7,8,9,10,11,12,13\n"
    ++ codes "order 14 0.24 queue-depth 7,8,9,10,11,12,13,14\n"
    ++ codes "order 15 0.28 queue-depth 8,9,10,11,12,13,14\n"
    ++ codes "order 16 0.29 queue-depth 8,9,10,11,12,13,14,7\n"
    ++ codes "keeper 0\n"
    ++ codes "at 2 order-full\n"
    ++ codes "at 3 submit\n"
    ++ codes "try 0 1 sent 0 0\n"
    ++ codes "at 4 submit\n"
    ++ codes "try 1 1 sent 1 0\n"
    ++ codes "at 5 submit\n"
    ++ codes "try 2 1 sent 2 0\n"
    ++ codes "at 6 submit\n"
    ++ codes "try 3 1 sent 3 0\n"
    ++ codes "at 7 submit\n"
    ++ codes "try 4 1 sent 4 0\n"
    ++ codes "at 8 submit\n"
    ++ codes "try 5 1 sent 5 0\n"
    ++ codes "at 9 submit\n"
    ++ codes "try 6 1 sent 6 0\n"
    ++ codes "at 10 marked 0 1\n"
    ++ codes "at 11 marked 1 1\n"
    ++ codes "at 12 marked 2 1\n"
    ++ codes "at 13 marked 3 1\n"
    ++ codes "at 14 marked 4 1\n"
    ++ codes "at 15 marked 5 1\n"
    ++ codes "at 16 marked 6 1\n"
    ++ codes "at 17 again 0 depth 1\n"
    ++ codes "at 18 added 8 1 8\n"
    ++ codes "at 19 added 9 1 9\n"
    ++ codes "at 20 added 10 1 10\n"
    ++ codes "at 21 added 11 1 11\n"
    ++ codes "at 22 added 12 1 12\n"
    ++ codes "at 23 added 13 1 13\n"
    ++ codes "at 24 added 14 1 14\n"
    ++ codes "at 25 no-slot\n"
    ++ codes "at 26 marked 7 1\n"
    ++ codes "at 27 no-slot\n"
    ++ codes "at 28 freed 7 2 16\n"
    ++ codes "at 29 added 7 3 16\n"
    ++ codes "at 30 already 7\n"
    ++ codes "at 0 finish 7\n"
    ++ codes "fin 0 1 0000 done\n"
    ++ codes "fin 1 1 0000 done\n"
    ++ codes "fin 2 1 0000 done\n"
    ++ codes "fin 3 1 0000 done\n"
    ++ codes "fin 4 1 0000 done\n"
    ++ codes "fin 5 1 0000 done\n"
    ++ codes "fin 6 1 0000 done\n"
    ++ codes "drain\n"
    ++ codes "at 0 freed 0 2 16\n"
    ++ codes "at 0 freed 1 2 16\n"
    ++ codes "at 0 freed 2 2 16\n"
    ++ codes "at 0 freed 3 2 16\n"
    ++ codes "at 0 freed 4 2 16\n"
    ++ codes "at 0 freed 5 2 16\n"
    ++ codes "at 0 freed 6 2 16\n"
    ++ codes "at 0 requeue 0\n"
    ++ codes "request 0 0 a done 0000 1\n"
    ++ codes "request 1 0 b done 0000 1\n"
    ++ codes "request 2 0 c done 0000 1\n"
    ++ codes "request 3 0 d done 0000 1\n"
    ++ codes "request 4 0 e done 0000 1\n"
    ++ codes "request 5 0 f done 0000 1\n"
    ++ codes "request 6 0 g done 0000 1\n"
    ++ codes "end\n"
