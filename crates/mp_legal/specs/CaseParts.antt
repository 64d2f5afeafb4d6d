-- Parts of the worked cases.
use Rattle.std.specs.Prelude.{ℕ, suc, true, false, List, [], ◌∷◌, ◌++◌, map, take, length, replicate, codes, Some, None, Result, Ok, Err}
use Rattle.mp_words.specs.declared.answers.Answer.{Answer}
use Rattle.mp_words.specs.declared.row.CState.{CState}
use Rattle.mp_words.specs.declared.row.CState.TheVariants.{Live}
use Rattle.mp_words.specs.declared.row.Policy.{Policy}
use Rattle.mp_page.specs.declared.page.Group.{Group}
use Rattle.mp_page.specs.declared.page.Page.{Page}
use Rattle.mp_page.specs.declared.page.PageError.{PageError}
use Rattle.mp_page.specs.declared.page.PageError.TheVariants.{ShortList}
use Rattle.mp_script.specs.declared.script.Line.{Line}
use Rattle.mp_script.specs.declared.script.Numbered1.{Numbered1}
use Rattle.mp_script.specs.declared.script.LanePlan.{LanePlan}
use Rattle.mp_topology.specs.declared.topology.Controller.{Controller}
use Rattle.mp_topology.specs.declared.topology.Topology.{Topology}
use Rattle.mp_legal.specs.PlainCall.{Inputs}

-- a row of distances, in eight places
abbrev pub eight : List ℕ → List ℕ
eight ns = take 8 (ns ++ replicate 8 0)

-- a controller without ANA on a node, in a state
abbrev pub without_ana : List ℕ → ℕ → CState → Controller
without_ana name node state = record { name = name; node = Some node; ana = false; state = state; page = None }

-- a live controller with ANA on a node, whose page is in a box
abbrev pub with_ana : List ℕ → ℕ → ℕ → Controller
with_ana name node box = record { name = name; node = Some node; ana = true; state = Live; page = Some box }

-- A topology of namespace 1 with groups up to 4, by its policy, the distances from each node, its controllers and its
-- opening.
abbrev pub topology : Policy → List (List ℕ) → List Controller → List ℕ → Topology
topology policy distance controllers opening = record {
  nsid = 1;
  anagrpmax = 4;
  group = 1;
  policy = policy;
  near = record {
    nodes = length distance;
    distance = take 8 (map eight distance ++ replicate 8 (eight []));
    home = take 64 (map (λ c. c.node) controllers ++ replicate 64 None);
  };
  controllers = controllers;
  opening = opening;
}

-- the distances of two nodes
abbrev pub two_nodes : List (List ℕ)
two_nodes = (10 ∷ 20 ∷ []) ∷ (20 ∷ 10 ∷ []) ∷ []

-- the distances of one node
abbrev pub one_node : List (List ℕ)
one_node = (10 ∷ []) ∷ []

-- a group in a state, of these namespaces
abbrev pub group : ℕ → ℕ → List ℕ → Group
group id state nsids = record { id = id; changes = 5; state = state; nsids = nsids }

-- a log page of these groups
abbrev pub page : List Group → Result Page PageError
page groups = Ok (record { changes = 5; groups = groups })

-- boxes with namespace 1 optimized, non-optimized, inaccessible and in change, with no group, and with a list cut short
abbrev pub six_boxes : List (Result Page PageError)
six_boxes =
    page (group 1 1 (1 ∷ []) ∷ []) ∷ page (group 1 2 (1 ∷ []) ∷ []) ∷ page (group 1 3 (1 ∷ []) ∷ [])
    ∷ page (group 1 15 (1 ∷ []) ∷ []) ∷ page [] ∷ Err (ShortList 16) ∷ []

-- the status of an attempt of a request, from 1
abbrev pub answer : ℕ → ℕ → ℕ → Answer
answer req attempt status = record { req = req; attempt = attempt; status = status }

-- the inputs of a run
abbrev pub inputs_with : Topology → List (Result Page PageError) → List Answer → Inputs
inputs_with topology pages answers = record { topology = topology; pages = pages; answers = answers }

-- Two controllers without ANA in one state, a on node 0 and b on node 1, both in the opening, without boxes.
abbrev pub near_and_far : Policy → CState → Inputs
near_and_far policy state =
    let controllers : List Controller = without_ana (codes "a") 0 state ∷ without_ana (codes "b") 1 state ∷ [] in
    inputs_with (topology policy two_nodes controllers (0 ∷ 1 ∷ [])) [] []

-- three controllers with ANA on one node, a, b and c, whose pages are in one of the six boxes
abbrev pub on_one_node : Policy → ℕ → List ℕ → List Answer → Inputs
on_one_node policy box opening answers =
    let controllers : List Controller =
    with_ana (codes "a") 0 box ∷ with_ana (codes "b") 0 box ∷ with_ana (codes "c") 0 box ∷ [] in
    inputs_with (topology policy one_node controllers opening) six_boxes answers

-- lines with their numbers, from this one on
abbrev pub numbered_from : ℕ → List Line → List Numbered1
numbered_from first [] = []
numbered_from first (line ∷ lines) = record { number = first; line = line } ∷ numbered_from (suc first) lines

-- a lane of these lines, of which the first has this number
abbrev pub lane : ℕ → List Line → LanePlan
lane first lines = record { keeper = false; lines = numbered_from first lines }

-- the keeper's lane of these lines, of which the first has this number
abbrev pub keeper_lane : ℕ → List Line → LanePlan
keeper_lane first lines = record { keeper = true; lines = numbered_from first lines }
