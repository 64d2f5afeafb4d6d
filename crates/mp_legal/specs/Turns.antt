-- Which lane runs what, turn by turn.
use Rattle.std.specs.Prelude.{ℕ, ◌+◌, max, ◌==◌, List, [], ◌∷◌, map, length, fold, slice_get, Option, Some, None, if◌then◌else◌}
use Rattle.std.specs.List.{enumerate_from, range_with_len, flat_map}
use Rattle.mp_script.specs.declared.script.Numbered1.{Numbered1}
use Rattle.mp_script.specs.declared.script.LanePlan.{LanePlan}

-- a turn of a lane: one of its lines, or its end
pub record Turn : Type 0 where
  pub lane : ℕ
  pub line : Option Numbered1

-- the turn of a lane with a line, where it has the line
abbrev pub line_turn : ℕ → Option Numbered1 → List Turn
line_turn lane None = []
line_turn lane (Some l) = record { lane = lane; line = Some l } ∷ []

-- the turn of a lane in a round: the line of that place, behind the last line the end, and then none
abbrev pub turn_in : ℕ → ℕ × LanePlan → List Turn
turn_in round lane =
    if round == length lane.1.lines then record { lane = lane.0; line = None } ∷ [] else line_turn lane.0 (slice_get lane.1.lines round)

-- one turn for each lane that has one in this round, lane 0 first
abbrev pub round_of : List LanePlan → ℕ → List Turn
round_of lanes round = flat_map (turn_in round) (enumerate_from 0 lanes)

-- how many lines the longest lane has
abbrev pub longest : List LanePlan → ℕ
longest lanes = fold max 0 (map (λ lane. length lane.lines) lanes)

-- all turns: round after round, until the longest lane has ended
abbrev pub turns_of : List LanePlan → List Turn
turns_of lanes = flat_map (round_of lanes) (range_with_len 0 (longest lanes + 1))
