-- What stands before a line, and what the whole text submits.
use Rattle.std.specs.Prelude.{ℕ, Bool, true, false, if◌then◌else◌, List, [], ◌∷◌, ◌++◌, length, map, filter, Option, Some, None}
use Rattle.std.specs.Option.{option_to_list}
use Rattle.std.specs.List.{list_any, last_or}
use Rattle.mp_checks.specs.Marks.{has}
use Rattle.mp_words.specs.declared.answers.Answer.{Answer}
use Rattle.mp_words.specs.Answers.{is_of}
use Rattle.mp_script.specs.Splitting.{value_of, status_of}
use Rattle.mp_script.specs.Shape.{Shape, answer, lane, keeper, submit, shape_of}
use Rattle.mp_script.specs.Wording.{has_numbers}

-- the line begins a lane
abbrev pub begins_lane : Shape → Bool
begins_lane lane = true
begins_lane keeper = true
begins_lane _ = false

-- the line begins the keeper's lane
abbrev pub is_keeper : Shape → Bool
is_keeper keeper = true
is_keeper _ = false

-- what f gives of each line
abbrev pub each_of : {X : Type 0} → (Shape → Option X) → List (List ℕ) → List X
each_of f [] = []
each_of f (l ∷ ls) = option_to_list (f (shape_of l)) ++ each_of f ls

-- the request that a line submits
abbrev pub submitted_of : Shape → Option ℕ
submitted_of (submit r n) = Some (value_of r)
submitted_of _ = None

-- the answer that a line gives
abbrev pub answer_of : Shape → Option Answer
answer_of (answer r a s) = Some (record { req = value_of r; attempt = value_of a; status = status_of s })
answer_of _ = None

-- ---- the lines before a line

-- the lines that begin a lane
abbrev pub lanes_in : List (List ℕ) → List Shape
lanes_in ls = filter begins_lane (map shape_of ls)

-- the line that begins a lane, if there is one, begins the keeper's
abbrev pub is_keepers_lane : Option Shape → Bool
is_keepers_lane None = false
is_keepers_lane (Some s) = is_keeper s

-- How many lanes have begun, whether the last of them and whether any of them is the keeper's, and what was
-- submitted and answered.
pub record Before : Type 0 where
  pub lanes : ℕ
  pub in_keeper : Bool
  pub had_keeper : Bool
  pub submitted : List ℕ
  pub answered : List Answer

-- what stands before a line, of the lines before it
unfoldable pub before : List (List ℕ) → Before
before ls = record {
  lanes = length (lanes_in ls);
  in_keeper = is_keepers_lane (last_or None (lanes_in ls));
  had_keeper = list_any is_keeper (lanes_in ls);
  submitted = each_of submitted_of ls;
  answered = each_of answer_of ls;
}

-- the line says again what was said
unfoldable pub repeats : Before → Shape → Bool
repeats b (submit r n) = has b.submitted (value_of r)
repeats b (answer r a s) = list_any (is_of (value_of r) (value_of a)) b.answered
repeats b keeper = b.had_keeper
repeats b _ = false

-- ---- the whole text

-- the lines behind the first that begins a lane
abbrev pub in_lanes : List (List ℕ) → List (List ℕ)
in_lanes [] = []
in_lanes (l ∷ ls) = if begins_lane (shape_of l) then ls else in_lanes ls

-- the request that a line submits whose numbers are right
abbrev pub right_submit : ℕ → Shape → Option ℕ
right_submit nodes s = if has_numbers nodes s then submitted_of s else None

-- the request that a line submits in the text, where a lane has begun before it or not
abbrev pub submit_in : ℕ → Bool → Shape → Option ℕ
submit_in nodes begun s = if begun then right_submit nodes s else None

-- the requests that lines of a text submit: lines that stand in a lane, with right numbers
unfoldable pub submitted_in : ℕ → List (List ℕ) → List ℕ
submitted_in nodes lines = each_of (right_submit nodes) (in_lanes lines)
