-- What a reader of lines keeps, and one line more.
use Rattle.std.specs.Prelude.{◌≡◌, ℕ, ◌+◌, Bool, false, ◌||◌, if◌then◌else◌, List, [], ◌++◌, Option, Some, None, option_map}
use Rattle.std.specs.Option.{option_to_list}
use Rattle.std.specs.List.{list_any}
use Rattle.mp_checks.specs.Marks.{HaveSame}
use Rattle.mp_words.specs.Answers.{in_order, is_of, put_answer}
use Rattle.mp_words.specs.declared.answers.Answer.{Answer}
use Rattle.mp_topology.specs.declared.topology.Controller.{Controller}
use Rattle.mp_script.specs.Shape.{Shape}
use Rattle.mp_script.specs.Before.{Before, begins_lane, is_keeper, submitted_of, answer_of}
use Rattle.mp_script.specs.Plans.{numbered}
use Rattle.mp_script.specs.declared.script.Numbered1.{Numbered1}
use Rattle.mp_script.specs.declared.script.LanePlan.{LanePlan}
use Rattle.mp_script.specs.declared.earlier.Earlier.{Earlier}
use Rattle.mp_script.specs.declared.building.Building.{Building}

-- what is known is what stands before a line
pub record IsEarlier (k : Earlier) (b : Before) : Type 0 where
  pub lanes : k.lanes ≡ b.lanes
  pub in_keeper : k.in_keeper ≡ b.in_keeper
  pub had_keeper : k.had_keeper ≡ b.had_keeper
  pub submitted : HaveSame k.submitted b.submitted
  pub answered : k.answered ≡ in_order b.answered

-- these answers have one of the attempt that is answered
abbrev pub has_some : Option Answer → List Answer → Bool
has_some None answers = false
has_some (Some a) answers = list_any (is_of a.req a.attempt) answers

-- these answers, and the one of the line at its place
abbrev pub put_some : Option Answer → List Answer → List Answer
put_some None answers = answers
put_some (Some a) answers = put_answer a answers

-- what stands before the next line
unfoldable pub noted : Before → Shape → Before
noted b s = record {
  lanes = (if begins_lane s then 1 else 0) + b.lanes;
  in_keeper = if begins_lane s then is_keeper s else b.in_keeper;
  had_keeper = b.had_keeper || is_keeper s;
  submitted = b.submitted ++ option_to_list (submitted_of s);
  answered = b.answered ++ option_to_list (answer_of s);
}

-- a lane with these lines behind its own
abbrev pub with_lines : List Numbered1 → LanePlan → LanePlan
with_lines ns p = record { keeper = p.keeper; lines = p.lines ++ ns }

-- the lane that a line begins
abbrev pub new_plan : Shape → LanePlan
new_plan s = record { keeper = is_keeper s; lines = [] }

-- the lanes behind a line that asks for these
abbrev pub put_line : List Numbered1 → Building → Shape → Building
put_line asked b s = record {
  done = if begins_lane s then b.done ++ option_to_list b.current else b.done;
  current = if begins_lane s then Some (new_plan s) else option_map (with_lines asked) b.current;
}

-- the lanes behind a line of this number
unfoldable pub put : List Controller → Building → ℕ → Shape → Building
put controllers b n s = put_line (numbered controllers n s) b s
