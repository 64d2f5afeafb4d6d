-- What a submit chooses: by what its section read, and by the words where they are told.
use Rattle.std.specs.Prelude.{◌≡◌, ℕ, Bool, true, false, ◌&&◌, nat_lt, List, Option, None, Some, option_map, unwrap_or, if◌then◌else◌, slice_index_or}
use Rattle.std.specs.List.{list_any}
use Rattle.std.specs.Option.{is_some}
use Rattle.mp_words.specs.declared.row.Policy.{Policy}
use Rattle.mp_words.specs.declared.row.Policy.TheVariants.{Numa, RoundRobin, QueueDepth}
use Rattle.mp_words.specs.declared.order.Order.{Order}
use Rattle.mp_words.specs.declared.near.Near.{Near}
use Rattle.mp_words.specs.declared.note.Note.{Note}
use Rattle.mp_words.specs.declared.trying.TryEnd.{TryEnd}
use Rattle.mp_words.specs.declared.trying.TryEnd.TheVariants.{Sent, Listed, Failed}
use Rattle.mp_words.specs.declared.reading.Reading.{Reading}
use Rattle.mp_words.specs.Row.{is_available, is_usable}
use Rattle.mp_words.specs.Places.{place_in}
use Rattle.mp_words.specs.declared.path.Path.{Path}
use Rattle.mp_words.specs.PathTable.{paths_of, path_table}
use Rattle.mp_policy.specs.Choices.{numa_choice, round_robin_choice, queue_depth_choice}
use Rattle.mp_core.specs.Memory.{Memory, row_at, depth_at, current_at}
use Rattle.mp_core.specs.Reads.{IsWhole, row_of_place}

-- The policy's choice among these paths, for a request on a node, with the node's last choice and the depths by slot.
abbrev pub choice_by : Policy → Near → ℕ → Option ℕ → (ℕ → ℕ) → List Path → Option Path
choice_by Numa near node last depth paths = numa_choice near node paths
choice_by RoundRobin near node last depth paths = round_robin_choice last paths
choice_by QueueDepth near node last depth paths = queue_depth_choice depth paths

-- Some path is available.
abbrev pub has_available : List Path → Bool
has_available paths = list_any (λ path. is_available path.row) paths

-- How a try ends on these paths with this choice: it is sent to the choice or, without one, listed where some path is
-- available, else failed.
abbrev pub end_with : List Path → Option Path → TryEnd
end_with paths (Some path) = Sent path.slot path.row.version
end_with paths None = if has_available paths then Listed else Failed

-- The policy of the list of paths that was read.
abbrev pub policy_in : Option Order → Policy
policy_in None = Numa
policy_in (Some order) = order.policy

-- The last choice that was read, if one was.
abbrev pub last_in : Option (Option ℕ) → Option ℕ
last_in None = None
last_in (Some current) = current

-- The depth that was read of a slot, or 0.
abbrev pub depth_in : Note → ℕ → ℕ
depth_in n slot = unwrap_or (slice_index_or n.depths (place_in slot n.reading) None) 0

-- The policy's choice on what a section read.
abbrev pub choice_in : Near → ℕ → Note → Option Path
choice_in near node n = choice_by (policy_in n.order) near node (last_in n.current) (depth_in n) (paths_of n.reading)

-- The slot of a choice.
abbrev pub slot_of_choice : Option Path → Option ℕ
slot_of_choice choice = option_map (λ path. path.slot) choice

-- The policy looks at the node's current path: round robin.
abbrev pub looks_at_current : Policy → Bool
looks_at_current Numa = false
looks_at_current RoundRobin = true
looks_at_current QueueDepth = false

-- The policy looks at the depths of the usable paths: queue depth.
abbrev pub looks_at_depths : Policy → Bool
looks_at_depths Numa = false
looks_at_depths RoundRobin = false
looks_at_depths QueueDepth = true

-- The row at a place of a reading is listed and usable.
abbrev pub is_usable_at : ℕ → Reading → Bool
is_usable_at place r = nat_lt place r.len && is_usable (row_of_place r place)

-- Besides rows a section read just what the policy looks at: the node's current path, or the depths of the slots whose
-- rows are usable.
pub record ReadsFor (policy : Policy) (n : Note) : Type 0 where
  pub current : is_some n.current ≡ looks_at_current policy
  pub depths : (place : ℕ) → is_some (slice_index_or n.depths place None) ≡ (looks_at_depths policy && is_usable_at place n.reading)

-- A choice by what its section read: the rows of all listed slots, and besides just what the policy looks at. It is that
-- of the policy on these.
pub record IsLawful (near : Near) (node : ℕ) (n : Note) (choice : Option ℕ) : Type 0 where
  pub whole : IsWhole n
  pub looked : ReadsFor (policy_in n.order) n
  pub is : choice ≡ slot_of_choice (choice_in near node n)

-- The path table of the words.
abbrev pub paths_at : Memory → List Path
paths_at m = path_table m.order (row_at m)

-- What a submit chooses on the words.
abbrev pub told_choice : Near → ℕ → Memory → Option Path
told_choice near node m = choice_by m.order.policy near node (current_at m node) (depth_at m) (paths_at m)

-- A choice becomes the node's current path: under round robin.
abbrev pub keeps_choice : Policy → Bool
keeps_choice Numa = false
keeps_choice RoundRobin = true
keeps_choice QueueDepth = false
