-- The path that each policy chooses.
use Rattle.std.specs.Prelude.{ℕ, Bool, nat_le, List, ◌++◌, Option, None, Some, filter, find, if◌then◌else◌, slice_index}
use Rattle.std.specs.List.{list_all, list_any, last_or, before_first, after_first}
use Rattle.std.specs.Option.{option_or}
use Rattle.mp_words.specs.declared.near.Near.{Near}
use Rattle.mp_words.specs.declared.reading.Reading.{Reading}
use Rattle.mp_words.specs.declared.path.Path.{Path}
use Rattle.mp_words.specs.Places.{place_in}
use Rattle.mp_words.specs.Near.{distance_of}
use Rattle.mp_words.specs.Row.{is_usable}
use Rattle.mp_words.specs.States.{optimized, non_optimized}
use Rattle.mp_words.specs.PathTable.{has_slot, is_in}

-- None of the paths is nearer than this one.
abbrev pub is_nearest : (Path → ℕ) → List Path → Path → Bool
is_nearest distance paths path = list_all (λ other. nat_le (distance path) (distance other)) paths

-- The first path than which none is nearer.
abbrev pub first_nearest : (Path → ℕ) → List Path → Option Path
first_nearest distance paths = find (is_nearest distance paths) paths

-- The first of the nearest enabled optimized paths, else of the nearest enabled non-optimized ones.
abbrev pub nearest_choice : (Path → ℕ) → List Path → Option Path
nearest_choice distance paths =
    option_or (first_nearest distance (filter (is_in optimized) paths)) (first_nearest distance (filter (is_in non_optimized) paths))

-- How far a path's controller is from a node.
abbrev pub distance_to : Near → ℕ → Path → ℕ
distance_to near node path = distance_of near node path.row.ctrl

-- The choice of NUMA: the distance is that from the node to the path's controller.
abbrev pub numa_choice : Near → ℕ → List Path → Option Path
numa_choice near node paths = nearest_choice (distance_to near node) paths

-- The choice of queue depth: the distance is the number of active commands on the path.
abbrev pub queue_depth_choice : (ℕ → ℕ) → List Path → Option Path
queue_depth_choice depth paths = nearest_choice (λ path. depth path.slot) paths

-- The depth at the place of a slot of the reading.
abbrev pub depth_by : Reading → List ℕ → ℕ → ℕ
depth_by reading depths slot = slice_index depths (place_in slot reading)

-- The paths after this slot's, and then those before it.
abbrev pub walk_from : ℕ → List Path → List Path
walk_from slot paths = after_first (has_slot slot) paths ++ before_first (has_slot slot) paths

-- The path, where it is enabled and in this ANA state.
abbrev pub if_in : ℕ → Path → Option Path
if_in state path = if is_in state path then Some path else None

-- The choice of round robin from the path of the last choice, and the walk from it: the first of these that exists.
abbrev pub next_choice : Path → List Path → Option Path
next_choice last walk =
    option_or (find (is_in optimized) walk)
    (option_or (if_in optimized last) (option_or (last_or None (filter (is_in non_optimized) walk)) (if_in non_optimized last)))

-- The choice of round robin from the path of the last choice, or without one.
abbrev pub choice_after : Option Path → List Path → Option Path
choice_after None paths = nearest_choice (λ path. 0) paths
choice_after (Some last) paths = next_choice last (walk_from last.slot paths)

-- The listed path of a last choice, if there is one.
abbrev pub listed_last : Option ℕ → List Path → Option Path
listed_last None paths = None
listed_last (Some slot) paths = find (has_slot slot) paths

-- The choice of round robin: the next path after the last choice, if that is listed, else the nearest at equal
-- distances.
abbrev pub round_robin_choice : Option ℕ → List Path → Option Path
round_robin_choice last paths = choice_after (listed_last last paths) paths

-- Some path is usable.
abbrev pub has_usable : List Path → Bool
has_usable paths = list_any (λ path. is_usable path.row) paths
