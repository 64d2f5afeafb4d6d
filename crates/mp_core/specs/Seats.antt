-- Several lanes on one thread: what the stepping lane knows, and whose turn it is.
use Rattle.std.specs.Prelude.{ℕ, ◌&&◌, Bool, true, false, List, [], ◌∷◌, Option, None, Some, slice_index_or, slice_set}
use Rattle.std.specs.List.{list_all}
use Rattle.atomic_table.specs.Seated.{TableId}
use Rattle.mp_words.specs.declared.flight.Flight.{Flight}
use Rattle.mp_core.specs.declared.view.Section.{Section}
use Rattle.mp_core.specs.declared.view.Role.TheVariants as role
use Rattle.mp_core.specs.declared.view.Keeping.{Keeping}
use Rattle.mp_core.specs.declared.view.View.{View}
use Rattle.mp_core.specs.declared.view.Seats.{Seats}
use Rattle.mp_core.specs.Memory.{Memory}
use Rattle.mp_core.specs.Core.{Core}

-- a lane's view, with the keeper's part that is one for all lanes
abbrev pub with_keeping : Keeping → View → View
with_keeping k v = record v { keeping = k }

-- a view that stands in the place of the stepping lane's
abbrev pub no_view : Keeping → View
no_view k = record { role = role.Spent; left = 0; inside = None; done = []; flights = []; entries = []; seen = record { order = 0; rows = [] }; keeping = k }

-- the view of the lane that steps
abbrev pub view_of : ℕ → Seats → View
view_of lane s = with_keeping s.keeping (slice_index_or s.lanes lane (no_view s.keeping))

-- the views of the other lanes
abbrev pub others_of : Keeping → ℕ → Seats → List View
others_of k lane s = slice_set s.lanes lane (no_view k)

-- no section is open
abbrev pub no_section : Option Section → Bool
no_section None = true
no_section (Some s) = false

-- no flight is on its way
abbrev pub no_flight : List Flight → Bool
no_flight [] = true
no_flight (f ∷ fs) = false

-- the lane isn't out: it has no open section and no flight
abbrev pub is_in : View → Bool
is_in v = no_section v.inside && no_flight v.flights

-- what the lane that steps knows, with the keeper's part of the start for what stands in its place
abbrev pub core_of : Keeping → TableId → ℕ → Seats → Memory → Core
core_of k home lane s m = record {
  home = home;
  lane = lane;
  alone = list_all is_in (others_of k lane s);
  others = others_of k lane s;
  view = view_of lane s;
  told = Some m;
}

-- the views after that of the lane that steps became this one
abbrev pub put : Keeping → ℕ → View → Seats → Seats
put k lane v s = record { lanes = slice_set s.lanes lane (with_keeping k v); keeping = v.keeping }

-- the views of all lanes, by what the lane that steps knows
abbrev pub seats_of : Keeping → Core → Seats
seats_of k c = record { lanes = slice_set c.others c.lane (with_keeping k c.view); keeping = c.view.keeping }

-- what another lane knows at its turn, by what the first one knew
abbrev pub turned : Keeping → ℕ → Core → Memory → Core
turned k lane c m = core_of k c.home lane (seats_of k c) m
