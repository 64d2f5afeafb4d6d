-- What all lanes on one thread know, and what the table's rule is told of it.
use Rattle.std.specs.Prelude.{ℕ, zero, suc, ◌*◌, ◌-◌, List, [], ◌∷◌, ◌++◌, replicate, None, slice_index_or, slice_set}
use Rattle.atomic_table.specs.Seated.{TableId}
use Rattle.mp_words.specs.declared.words.Words.{Words}
use Rattle.mp_core.specs.declared.view.Start.{Start}
use Rattle.mp_core.specs.declared.view.Keeping.{Keeping}
use Rattle.mp_core.specs.declared.view.Role.TheVariants as role
use Rattle.mp_core.specs.declared.view.Seats.{Seats}
use Rattle.mp_core.specs.declared.view.View.{View}
use Rattle.mp_core.specs.Core.{Core}
use Rattle.mp_core.specs.Memory.{Memory}
use Rattle.mp_core.specs.Seats.{no_view, view_of, core_of, put}
use Rattle.mp_core.specs.Views.{new_part, unheld}
use Rattle.mp_rule.specs.Lawful.{opening_view}
use Rattle.mp_plain.specs.declared.ledger.Opening.{Opening}
use Rattle.mp_plain.specs.declared.ledger.Ruled.{Ruled}

-- the start: the words, and the units of all seventeen lanes
abbrev pub start_of : Opening → Start
start_of o = record { words = o.words; units = 17 * o.allowance }

-- the keeper's part at the start
abbrev pub begun : Start → Keeping
begun start = (opening_view start).keeping

-- the view of each lane at the start: it has its units, has seen the versions of the start, and nothing else
abbrev pub lane_begun : Opening → View
lane_begun o = record (opening_view (start_of o)) { left = o.allowance }

-- the views of all lanes at the start
abbrev pub seats_begun : Opening → Seats
seats_begun o = record { lanes = replicate 17 (lane_begun o); keeping = begun (start_of o) }

-- the numbers below this one
abbrev pub lanes_to : ℕ → List ℕ
lanes_to zero = []
lanes_to (suc n) = lanes_to n ++ n ∷ []

-- what the lane that steps knows
abbrev pub core_at : TableId → ℕ → Seats → Memory → Core
core_at home lane s m = core_of (begun s.keeping.start) home lane s m

-- the views of lanes below this one, as they are split off at the start
abbrev pub parts_to : Opening → ℕ → List View
parts_to o zero = []
parts_to o (suc n) = parts_to o n ++ new_part n o.allowance (opening_view (start_of o)) ∷ []

-- what all lanes know at the start, and what the rule is told of it
abbrev pub ruled_begun : Opening → Ruled
ruled_begun o = record { seats = seats_begun o; entries = []; seen = (opening_view (start_of o)).seen; lanes = parts_to o 17 }

-- the keeper's view that the rule is told: it has the one keeper's part, and all lanes are out
abbrev pub keeper_of : Ruled → View
keeper_of r = record {
  role = role.Keeper;
  left = 0;
  inside = None;
  done = [];
  flights = [];
  entries = r.entries;
  seen = r.seen;
  keeping = record (r.seats.keeping) { out = lanes_to 17 };
}

-- the views that the rule is told: the keeper's, and one for each lane
abbrev pub views_of : Ruled → List View
views_of r = keeper_of r ∷ r.lanes

-- the view of a lane that the rule is told
abbrev pub part_of : ℕ → Ruled → View
part_of lane r = slice_index_or r.lanes lane (no_view r.seats.keeping)

-- what is known after the view of the lane that steps became this one
abbrev pub seats_after : ℕ → View → Seats → Seats
seats_after lane v s = put (begun s.keeping.start) lane v s

-- what is known after a step of a lane, which changes its view so
abbrev pub lane_turn : ℕ → (View → View) → Ruled → Ruled
lane_turn lane step r = record {
  seats = seats_after lane (step (view_of lane r.seats)) r.seats;
  entries = r.entries;
  seen = r.seen;
  lanes = slice_set r.lanes lane (step (part_of lane r));
}

-- what is known after a step of the keeper that a lane makes, which changes its view so
abbrev pub keeper_turn : ℕ → (View → View) → Ruled → Ruled
keeper_turn lane step r = record {
  seats = seats_after lane (step (view_of lane r.seats)) r.seats;
  entries = (step (keeper_of r)).entries;
  seen = (step (keeper_of r)).seen;
  lanes = r.lanes;
}

-- the same, of a step that takes a unit: it is the lane's
abbrev pub unit_turn : ℕ → (View → View) → Ruled → Ruled
unit_turn lane step r = record (keeper_turn lane step r) { lanes = slice_set r.lanes lane (record (part_of lane r) { left = (part_of lane r).left - 1 }) }

-- words of nothing
abbrev pub no_words : Words
no_words = record { index = 0; sides = replicate 2 0; order = 0; rows = replicate 15 0; depths = replicate 15 0; currents = replicate 8 0 }

-- what is known of words of nothing
abbrev pub nothing_known : Ruled
nothing_known = ruled_begun (record { words = no_words; allowance = 0 })
