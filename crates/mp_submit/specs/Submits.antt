-- What a submit does.
use Rattle.std.specs.Prelude.{◌≡◌, ℕ, ◌+◌, ◌<◌, Bool, true, false, List, [], ◌∷◌, ◌++◌, length, replicate, Option, None, Some, option_map}
use Rattle.mp_words.specs.declared.near.Near.{Near}
use Rattle.mp_words.specs.declared.note.Note.{Note}
use Rattle.mp_words.specs.declared.order.Order.{Order}
use Rattle.mp_words.specs.declared.flight.Flight.{Flight}
use Rattle.mp_words.specs.declared.trying.Try.{Try}
use Rattle.mp_words.specs.declared.trying.TryEnd.{TryEnd}
use Rattle.mp_words.specs.declared.trying.TryEnd.TheVariants as end
use Rattle.mp_words.specs.RequestView.{RequestView}
use Rattle.mp_words.specs.declared.path.Path.{Path}
use Rattle.mp_words.specs.PathTable.{paths_of}
use Rattle.mp_policy.specs.Choices.{has_usable}
use Rattle.mp_core.specs.declared.view.Section.{Section}
use Rattle.mp_core.specs.declared.view.View.{View}
use Rattle.mp_core.specs.Core.{Core, Tells}
use Rattle.mp_core.specs.Memory.{Memory, side_at, entered_in, left_in, sent_in, current_in}
use Rattle.mp_core.specs.Notes.{HasUsable, row_of}
use Rattle.mp_core.specs.Reads.{NoteRead, with_section}
use Rattle.mp_core.specs.Views.{unheld, noted}
use Rattle.mp_submit.specs.declared.submit.Submitted.{Submitted}
use Rattle.mp_submit.specs.declared.submit.Submitted.TheVariants as submitted
use Rattle.mp_submit.specs.Selects.{DepthsRead, CurrentTold, DepthsTold}
use Rattle.mp_submit.specs.Choice.{IsLawful, has_available, end_with, told_choice, paths_at, keeps_choice}

-- The flight of a request of a lane whose try ended so, if it was sent.
abbrev pub flights_of : ℕ → ℕ → TryEnd → List Flight
flights_of lane req (end.Sent slot version) = record { slot = slot; version = version; req = req; lane = lane } ∷ []
flights_of lane req end.Listed = []
flights_of lane req end.Failed = []

-- The view with these flights more.
abbrev pub with_flights : List Flight → View → View
with_flights flights v = record v { flights = v.flights ++ flights }

-- The words after a slot became the node's current path, where it is to.
abbrev pub kept_in : Bool → ℕ → ℕ → Memory → Memory
kept_in true node slot m = current_in node (Some slot) m
kept_in false node slot m = m

-- The words after a choice: a flight more on its slot, which may become the node's current path.
abbrev pub chosen_in : Bool → ℕ → Option Path → Memory → Memory
chosen_in keeps node (Some path) m = sent_in path.slot (kept_in keeps node path.slot m)
chosen_in keeps node None m = m

-- The words after a submit: an entry more on the side of the index, and what the choice does.
abbrev pub submitted_in : Near → ℕ → Memory → Memory
submitted_in near node m = left_in m.index (chosen_in (keeps_choice m.order.policy) node (told_choice near node m) (entered_in m.index m))

-- The answer of a submit whose try ended so, with the flight where it was sent.
abbrev pub answer_of : ℕ → ℕ → TryEnd → Submitted
answer_of lane req (end.Sent slot version) = submitted.Sent (record { slot = slot; version = version; req = req; lane = lane })
answer_of lane req end.Listed = submitted.Listed
answer_of lane req end.Failed = submitted.Failed

-- A try whose attempts are still to come.
abbrev pub open_try : ℕ → TryEnd → Note → Try
open_try hop end note = record { hop = hop; end = end; note = note; statuses = replicate 6 0; count = 0; back = None }

-- The end is that of a choice on what the section read: a sent one names the choice, whose usable row was read at this
-- version; a listed one found no usable path but an available one; a failed one found neither.
abbrev pub EndsSo : Note → TryEnd → Option ℕ → Type 0
EndsSo n (end.Sent slot version) choice = (choice ≡ Some slot) × HasUsable n slot × ((row_of slot n).version ≡ version)
EndsSo n end.Listed choice = (choice ≡ None) × (has_usable (paths_of n.reading) ≡ false) × (has_available (paths_of n.reading) ≡ true)
EndsSo n end.Failed choice = (choice ≡ None) × (has_usable (paths_of n.reading) ≡ false) × (has_available (paths_of n.reading) ≡ false)

-- The end is that of the policy's choice among all listed rows, as the section read them.
abbrev pub IsLawfulEnd : Near → ℕ → Note → TryEnd → Type 0
IsLawfulEnd near node n end = (choice : Option ℕ) × IsLawful near node n choice × EndsSo n end choice

-- What a submit does: a finished section more, whose reading decides how the try ends, a try more of the request, and a
-- flight where it was sent.
pub record Submits (near : Near) (a b : Core) (before after : RequestView) (answer : Submitted) (made : Try) : Type 0 where
  -- the view gains one finished note, and a flight if it was sent; one unit is used
  pub view : b ≡ record a { view = with_flights (flights_of a.lane before.id made.end) (with_section made.note b.view.seen a.view); told = option_map (submitted_in near before.node) a.told }
  -- the request gains the try
  pub tried : made ≡ open_try (length before.tries + 1) made.end made.note
  pub tries : after.tries ≡ before.tries ++ made ∷ []
  pub id : after.id ≡ before.id
  pub node : after.node ≡ before.node
  -- the answer is the try's end
  pub answer_is : answer ≡ answer_of a.lane before.id made.end
  -- the note is this lane's, on the side that it entered, and all that it read was there
  pub lane : made.note.lane ≡ a.lane
  pub side : made.note.side < 2
  pub read : NoteRead a b.view.seen made.note
  pub own : DepthsRead a made.note
  pub ordered : (order : Order) × (made.note.order ≡ Some order)
  -- its reading lists the slots of the order that it read
  pub listed : (order : Order) → made.note.order ≡ Some order → (made.note.reading.len ≡ order.len) × (made.note.reading.slots ≡ order.slots)
  -- the end is that of the section's reading
  pub lawful : IsLawfulEnd near before.node made.note made.end
  -- a slot that it was sent to is one of the table's
  pub within : (slot version : ℕ) → made.end ≡ end.Sent slot version → slot < 15
  -- where the words are told
  pub told : Tells a (λ m. made.end ≡ end_with (paths_at m) (told_choice near before.node m))
  pub told_ticket : Tells a (λ m. (made.note.side ≡ m.index) × (made.note.ticket ≡ (side_at m m.index).entries))
  pub told_order : Tells a (λ m. made.note.order ≡ Some m.order)
  pub told_paths : Tells a (λ m. paths_of made.note.reading ≡ paths_at m)
  pub told_current : Tells a (λ m. CurrentTold before.node m made.note)
  pub told_depths : Tells a (λ m. DepthsTold m made.note)

-- The view after a section that has selected was left: a flight more where the request was sent, and a finished note.
abbrev pub dispatched : ℕ → ℕ → TryEnd → Note → View → View
dispatched lane req end n v = record v { inside = None; flights = v.flights ++ flights_of lane req end; done = v.done ++ n ∷ []; keeping = unheld v.keeping }

-- The words after a choice by its slot: a flight more on it, and it may become the node's current path.
abbrev pub sent_by : Bool → ℕ → Option ℕ → Memory → Memory
sent_by keeps node (Some slot) m = sent_in slot (kept_in keeps node slot m)
sent_by keeps node None m = m

-- How a try ends with a choice, by what a note has read.
abbrev pub end_on : Note → Option ℕ → TryEnd
end_on n (Some slot) = end.Sent slot (row_of slot n).version
end_on n None = end_with (paths_of n.reading) None

-- A section that has selected is left: its choice may become the node's current path, and the request is sent there.
pub record Dispatches (keeps : Bool) (node req : ℕ) (a b : Core) (s : Section) (choice : Option ℕ) (end : TryEnd) (answer : Submitted) (n : Note) : Type 0 where
  pub note : n ≡ s.note
  pub ends : end ≡ end_on s.note choice
  pub after : b ≡ record a { view = dispatched a.lane req end n a.view; told = option_map (left_in n.side) (option_map (sent_by keeps node choice) a.told) }
  pub answer_is : answer ≡ answer_of a.lane req end

-- A choice becomes the node's current path, where it is to.
pub record KeepsCurrent (keeps : Bool) (node slot : ℕ) (a b : Core) (s t : Section) : Type 0 where
  pub section : t ≡ s
  pub after : b ≡ record a { view = noted s a.view; told = option_map (kept_in keeps node slot) a.told }
