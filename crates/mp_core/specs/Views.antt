-- What each kind of step does to the view that steps.
use Rattle.std.specs.Prelude.{ℕ, ◌+◌, ◌-◌, ◌==◌, ◌&&◌, Bool, false, List, [], ◌∷◌, ◌++◌, filter, not, None, Some, cond, max, if◌then◌else◌}
use Rattle.std.specs.List.{list_any}
use Rattle.mp_words.specs.declared.row.Row.{Row}
use Rattle.mp_words.specs.declared.op.Op.{Op}
use Rattle.mp_words.specs.declared.op.Op.TheVariants as op
use Rattle.mp_words.specs.declared.order.Order.{Order}
use Rattle.mp_words.specs.declared.flight.Flight.{Flight}
use Rattle.mp_words.specs.declared.entry.RowEntry.{RowEntry}
use Rattle.mp_words.specs.declared.entry.OrderEntry.{OrderEntry}
use Rattle.mp_core.specs.declared.view.Section.{Section}
use Rattle.mp_core.specs.declared.view.Role.{Role}
use Rattle.mp_core.specs.declared.view.Role.TheVariants as role
use Rattle.mp_core.specs.declared.view.Seen.{Seen}
use Rattle.mp_core.specs.declared.view.SeenRow.{SeenRow}
use Rattle.mp_core.specs.declared.view.Event.{Event}
use Rattle.mp_core.specs.declared.view.Event.TheVariants.{Gives, Marks, Scans, Clears, Orders, Zeros, Frees}
use Rattle.mp_core.specs.declared.view.Look.TheVariants as look
use Rattle.mp_core.specs.declared.view.Keeping.{Keeping}
use Rattle.mp_core.specs.declared.view.View.{View}
use Rattle.mp_core.specs.Notes.{blank_note}
use Rattle.mp_core.specs.Unpacked.{start_order}

-- the keeper's part after a step that reads no row for the keeper: it holds none
abbrev pub unheld : Keeping → Keeping
unheld k = record k { last = None }

-- the keeper's part with one event more
abbrev pub with_event : Event → Keeping → Keeping
with_event e k = record k { events = e ∷ k.events; last = None }

-- the view after a step by which nothing is known but that it was made
abbrev pub passed : View → View
passed v = record v { keeping = unheld v.keeping }

-- a section of this lane as it enters a side with a ticket
abbrev pub opened : ℕ → ℕ → ℕ → Section
opened lane side ticket = record { note = blank_note lane side ticket; sent = false; tried = false }

-- the view after a section was entered: it is open, and a unit is used
abbrev pub entered : Section → View → View
entered s v = record v { left = v.left - 1; inside = Some s; keeping = unheld v.keeping }

-- the view after the open section was left: its note is finished
abbrev pub finished : Section → View → View
finished s v = record v { inside = None; done = v.done ++ s.note ∷ []; keeping = unheld v.keeping }

-- the view whose open section is this one
abbrev pub noted : Section → View → View
noted s v = record v { inside = Some s; keeping = unheld v.keeping }

-- the view once this version of the list of paths counts as seen
abbrev pub order_seen : ℕ → View → View
order_seen n v = record v { seen = record (v.seen) { order = n } }

-- the view once this version of a slot's row counts as seen
abbrev pub row_seen : ℕ → ℕ → View → View
row_seen slot n v = record v { seen = record (v.seen) { rows = record { slot = slot; version = n } ∷ v.seen.rows } }

-- the greatest version of a slot among those seen, or 0
abbrev pub greatest : ℕ → List SeenRow → ℕ
greatest slot [] = 0
greatest slot (s ∷ seen) = cond (s.slot == slot) (max s.version (greatest slot seen)) (greatest slot seen)

-- the greatest version that a view has seen of a slot's row
abbrev pub seen_row : View → ℕ → ℕ
seen_row v slot = greatest slot v.seen.rows

-- the view after a section loaded the list of paths
abbrev pub order_read : Order → Section → View → View
order_read order s v = order_seen order.version (noted s v)

-- the view after a section loaded a row
abbrev pub row_read : ℕ → Row → Section → View → View
row_read slot row s v = row_seen slot row.version (noted s v)

-- the view after the keeper loaded a row, which it holds until its next step
abbrev pub row_held : ℕ → Row → View → View
row_held slot row v = row_seen slot row.version (record v { keeping = record (v.keeping) { last = Some (record { slot = slot; row = row }) } })

-- the view with one row entry more, whose version counts as seen
abbrev pub entry_made : RowEntry → View → View
entry_made e v = row_seen e.slot e.row.version (record v { entries = v.entries ++ e ∷ []; keeping = unheld v.keeping })

-- the view after a section changed a row
abbrev pub row_changed : RowEntry → Section → View → View
row_changed e s v = entry_made e (noted s v)

-- the view after a section's change met another row, whose version counts as seen
abbrev pub row_moved : ℕ → Row → Section → View → View
row_moved slot row s v = row_seen slot row.version (noted s v)

-- what the keeper's sequence keeps of a row entry: that a slot was given a path, marked or freed
abbrev pub event_of : RowEntry → List Event
event_of e = of_op e.op
  where
    of_op : Op → List Event
    of_op (op.Give gift) = Gives e.slot e.row.version ∷ []
    of_op op.Mark = Marks e.slot e.row.version ∷ []
    of_op op.Free = Frees e.slot e.row.version ∷ []
    of_op _ = []

-- the view after the keeper gave, marked or freed a slot: a unit is used, and its sequence has the event
abbrev pub row_kept : RowEntry → View → View
row_kept e v = row_seen e.slot e.row.version (record v { left = v.left - 1; entries = v.entries ++ e ∷ []; keeping = record (v.keeping) { events = event_of e ++ v.keeping.events; last = None } })

-- the view after the keeper's change met another row: a unit is used, and the version found counts as seen
abbrev pub keep_moved : ℕ → Row → View → View
keep_moved slot row v = row_seen slot row.version (record v { left = v.left - 1; keeping = unheld v.keeping })

-- the view after the keeper stored a list of paths: a unit is used, and its sequence has the list
abbrev pub order_stored : OrderEntry → View → View
order_stored e v = order_seen e.order.version (record v { left = v.left - 1; keeping = with_event (Orders e) v.keeping })

-- the last list of paths that was stored, or the one at the start
abbrev pub last_order : Order → List Event → Order
last_order first [] = first
last_order first (Orders e ∷ es) = e.order
last_order first (e ∷ es) = last_order first es

-- the version of the keeper's last list of paths
abbrev pub last_version : View → ℕ
last_version v = (last_order (start_order v.keeping.start) v.keeping.events).version

-- the view after the keeper looked at a side: the look, and a kept scan where nobody was inside
abbrev pub scanned : ℕ → ℕ → ℕ → ℕ → View → View
scanned side entries inside order v = record v { keeping = record (v.keeping) { looks = v.keeping.looks ++ look.Side side entries inside ∷ []; events = (if inside == 0 then Scans side entries order ∷ v.keeping.events else v.keeping.events); last = None } }

-- the view after the keeper stored the other side in the index
abbrev pub flipped : View → View
flipped v = record v { keeping = record (v.keeping) { index = 1 - v.keeping.index; flips = v.keeping.flips + 1; last = None } }

-- the view after the keeper looked at a depth: the look, and the slot kept as empty where it was 0
abbrev pub depth_looked : ℕ → ℕ → View → View
depth_looked slot depth v = record v { keeping = record (v.keeping) { looks = v.keeping.looks ++ look.Depth slot depth ∷ []; events = (if depth == 0 then Zeros slot ∷ v.keeping.events else v.keeping.events); last = None } }

-- the view after a section sent a request: one flight more
abbrev pub flown : Flight → Section → View → View
flown f s v = record v { inside = Some s; flights = v.flights ++ f ∷ []; keeping = unheld v.keeping }

-- the two flights are the same
abbrev pub is_flight : Flight → Flight → Bool
is_flight f g = (g.slot == f.slot) && (g.version == f.version) && (g.req == f.req) && (g.lane == f.lane)

-- the flights without the first that is this one
abbrev pub flights_without : Flight → List Flight → List Flight
flights_without f [] = []
flights_without f (g ∷ gs) = if is_flight f g then gs else g ∷ flights_without f gs

-- the view has this flight
abbrev pub has_flight : Flight → View → Bool
has_flight f v = list_any (is_flight f) v.flights

-- how many of these flights are on a slot
abbrev pub on_slot : ℕ → List Flight → ℕ
on_slot slot [] = 0
on_slot slot (f ∷ fs) = cond (f.slot == slot) 1 0 + on_slot slot fs

-- how many flights of a view are on a slot
abbrev pub flying : ℕ → View → ℕ
flying slot v = on_slot slot v.flights

-- the view after a flight ended
abbrev pub landed : Flight → View → View
landed f v = record v { flights = flights_without f v.flights; keeping = unheld v.keeping }

-- the keeper's part after a current word was cleared: an event of the keeper's, and of another pass none
abbrev pub clear_by : Role → ℕ → ℕ → Keeping → Keeping
clear_by role.Keeper node slot k = with_event (Clears node slot) k
clear_by (role.Lane lane) node slot k = unheld k
clear_by role.Spent node slot k = unheld k

-- the view after a node's current word was cleared of a slot
abbrev pub cleared : ℕ → ℕ → View → View
cleared node slot v = record v { keeping = clear_by v.role node slot v.keeping }

-- the keeper's view after a pass was split off: it has so many units less, and the lane is out
abbrev pub kept_part : ℕ → ℕ → View → View
kept_part lane units v = record v { left = v.left - units; keeping = record (v.keeping) { out = v.keeping.out ++ lane ∷ []; last = None } }

-- the view of a pass that was split off: it begins with these units and with what the keeper has seen
abbrev pub new_part : ℕ → ℕ → View → View
new_part lane units v = record {
  role = role.Lane lane;
  left = units;
  inside = None;
  done = [];
  flights = [];
  entries = [];
  seen = v.seen;
  keeping = record { start = v.keeping.start; out = []; index = 0; flips = 0; events = []; looks = []; last = None };
}

-- the greater of the versions that two views have seen
abbrev pub more_seen : Seen → Seen → Seen
more_seen s t = record { order = max s.order t.order; rows = s.rows ++ t.rows }

-- the lanes that are out, without the one of a pass that is joined
abbrev pub without_lane : Role → List ℕ → List ℕ
without_lane (role.Lane lane) lanes = filter (λ l. not (l == lane)) lanes
without_lane role.Keeper lanes = lanes
without_lane role.Spent lanes = lanes

-- the keeper's view after a pass was joined: its notes, entries and units are the keeper's now
abbrev pub joined : View → View → View
joined v w = record v { left = v.left + w.left; done = v.done ++ w.done; entries = v.entries ++ w.entries; seen = more_seen v.seen w.seen; keeping = record (v.keeping) { out = without_lane w.role v.keeping.out; last = None } }

-- the view of a pass that was joined
abbrev pub spent : View → View
spent v = record v { role = role.Spent; left = 0; inside = None; done = []; flights = []; entries = [] }
