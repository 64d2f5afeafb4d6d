-- What each kind of step does where the rule holds: what the trait's clause says of it, and the rule after it.
use Rattle.std.specs.Prelude.{◌≡◌, ◌≢◌, ℕ, ◌<◌, ◌≤◌, true, false, List, Option, None, Some}
use Rattle.mp_words.specs.declared.row.Row.{Row}
use Rattle.mp_words.specs.declared.op.Op.{Op}
use Rattle.mp_words.specs.declared.op.Maker.{Maker}
use Rattle.mp_words.specs.declared.flight.Flight.{Flight}
use Rattle.mp_words.specs.declared.entry.OrderEntry.{OrderEntry}
use Rattle.mp_words.specs.Effect.{row_after}
use Rattle.mp_core.specs.declared.view.Section.{Section}
use Rattle.mp_core.specs.declared.view.RowEnd.TheVariants as ends
use Rattle.mp_core.specs.declared.view.Start.{Start}
use Rattle.mp_core.specs.declared.view.Role.TheVariants as role
use Rattle.mp_core.specs.declared.view.View.{View}
use Rattle.mp_core.specs.Core.{Core, stepped, looked}
use Rattle.mp_core.specs.Memory.{Memory, side_at, row_at, depth_at, current_at, entered_in, left_in, flipped_in, row_in, order_in, sent_in, landed_in, current_in, cleared_in}
use Rattle.mp_core.specs.Notes.{order_noted, row_noted, flight_noted, depth_noted, current_noted, with_note, HasRow, HasUsable, MayStore, Lists, ReadsNothing, ReadsAlone}
use Rattle.mp_core.specs.Status.{lists}
use Rattle.mp_core.specs.Views as view
use Rattle.mp_core.specs.Views.{opened, flying, has_flight, last_version}
use Rattle.mp_core.specs.Kinds.{IsLaneOp, Changes, entry_of, flight_of, status_at, IsNext, MayKeep, LoadsSide, Enters, Leaves, Looks, Flips, LoadsOrder, LoadsRow, LoadsFlight, ChangesRow, LoadsDepth, Sends, Lands, LoadsCurrent, StoresCurrent, ClearsCurrent, LoadsHeld, KeepsRow, StoresOrder, LooksDepth, EmptiesCurrent}
use Rattle.mp_rule.specs.Rule.{Reaches}
use Rattle.mp_rule.specs.At.{At, After}

-- A load of the side index does what its kind says, and keeps the rule.
abbrev pub SideIsLoaded : Type 0
SideIsLoaded =
    (start : Start) (id : ℕ) (a : Core) (m : Memory) (views : List View) → At start id a m views →
    LoadsSide a (looked view.passed a) m.index × After start id (looked view.passed a) m views

-- An entry of a side, with a unit left and no open section does what its kind says, and keeps the rule.
abbrev pub SideIsEntered : Type 0
SideIsEntered =
    (start : Start) (id : ℕ) (a : Core) (side : ℕ) → side < 2 → 1 ≤ a.view.left → a.view.inside ≡ None →
    (m : Memory) (views : List View) → At start id a m views →
    Enters a (stepped (view.entered (opened a.lane side (side_at m side).entries)) (entered_in side) a) side (opened a.lane side (side_at m side).entries) × After start id (stepped (view.entered (opened a.lane side (side_at m side).entries)) (entered_in side) a) (entered_in side m) views

-- The end of the open section does what its kind says, and keeps the rule.
abbrev pub SideIsLeft : Type 0
SideIsLeft =
    (start : Start) (id : ℕ) (a : Core) (s : Section) → a.view.inside ≡ Some s →
    (m : Memory) (views : List View) → At start id a m views →
    Leaves a (stepped (view.finished s) (left_in s.note.side) a) s × After start id (stepped (view.finished s) (left_in s.note.side) a) (left_in s.note.side m) views

-- A load of the list of paths by a section that has read nothing does what its kind says, and keeps the rule.
abbrev pub OrderIsLoaded : Type 0
OrderIsLoaded =
    (start : Start) (id : ℕ) (a : Core) (s : Section) → a.view.inside ≡ Some s → ReadsNothing s.note →
    (m : Memory) (views : List View) → At start id a m views →
    LoadsOrder a (looked (view.order_read m.order (with_note (order_noted m.order s.note) s)) a) s (with_note (order_noted m.order s.note) s) m.order × After start id (looked (view.order_read m.order (with_note (order_noted m.order s.note) s)) a) m views

-- A load of the row of a slot that the section reaches does what its kind says, and keeps the rule.
abbrev pub RowIsLoaded : Type 0
RowIsLoaded =
    (start : Start) (id : ℕ) (a : Core) (s : Section) (slot : ℕ) → a.view.inside ≡ Some s → Lists s.note slot →
    Reaches slot s.note a.view → (m : Memory) (views : List View) → At start id a m views →
    LoadsRow a (looked (view.row_read slot (row_at m slot) (with_note (row_noted slot (row_at m slot) s.note) s)) a) s (with_note (row_noted slot (row_at m slot) s.note) s) slot (row_at m slot) × After start id (looked (view.row_read slot (row_at m slot) (with_note (row_noted slot (row_at m slot) s.note) s)) a) m views

-- A load of the row of a flight's slot does what its kind says, and keeps the rule.
abbrev pub FlightRowIsLoaded : Type 0
FlightRowIsLoaded =
    (start : Start) (id : ℕ) (a : Core) (s : Section) (f : Flight) → a.view.inside ≡ Some s →
    has_flight f a.view ≡ true → ReadsAlone f.slot s.note → (m : Memory) (views : List View) →
    At start id a m views →
    LoadsFlight a (looked (view.row_read f.slot (row_at m f.slot) (with_note (flight_noted f.slot (row_at m f.slot) s.note) s)) a) s (with_note (flight_noted f.slot (row_at m f.slot) s.note) s) f.slot (row_at m f.slot) × After start id (looked (view.row_read f.slot (row_at m f.slot) (with_note (flight_noted f.slot (row_at m f.slot) s.note) s)) a) m views

-- A change of a row from the one that stands there does what its kind says, and keeps the rule.
abbrev pub RowIsChanged : Type 0
RowIsChanged =
    (start : Start) (id : ℕ) (a : Core) (s : Section) (slot : ℕ) (old : Row) (o : Op) (by : Maker) → slot < 15 →
    a.view.inside ≡ Some s → Reaches slot s.note a.view → IsLaneOp o → Changes old o → s.tried ≡ false →
    (m : Memory) (views : List View) → At start id a m views → row_at m slot ≡ old →
    ChangesRow a (stepped (view.row_changed (entry_of slot old o by) (record s { tried = true })) (row_in slot (row_after old o)) a) s (record s { tried = true }) slot old o by (ends.Done (entry_of slot old o by)) × After start id (stepped (view.row_changed (entry_of slot old o by) (record s { tried = true })) (row_in slot (row_after old o)) a) (row_in slot (row_after old o) m) views

-- A change of a row from another than the one that stands there does what its kind says, and keeps the rule.
abbrev pub ChangeIsLost : Type 0
ChangeIsLost =
    (start : Start) (id : ℕ) (a : Core) (s : Section) (slot : ℕ) (old : Row) (o : Op) (by : Maker) →
    a.view.inside ≡ Some s → HasRow s.note slot old → Reaches slot s.note a.view →
    (m : Memory) (views : List View) → At start id a m views → row_at m slot ≢ old →
    ChangesRow a (looked (view.row_moved slot (row_at m slot) (record s { tried = true })) a) s (record s { tried = true }) slot old o by (ends.Moved (row_at m slot)) × After start id (looked (view.row_moved slot (row_at m slot) (record s { tried = true })) a) m views

-- A load of a depth does what its kind says, and keeps the rule.
abbrev pub DepthIsLoaded : Type 0
DepthIsLoaded =
    (start : Start) (id : ℕ) (a : Core) (s : Section) (slot : ℕ) → a.view.inside ≡ Some s →
    (m : Memory) (views : List View) → At start id a m views →
    LoadsDepth a (looked (view.noted (with_note (depth_noted slot (depth_at m slot) s.note) s)) a) s (with_note (depth_noted slot (depth_at m slot) s.note) s) slot (depth_at m slot) × After start id (looked (view.noted (with_note (depth_noted slot (depth_at m slot) s.note) s)) a) m views

-- A send to a slot whose usable row the section loaded does what its kind says, and keeps the rule.
abbrev pub RequestIsSent : Type 0
RequestIsSent =
    (start : Start) (id : ℕ) (a : Core) (s : Section) (slot req : ℕ) → slot < 15 → a.view.inside ≡ Some s →
    HasUsable s.note slot → s.sent ≡ false → (m : Memory) (views : List View) → At start id a m views →
    Sends a (stepped (view.flown (flight_of a.lane s slot req) (record s { sent = true })) (sent_in slot) a) s (record s { sent = true }) slot req (flight_of a.lane s slot req) × After start id (stepped (view.flown (flight_of a.lane s slot req) (record s { sent = true })) (sent_in slot) a) (sent_in slot m) views

-- The end of a flight does what its kind says, and keeps the rule.
abbrev pub FlightEnds : Type 0
FlightEnds =
    (start : Start) (id : ℕ) (a : Core) (f : Flight) → f.slot < 15 → has_flight f a.view ≡ true →
    (m : Memory) (views : List View) → At start id a m views →
    Lands a (stepped (view.landed f) (landed_in f.slot) a) f × After start id (stepped (view.landed f) (landed_in f.slot) a) (landed_in f.slot m) views

-- A load of a node's current word does what its kind says, and keeps the rule.
abbrev pub CurrentIsLoaded : Type 0
CurrentIsLoaded =
    (start : Start) (id : ℕ) (a : Core) (s : Section) (node : ℕ) → a.view.inside ≡ Some s →
    (m : Memory) (views : List View) → At start id a m views →
    LoadsCurrent a (looked (view.noted (with_note (current_noted (current_at m node) s.note) s)) a) s (with_note (current_noted (current_at m node) s.note) s) node (current_at m node) × After start id (looked (view.noted (with_note (current_noted (current_at m node) s.note) s)) a) m views

-- A store of none, or of a slot whose enabled row the section loaded, in a node's current word does what its kind
-- says, and keeps the rule.
abbrev pub CurrentIsStored : Type 0
CurrentIsStored =
    (start : Start) (id : ℕ) (a : Core) (s : Section) (node : ℕ) (c : Option ℕ) → node < 8 →
    a.view.inside ≡ Some s → MayStore s.note c → (m : Memory) (views : List View) → At start id a m views →
    StoresCurrent a (stepped (view.noted s) (current_in node c) a) s s node c × After start id (stepped (view.noted s) (current_in node c) a) (current_in node c m) views

-- A clear of a node's current word does what its kind says, and keeps the rule.
abbrev pub CurrentIsCleared : Type 0
CurrentIsCleared =
    (start : Start) (id : ℕ) (a : Core) (node slot : ℕ) → node < 8 → (m : Memory) (views : List View) →
    At start id a m views →
    ClearsCurrent a (stepped (view.cleared node slot) (cleared_in node slot) a) node slot × After start id (stepped (view.cleared node slot) (cleared_in node slot) a) (cleared_in node slot m) views

-- A look of the keeper at a side does what its kind says, and keeps the rule.
abbrev pub SideIsScanned : Type 0
SideIsScanned =
    (start : Start) (id : ℕ) (a : Core) (side : ℕ) → side < 2 → a.view.role ≡ role.Keeper →
    (m : Memory) (views : List View) → At start id a m views →
    Looks a (looked (view.scanned side (side_at m side).entries (side_at m side).inside (last_version a.view)) a) side (side_at m side) × After start id (looked (view.scanned side (side_at m side).entries (side_at m side).inside (last_version a.view)) a) m views

-- A store of the other side in the index by the keeper does what its kind says, and keeps the rule.
abbrev pub IndexIsFlipped : Type 0
IndexIsFlipped =
    (start : Start) (id : ℕ) (a : Core) → a.view.role ≡ role.Keeper → (m : Memory) (views : List View) →
    At start id a m views →
    Flips a (stepped view.flipped flipped_in a) × After start id (stepped view.flipped flipped_in a) (flipped_in m) views

-- A load of any row by the keeper does what its kind says, and keeps the rule.
abbrev pub RowIsHeld : Type 0
RowIsHeld =
    (start : Start) (id : ℕ) (a : Core) (slot : ℕ) → a.view.role ≡ role.Keeper →
    (m : Memory) (views : List View) → At start id a m views →
    LoadsHeld a (looked (view.row_held slot (row_at m slot)) a) slot (row_at m slot) × After start id (looked (view.row_held slot (row_at m slot)) a) m views

-- A give, mark or free from the row that stands there does what its kind says, and keeps the rule.
abbrev pub RowIsKept : Type 0
RowIsKept =
    (start : Start) (id : ℕ) (a : Core) (slot : ℕ) (old : Row) (o : Op) (by : Maker) → slot < 15 →
    a.view.role ≡ role.Keeper → 1 ≤ a.view.left → MayKeep o (status_at slot a.view) →
    (m : Memory) (views : List View) → At start id a m views → row_at m slot ≡ old →
    KeepsRow a (stepped (view.row_kept (entry_of slot old o by)) (row_in slot (row_after old o)) a) slot old o by (ends.Done (entry_of slot old o by)) × After start id (stepped (view.row_kept (entry_of slot old o by)) (row_in slot (row_after old o)) a) (row_in slot (row_after old o) m) views

-- A give, mark or free from another row than the one that stands there, which only a mark can meet does what its kind
-- says, and keeps the rule.
abbrev pub KeptRowIsLost : Type 0
KeptRowIsLost =
    (start : Start) (id : ℕ) (a : Core) (slot : ℕ) (old : Row) (o : Op) (by : Maker) → a.view.role ≡ role.Keeper →
    a.view.keeping.last ≡ Some (record { slot = slot; row = old }) → MayKeep o (status_at slot a.view) →
    (m : Memory) (views : List View) → At start id a m views → row_at m slot ≢ old →
    KeepsRow a (looked (view.keep_moved slot (row_at m slot)) a) slot old o by (ends.Moved (row_at m slot)) × After start id (looked (view.keep_moved slot (row_at m slot)) a) m views

-- A store of the next list of paths does what its kind says, and keeps the rule.
abbrev pub OrderIsStored : Type 0
OrderIsStored =
    (start : Start) (id : ℕ) (a : Core) (e : OrderEntry) → a.view.role ≡ role.Keeper → 1 ≤ a.view.left →
    IsNext a.view e.order → ((s : ℕ) → 15 ≤ s → lists s e.order ≡ false) → (m : Memory) (views : List View) →
    At start id a m views →
    StoresOrder a (stepped (view.order_stored e) (order_in e.order) a) e × After start id (stepped (view.order_stored e) (order_in e.order) a) (order_in e.order m) views

-- A look of the keeper at a depth does what its kind says, and keeps the rule.
abbrev pub DepthIsLookedAt : Type 0
DepthIsLookedAt =
    (start : Start) (id : ℕ) (a : Core) (slot : ℕ) → a.view.role ≡ role.Keeper →
    (m : Memory) (views : List View) → At start id a m views →
    LooksDepth a (looked (view.depth_looked slot (depth_at m slot)) a) slot (depth_at m slot) × After start id (looked (view.depth_looked slot (depth_at m slot)) a) m views

-- A store of none in a node's current word by the keeper does what its kind says, and keeps the rule.
abbrev pub CurrentIsEmptied : Type 0
CurrentIsEmptied =
    (start : Start) (id : ℕ) (a : Core) (node : ℕ) → node < 8 → (m : Memory) (views : List View) →
    At start id a m views →
    EmptiesCurrent a (stepped view.passed (current_in node None) a) node × After start id (stepped view.passed (current_in node None) a) (current_in node None m) views
