-- Each method's clause, and the rule after it: at each step of a pass whose words aren't told.
use Rattle.std.proofs.Common.{◌≡◌, ◌≢◌, inl, inr, ℕ, ◌<◌, ◌≤◌, true, false, List, sym, refl, ◌∙◌, subst, Option, None, Some}
use mathlib.Core.Option.{some}
use lib.ListN.{get_elem?}
use Rattle.mp_words.specs.declared.row.Row.{Row}
use Rattle.mp_words.specs.declared.op.Op.{Op}
use Rattle.mp_words.specs.declared.op.Op.TheVariants as op
use Rattle.mp_words.specs.declared.op.Maker.{Maker}
use Rattle.mp_words.specs.declared.order.Order.{Order}
use Rattle.mp_words.specs.declared.note.Note.{Note}
use Rattle.mp_words.specs.declared.flight.Flight.{Flight}
use Rattle.mp_words.specs.declared.entry.OrderEntry.{OrderEntry}
use Rattle.mp_words.specs.Effect.{row_after}
use Rattle.mp_core.specs.declared.view.Section.{Section}
use Rattle.mp_core.specs.declared.view.RowEnd.TheVariants as ends
use Rattle.mp_core.specs.declared.view.Start.{Start}
use Rattle.mp_core.specs.declared.view.Role.TheVariants as role
use Rattle.mp_core.specs.declared.view.View.{View}
use Rattle.mp_core.specs.Core.{Core, stepped, looked, Tells}
use Rattle.mp_core.specs.Memory.{Memory, side_at, row_at, depth_at, current_at, entered_in, left_in, flipped_in, row_in, order_in, sent_in, landed_in, current_in, cleared_in}
use Rattle.mp_core.specs.Notes.{order_noted, row_noted, flight_noted, depth_noted, current_noted, with_note, HasRow, HasUsable, MayStore, Lists, ReadsNothing, ReadsAlone}
use Rattle.mp_core.specs.Status.{lists}
use Rattle.mp_core.specs.Views as view
use Rattle.mp_core.specs.Views.{opened, flying, has_flight, last_version}
use Rattle.mp_core.specs.Kinds.{IsLaneOp, Changes, entry_of, flight_of, status_at, IsNext, MayKeep, LoadsSide, Enters, Leaves, Looks, Flips, LoadsOrder, LoadsRow, LoadsFlight, ChangesRow, LoadsDepth, Sends, Lands, LoadsCurrent, StoresCurrent, ClearsCurrent, LoadsHeld, KeepsRow, StoresOrder, LooksDepth, EmptiesCurrent}
use Rattle.mp_rule.specs.Rule.{IsFormed, Reaches}
use Rattle.mp_rule.specs.Holds.{Holds}
use Rattle.mp_rule.specs.At.{At, After}
use Rattle.mp_core.proofs.Flights.{has_flies}
use Rattle.mp_rule.proofs.Notes.{listed_in}
use Rattle.mp_rule.proofs.Kept as kept
use Rattle.mp_rule.proofs.Promises.{order_told, row_told, row_given, row_used, row_moved, mark_moved, keep_done, depth_own, depth_alone, scan_alone}

abbrev some_memory : Option Memory → Type 0
some_memory None = ⊥
some_memory (Some n) = Unit {0}

tells : (a : Core) (P : Memory → Type 0) → a.told ≡ None → Tells a P
tells a P none n e = absurd (subst some_memory (sym (sym none ∙ e)) tt)

-- a slot that the section's order lists
pub reaches_listed : (start : Start) (id : ℕ) (v : View) (s : Section) (slot : ℕ) (m : Memory) (views : List View) → Holds start m views → get_elem? views id ≡ some v → v.inside ≡ Some s → Lists s.note slot → (o : _) → s.note.order ≡ Some o → Reaches slot s.note v
reaches_listed start id v s slot m views h at open_is lists o e = inl (listed_in s.note slot o (h.graces.formed id v at s open_is) lists e)

-- a slot that the note lists is reached, where a note without an order has a flight of the view on it
pub reaches : (n : Note) (slot : ℕ) (v : View) → IsFormed n → Lists n slot → (n.order ≡ None → 1 ≤ flying slot v) → Reaches slot n v
reaches n slot v f lists flies = by n.order refl
  where
    by : (o : Option Order) → n.order ≡ o → Reaches slot n v
    by None e = inr (flies e)
    by (Some o) e = inl (listed_in n slot o f lists e)

pub load_side : (start : Start) (id : ℕ) (a : Core) (m : Memory) (views : List View) → At start id a m views → LoadsSide a (looked view.passed a) m.index × After start id (looked view.passed a) m views
load_side start id a m views h = (record { range = kept.k1_tells start m views h.rule; after = refl; told = tells a _ h.untold.told }, kept.k1 start id a.view m views h.rule h.here)

pub enter : (start : Start) (id : ℕ) (a : Core) (side : ℕ) → side < 2 → 1 ≤ a.view.left → a.view.inside ≡ None → (m : Memory) (views : List View) → At start id a m views
    → Enters a (stepped (view.entered (opened a.lane side (side_at m side).entries)) (entered_in side) a) side (opened a.lane side (side_at m side).entries) × After start id (stepped (view.entered (opened a.lane side (side_at m side).entries)) (entered_in side) a) (entered_in side m) views
enter start id a side low left closed m views h = (record { section = refl; after = refl; told = tells a _ h.untold.told }, kept.k2 start id a.view a.lane side low closed left m views h.rule h.here)

pub leave : (start : Start) (id : ℕ) (a : Core) (s : Section) → a.view.inside ≡ Some s → (m : Memory) (views : List View) → At start id a m views → Leaves a (stepped (view.finished s) (left_in s.note.side) a) s × After start id (stepped (view.finished s) (left_in s.note.side) a) (left_in s.note.side m) views
leave start id a s open_is m views h = (record { after = refl }, kept.k3 start id a.view s open_is m views h.rule h.here)

pub load_order : (start : Start) (id : ℕ) (a : Core) (s : Section) → a.view.inside ≡ Some s → ReadsNothing s.note → (m : Memory) (views : List View) → At start id a m views
    → LoadsOrder a (looked (view.order_read m.order (with_note (order_noted m.order s.note) s)) a) s (with_note (order_noted m.order s.note) s) m.order × After start id (looked (view.order_read m.order (with_note (order_noted m.order s.note) s)) a) m views
load_order start id a s open_is nothing m views h = (record { section = refl; after = refl; found = order_told start id a m views h.rule h.here h.untold }, kept.k8 start id a.view s open_is nothing m views h.rule h.here)

pub load_row : (start : Start) (id : ℕ) (a : Core) (s : Section) (slot : ℕ) → a.view.inside ≡ Some s → Lists s.note slot → Reaches slot s.note a.view → (m : Memory) (views : List View) → At start id a m views
    → LoadsRow a (looked (view.row_read slot (row_at m slot) (with_note (row_noted slot (row_at m slot) s.note) s)) a) s (with_note (row_noted slot (row_at m slot) s.note) s) slot (row_at m slot) × After start id (looked (view.row_read slot (row_at m slot) (with_note (row_noted slot (row_at m slot) s.note) s)) a) m views
load_row start id a s slot open_is lists reach m views h = (record { section = refl; after = refl; found = row_told start id a slot m views h.rule h.here h.untold; given = row_given start id a.view s slot open_is reach m views h.rule h.here }, kept.k9 start id a.view s slot open_is lists reach m views h.rule h.here)

pub flight_row : (start : Start) (id : ℕ) (a : Core) (s : Section) (f : Flight) → a.view.inside ≡ Some s → has_flight f a.view ≡ true → ReadsAlone f.slot s.note → (m : Memory) (views : List View) → At start id a m views
    → LoadsFlight a (looked (view.row_read f.slot (row_at m f.slot) (with_note (flight_noted f.slot (row_at m f.slot) s.note) s)) a) s (with_note (flight_noted f.slot (row_at m f.slot) s.note) s) f.slot (row_at m f.slot) × After start id (looked (view.row_read f.slot (row_at m f.slot) (with_note (flight_noted f.slot (row_at m f.slot) s.note) s)) a) m views
flight_row start id a s f open_is has alone m views h =
    let flies = has_flies f a.view has in
    (record { section = refl; after = refl; found = row_told start id a f.slot m views h.rule h.here h.untold; given = row_given start id a.view s f.slot open_is (inr flies) m views h.rule h.here }, kept.k9_flight start id a.view s f.slot open_is alone flies m views h.rule h.here)

pub change_done : (start : Start) (id : ℕ) (a : Core) (s : Section) (slot : ℕ) (old : Row) (o : Op) (by : Maker) → slot < 15 → a.view.inside ≡ Some s → Reaches slot s.note a.view → IsLaneOp o → Changes old o → s.tried ≡ false → (m : Memory) (views : List View) → At start id a m views → row_at m slot ≡ old
    → ChangesRow a (stepped (view.row_changed (entry_of slot old o by) (record s { tried = true })) (row_in slot (row_after old o)) a) s (record s { tried = true }) slot old o by (ends.Done (entry_of slot old o by)) × After start id (stepped (view.row_changed (entry_of slot old o by) (record s { tried = true })) (row_in slot (row_after old o)) a) (row_in slot (row_after old o) m) views
change_done start id a s slot old o by low open_is reach lane changes once m views h is = (record { section = refl; ends = (refl, record { after = refl; told = tells a _ h.untold.told }) }, kept.k10 start id a.view s slot old o by low open_is reach lane changes once m views h.rule h.here is)

pub change_moved : (start : Start) (id : ℕ) (a : Core) (s : Section) (slot : ℕ) (old : Row) (o : Op) (by : Maker) → a.view.inside ≡ Some s → HasRow s.note slot old → Reaches slot s.note a.view → (m : Memory) (views : List View) → At start id a m views → row_at m slot ≢ old
    → ChangesRow a (looked (view.row_moved slot (row_at m slot) (record s { tried = true })) a) s (record s { tried = true }) slot old o by (ends.Moved (row_at m slot)) × After start id (looked (view.row_moved slot (row_at m slot) (record s { tried = true })) a) m views
change_moved start id a s slot old o by open_is has reach m views h apart = (record { section = refl; ends = (refl, row_moved start id a s slot old open_is has reach m views h.rule h.here h.untold apart) }, kept.k10_moved start id a.view s slot open_is m views h.rule h.here)

pub load_depth : (start : Start) (id : ℕ) (a : Core) (s : Section) (slot : ℕ) → a.view.inside ≡ Some s → (m : Memory) (views : List View) → At start id a m views
    → LoadsDepth a (looked (view.noted (with_note (depth_noted slot (depth_at m slot) s.note) s)) a) s (with_note (depth_noted slot (depth_at m slot) s.note) s) slot (depth_at m slot) × After start id (looked (view.noted (with_note (depth_noted slot (depth_at m slot) s.note) s)) a) m views
load_depth start id a s slot open_is m views h = (record { section = refl; after = refl; own = depth_own start id a.view slot m views h.rule h.here; told = tells a _ h.untold.told }, kept.k12 start id a.view s slot (depth_at m slot) open_is m views h.rule h.here)

pub send : (start : Start) (id : ℕ) (a : Core) (s : Section) (slot req : ℕ) → slot < 15 → a.view.inside ≡ Some s → HasUsable s.note slot → s.sent ≡ false → (m : Memory) (views : List View) → At start id a m views
    → Sends a (stepped (view.flown (flight_of a.lane s slot req) (record s { sent = true })) (sent_in slot) a) s (record s { sent = true }) slot req (flight_of a.lane s slot req) × After start id (stepped (view.flown (flight_of a.lane s slot req) (record s { sent = true })) (sent_in slot) a) (sent_in slot m) views
send start id a s slot req low open_is usable once m views h = (record { flight = refl; section = refl; after = refl }, kept.k13 start id a.view s a.lane slot req low open_is usable once m views h.rule h.here)

pub end : (start : Start) (id : ℕ) (a : Core) (f : Flight) → f.slot < 15 → has_flight f a.view ≡ true → (m : Memory) (views : List View) → At start id a m views → Lands a (stepped (view.landed f) (landed_in f.slot) a) f × After start id (stepped (view.landed f) (landed_in f.slot) a) (landed_in f.slot m) views
end start id a f low has m views h = (record { after = refl }, kept.k14 start id a.view f low has m views h.rule h.here)

pub load_current : (start : Start) (id : ℕ) (a : Core) (s : Section) (node : ℕ) → a.view.inside ≡ Some s → (m : Memory) (views : List View) → At start id a m views
    → LoadsCurrent a (looked (view.noted (with_note (current_noted (current_at m node) s.note) s)) a) s (with_note (current_noted (current_at m node) s.note) s) node (current_at m node) × After start id (looked (view.noted (with_note (current_noted (current_at m node) s.note) s)) a) m views
load_current start id a s node open_is m views h = (record { section = refl; after = refl; told = tells a _ h.untold.told }, kept.k15 start id a.view s (current_at m node) open_is m views h.rule h.here)

pub store_current : (start : Start) (id : ℕ) (a : Core) (s : Section) (node : ℕ) (c : Option ℕ) → node < 8 → a.view.inside ≡ Some s → MayStore s.note c → (m : Memory) (views : List View) → At start id a m views
    → StoresCurrent a (stepped (view.noted s) (current_in node c) a) s s node c × After start id (stepped (view.noted s) (current_in node c) a) (current_in node c m) views
store_current start id a s node None low open_is may m views h = (record { section = refl; after = refl }, kept.k16_none start id a.view s node low open_is m views h.rule h.here)
store_current start id a s node (Some slot) low open_is may m views h = (record { section = refl; after = refl }, kept.k16 start id a.view s slot node low open_is may m views h.rule h.here)

pub clear_current : (start : Start) (id : ℕ) (a : Core) (node slot : ℕ) → node < 8 → (m : Memory) (views : List View) → At start id a m views → ClearsCurrent a (stepped (view.cleared node slot) (cleared_in node slot) a) node slot × After start id (stepped (view.cleared node slot) (cleared_in node slot) a) (cleared_in node slot m) views
clear_current start id a node slot low m views h = (record { after = refl }, kept.k17 start id a.view node slot low m views h.rule h.here)

-- the keeper's steps
pub scan : (start : Start) (id : ℕ) (a : Core) (side : ℕ) → side < 2 → a.view.role ≡ role.Keeper → (m : Memory) (views : List View) → At start id a m views
    → Looks a (looked (view.scanned side (side_at m side).entries (side_at m side).inside (last_version a.view)) a) side (side_at m side) × After start id (looked (view.scanned side (side_at m side).entries (side_at m side).inside (last_version a.view)) a) m views
scan start id a side low keeper m views h = (record { after = refl; alone = λ al closed. scan_alone start id a side m views h.rule h.here h.untold al closed; told = tells a _ h.untold.told }, kept.k4 start id a.view side low keeper m views h.rule h.here)

pub flip : (start : Start) (id : ℕ) (a : Core) → a.view.role ≡ role.Keeper → (m : Memory) (views : List View) → At start id a m views → Flips a (stepped view.flipped flipped_in a) × After start id (stepped view.flipped flipped_in a) (flipped_in m) views
flip start id a keeper m views h = (record { after = refl }, kept.k5 start id a.view keeper m views h.rule h.here)

pub keeper_row : (start : Start) (id : ℕ) (a : Core) (slot : ℕ) → a.view.role ≡ role.Keeper → (m : Memory) (views : List View) → At start id a m views → LoadsHeld a (looked (view.row_held slot (row_at m slot)) a) slot (row_at m slot) × After start id (looked (view.row_held slot (row_at m slot)) a) m views
keeper_row start id a slot keeper m views h = (record { after = refl; found = row_told start id a slot m views h.rule h.here h.untold; used = row_used start id a.view slot keeper m views h.rule h.here }, kept.k9_keeper start id a.view slot keeper m views h.rule h.here)

pub keep_row_done : (start : Start) (id : ℕ) (a : Core) (slot : ℕ) (old : Row) (o : Op) (by : Maker) → slot < 15 → a.view.role ≡ role.Keeper → 1 ≤ a.view.left → MayKeep o (status_at slot a.view) → (m : Memory) (views : List View) → At start id a m views → row_at m slot ≡ old
    → KeepsRow a (stepped (view.row_kept (entry_of slot old o by)) (row_in slot (row_after old o)) a) slot old o by (ends.Done (entry_of slot old o by)) × After start id (stepped (view.row_kept (entry_of slot old o by)) (row_in slot (row_after old o)) a) (row_in slot (row_after old o) m) views
keep_row_done start id a slot old (op.Give gift) by low keeper left may m views h is = (record { ends = (refl, refl, tells a _ h.untold.told) }, kept.k10_give start id a.view slot old gift by low keeper left may.0 may.1 may.2 m views h.rule h.here is)
keep_row_done start id a slot old op.Mark by low keeper left may m views h is = (record { ends = (refl, refl, tells a _ h.untold.told) }, kept.k10_mark start id a.view slot old by low keeper left may m views h.rule h.here is)
keep_row_done start id a slot old op.Free by low keeper left may m views h is = (record { ends = (refl, refl, tells a _ h.untold.told) }, kept.k10_free start id a.view slot old by low keeper left may m views h.rule h.here is)
keep_row_done start id a slot old (op.Log x y) by low keeper left may m views h is = absurd may
keep_row_done start id a slot old (op.Ctrl x) by low keeper left may m views h is = absurd may
keep_row_done start id a slot old op.Expire by low keeper left may m views h is = absurd may
keep_row_done start id a slot old op.Pending by low keeper left may m views h is = absurd may

pub keep_row_moved : (start : Start) (id : ℕ) (a : Core) (slot : ℕ) (old : Row) (o : Op) (by : Maker) → a.view.role ≡ role.Keeper → a.view.keeping.last ≡ Some (record { slot = slot; row = old }) → MayKeep o (status_at slot a.view) → (m : Memory) (views : List View) → At start id a m views → row_at m slot ≢ old
    → KeepsRow a (looked (view.keep_moved slot (row_at m slot)) a) slot old o by (ends.Moved (row_at m slot)) × After start id (looked (view.keep_moved slot (row_at m slot)) a) m views
keep_row_moved start id a slot old op.Mark by keeper last may m views h apart = (record { ends = (refl, refl, mark_moved start id a slot old keeper last may m views h.rule h.here h.untold apart) }, kept.k10_keep_moved start id a.view slot m views h.rule h.here)
keep_row_moved start id a slot old (op.Give gift) by keeper last may m views h apart = absurd (apart (keep_done start id a.view slot old (op.Give gift) tt may keeper last m views h.rule h.here))
keep_row_moved start id a slot old op.Free by keeper last may m views h apart = absurd (apart (keep_done start id a.view slot old op.Free tt may keeper last m views h.rule h.here))
keep_row_moved start id a slot old (op.Log x y) by keeper last may m views h apart = absurd may
keep_row_moved start id a slot old (op.Ctrl x) by keeper last may m views h apart = absurd may
keep_row_moved start id a slot old op.Expire by keeper last may m views h apart = absurd may
keep_row_moved start id a slot old op.Pending by keeper last may m views h apart = absurd may

pub store_order : (start : Start) (id : ℕ) (a : Core) (e : OrderEntry) → a.view.role ≡ role.Keeper → 1 ≤ a.view.left → IsNext a.view e.order → ((s : ℕ) → 15 ≤ s → lists s e.order ≡ false) → (m : Memory) (views : List View) → At start id a m views
    → StoresOrder a (stepped (view.order_stored e) (order_in e.order) a) e × After start id (stepped (view.order_stored e) (order_in e.order) a) (order_in e.order m) views
store_order start id a e keeper left next range m views h = (record { after = refl }, kept.k11 start id a.view e keeper left next range m views h.rule h.here)

pub keeper_depth : (start : Start) (id : ℕ) (a : Core) (slot : ℕ) → a.view.role ≡ role.Keeper → (m : Memory) (views : List View) → At start id a m views → LooksDepth a (looked (view.depth_looked slot (depth_at m slot)) a) slot (depth_at m slot) × After start id (looked (view.depth_looked slot (depth_at m slot)) a) m views
keeper_depth start id a slot keeper m views h = (record { after = refl; own = depth_own start id a.view slot m views h.rule h.here; alone = λ al closed. depth_alone start id a slot m views h.rule h.here h.untold al; told = tells a _ h.untold.told }, kept.k12_keeper start id a.view slot keeper m views h.rule h.here)

pub keeper_current : (start : Start) (id : ℕ) (a : Core) (node : ℕ) → node < 8 → (m : Memory) (views : List View) → At start id a m views → EmptiesCurrent a (stepped view.passed (current_in node None) a) node × After start id (stepped view.passed (current_in node None) a) (current_in node None m) views
keeper_current start id a node low m views h = (record { after = refl }, kept.k16_keeper start id a.view node low m views h.rule h.here)
