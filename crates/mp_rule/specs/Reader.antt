-- What the rule means when passes come and go, and for those who call the table.
use Rattle.std.specs.Prelude.{◌≡◌, ◌≢◌, ℕ, ◌≤◌, true, List, [], ◌∷◌, ◌++◌, None, Some}
use lib.ListN.{set}
use mathlib.Core.Option.{some}
use lib.ListN.{get_elem?}
use Rattle.mp_words.specs.declared.row.Row.{Row}
use Rattle.mp_words.specs.declared.op.Op.TheVariants as op
use Rattle.mp_words.specs.declared.flight.Flight.{Flight}
use Rattle.mp_core.specs.declared.view.Section.{Section}
use Rattle.mp_core.specs.declared.view.Role.TheVariants as role
use Rattle.mp_core.specs.declared.view.Start.{Start}
use Rattle.mp_core.specs.declared.view.View.{View}
use Rattle.mp_core.specs.Memory.{Memory, row_at, depth_at}
use Rattle.mp_core.specs.Notes.{HasRow, HasUsable}
use Rattle.mp_core.specs.Status.{unused, lists}
use Rattle.mp_core.specs.Views as view
use Rattle.mp_core.specs.Views.{seen_row, opened, entered, finished, noted, flying, has_flight, last_order, last_version}
use Rattle.mp_core.specs.Kinds.{status_at}
use Rattle.mp_rule.specs.Sequence.{is_quiet}
use Rattle.mp_rule.specs.Rule.{Reaches}
use Rattle.mp_rule.specs.Sums.{times}
use Rattle.mp_rule.specs.Holds.{Holds}
use mathlib.Core.Option.{some}
use Rattle.mp_core.specs.Memory.{Memory, row_at}
use Rattle.mp_core.specs.Unpacked.{unpacked}
use Rattle.mp_core.specs.Status.{unused, lists}
use Rattle.mp_core.specs.Views.{on_slot, greatest, seen_row, flying}
use Rattle.mp_rule.specs.Holds.{Holds}
use Rattle.mp_rule.specs.Lawful.{IsLawful, HasRoom, opening_view}
use Rattle.mp_core.specs.Kinds.{status_at, MayKeep}
use Rattle.mp_core.specs.Memory.{Memory}
use Rattle.mp_core.specs.Notes.{HasUsable}
use Rattle.mp_core.specs.Status.{unused, lists}
use Rattle.mp_core.specs.Views.{flying, has_flight}
use Rattle.mp_rule.specs.Sequence.{is_quiet}
use Rattle.mp_rule.specs.Holds.{Holds}
use Rattle.mp_rule.specs.Laws.{GiveIsSafe}
use Rattle.mp_core.specs.Core.{Core}
use Rattle.mp_core.specs.Memory.{Memory, row_at, depth_at}
use Rattle.mp_core.specs.Notes.{HasRow}
use Rattle.mp_core.specs.Views.{on_slot, seen_row, flying}
use Rattle.mp_core.specs.Kinds.{OrderTold, RowTold, RowMoved, status_at, MayKeep}
use Rattle.mp_rule.specs.Rule.{Reaches}
use Rattle.mp_rule.specs.Promises.{IsUntold}

-- On lawful words that have room for the units, with the keeper's view alone, the rule holds.
abbrev pub RuleBegins : Type 0
RuleBegins =
    (start : Start) → IsLawful (unpacked start.words) → HasRoom (unpacked start.words) start.units →
    Holds start (unpacked start.words) (opening_view start ∷ [])

-- After a pass was split off for a lane that isn't out, with units that the keeper has, the rule holds.
abbrev pub PassIsSplit : Type 0
PassIsSplit =
    (start : Start) (id : ℕ) (v : View) (lane n : ℕ) → v.role ≡ role.Keeper → n ≤ v.left →
    times lane v.keeping.out ≡ 0 → (m : Memory) (views : List View) → Holds start m views →
    get_elem? views id ≡ some v →
    Holds start m (set views id (view.kept_part lane n v) ++ view.new_part lane n v ∷ [])

-- After a pass without an open section and without a flight was joined, the rule holds.
abbrev pub PassIsJoined : Type 0
PassIsJoined =
    (start : Start) (id : ℕ) (v : View) (other : ℕ) (w : View) → v.role ≡ role.Keeper → w.inside ≡ None →
    w.flights ≡ [] → (m : Memory) (views : List View) → Holds start m views → get_elem? views id ≡ some v →
    other ≢ id → get_elem? (set views id (view.joined v w)) other ≡ some w →
    Holds start m (set (set views id (view.joined v w)) other (view.spent w))

-- Where no lane is out and the keeper has no open section and no flight, the words are lawful and have room for its
-- units.
abbrev pub RuleEnds : Type 0
RuleEnds =
    (start : Start) (v : View) (m : Memory) (views : List View) → Holds start m views →
    get_elem? views 0 ≡ some v → v.role ≡ role.Keeper → v.keeping.out ≡ [] → v.inside ≡ None → v.flights ≡ [] →
    IsLawful m × HasRoom m v.left

-- The list of paths that stands there is lawful, and not older than what the pass has seen.
abbrev pub LoadsOfOrdersNeverGoBack : Type 0
LoadsOfOrdersNeverGoBack =
    (start : Start) (id : ℕ) (c : Core) (m : Memory) (views : List View) → Holds start m views →
    get_elem? views id ≡ some c.view → IsUntold c → OrderTold c m.order

-- The row that stands in a slot is lawful, and not older than what the pass has seen of it.
abbrev pub LoadsOfRowsNeverGoBack : Type 0
LoadsOfRowsNeverGoBack =
    (start : Start) (id : ℕ) (c : Core) (x : ℕ) (m : Memory) (views : List View) → Holds start m views →
    get_elem? views id ≡ some c.view → IsUntold c → RowTold c x (row_at m x)

-- Where another row stands than the one that a section has read, it has a greater version.
abbrev pub LostChangesAreNewer : Type 0
LostChangesAreNewer =
    (start : Start) (id : ℕ) (c : Core) (t : Section) (x : ℕ) (old : Row) → c.view.inside ≡ Some t →
    HasRow t.note x old → Reaches x t.note c.view → (m : Memory) (views : List View) → Holds start m views →
    get_elem? views id ≡ some c.view → IsUntold c → row_at m x ≢ old → RowMoved c x old (row_at m x)

-- Where the keeper may give a slot a path, no open section's list of paths has the slot, no flight is on it, and each
-- section with a ticket below a kept scan of its side is over.
abbrev pub GivesAreSafe : Type 0
GivesAreSafe =
    (start : Start) (id : ℕ) (v : View) (x : ℕ) → v.role ≡ role.Keeper → status_at x v ≡ unused →
    (m : Memory) (views : List View) → Holds start m views → get_elem? views id ≡ some v → GiveIsSafe x m views

-- While a flight is on a slot, the slot is not free, not about to be given, and not about to be freed.
abbrev pub FlightsHoldTheirSlot : Type 0
FlightsHoldTheirSlot =
    (start : Start) (id : ℕ) (v : View) (x : ℕ) → v.role ≡ role.Keeper → (m : Memory) (views : List View) →
    Holds start m views → get_elem? views id ≡ some v → (i : ℕ) (u : View) (f : Flight) →
    get_elem? views i ≡ some u → has_flight f u ≡ true → f.slot ≡ x → is_quiet (status_at x v) ≡ true → ⊥

-- While a flight is on a slot, the keeper may not free it.
abbrev pub FlightsAreNotFreedUnder : Type 0
FlightsAreNotFreedUnder =
    (start : Start) (id : ℕ) (v : View) (x : ℕ) → v.role ≡ role.Keeper → (m : Memory) (views : List View) →
    Holds start m views → get_elem? views id ≡ some v → (i : ℕ) (u : View) (f : Flight) →
    get_elem? views i ≡ some u → has_flight f u ≡ true → f.slot ≡ x → MayKeep op.Free (status_at x v) → ⊥

-- A section that has loaded a usable row of a slot may send to it: the slot is listed.
abbrev pub SendsAreListed : Type 0
SendsAreListed =
    (start : Start) (id : ℕ) (v : View) (t : Section) (x : ℕ) → v.inside ≡ Some t → HasUsable t.note x →
    (m : Memory) (views : List View) → Holds start m views → get_elem? views id ≡ some v →
    lists x m.order ≡ true

-- A depth is at least the number of the flights that one pass has on the slot.
abbrev pub DepthsCountOwnFlights : Type 0
DepthsCountOwnFlights =
    (start : Start) (id : ℕ) (v : View) (x : ℕ) (m : Memory) (views : List View) → Holds start m views →
    get_elem? views id ≡ some v → flying x v ≤ depth_at m x
