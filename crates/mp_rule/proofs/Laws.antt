-- What the rule means for those who call the table.
use Rattle.std.proofs.Common.{◌≡◌, ℕ, true, List, refl, ap, ◌∙◌, arith, Some}
use mathlib.Core.Option.{some}
use lib.ListN.{get_elem?}
use Rattle.mp_words.specs.declared.flight.Flight.{Flight}
use Rattle.mp_words.specs.declared.op.Op.TheVariants as op
use Rattle.mp_core.specs.declared.view.Section.{Section}
use Rattle.mp_core.specs.declared.view.Role.TheVariants as role
use Rattle.mp_core.specs.declared.view.Start.{Start}
use Rattle.mp_core.specs.declared.view.View.{View}
use Rattle.mp_core.specs.Kinds.{status_at, MayKeep}
use Rattle.mp_core.specs.Memory.{Memory}
use Rattle.mp_core.specs.Notes.{HasUsable, row_of}
use Rattle.mp_core.specs.Status.{unused, lists}
use Rattle.mp_core.specs.Views.{flying, has_flight}
use Rattle.mp_rule.specs.Sequence.{is_quiet}
use Rattle.mp_rule.specs.Rule.{first_of}
use Rattle.mp_rule.specs.Holds.{Holds}
use Rattle.mp_rule.specs.Laws.{GiveIsSafe}
use Rattle.mp_core.proofs.Flights.{has_flies}
use Rattle.mp_rule.proofs.Graces.{own_status}
use Rattle.mp_rule.proofs.Kept.{own_is, usable_enabled}
use Rattle.mp_rule.proofs.Slots.{row_listed}
use Rattle.mp_rule.proofs.Parts.{reuse_is_safe, scanned_is_empty}

-- at a Give
pub give_is_safe : (start : Start) (id : ℕ) (v : View) (x : ℕ) → v.role ≡ role.Keeper → status_at x v ≡ unused → (m : Memory) (views : List View) → Holds start m views → get_elem? views id ≡ some v → GiveIsSafe x m views
give_is_safe start id v x keeper own m views h at =
    let st = own_status (first_of start) _ views id v x unused h.graces at keeper (own_is start id v x unused m views h at own) in
    let k = (reuse_is_safe start m views h).safe x (ap is_quiet st) in record {
      unlisted = k.unlisted;
      unread = k.unread;
      empty = k.empty;
      over = λ y e o newer older is i u a t z side low. let l = (scanned_is_empty start m views h).over y e o newer older is i u a t z side in omega arith;
    }

-- while a flight is on a slot, it may be neither freed nor given
pub flight_holds : (start : Start) (id : ℕ) (v : View) (x : ℕ) → v.role ≡ role.Keeper → (m : Memory) (views : List View) → Holds start m views → get_elem? views id ≡ some v → (i : ℕ) (u : View) (f : Flight) → get_elem? views i ≡ some u → has_flight f u ≡ true → f.slot ≡ x → is_quiet (status_at x v) ≡ true → ⊥
flight_holds start id v x keeper m views h at i u f a has on quiet =
    let st = own_status (first_of start) _ views id v x (status_at x v) h.graces at keeper (own_is start id v x (status_at x v) m views h at refl) in
    let empty = ((reuse_is_safe start m views h).safe x (ap is_quiet st ∙ quiet)).empty i u a in
    let flies = has_flies f u has in
    let same = ap (λ (s : ℕ). flying s u) on in absurd (omega arith)

pub not_freed : (start : Start) (id : ℕ) (v : View) (x : ℕ) → v.role ≡ role.Keeper → (m : Memory) (views : List View) → Holds start m views → get_elem? views id ≡ some v → (i : ℕ) (u : View) (f : Flight) → get_elem? views i ≡ some u → has_flight f u ≡ true → f.slot ≡ x → MayKeep op.Free (status_at x v) → ⊥
not_freed start id v x keeper m views h at i u f a has on may = flight_holds start id v x keeper m views h at i u f a has on (ap is_quiet may)

-- at a send the order lists the slot, and its row isn't free
pub sends_listed : (start : Start) (id : ℕ) (v : View) (t : Section) (x : ℕ) → v.inside ≡ Some t → HasUsable t.note x → (m : Memory) (views : List View) → Holds start m views → get_elem? views id ≡ some v → lists x m.order ≡ true
sends_listed start id v t x is_open has m views h at = row_listed x _ _ _ _ _ views id v t (row_of x t.note) (h.graces.slots x) at is_open has.0 (usable_enabled (row_of x t.note) has.1)
