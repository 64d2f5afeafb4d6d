use Rattle.std.proofs.Common.{rules, ◌≡◌, ◌≢◌, ◌∙◌, ◌<◌, ◌≤◌, ◌+◌, ◌-◌, ℕ, List, set, inl, inr, Option, Some, None, true, false, sym, ap, subst, refl, arith}
use Rattle.atomic_table.specs.Seated.{TableId}
use Rattle.mp_words.specs.declared.entry.OrderEntry.{OrderEntry}
use Rattle.mp_words.specs.declared.entry.RowEntry.{RowEntry}
use Rattle.mp_words.specs.declared.flight.Flight.{Flight}
use Rattle.mp_words.specs.declared.note.Note.{Note}
use Rattle.mp_words.specs.declared.order.Order.{Order}
use Rattle.mp_words.specs.declared.row.Row.{Row}
use Rattle.mp_words.specs.declared.words.Side.{Side}
use Rattle.mp_words.specs.Row.{is_given}
use Rattle.mp_words.specs.Facts.{IsRow}
use Rattle.mp_core.specs.declared.view.Section.{Section}
use Rattle.mp_core.specs.declared.view.Seats.{Seats}
use Rattle.mp_core.specs.declared.view.View.{View}
use Rattle.mp_core.specs.Core.{Core}
use Rattle.mp_core.specs.Memory.{Memory, side_at, row_at, depth_at, current_at, entered_in, left_in, row_in, order_in, flipped_in, sent_in, landed_in, current_in, cleared_in}
use Rattle.mp_core.specs.Notes.{with_note, row_noted, order_noted, flight_noted, depth_noted, current_noted}
use Rattle.mp_core.specs.Seats.{view_of}
use Rattle.mp_core.specs.Kinds.{OrderTold, RowTold, RowMoved, Changes, entry_of, flight_of}
use Rattle.mp_core.proofs.Flights.{has_flies}
use Rattle.mp_rule.proofs.Ops.{lane_lawful}
use Rattle.mp_core.specs.Unpacked.{unpacked}
use Rattle.mp_core.specs.Views as view
use Rattle.mp_core.specs.Views.{opened, last_version}
use Rattle.mp_rule.proofs.Told.{told_is, told_row, told_order, told_moved}
use Rattle.mp_plain.specs.declared.ledger.Ruled.{Ruled}
use Rattle.mp_plain.specs.Lanes.{lane_turn, keeper_turn, unit_turn, part_of, keeper_of, views_of, core_at}
use Rattle.mp_plain.specs.Stands.{Stands, units_of}
use Rattle.mp_plain.proofs.Lanes.{mirror, core_after, core_step, units_same, units_taken, stands_as}
use Rattle.mp_plain.proofs.LaneKinds as lane
use Rattle.mp_plain.proofs.KeeperKinds as keeper
use Rattle.mp_plain.proofs.steps.PlainSteps.change_row.Goals as goal

pub invariant_of-self : goal.invariant_of-self
invariant_of-self c =
    let a = c.args.self.now in
    let m = unpacked a.words in
    let r = a.ledger.seat.me.0 in
    let s = c.args.section.now in
    record {
      range = a.range;
      units = ap (λ (x : Ruled). units_of x.seats) (ap (λ x. x.0) c.turn_row_moved.ensures.view) ∙ units_same r a.lane (view.row_moved c.args.slot c.row_in-row.result (record s { tried = true }) (view_of a.lane r.seats)) refl ∙ a.units;
      packed = a.packed;
      same = a.same;
      rule = stands_as _ _ _ _ refl (ap (λ x. x.0) c.turn_row_moved.ensures.view ∙ ap (λ (x : Row). lane_turn a.lane (view.row_moved c.args.slot x (record s { tried = true })) r) c.row_in-row.ensures.row) (lane.moved_stands m r a.lane c.args.slot s a.range c.requires.open a.rule);
    }

pub returns-then-row-old : goal.returns-then-row-old
returns-then-row-old c =
    let a = c.args.self.now in
    let m = unpacked a.words in
    let r = a.ledger.seat.me.0 in
    let s = c.args.section.now in
    let less = lane.older_row m r a.lane c.args.slot s c.args.old a.range c.requires.open c.requires.old (λ x. c.if-row-old.true (ap (λ (y : Row). y.version) c.row_in-row.ensures.row ∙ sym x)) a.rule in
    let given = lane.given_here m r a.lane c.args.slot s a.range c.requires.open (lane.part_reaches m r a.lane c.args.slot s a.range c.requires.open c.requires.old.listed c.requires.reached a.rule) a.rule in
    record {
      section = refl;
      ends = (core_after a.ledger.seat.table_id _ a.lane _ _ (m) _ (c.turn_row_moved.ensures.home) (ap (λ (x : Ruled). x.seats) (ap (λ x. x.0) c.turn_row_moved.ensures.view)) refl _ (core_step a.ledger.seat.table_id a.lane m (m) r (view.row_moved c.args.slot c.row_in-row.result (record s { tried = true }) (view_of a.lane r.seats)) a.range a.rule), subst (RowMoved (core_at a.ledger.seat.table_id a.lane r.seats m) c.args.slot c.args.old) (sym c.row_in-row.ensures.row) (told_moved r.seats.keeping.start (core_at a.ledger.seat.table_id a.lane r.seats m) c.args.slot c.args.old m (views_of r) a.rule.holds refl less given));
    }

pub entry_by-entry-requires-clause-changes : goal.entry_by-entry-requires-clause-changes
entry_by-entry-requires-clause-changes c =
    let a = c.args.self.now in
    let m = unpacked a.words in
    let r = a.ledger.seat.me.0 in
    let s = c.args.section.now in
    let same = lane.same_row m r a.lane c.args.slot s c.args.old a.range c.requires.open c.requires.old (sym c.if-row-old.false ∙ ap (λ (x : Row). x.version) c.row_in-row.ensures.row) a.rule in
    let found : c.row_in-row.result ≡ c.args.old = c.row_in-row.ensures.row ∙ same in
    subst (λ (x : Row). Changes x c.args.op) (sym found) c.requires.changes

pub change-requires : goal.change-requires
change-requires c =
    let a = c.args.self.now in
    let m = unpacked a.words in
    let r = a.ledger.seat.me.0 in
    let s = c.args.section.now in
    let same = lane.same_row m r a.lane c.args.slot s c.args.old a.range c.requires.open c.requires.old (sym c.if-row-old.false ∙ ap (λ (x : Row). x.version) c.row_in-row.ensures.row) a.rule in
    let found : c.row_in-row.result ≡ c.args.old = c.row_in-row.ensures.row ∙ same in
    let given = lane.given_here m r a.lane c.args.slot s a.range c.requires.open (lane.part_reaches m r a.lane c.args.slot s a.range c.requires.open c.requires.old.listed c.requires.reached a.rule) a.rule in
    let entry : c.entry_by-entry.result ≡ entry_of c.args.slot c.args.old c.args.op c.args.by = c.entry_by-entry.ensures ∙ ap (λ (x : Row). entry_of c.args.slot x c.args.op c.args.by) found in
    subst (λ (x : RowEntry). IsRow x.row) (sym entry) (lane_lawful c.args.old c.args.op c.requires.op c.requires.changes (ap is_given (sym same) ∙ given) (subst IsRow same (a.rule.holds.lawful c.args.slot)))

pub invariant_of-self-2 : goal.invariant_of-self-2
invariant_of-self-2 c =
    let a = c.args.self.now in
    let m = unpacked a.words in
    let r = a.ledger.seat.me.0 in
    let s = c.args.section.now in
    let same = lane.same_row m r a.lane c.args.slot s c.args.old a.range c.requires.open c.requires.old (sym c.if-row-old.false ∙ ap (λ (x : Row). x.version) c.row_in-row.ensures.row) a.rule in
    let found : c.row_in-row.result ≡ c.args.old = c.row_in-row.ensures.row ∙ same in
    let entry : c.entry_by-entry.result ≡ entry_of c.args.slot c.args.old c.args.op c.args.by = c.entry_by-entry.ensures ∙ ap (λ (x : Row). entry_of c.args.slot x c.args.op c.args.by) found in
    record {
      range = a.range;
      units = ap (λ (x : Ruled). units_of x.seats) (c.change.ensures.view) ∙ units_same r a.lane (view.row_changed c.entry_by-entry.result (record s { tried = true }) (view_of a.lane r.seats)) refl ∙ a.units;
      packed = c.change.ensures.packed a.packed;
      same = c.change.ensures.same a.same;
      rule = stands_as _ _ _ _ (c.change.ensures.words ∙ ap (λ (x : RowEntry). row_in x.slot x.row m) entry) (c.change.ensures.view ∙ ap (λ (x : RowEntry). lane_turn a.lane (view.row_changed x (record s { tried = true })) r) entry) (lane.changed_stands m r a.lane c.args.slot s c.args.old c.args.op c.args.by a.range c.row_in-row.ensures.below c.requires.open (lane.part_reaches m r a.lane c.args.slot s a.range c.requires.open c.requires.old.listed c.requires.reached a.rule) c.requires.op c.requires.changes c.requires.once same a.rule);
    }

pub returns : goal.returns
returns c =
    let a = c.args.self.now in
    let m = unpacked a.words in
    let r = a.ledger.seat.me.0 in
    let s = c.args.section.now in
    let same = lane.same_row m r a.lane c.args.slot s c.args.old a.range c.requires.open c.requires.old (sym c.if-row-old.false ∙ ap (λ (x : Row). x.version) c.row_in-row.ensures.row) a.rule in
    let found : c.row_in-row.result ≡ c.args.old = c.row_in-row.ensures.row ∙ same in
    let entry : c.entry_by-entry.result ≡ entry_of c.args.slot c.args.old c.args.op c.args.by = c.entry_by-entry.ensures ∙ ap (λ (x : Row). entry_of c.args.slot x c.args.op c.args.by) found in
    record {
      section = refl;
      ends = (entry, record { after = core_after a.ledger.seat.table_id _ a.lane _ _ (row_in c.args.slot c.entry_by-entry.result.row m) _ (c.change.ensures.home) (ap (λ (x : Ruled). x.seats) (c.change.ensures.view)) (c.change.ensures.words ∙ ap (λ (x : RowEntry). row_in x.slot c.entry_by-entry.result.row m) entry) _ (core_step a.ledger.seat.table_id a.lane m (row_in c.args.slot c.entry_by-entry.result.row m) r (view.row_changed c.entry_by-entry.result (record s { tried = true }) (view_of a.lane r.seats)) a.range a.rule); told = told_is (core_at a.ledger.seat.table_id a.lane r.seats m) m (λ n. row_at n c.args.slot ≡ c.args.old) refl same });
    }
