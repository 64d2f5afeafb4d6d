use Rattle.std.proofs.Common.{rules, ◌≡◌, ◌≢◌, ◌∙◌, ◌<◌, ◌≤◌, ◌+◌, ◌-◌, ℕ, List, set, inl, inr, Option, Some, None, true, false, sym, ap, subst, refl, arith}
use Rattle.atomic_table.specs.Seated.{TableId}
use Rattle.mp_words.specs.declared.entry.OrderEntry.{OrderEntry}
use Rattle.mp_words.specs.declared.entry.RowEntry.{RowEntry}
use Rattle.mp_words.specs.declared.flight.Flight.{Flight}
use Rattle.mp_words.specs.declared.note.Note.{Note}
use Rattle.mp_words.specs.declared.order.Order.{Order}
use Rattle.mp_words.specs.declared.row.Row.{Row}
use Rattle.mp_words.specs.declared.words.Side.{Side}
use Rattle.mp_words.specs.Row.{is_given}
use Rattle.mp_words.specs.Facts.{IsRow}
use Rattle.mp_core.specs.declared.view.Section.{Section}
use Rattle.mp_core.specs.declared.view.Seats.{Seats}
use Rattle.mp_core.specs.declared.view.View.{View}
use Rattle.mp_core.specs.Core.{Core}
use Rattle.mp_core.specs.Memory.{Memory, side_at, row_at, depth_at, current_at, entered_in, left_in, row_in, order_in, flipped_in, sent_in, landed_in, current_in, cleared_in}
use Rattle.mp_core.specs.Notes.{with_note, row_noted, order_noted, flight_noted, depth_noted, current_noted}
use Rattle.mp_core.specs.Seats.{view_of}
use Rattle.mp_core.specs.Kinds.{OrderTold, RowTold, RowMoved, Changes, entry_of, flight_of}
use Rattle.mp_core.proofs.Flights.{has_flies}
use Rattle.mp_rule.proofs.Ops.{lane_lawful}
use Rattle.mp_core.specs.Unpacked.{unpacked}
use Rattle.mp_core.specs.Views as view
use Rattle.mp_core.specs.Views.{opened, last_version}
use Rattle.mp_rule.proofs.Told.{told_is, told_row, told_order, told_moved}
use Rattle.mp_plain.specs.declared.ledger.Ruled.{Ruled}
use Rattle.mp_plain.specs.Lanes.{lane_turn, keeper_turn, unit_turn, part_of, keeper_of, views_of, core_at}
use Rattle.mp_plain.specs.Stands.{Stands, units_of}
use Rattle.mp_plain.proofs.Lanes.{mirror, core_after, core_step, units_same, units_taken, stands_as}
use Rattle.mp_plain.proofs.LaneKinds as lane
use Rattle.mp_plain.proofs.KeeperKinds as keeper
use Rattle.mp_plain.proofs.keeper.PlainKeeperSteps.keep_row.Goals as goal

pub invariant_of-self : goal.invariant_of-self
invariant_of-self c =
    let a = c.args.self.now in
    let m = unpacked a.words in
    let r = a.ledger.seat.me.0 in
    record {
      range = a.range;
      units = ap (λ (x : Ruled). units_of x.seats) (ap (λ x. x.0) c.turn_keep_moved.ensures.view) ∙ units_taken m r a.lane c.get.result a.left (view.keep_moved c.args.slot c.row_in-row.result (view_of a.lane r.seats)) a.range a.rule a.units c.get.ensures.number refl;
      packed = a.packed;
      same = a.same;
      rule = stands_as _ _ _ _ refl (ap (λ x. x.0) c.turn_keep_moved.ensures.view ∙ ap (λ (x : Row). unit_turn a.lane (view.keep_moved c.args.slot x) r) c.row_in-row.ensures.row) (keeper.keep_moved_stands m r a.lane c.args.slot a.range c.requires.left a.rule);
    }

pub returns-then-row-old : goal.returns-then-row-old
returns-then-row-old c =
    let a = c.args.self.now in
    let m = unpacked a.words in
    let r = a.ledger.seat.me.0 in
    let less = keeper.older_held m r a.lane c.args.slot c.args.old c.requires.held (λ x. c.if-row-old.true (ap (λ (y : Row). y.version) c.row_in-row.ensures.row ∙ sym x)) a.rule in
    let only = keeper.only_mark m r a.lane c.args.slot c.args.old c.args.op c.requires.held c.requires.may (λ x. c.if-row-old.true (ap (λ (y : Row). y.version) c.row_in-row.ensures.row ∙ sym x)) a.rule in
    record { ends = (only.0, core_after a.ledger.seat.table_id _ a.lane _ _ (m) _ (c.turn_keep_moved.ensures.home) (ap (λ (x : Ruled). x.seats) (ap (λ x. x.0) c.turn_keep_moved.ensures.view)) refl _ (core_step a.ledger.seat.table_id a.lane m (m) r (view.keep_moved c.args.slot c.row_in-row.result (view_of a.lane r.seats)) a.range a.rule), subst (RowMoved (core_at a.ledger.seat.table_id a.lane r.seats m) c.args.slot c.args.old) (sym c.row_in-row.ensures.row) (told_moved r.seats.keeping.start (core_at a.ledger.seat.table_id a.lane r.seats m) c.args.slot c.args.old m (views_of r) a.rule.holds refl less only.1)) }

pub entry_by-entry-requires-clause-changes : goal.entry_by-entry-requires-clause-changes
entry_by-entry-requires-clause-changes c =
    let a = c.args.self.now in
    let m = unpacked a.words in
    let r = a.ledger.seat.me.0 in
    (keeper.keep_changes m r a.lane c.args.slot c.row_in-row.result c.args.op c.requires.may (sym c.row_in-row.ensures.row) a.rule).0

pub keep-requires : goal.keep-requires
keep-requires c =
    let a = c.args.self.now in
    let m = unpacked a.words in
    let r = a.ledger.seat.me.0 in
    subst (λ (x : RowEntry). IsRow x.row) (sym c.entry_by-entry.ensures) (keeper.keep_changes m r a.lane c.args.slot c.row_in-row.result c.args.op c.requires.may (sym c.row_in-row.ensures.row) a.rule).1

pub invariant_of-self-2 : goal.invariant_of-self-2
invariant_of-self-2 c =
    let a = c.args.self.now in
    let m = unpacked a.words in
    let r = a.ledger.seat.me.0 in
    let same = keeper.same_held m r a.lane c.args.slot c.args.old c.requires.held (sym c.if-row-old.false ∙ ap (λ (x : Row). x.version) c.row_in-row.ensures.row) a.rule in
    let found : c.row_in-row.result ≡ c.args.old = c.row_in-row.ensures.row ∙ same in
    let entry : c.entry_by-entry.result ≡ entry_of c.args.slot c.args.old c.args.op c.args.by = c.entry_by-entry.ensures ∙ ap (λ (x : Row). entry_of c.args.slot x c.args.op c.args.by) found in
    record {
      range = a.range;
      units = ap (λ (x : Ruled). units_of x.seats) (c.keep.ensures.view) ∙ units_taken m r a.lane c.get-2.result a.left (view.row_kept c.entry_by-entry.result (view_of a.lane r.seats)) a.range a.rule a.units c.get-2.ensures.number refl;
      packed = c.keep.ensures.packed a.packed;
      same = c.keep.ensures.same a.same;
      rule = stands_as _ _ _ _ (c.keep.ensures.words ∙ ap (λ (x : RowEntry). row_in x.slot x.row m) entry) (c.keep.ensures.view ∙ ap (λ (x : RowEntry). unit_turn a.lane (view.row_kept x) r) entry) (keeper.row_kept_stands m r a.lane c.args.slot c.args.old c.args.op c.args.by a.range c.row_in-row.ensures.below c.requires.left c.requires.may same a.rule);
    }

pub returns : goal.returns
returns c =
    let a = c.args.self.now in
    let m = unpacked a.words in
    let r = a.ledger.seat.me.0 in
    let same = keeper.same_held m r a.lane c.args.slot c.args.old c.requires.held (sym c.if-row-old.false ∙ ap (λ (x : Row). x.version) c.row_in-row.ensures.row) a.rule in
    let found : c.row_in-row.result ≡ c.args.old = c.row_in-row.ensures.row ∙ same in
    let entry : c.entry_by-entry.result ≡ entry_of c.args.slot c.args.old c.args.op c.args.by = c.entry_by-entry.ensures ∙ ap (λ (x : Row). entry_of c.args.slot x c.args.op c.args.by) found in
    record { ends = (entry, core_after a.ledger.seat.table_id _ a.lane _ _ (row_in c.args.slot c.entry_by-entry.result.row m) _ (c.keep.ensures.home) (ap (λ (x : Ruled). x.seats) (c.keep.ensures.view)) (c.keep.ensures.words ∙ ap (λ (x : RowEntry). row_in x.slot c.entry_by-entry.result.row m) entry) _ (core_step a.ledger.seat.table_id a.lane m (row_in c.args.slot c.entry_by-entry.result.row m) r (view.row_kept c.entry_by-entry.result (view_of a.lane r.seats)) a.range a.rule), told_is (core_at a.ledger.seat.table_id a.lane r.seats m) m (λ n. row_at n c.args.slot ≡ c.args.old) refl same) }
