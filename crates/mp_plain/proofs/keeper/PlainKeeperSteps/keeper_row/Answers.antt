use Rattle.std.proofs.Common.{rules, ◌≡◌, ◌≢◌, ◌∙◌, ◌<◌, ◌≤◌, ◌+◌, ◌-◌, ℕ, List, set, inl, inr, Option, Some, None, true, false, sym, ap, subst, refl, arith}
use Rattle.atomic_table.specs.Seated.{TableId}
use Rattle.mp_words.specs.declared.entry.OrderEntry.{OrderEntry}
use Rattle.mp_words.specs.declared.entry.RowEntry.{RowEntry}
use Rattle.mp_words.specs.declared.flight.Flight.{Flight}
use Rattle.mp_words.specs.declared.note.Note.{Note}
use Rattle.mp_words.specs.declared.order.Order.{Order}
use Rattle.mp_words.specs.declared.row.Row.{Row}
use Rattle.mp_words.specs.declared.words.Side.{Side}
use Rattle.mp_words.specs.Row.{is_given}
use Rattle.mp_words.specs.Facts.{IsRow}
use Rattle.mp_core.specs.declared.view.Section.{Section}
use Rattle.mp_core.specs.declared.view.Seats.{Seats}
use Rattle.mp_core.specs.declared.view.View.{View}
use Rattle.mp_core.specs.Core.{Core}
use Rattle.mp_core.specs.Memory.{Memory, side_at, row_at, depth_at, current_at, entered_in, left_in, row_in, order_in, flipped_in, sent_in, landed_in, current_in, cleared_in}
use Rattle.mp_core.specs.Notes.{with_note, row_noted, order_noted, flight_noted, depth_noted, current_noted}
use Rattle.mp_core.specs.Seats.{view_of}
use Rattle.mp_core.specs.Kinds.{OrderTold, RowTold, RowMoved, Changes, entry_of, flight_of}
use Rattle.mp_core.proofs.Flights.{has_flies}
use Rattle.mp_rule.proofs.Ops.{lane_lawful}
use Rattle.mp_core.specs.Unpacked.{unpacked}
use Rattle.mp_core.specs.Views as view
use Rattle.mp_core.specs.Views.{opened, last_version}
use Rattle.mp_rule.proofs.Told.{told_is, told_row, told_order, told_moved}
use Rattle.mp_plain.specs.declared.ledger.Ruled.{Ruled}
use Rattle.mp_plain.specs.Lanes.{lane_turn, keeper_turn, unit_turn, part_of, keeper_of, views_of, core_at}
use Rattle.mp_plain.specs.Stands.{Stands, units_of}
use Rattle.mp_plain.proofs.Lanes.{mirror, core_after, core_step, units_same, units_taken, stands_as}
use Rattle.mp_plain.proofs.LaneKinds as lane
use Rattle.mp_plain.proofs.KeeperKinds as keeper
use Rattle.mp_plain.proofs.keeper.PlainKeeperSteps.keeper_row.Goals as goal

pub invariant_of-self : goal.invariant_of-self
invariant_of-self c =
    let a = c.args.self.now in
    let m = unpacked a.words in
    let r = a.ledger.seat.me.0 in
    record {
      range = a.range;
      units = ap (λ (x : Ruled). units_of x.seats) (ap (λ x. x.0) c.turn_row_held.ensures.view) ∙ units_same r a.lane (view.row_held c.args.slot c.row_in-row.result (view_of a.lane r.seats)) refl ∙ a.units;
      packed = a.packed;
      same = a.same;
      rule = stands_as _ _ _ _ refl (ap (λ x. x.0) c.turn_row_held.ensures.view ∙ ap (λ (x : Row). keeper_turn a.lane (view.row_held c.args.slot x) r) c.row_in-row.ensures.row) (keeper.held_stands m r a.lane c.args.slot a.range a.rule);
    }

pub returns : goal.returns
returns c =
    let a = c.args.self.now in
    let m = unpacked a.words in
    let r = a.ledger.seat.me.0 in
    record {
      after = core_after a.ledger.seat.table_id _ a.lane _ _ (m) _ (c.turn_row_held.ensures.home) (ap (λ (x : Ruled). x.seats) (ap (λ x. x.0) c.turn_row_held.ensures.view)) refl _ (core_step a.ledger.seat.table_id a.lane m (m) r (view.row_held c.args.slot c.row_in-row.result (view_of a.lane r.seats)) a.range a.rule);
      found = subst (RowTold (core_at a.ledger.seat.table_id a.lane r.seats m) c.args.slot) (sym c.row_in-row.ensures.row) (told_row r.seats.keeping.start (core_at a.ledger.seat.table_id a.lane r.seats m) c.args.slot m (views_of r) a.rule.holds refl ((mirror m r a.lane a.range a.rule).rows c.args.slot));
      used = ap is_given c.row_in-row.ensures.row ∙ keeper.used_here m r a.lane c.args.slot a.rule;
    }
