use Rattle.std.proofs.Common.{rules, ◌≡◌, ◌≢◌, ◌∙◌, ◌<◌, ◌≤◌, ◌+◌, ◌-◌, ℕ, List, set, inl, inr, Option, Some, None, true, false, sym, ap, subst, refl, arith}
use Rattle.atomic_table.specs.Seated.{TableId}
use Rattle.mp_words.specs.declared.entry.OrderEntry.{OrderEntry}
use Rattle.mp_words.specs.declared.entry.RowEntry.{RowEntry}
use Rattle.mp_words.specs.declared.flight.Flight.{Flight}
use Rattle.mp_words.specs.declared.note.Note.{Note}
use Rattle.mp_words.specs.declared.order.Order.{Order}
use Rattle.mp_words.specs.declared.row.Row.{Row}
use Rattle.mp_words.specs.declared.words.Side.{Side}
use Rattle.mp_words.specs.Row.{is_given}
use Rattle.mp_words.specs.Facts.{IsRow}
use Rattle.mp_core.specs.declared.view.Section.{Section}
use Rattle.mp_core.specs.declared.view.Seats.{Seats}
use Rattle.mp_core.specs.declared.view.View.{View}
use Rattle.mp_core.specs.Core.{Core}
use Rattle.mp_core.specs.Memory.{Memory, side_at, row_at, depth_at, current_at, entered_in, left_in, row_in, order_in, flipped_in, sent_in, landed_in, current_in, cleared_in}
use Rattle.mp_core.specs.Notes.{blank_note, with_note, row_noted, order_noted, flight_noted, depth_noted, current_noted}
use Rattle.mp_core.specs.Seats.{view_of}
use Rattle.mp_core.specs.Kinds.{OrderTold, RowTold, RowMoved, Changes, entry_of, flight_of}
use Rattle.mp_core.proofs.Flights.{has_flies}
use Rattle.mp_rule.proofs.Ops.{lane_lawful}
use Rattle.mp_core.specs.Unpacked.{unpacked}
use Rattle.mp_core.specs.Views as view
use Rattle.mp_core.specs.Views.{opened, last_version}
use Rattle.mp_rule.proofs.Told.{told_is, told_row, told_order, told_moved}
use Rattle.mp_plain.specs.declared.ledger.Ruled.{Ruled}
use Rattle.mp_plain.specs.Lanes.{lane_turn, keeper_turn, unit_turn, part_of, keeper_of, views_of, core_at}
use Rattle.mp_plain.specs.Stands.{Stands, units_of}
use Rattle.mp_plain.proofs.Lanes.{mirror, core_after, core_step, units_same, units_taken, stands_as}
use Rattle.mp_plain.proofs.Words.{still_same}
use Rattle.mp_plain.proofs.LaneKinds as lane
use Rattle.mp_plain.proofs.KeeperKinds as keeper
use Rattle.mp_plain.proofs.steps.PlainSteps.enter.Goals as goal

pub count_in-ticket-requires-clause-entries : goal.count_in-ticket-requires-clause-entries
count_in-ticket-requires-clause-entries c =
    let a = c.args.self.now in
    let m = unpacked a.words in
    let r = a.ledger.seat.me.0 in
    let f = (lane.entries_fit m r a.lane c.args.side a.range c.requires.left a.rule).0 in
    omega arith

pub count_in-ticket-requires-clause-inside : goal.count_in-ticket-requires-clause-inside
count_in-ticket-requires-clause-inside c =
    let a = c.args.self.now in
    let m = unpacked a.words in
    let r = a.ledger.seat.me.0 in
    let f = lane.entries_fit m r a.lane c.args.side a.range c.requires.left a.rule in
    let e = f.0 in
    let i = f.1 in
    omega arith

pub invariant_of-self : goal.invariant_of-self
invariant_of-self c =
    let a = c.args.self.now in
    let m = unpacked a.words in
    let r = a.ledger.seat.me.0 in
    let n = c.blank.ensures ∙ ap (blank_note a.lane c.args.side) c.count_in-ticket.ensures.ticket in
    let section : record { note = c.blank.result; sent = false; tried = false } ≡ opened a.lane c.args.side (side_at m c.args.side).entries = (λ i. record { note = n i; sent = false; tried = false }) in
    let known = ap (λ x. x.0) c.turn_entered.ensures.view in
    record {
      range = a.range;
      units = ap (λ (x : Ruled). units_of x.seats) known ∙ units_taken m r a.lane c.get.result a.left (view.entered (record { note = c.blank.result; sent = false; tried = false }) (view_of a.lane r.seats)) a.range a.rule a.units c.get.ensures.number refl;
      packed = c.count_in-ticket.ensures.packed a.packed;
      same = still_same _ _ _ _ c.count_in-ticket.ensures.words refl refl a.same;
      rule = stands_as _ _ _ _ c.count_in-ticket.ensures.words (known ∙ ap (λ (x : Section). lane_turn a.lane (view.entered x) r) section) (lane.entered_stands m r a.lane c.args.side a.range c.requires.side c.requires.closed c.requires.left a.rule);
    }

pub returns : goal.returns
returns c =
    let a = c.args.self.now in
    let m = unpacked a.words in
    let r = a.ledger.seat.me.0 in
    let section : record { note = c.blank.result; sent = false; tried = false } ≡ opened a.lane c.args.side c.count_in-ticket.result = (λ i. record { note = c.blank.ensures i; sent = false; tried = false }) in
    let t = ap (λ (x : Section). x.note.ticket) section ∙ c.count_in-ticket.ensures.ticket in
    record {
      section = section ∙ ap (opened a.lane c.args.side) (sym (ap (λ (x : Section). x.note.ticket) section));
      after = core_after a.ledger.seat.table_id _ a.lane _ _ (entered_in c.args.side m) _ (c.turn_entered.ensures.home) (ap (λ (x : Ruled). x.seats) (ap (λ x. x.0) c.turn_entered.ensures.view)) c.count_in-ticket.ensures.words _ (core_step a.ledger.seat.table_id a.lane m (entered_in c.args.side m) r (view.entered (record { note = c.blank.result; sent = false; tried = false }) (view_of a.lane r.seats)) a.range a.rule);
      told = told_is (core_at a.ledger.seat.table_id a.lane r.seats m) m (λ n. c.blank.result.ticket ≡ (side_at n c.args.side).entries) refl t;
    }
