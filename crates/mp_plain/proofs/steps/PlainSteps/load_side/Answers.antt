use Rattle.std.proofs.Common.{◌≡◌, ◌∙◌, ◌<◌, ◌≤◌, ℕ, Option, Some, None, true, sym, ap, subst, refl, arith}
use Rattle.atomic_table.specs.Seated.{TableId}
use Rattle.mp_words.specs.declared.note.Note.{Note}
use Rattle.mp_words.specs.declared.row.Row.{Row}
use Rattle.mp_words.specs.Row.{is_given}
use Rattle.mp_core.specs.declared.view.Section.{Section}
use Rattle.mp_core.specs.declared.view.Seats.{Seats}
use Rattle.mp_core.specs.declared.view.View.{View}
use Rattle.mp_core.specs.Memory.{Memory, row_at, side_at, entered_in, left_in}
use Rattle.mp_core.specs.Notes.{with_note, row_noted, order_noted}
use Rattle.mp_core.specs.Seats.{view_of}
use Rattle.mp_core.specs.Unpacked.{unpacked}
use Rattle.mp_core.specs.Views as view
use Rattle.mp_core.specs.Views.{opened}
use Rattle.mp_rule.proofs.Told.{told_is, told_row, told_order}
use Rattle.mp_plain.specs.declared.ledger.Ruled.{Ruled}
use Rattle.mp_plain.specs.Lanes.{lane_turn, part_of, core_at}
use Rattle.mp_plain.specs.Stands.{Stands, units_of}
use Rattle.mp_plain.proofs.Lanes.{mirror, core_after, core_step, units_same, units_less}
use Rattle.mp_plain.proofs.LaneKinds.{passed_stands, entered_stands, finished_stands, order_stands, row_stands}
use Rattle.mp_plain.proofs.steps.PlainSteps.load_side.Goals as goal

pub invariant_of-self : goal.invariant_of-self
invariant_of-self c =
    let a = c.args.self.now in
    let m = unpacked a.words in
    let r = a.ledger.seat.me.0 in
    let known : c.turn_passed.new.ledger.seat.me.0 ≡ lane_turn a.lane view.passed r = ap (λ x. x.0) c.turn_passed.ensures.view in
    record {
      range = a.range;
      units = ap (λ (x : Ruled). units_of x.seats) known ∙ units_same r a.lane (view.passed (view_of a.lane r.seats)) refl ∙ a.units;
      packed = a.packed;
      same = a.same;
      rule = subst (Stands m) (sym known) (passed_stands m r a.lane a.range a.rule);
    }

pub returns : goal.returns
returns c =
    let a = c.args.self.now in
    let m = unpacked a.words in
    let r = a.ledger.seat.me.0 in
    record {
      range = a.rule.holds.lanes.range;
      after = core_after a.ledger.seat.table_id _ a.lane _ _ m m c.turn_passed.ensures.home (ap (λ x. x.0.seats) c.turn_passed.ensures.view) refl _ (core_step a.ledger.seat.table_id a.lane m m r (view.passed (view_of a.lane r.seats)) a.range a.rule);
      told = told_is (core_at a.ledger.seat.table_id a.lane r.seats m) m (λ n. m.index ≡ n.index) refl refl;
    }
