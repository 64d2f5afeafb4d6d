use Rattle.std.proofs.Common.{sym, subst}
use Rattle.mp_words.specs.declared.order.Order.{Order}
use Rattle.mp_words.specs.declared.note.Note.{Note}
use Rattle.mp_core.specs.Notes.{order_noted, with_note}
use Rattle.mp_core.specs.Kinds.{LoadsOrder}
use Rattle.mp_table.specs.Known.{core_on}
use Rattle.mp_table.specs.Passes.{table_of}
use Rattle.mp_table.proofs.LaneKinds.{order_loads}
use Rattle.mp_table.proofs.lane_steps.load_order.Goals as goal

pub returns-clause-kind : goal.returns-clause-kind
returns-clause-kind c =
    let s = c.args.section.now in
    let told = subst (λ (o : Order). LoadsOrder (core_on (table_of c.args.shared.now) c.args.lane c.args.token.now.seat.me.0) (core_on (table_of c.args.shared.now) c.args.lane c.read_as-found.new.seat.me.0) s (with_note (order_noted o s.note) s) o) (sym c.order_of-order.ensures) c.read_as-found.ensures.tells.2 in
    subst (λ (n : Note). LoadsOrder (core_on (table_of c.args.shared.now) c.args.lane c.args.token.now.seat.me.0) (core_on (table_of c.args.shared.now) c.args.lane c.read_as-found.new.seat.me.0) s (with_note n s) c.order_of-order.result) (sym c.note_order.ensures) told

pub read_as-found-requires-clause-rule : goal.read_as-found-requires-clause-rule
read_as-found-requires-clause-rule c = order_loads (table_of c.args.shared.now) c.args.lane c.args.token.now.seat.id c.args.token.now.seat.me.0 c.args.token.now.fits c.args.section.now c.requires.open c.requires.first
