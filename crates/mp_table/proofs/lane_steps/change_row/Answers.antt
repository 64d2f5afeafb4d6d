use Rattle.std.proofs.Common.{◌≡◌, ℕ, ◌<◌, Some, sym, subst}
use Rattle.mp_words.specs.declared.entry.RowEntry.{RowEntry}
use Rattle.mp_words.specs.Facts.{IsRow}
use Rattle.mp_words.specs.RowWord.{row_of_word}
use Rattle.mp_rule.proofs.Ops.{lane_lawful}
use Rattle.mp_table.specs.Passes.{table_of}
use Rattle.mp_table.proofs.LaneKinds.{row_changes}
use Rattle.mp_table.proofs.lane_steps.change_row.Goals as goal

pub entry_by-entry-requires-clause-below : goal.entry_by-entry-requires-clause-below
entry_by-entry-requires-clause-below c = let fit = c.args.token.now.fits.rows.rows c.args.section.now c.requires.open c.args.slot c.args.old.now c.requires.old in fit.below

pub pack-from-requires : goal.pack-from-requires
pack-from-requires c = let fit = c.args.token.now.fits.rows.rows c.args.section.now c.requires.open c.args.slot c.args.old.now c.requires.old in fit.stored

pub pack-to-requires : goal.pack-to-requires
pack-to-requires c =
    let fit = c.args.token.now.fits.rows.rows c.args.section.now c.requires.open c.args.slot c.args.old.now c.requires.old in
    subst (λ (e : RowEntry). IsRow e.row) (sym c.entry_by-entry.ensures) (lane_lawful c.args.old.now c.args.op.now c.requires.op c.requires.changes fit.given fit.stored)

pub exchange_as-found-requires-clause-rule : goal.exchange_as-found-requires-clause-rule
exchange_as-found-requires-clause-rule c =
    let low : c.args.slot < 15 = subst (λ (y : ℕ). y < 15) c.get-place.ensures.number c.get-place.ensures.below in
    let old_is = subst (λ (n : ℕ). row_of_word n ≡ Some c.args.old.now) c.pack-from.ensures.word c.pack-from.ensures.unpacks in
    let to_is = subst (λ (e : RowEntry). row_of_word c.pack-to.result ≡ Some e.row) c.entry_by-entry.ensures c.pack-to.ensures.unpacks in
    rw c.get-place.ensures.number (rw c.pack-from.ensures.word (row_changes (table_of c.args.shared.now) c.args.lane c.args.token.now.seat.id c.args.token.now.seat.me.0 c.args.token.now.fits c.args.section.now c.args.slot c.args.old.now c.args.op.now c.args.by.now c.pack-to.result low c.requires.open c.requires.old c.requires.reached c.requires.op c.requires.changes c.requires.once old_is to_is))
