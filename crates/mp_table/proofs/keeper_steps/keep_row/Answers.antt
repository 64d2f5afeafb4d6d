use Rattle.std.proofs.Common.{◌≡◌, ℕ, ◌<◌, Some, sym, subst}
use Rattle.mp_words.specs.declared.entry.RowEntry.{RowEntry}
use Rattle.mp_words.specs.Facts.{IsRow}
use Rattle.mp_words.specs.RowWord.{row_of_word}
use Rattle.mp_core.specs.declared.view.RowEnd.{RowEnd}
use Rattle.mp_core.specs.declared.view.RowEnd.TheVariants as ends
use Rattle.mp_core.specs.Kinds.{KeepsRow}
use Rattle.mp_table.specs.Known.{core_on}
use Rattle.mp_table.proofs.LaneKinds.{end_moved}
use Rattle.mp_table.specs.Passes.{table_of}
use Rattle.mp_table.proofs.KeeperKinds.{keep_changes, row_keeps}
use Rattle.mp_table.proofs.keeper_steps.keep_row.Goals as goal

pub entry_by-entry-requires-clause-changes : goal.entry_by-entry-requires-clause-changes
entry_by-entry-requires-clause-changes c =
    let fit = c.args.token.now.fits.rows.held (record { slot = c.args.slot; row = c.args.old.now }) c.requires.held in
    let made = keep_changes c.args.token.now.seat.me.0 c.args.slot c.args.old.now c.args.op.now c.requires.may fit in
    made.0

pub entry_by-entry-requires-clause-below : goal.entry_by-entry-requires-clause-below
entry_by-entry-requires-clause-below c = let fit = c.args.token.now.fits.rows.held (record { slot = c.args.slot; row = c.args.old.now }) c.requires.held in fit.below

pub pack-from-requires : goal.pack-from-requires
pack-from-requires c = let fit = c.args.token.now.fits.rows.held (record { slot = c.args.slot; row = c.args.old.now }) c.requires.held in fit.stored

pub pack-to-requires : goal.pack-to-requires
pack-to-requires c =
    let fit = c.args.token.now.fits.rows.held (record { slot = c.args.slot; row = c.args.old.now }) c.requires.held in
    let made = keep_changes c.args.token.now.seat.me.0 c.args.slot c.args.old.now c.args.op.now c.requires.may fit in
    subst (λ (e : RowEntry). IsRow e.row) (sym c.entry_by-entry.ensures) made.1

pub returns-else-found-from-clause-kind : goal.returns-else-found-from-clause-kind
returns-else-found-from-clause-kind c =
    let moved = end_moved c.get-place.result c.args.old.now c.args.op.now c.args.by.now c.keep_as-found.result c.pack-from.result _ c.pack-from.ensures.word c.if-found-from.false c.row_of.ensures in
    let told = subst (λ (e : RowEnd). KeepsRow (core_on (table_of c.args.shared.now) c.args.lane c.args.token.now.seat.me.0) (core_on (table_of c.args.shared.now) c.args.lane c.keep_as-found.new.seat.me.0) c.get-place.result c.args.old.now c.args.op.now c.args.by.now e) moved c.keep_as-found.ensures.tells.2 in
    subst (λ (p : ℕ). KeepsRow (core_on (table_of c.args.shared.now) c.args.lane c.args.token.now.seat.me.0) (core_on (table_of c.args.shared.now) c.args.lane c.keep_as-found.new.seat.me.0) p c.args.old.now c.args.op.now c.args.by.now (ends.Moved c.row_of.result)) c.get-place.ensures.number told

pub keep_as-found-requires-clause-rule : goal.keep_as-found-requires-clause-rule
keep_as-found-requires-clause-rule c =
    let low : c.args.slot < 15 = subst (λ (y : ℕ). y < 15) c.get-place.ensures.number c.get-place.ensures.below in
    let old_is = subst (λ (n : ℕ). row_of_word n ≡ Some c.args.old.now) c.pack-from.ensures.word c.pack-from.ensures.unpacks in
    let to_is = subst (λ (e : RowEntry). row_of_word c.pack-to.result ≡ Some e.row) c.entry_by-entry.ensures c.pack-to.ensures.unpacks in
    rw c.get-place.ensures.number (rw c.pack-from.ensures.word (row_keeps (table_of c.args.shared.now) c.args.lane c.args.token.now.seat.id c.args.token.now.seat.me.0 c.args.token.now.fits c.args.slot c.args.old.now c.args.op.now c.args.by.now c.pack-to.result low c.requires.keeper c.requires.left c.requires.held c.requires.may old_is to_is))
