use Rattle.std.proofs.Common.{◌≤◌, ◌∙◌, slice_index, ap, sym, subst, arith}
use Rattle.mp_words.specs.declared.note.Note.{Note}
use Rattle.mp_core.specs.declared.view.Section.{Section}
use Rattle.mp_core.specs.Notes.{HasRow, row_noted}
use Rattle.mp_table.proofs.Trials.{first_read}
use Rattle.mp_table.proofs.tests.read_first.Goals as goal

pub returns-clause-row : goal.returns-clause-row
returns-clause-row c =
    let s = c.args.section.now in
    let o = c.load_order-order.result in
    let slot = c.slot_at-slot.result in
    let row = c.load_row-row.result in
    let a = c.load_order-order.ensures.section in
    let b = c.load_row-row.ensures.section in
    let some : 1 ≤ o.len = (let d = c.if-order-eq0.false in omega arith) in
    let is = c.slot_at-slot.ensures ∙ ap (λ (t : Section). slice_index t.note.reading.slots 0) a in
    let read = first_read o s.note slot row c.load_order-order.ensures.found.lawful some is in
    let note = ap (λ (t : Section). t.note) b ∙ ap (λ (t : Section). row_noted slot row t.note) a in
    subst (λ (n : Note). HasRow n slot row) (sym note) read
