use Rattle.std.proofs.Common.{ℕ, Option, sym, subst}
use Rattle.mp_words.specs.declared.row.Row.{Row}
use Rattle.mp_core.specs.Notes.{HasRow}
use Rattle.mp_core.proofs.Reading.{has_row}
use Rattle.mp_change.specs.declared.find.Found.{Found}
use Rattle.mp_change.specs.Finds.{Finds, FoundSo}
use Rattle.mp_change.proofs.Changing.{changed_none, changed_some, first_row, rows_read}
use Rattle.mp_change.proofs.change.change_path.Goals as goal

pub change_found-requires-clause-old : goal.change_found-requires-clause-old
change_found-requires-clause-old g c =
    let t = c.find_path.new.section in
    let f = subst (λ (r : Option Found). FoundSo c.args.ctrl t.note r) c.in-Some.is c.find_path.ensures.found in
    subst (λ (p : ℕ × Row). HasRow t.note p.0 p.1) (λ i. (sym f.slot_is i, sym f.row_is i)) (has_row t.note f.place c.find_path.ensures.loads.note f.listed f.read)

pub change_found-requires-clause-below : goal.change_found-requires-clause-below
change_found-requires-clause-below g c =
    let t = c.find_path.new.section in
    let a = g.S.Steps.core c.args.steps.now in
    let b = g.S.Steps.core c.find_path.new.steps in
    let f = subst (λ (r : Option Found). FoundSo c.args.ctrl t.note r) c.in-Some.is c.find_path.ensures.found in
    (first_row c.args.ctrl a b.view.seen t.note c.in-Some.found.slot c.in-Some.found.row (rows_read c.find_path.ensures.upto a b c.args.section.now t c.args.order.now c.requires.ordered c.find_path.ensures.loads) f).below

pub returns-in-None : goal.returns-in-None
returns-in-None g c =
    let a = g.S.Steps.core c.args.steps.now in
    let b = g.S.Steps.core c.find_path.new.steps in
    let f = subst (λ (r : Option Found). Finds c.args.ctrl a b c.args.section.now c.find_path.new.section r) c.in-None.is c.find_path.ensures in
    changed_none c.args.ctrl c.args.op c.args.by c.args.order.now a b c.args.section.now c.find_path.new.section c.requires.ordered f

pub returns-in-Some : goal.returns-in-Some
returns-in-Some g c =
    let a = g.S.Steps.core c.args.steps.now in
    let b = g.S.Steps.core c.find_path.new.steps in
    let f = subst (λ (r : Option Found). Finds c.args.ctrl a b c.args.section.now c.find_path.new.section r) c.in-Some.is c.find_path.ensures in
    changed_some c.args.ctrl c.args.op c.args.by c.args.order.now a b (g.S.Steps.core c.change_found.new.steps) c.args.section.now c.find_path.new.section c.change_found.new.section c.in-Some.found.slot c.in-Some.found.row c.change_found.result c.requires.ordered f c.change_found.ensures
