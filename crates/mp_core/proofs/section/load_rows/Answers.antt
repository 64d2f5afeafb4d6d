use Rattle.std.proofs.Common.{◌≡◌, ◌<◌, ℕ, ap, subst, arith}
use Rattle.mp_core.specs.declared.view.Section.{Section}
use Rattle.mp_core.specs.Core.{Core}
use Rattle.mp_core.specs.Reads.{LoadsRows}
use Rattle.mp_core.proofs.Reading.{rows_more, rows_none, loaded_open, open_inside, place_here}
use Rattle.mp_core.proofs.section.load_rows.Goals as goal

pub loop-place-init : goal.loop-place-init
loop-place-init g c = rows_none _ _ c.requires.open c.requires.note

-- the length stays
len_same : (k : ℕ) (a b : Core) (s t : Section) → LoadsRows k a b s t → t.note.reading.len ≡ s.note.reading.len
len_same k a b s t h = ap (λ (x : Section). x.note.reading.len) h.section

pub load_row-requires-clause-open : goal.load_row-requires-clause-open
load_row-requires-clause-open g c = open_inside (g.S.Steps.core c.loop-place.steps) c.loop-place.section (loaded_open (g.S.Steps.core c.args.steps.now) (g.S.Steps.core c.loop-place.steps) c.loop-place.section (g.S.Steps.core c.loop-place.steps).view.seen c.loop-place.invariant.after)

pub load_row-requires-clause-listed : goal.load_row-requires-clause-listed
load_row-requires-clause-listed g c =
    let len = len_same _ _ _ _ _ c.loop-place.invariant in
    let below : c.loop-place.place < c.loop-place.section.note.reading.len = omega arith in
    let at = place_here c.loop-place.section.note c.loop-place.place c.loop-place.invariant.note below in
    rw c.slot_at-slot.ensures (omega arith)

pub loop-place-preserved : goal.loop-place-preserved
loop-place-preserved g c =
    let len = len_same _ _ _ _ _ c.loop-place.invariant in
    rows_more _ _ _ _ _ _ _ _ _ c.loop-place.invariant c.slot_at-slot.ensures (omega arith) c.load_row.ensures

pub returns : goal.returns
returns g c =
    let len = len_same _ _ _ _ _ c.loop-place.invariant in
    let all : c.loop-place.place ≡ c.args.section.now.note.reading.len = omega arith in
    subst (λ (k : ℕ). LoadsRows k (g.S.Steps.core c.args.steps.now) (g.S.Steps.core c.loop-place.steps) c.args.section.now c.loop-place.section) all c.loop-place.invariant
