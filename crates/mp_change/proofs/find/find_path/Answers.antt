use Rattle.std.proofs.Common.{◌≡◌, ◌∙◌, ◌<◌, ℕ, sym, ap, subst, arith}
use Rattle.mp_core.specs.declared.view.Section.{Section}
use Rattle.mp_core.specs.Core.{Core}
use Rattle.mp_core.specs.Reads.{LoadsRows}
use Rattle.mp_core.proofs.Reading.{rows_none, loaded_open, open_inside, place_here}
use Rattle.mp_change.specs.Finds.{NoneUpto}
use Rattle.mp_change.proofs.Finding.{found_here, none_more, just_all}
use Rattle.mp_change.proofs.find.find_path.Goals as goal

pub loop-place-init : goal.loop-place-init
loop-place-init g c = (rows_none _ _ c.requires.open c.requires.note, λ j lt. absurd (omega arith))

-- the length stays
len_same : (k : ℕ) (a b : Core) (s t : Section) → LoadsRows k a b s t → t.note.reading.len ≡ s.note.reading.len
len_same k a b s t h = ap (λ (x : Section). x.note.reading.len) h.section

pub load_row-row-requires-clause-open : goal.load_row-row-requires-clause-open
load_row-row-requires-clause-open g c = open_inside (g.S.Steps.core c.loop-place.steps) c.loop-place.section (loaded_open (g.S.Steps.core c.args.steps.now) (g.S.Steps.core c.loop-place.steps) c.loop-place.section (g.S.Steps.core c.loop-place.steps).view.seen c.loop-place.invariant.0.after)

pub load_row-row-requires-clause-listed : goal.load_row-row-requires-clause-listed
load_row-row-requires-clause-listed g c =
    let len = len_same _ _ _ _ _ c.loop-place.invariant.0 in
    let below : c.loop-place.place < c.loop-place.section.note.reading.len = omega arith in
    let at = place_here c.loop-place.section.note c.loop-place.place c.loop-place.invariant.0.note below in
    rw c.slot_at-slot.ensures (omega arith)

pub returns-then-is_of : goal.returns-then-is_of
returns-then-is_of g c =
    let len = len_same _ _ _ _ _ c.loop-place.invariant.0 in
    found_here _ _ _ _ _ _ _ _ _ _ c.loop-place.invariant.0 c.loop-place.invariant.1 c.slot_at-slot.ensures (omega arith) c.load_row-row.ensures (sym c.is_of.ensures ∙ c.if-is_of.true)

pub loop-place-preserved : goal.loop-place-preserved
loop-place-preserved g c =
    let len = len_same _ _ _ _ _ c.loop-place.invariant.0 in
    none_more _ _ _ _ _ _ _ _ _ _ c.loop-place.invariant.0 c.loop-place.invariant.1 c.slot_at-slot.ensures (omega arith) c.load_row-row.ensures (sym c.is_of.ensures ∙ c.if-is_of.false)

pub returns : goal.returns
returns g c =
    let len = len_same _ _ _ _ _ c.loop-place.invariant.0 in
    let all : c.loop-place.place ≡ c.loop-place.section.note.reading.len = omega arith in
    record {
      upto = c.loop-place.place;
      loads = c.loop-place.invariant.0;
      just = just_all _ _ _ _ _ _ c.loop-place.invariant.0 c.loop-place.invariant.1;
      found = subst (λ (k : ℕ). NoneUpto c.args.ctrl k c.loop-place.section.note) all c.loop-place.invariant.1;
    }
