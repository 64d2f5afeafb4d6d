use Rattle.std.proofs.Common.{◌≡◌, ◌∙◌, ◌+◌, ℕ, sym, ap, subst, arith}
use Rattle.mp_words.specs.declared.reading.Reading.{Reading}
use Rattle.mp_words.specs.Row.{is_usable}
use Rattle.mp_core.specs.declared.view.Section.{Section}
use Rattle.mp_core.specs.Core.{Core}
use Rattle.mp_core.proofs.Reading.{loaded_open, open_inside}
use Rattle.mp_submit.specs.Selects.{LoadsDepths}
use Rattle.mp_submit.proofs.Depths.{depths_none, depths_more, depths_passed, depth_place}
use Rattle.mp_submit.proofs.select.load_depths.Goals as goal
use Rattle.mp_submit.proofs.select.load_depths.Goals.{then-is_usable, else-is_usable}

pub loop-place-init : goal.loop-place-init
loop-place-init g c = depths_none _ _ c.requires.open c.requires.depths

reading_same : (k : ℕ) (a b : Core) (s t : Section) → LoadsDepths k a b s t → t.note.reading ≡ s.note.reading
reading_same k a b s t h = ap (λ (x : Section). x.note.reading) h.section

subst2 : (A B : Type 0) (P : A → B → Type 0) (a x : A) (b y : B) → a ≡ x → b ≡ y → P x y → P a b
subst2 A B P a x b y e f h = subst (λ (z : A). P z b) (sym e) (subst (λ (z : B). P x z) (sym f) h)

pub load_depth-requires-clause-open : goal.load_depth-requires-clause-open
load_depth-requires-clause-open g c =
    let a = g.S.Steps.core c.args.steps.now in
    open_inside (g.S.Steps.core c.loop-place.steps) c.loop-place.section (loaded_open a (g.S.Steps.core c.loop-place.steps) c.loop-place.section a.view.seen c.loop-place.invariant.after)

pub load_depth-requires-clause-listed : goal.load_depth-requires-clause-listed
load_depth-requires-clause-listed g c =
    let reading = reading_same _ _ _ _ _ c.loop-place.invariant in
    let len = ap (λ (r : Reading). r.len) reading in
    depth_place c.loop-place.place _ _ _ c.loop-place.section c.slot_at-slot.result c.loop-place.invariant c.requires.note c.slot_at-slot.ensures (omega arith)

pub loop-place-preserved : goal.loop-place-preserved
loop-place-preserved g c =
    let a = g.S.Steps.core c.args.steps.now in
    let s = c.args.section.now in
    let k = c.loop-place.place in
    let reading = reading_same _ _ _ _ _ c.loop-place.invariant in
    let len = ap (λ (r : Reading). r.len) reading in
    let P = λ (x : g.row.S.Denot) (t : Section). LoadsDepths (k + 1) a (g.S.Steps.core x) s t in
    elim c.if-is_usable.branch [
      | then-is_usable w ↦
          subst2 g.row.S.Denot Section P c.if-is_usable.steps w.load_depth.new.self c.if-is_usable.section w.load_depth.new.section w.steps-is w.section-is
          (depths_more k a (g.S.Steps.core c.loop-place.steps) (g.S.Steps.core w.load_depth.new.self) s c.loop-place.section w.load_depth.new.section w.slot_at-slot.result w.load_depth.result c.loop-place.invariant c.requires.note w.slot_at-slot.ensures (omega arith) (sym (ap is_usable c.row_at-row.ensures) ∙ sym c.usable-is_usable.ensures ∙ w.if-is_usable.true) w.load_depth.ensures)
      | else-is_usable w ↦
          subst2 g.row.S.Denot Section P c.if-is_usable.steps c.loop-place.steps c.if-is_usable.section c.loop-place.section w.steps-is w.section-is
          (depths_passed k a (g.S.Steps.core c.loop-place.steps) s c.loop-place.section c.loop-place.invariant (sym (ap is_usable c.row_at-row.ensures) ∙ sym c.usable-is_usable.ensures ∙ w.if-is_usable.false))
    ]

pub returns : goal.returns
returns g c =
    let all : c.loop-place.place ≡ c.args.section.now.note.reading.len = omega arith in
    subst (λ (k : ℕ). LoadsDepths k (g.S.Steps.core c.args.steps.now) (g.S.Steps.core c.loop-place.steps) c.args.section.now c.loop-place.section) all c.loop-place.invariant
