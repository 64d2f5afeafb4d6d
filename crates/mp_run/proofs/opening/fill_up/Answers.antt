use Rattle.std.proofs.Common.{◌≡◌, ◌++◌, ◌∷◌, [], List, length, take, replicate, sym, ap, ◌∙◌, arith}
use Rattle.mp_words.specs.declared.row.Row.{Row}
use Rattle.mp_words.specs.Effect.{free_row}
use Rattle.mp_run.proofs.OpeningSlots.{filled_one, filled_all}
use Rattle.mp_run.proofs.opening.fill_up.Goals as goal

pub loop-slot-preserved : goal.loop-slot-preserved
loop-slot-preserved c =
    let rows = c.loop-slot.rows.items in
    let pushed = c.in_ok-push.ensures.items ∙ ap (λ (row : Row). rows ++ row ∷ []) c.free_row.ensures in
    (ap (λ (rs : List Row). take 15 (rs ++ replicate 15 (free_row 0))) pushed ∙ filled_one 15 rows (free_row 0) ∙ c.loop-slot.invariant.0, omega (arith, c.in_ok-push.ensures.len))

pub returns : goal.returns
returns c =
    let full : length c.loop-slot.rows.items ≡ 15 = omega arith in
    sym (filled_all 15 c.loop-slot.rows.items (free_row 0) full) ∙ c.loop-slot.invariant.0
