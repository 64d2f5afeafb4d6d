use Rattle.std.proofs.Common.{◌≡◌, ◌++◌, take, replicate, vec_len}
use Rattle.mp_words.specs.Effect.{free_row}
use Rattle.mp_run.proofs.opening.fill_up.Given as goal

-- what is left to fill is the same
abbrev pub invariant-loop-slot : goal.invariant-loop-slot
invariant-loop-slot l = (take 15 (l.rows.items ++ replicate 15 (free_row 0)) ≡ take 15 (l.fn.rows.items ++ replicate 15 (free_row 0))) × (vec_len l.rows ≡ l.slot)
