use Rattle.std.proofs.Common.{◌≡◌, ◌-◌, ◌++◌, Some, map, take, replicate}
use Rattle.mp_words.specs.Effect.{free_row}
use Rattle.mp_words.specs.RowWord.{row_of_word}
use Rattle.mp_run.proofs.first_words.row_words.Given as goal

-- the words of the rows so far, and behind them words of free rows
abbrev pub invariant-loop-slot : goal.invariant-loop-slot
invariant-loop-slot l = map row_of_word l.words ≡ map Some (take l.slot l.rows) ++ replicate (15 - l.slot) (Some (free_row 0))
