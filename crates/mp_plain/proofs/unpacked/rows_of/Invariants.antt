use Rattle.std.proofs.Common.{◌≡◌, ◌-◌, ◌++◌, map, take, replicate}
use Rattle.mp_words.specs.Effect.{free_row}
use Rattle.mp_words.specs.RowWord.{row_in}
use Rattle.mp_plain.proofs.unpacked.rows_of.Given as goal

-- the rows of the words so far, and behind them free rows
abbrev pub invariant-loop-slot : goal.invariant-loop-slot
invariant-loop-slot l = l.rows ≡ map row_in (take l.slot l.words) ++ replicate (15 - l.slot) (free_row 0)
