use Rattle.std.proofs.Common.{◌≡◌, map, take}
use Rattle.mp_words.specs.RowWord.{row_in}
use Rattle.mp_legal.specs.Placing.{blank_for, firsts}
use Rattle.mp_legal.proofs.histories.blanks.Given as goal

abbrev pub invariant-loop-place : goal.invariant-loop-place
invariant-loop-place l = l.all.items ≡ map (blank_for l.entries) (firsts 0 (map row_in (take l.place l.words)))
