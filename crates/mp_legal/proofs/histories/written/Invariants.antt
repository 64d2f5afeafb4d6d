use Rattle.std.proofs.Common.{◌≡◌, map, take}
use Rattle.mp_words.specs.RowWord.{row_in}
use Rattle.mp_legal.specs.Placing.{written_in, firsts}
use Rattle.mp_legal.proofs.histories.written.Given as goal

abbrev pub invariant-loop-entry : goal.invariant-loop-entry
invariant-loop-entry l = l.all.items ≡ map (written_in l.entries (take l.entry-index l.entries)) (firsts 0 (map row_in l.words))
