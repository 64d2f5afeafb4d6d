use Rattle.std.proofs.Common.{◌≡◌, ◌<◌, ℕ, take, length, slice_index}
use Rattle.mp_legal.specs.Gathering.{count_of}
use Rattle.mp_legal.proofs.histories.numbers.Given as goal

abbrev pub invariant-loop-entry : goal.invariant-loop-entry
invariant-loop-entry l = record {
  length : length l.numbers ≡ 15;
  counts : (slot : ℕ) → slot < 15 → slice_index l.numbers slot ≡ count_of slot (take l.entry-index l.entries);
}
