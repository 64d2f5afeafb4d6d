use Rattle.std.proofs.Common.{◌≡◌, vec_len, vec_capacity}
use Rattle.mp_words.specs.Keeps.{wholes}
use Rattle.mp_words.proofs.keeps.fill.Given as goal

abbrev pub invariant-loop-place : goal.invariant-loop-place
invariant-loop-place l = record {
  items : l.kept.items ≡ wholes l.place;
  len : vec_len l.kept ≡ l.place;
  capacity : vec_capacity l.kept ≡ vec_capacity l.fn.kept;
}
