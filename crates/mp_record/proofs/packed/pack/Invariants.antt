use Rattle.std.proofs.Common.{◌≡◌, vec_len, vec_capacity}
use Rattle.mp_record.specs.Kept.{IsPacking}
use Rattle.mp_record.proofs.packed.pack.Given as goal

-- those so far name the first events apart
abbrev pub invariant-loop-place : goal.invariant-loop-place
invariant-loop-place l =
    IsPacking l.initial.kept.items l.initial.apart.items l.place l.count l.kept.items l.apart.items × (vec_len l.kept ≡ vec_len l.initial.kept)
    × (vec_len l.apart ≡ vec_len l.initial.apart)
    × (vec_capacity l.kept ≡ vec_capacity l.initial.kept)
    × (vec_capacity l.apart ≡ vec_capacity l.initial.apart)
