use Rattle.std.proofs.Common.{◌≡◌, vec_len, vec_capacity}
use Rattle.std.proofs.lemmas.List.Filters.{FiltersInPlace}
use Rattle.mp_record.specs.RunView.{is_plain}
use Rattle.mp_record.specs.Kept.{told}
use Rattle.mp_record.proofs.plain.keep_plain.Given as goal

-- those so far that tell no section stand in front
abbrev pub invariant-loop-place : goal.invariant-loop-place
invariant-loop-place l =
    FiltersInPlace (λ k. is_plain (told l.apart k)) l.initial.kept.items l.kept.items l.count l.place × (vec_len l.kept ≡ vec_len l.initial.kept)
    × (vec_capacity l.kept ≡ vec_capacity l.initial.kept)
