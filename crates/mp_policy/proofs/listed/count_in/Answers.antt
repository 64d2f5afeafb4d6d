use Rattle.std.proofs.Common.{◌≡◌, ◌∙◌, ℕ, List, length, refl, arith}
use Rattle.std.proofs.lemmas.List.{length-map, length-take}
use Rattle.std.proofs.lemmas.Slice.Zip.{length-zip}
use Rattle.std.specs.Prelude.{zip}
use Rattle.mp_words.specs.declared.row.Row.{Row}
use Rattle.mp_policy.proofs.listed.count_in.Goals as goal

pub returns-clause-length : goal.returns-clause-length
returns-clause-length c =
    let pairs : List (ℕ × Row) = zip c.args.slots.now c.args.rows.now in
    let all : length pairs ≡ 8 = length-zip c.args.slots.now c.args.rows.now ∙ rw (c.told-slots, c.type_inv.rows) refl in
    rw length-map (omega (arith, length-take c.args.len pairs))
