-- The whole run.
use Rattle.std.proofs.Common.{◌≡◌, ℕ, zero, suc, false, List, ◌++◌, map, length, get_or, replicate, refl, arith}
use Rattle.std.specs.Prelude.{slice_get}
use Rattle.std.proofs.lemmas.List.{length-append, length-replicate, length-take}
use Rattle.mp_words.specs.declared.row.Row.{Row}
use Rattle.mp_words.specs.Effect.{free_row}
use Rattle.mp_legal.specs.PlainCall.{Inputs}
use Rattle.mp_legal.specs.Opening.{opening_rows, opening_row}

-- there is a row for each slot
pub rows-length : (i : Inputs) → length (opening_rows i) ≡ 15
rows-length i =
    let all : List Row = map (λ ctrl. opening_row i ctrl (slice_get i.topology.controllers ctrl)) i.topology.opening in
    omega (arith, length-take 15 (all ++ replicate 15 (free_row 0)), length-append all (replicate 15 (free_row 0)), length-replicate 15 (free_row 0))

pub none_false : (k : ℕ) → get_or (replicate 16 false) k false ≡ false
none_false k = falses 16 k
  where
    falses : (n k : ℕ) → get_or (replicate n false) k false ≡ false
    falses zero k = refl
    falses (suc n) zero = refl
    falses (suc n) (suc k) = falses n k
