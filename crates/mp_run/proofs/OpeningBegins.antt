-- Each row of the opening has version 0.
use Rattle.std.proofs.Common.{◌≡◌, ℕ, zero, suc, List, [], ◌∷◌, ◌++◌, map, replicate, take, Option, Some, None, refl}
use Rattle.std.specs.Prelude.{slice_get}
use Rattle.std.specs.List.{AllByRecursion}
use Rattle.mp_words.specs.declared.row.Row.{Row}
use Rattle.mp_words.specs.Effect.{free_row}
use Rattle.mp_topology.specs.declared.topology.Controller.{Controller}
use Rattle.mp_legal.specs.Opening.{opening_row, opening_rows}
use Rattle.mp_legal.specs.PlainCall.{Inputs}

rows_begin : (f : ℕ → Row) (n k : ℕ) (cs : List ℕ) → ((c : ℕ) → (f c).version ≡ 0) → AllByRecursion (λ row. row.version ≡ 0) (take n (map f cs ++ replicate k (free_row 0)))
rows_begin f zero k cs each = tt
rows_begin f (suc n) zero [] each = tt
rows_begin f (suc n) (suc k) [] each = (refl, rows_begin f n k [] each)
rows_begin f (suc n) k (c ∷ cs) each = (each c, rows_begin f n k cs each)

row_begins : (i : Inputs) (ctrl : ℕ) (c : Option Controller) → (opening_row i ctrl c).version ≡ 0
row_begins i ctrl None = refl
row_begins i ctrl (Some c) = refl

-- each row of the opening has version 0
pub opening_begins : (i : Inputs) → AllByRecursion (λ row. row.version ≡ 0) (opening_rows i)
opening_begins i = rows_begin (λ ctrl. opening_row i ctrl (slice_get i.topology.controllers ctrl)) 15 15 i.topology.opening (λ c. row_begins i c (slice_get i.topology.controllers c))
