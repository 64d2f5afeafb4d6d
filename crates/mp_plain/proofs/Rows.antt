-- The rows of words are unpacked one by one.
use Rattle.std.proofs.Common.{◌≡◌, ℕ, zero, suc, ◌+◌, ◌-◌, ◌<◌, List, [], ◌∷◌, ◌++◌, length, map, take, replicate, get_or, set, sym, refl, ap, ◌∙◌, arith, Option, Some}
use Rattle.mp_words.specs.declared.row.Row.{Row}
use Rattle.mp_words.specs.Effect.{free_row}
use Rattle.mp_words.specs.RowWord.{row_in, row_of_word}
use Rattle.mp_plain.proofs.Words.{is_row}

-- one row more
one_more : (ws : List ℕ) (s r : ℕ) (z y : Row) → s < length ws → row_in (get_or ws s 0) ≡ y → set (map row_in (take s ws) ++ replicate (suc r) z) s y ≡ map row_in (take (suc s) ws) ++ replicate r z
one_more [] s r z y l is = absurd (omega arith)
one_more (w ∷ ws) zero r z y l is = ap (λ (x : Row). x ∷ replicate r z) (sym is)
one_more (w ∷ ws) (suc s) r z y l is = ap (λ (xs : List Row). row_in w ∷ xs) (one_more ws s r z y (omega arith) is)

pub rows_more : (ws : List ℕ) (rows : List Row) (s : ℕ) (row : Row) → s < 15 → length ws ≡ 15 → row_of_word (get_or ws s 0) ≡ Some row → rows ≡ map row_in (take s ws) ++ replicate (15 - s) (free_row 0)
    → set rows s row ≡ map row_in (take (s + 1) ws) ++ replicate (15 - (s + 1)) (free_row 0)
rows_more ws rows s row l len is so_far =
    let left : 15 - s ≡ suc (15 - (s + 1)) = omega (arith, l) in
    let next : suc s ≡ s + 1 = omega arith in
    (λ j. set (so_far j) s row)
    ∙ (λ j. set (map row_in (take s ws) ++ replicate (left j) (free_row 0)) s row)
    ∙ one_more ws s (15 - (s + 1)) (free_row 0) row (omega (arith, l, len)) ((is_row (get_or ws s 0) row is).1)
    ∙ (λ j. map row_in (take (next j) ws) ++ replicate (15 - (s + 1)) (free_row 0))
