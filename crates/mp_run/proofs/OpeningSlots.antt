-- The slots and paths of the opening.
use Rattle.std.proofs.Common.{[], ◌≡◌, ℕ, zero, suc, ◌≤◌, List, ◌∷◌, ◌++◌, take, length, replicate, get_or, Option, None, refl, ap, append_assoc, arith}
use Rattle.std.proofs.lemmas.List.{take-append-le, take_all}
use Rattle.std.specs.List.{range_with_len}
use Rattle.mp_words.specs.declared.row.Row.{Row}
use Rattle.mp_run.specs.OpeningSlots.{slot_before}

-- the places of a list of the first slots
abbrev pub slots_upto : ℕ → List ℕ
slots_upto n = take 8 (range_with_len 0 n ++ replicate 8 0)

pub slots_upto-is : (n : ℕ) → n ≤ 8
    → slots_upto n ≡ slot_before n 0 ∷ slot_before n 1 ∷ slot_before n 2 ∷ slot_before n 3 ∷ slot_before n 4 ∷ slot_before n 5 ∷ slot_before n 6 ∷ slot_before n 7 ∷ []
slots_upto-is zero le = refl
slots_upto-is (suc zero) le = refl
slots_upto-is (suc (suc zero)) le = refl
slots_upto-is (suc (suc (suc zero))) le = refl
slots_upto-is (suc (suc (suc (suc zero)))) le = refl
slots_upto-is (suc (suc (suc (suc (suc zero))))) le = refl
slots_upto-is (suc (suc (suc (suc (suc (suc zero)))))) le = refl
slots_upto-is (suc (suc (suc (suc (suc (suc (suc zero))))))) le = refl
slots_upto-is (suc (suc (suc (suc (suc (suc (suc (suc zero)))))))) le = refl
slots_upto-is (suc (suc (suc (suc (suc (suc (suc (suc (suc n))))))))) le = absurd (omega arith)

-- filling up with one row and more than enough
filled_more : (n k : ℕ) (rows : List Row) (row : Row) → n ≤ k → take n (rows ++ row ∷ replicate k row) ≡ take n (rows ++ replicate k row)
filled_more zero k rows row le = refl
filled_more (suc n) zero rows row le = absurd (omega arith)
filled_more (suc n) (suc k) [] row le = ap (λ (rs : List Row). row ∷ rs) (filled_more n k [] row (omega arith))
filled_more (suc n) (suc k) (r ∷ rows) row le = ap (λ (rs : List Row). r ∷ rs) (filled_more n (suc k) rows row (omega arith))

pub filled_one : (n : ℕ) (rows : List Row) (row : Row) → take n ((rows ++ row ∷ []) ++ replicate n row) ≡ take n (rows ++ replicate n row)
filled_one n rows row = rw (append_assoc rows (row ∷ []) (replicate n row)) (filled_more n n rows row (omega arith))

pub filled_all : (n : ℕ) (rows : List Row) (row : Row) → length rows ≡ n → take n (rows ++ replicate n row) ≡ rows
filled_all n rows row is = rw (take-append-le n rows (replicate n row) (omega arith)) (take_all n rows (omega arith))

-- a list of fifteen by its places
pub fifteen : (xs : List (Option ℕ)) → length xs ≡ 15
    → get_or xs 0 None ∷ get_or xs 1 None ∷ get_or xs 2 None ∷ get_or xs 3 None ∷ get_or xs 4 None ∷ get_or xs 5 None ∷ get_or xs 6 None ∷ get_or xs 7 None ∷ get_or xs 8 None ∷ get_or xs 9 None ∷ get_or xs 10 None ∷ get_or xs 11 None ∷ get_or xs 12 None ∷ get_or xs 13 None ∷ get_or xs 14 None ∷ [] ≡ xs
fifteen [] e = absurd (omega arith)
fifteen (a ∷ []) e = absurd (omega arith)
fifteen (a ∷ b ∷ []) e = absurd (omega arith)
fifteen (a ∷ b ∷ c ∷ []) e = absurd (omega arith)
fifteen (a ∷ b ∷ c ∷ d ∷ []) e = absurd (omega arith)
fifteen (a ∷ b ∷ c ∷ d ∷ f ∷ []) e = absurd (omega arith)
fifteen (a ∷ b ∷ c ∷ d ∷ f ∷ g ∷ []) e = absurd (omega arith)
fifteen (a ∷ b ∷ c ∷ d ∷ f ∷ g ∷ h ∷ []) e = absurd (omega arith)
fifteen (a ∷ b ∷ c ∷ d ∷ f ∷ g ∷ h ∷ j ∷ []) e = absurd (omega arith)
fifteen (a ∷ b ∷ c ∷ d ∷ f ∷ g ∷ h ∷ j ∷ k ∷ []) e = absurd (omega arith)
fifteen (a ∷ b ∷ c ∷ d ∷ f ∷ g ∷ h ∷ j ∷ k ∷ l ∷ []) e = absurd (omega arith)
fifteen (a ∷ b ∷ c ∷ d ∷ f ∷ g ∷ h ∷ j ∷ k ∷ l ∷ m ∷ []) e = absurd (omega arith)
fifteen (a ∷ b ∷ c ∷ d ∷ f ∷ g ∷ h ∷ j ∷ k ∷ l ∷ m ∷ n ∷ []) e = absurd (omega arith)
fifteen (a ∷ b ∷ c ∷ d ∷ f ∷ g ∷ h ∷ j ∷ k ∷ l ∷ m ∷ n ∷ o ∷ []) e = absurd (omega arith)
fifteen (a ∷ b ∷ c ∷ d ∷ f ∷ g ∷ h ∷ j ∷ k ∷ l ∷ m ∷ n ∷ o ∷ p ∷ []) e = absurd (omega arith)
fifteen (a ∷ b ∷ c ∷ d ∷ f ∷ g ∷ h ∷ j ∷ k ∷ l ∷ m ∷ n ∷ o ∷ p ∷ q ∷ []) e = refl
fifteen (a ∷ b ∷ c ∷ d ∷ f ∷ g ∷ h ∷ j ∷ k ∷ l ∷ m ∷ n ∷ o ∷ p ∷ q ∷ r ∷ xs) e = absurd (omega arith)
