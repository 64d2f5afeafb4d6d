-- The lines that a lane hasn't run.
use Rattle.std.proofs.Common.{◌≡◌, ℕ, zero, suc, ◌+◌, ◌<◌, ◌≤◌, true, false, List, [], ◌∷◌, drop, length, get_or, refl, sym, ap, ◌∙◌, arith}
use Rattle.std.proofs.lemmas.List.{drop_more}
use Rattle.mp_script.specs.declared.script.Numbered1.{Numbered1}
use Rattle.mp_lane.specs.Steps.{behind, has_line}

none_of : (n : ℕ) → drop {A = Numbered1} n [] ≡ []
none_of zero = refl
none_of (suc n) = refl

-- none is left
pub none_is : (n : ℕ) (lines : List Numbered1) → length lines ≤ n → drop n lines ≡ []
none_is n [] le = none_of n
none_is zero (x ∷ lines) le = absurd (omega arith)
none_is (suc n) (x ∷ lines) le = none_is n lines (omega arith)

-- where one is left, the place is below the number of lines, and those behind it are what is left behind the place
pub left_below : (n : ℕ) (lines : List Numbered1) → has_line (drop n lines) ≡ true → n < length lines
left_below n [] has = absurd (let h : false ≡ true = ap has_line (sym (none_of n)) ∙ has in cc)
left_below zero (x ∷ lines) has = omega arith
left_below (suc n) (x ∷ lines) has = let more = left_below n lines has in omega arith

behind_suc : (n : ℕ) (lines : List Numbered1) → drop (suc n) lines ≡ behind (drop n lines)
behind_suc n [] = none_of (suc n) ∙ ap behind (sym (none_of n))
behind_suc zero (x ∷ lines) = refl
behind_suc (suc n) (x ∷ lines) = behind_suc n lines

pub behind_is : (n : ℕ) (lines : List Numbered1) → drop (n + 1) lines ≡ behind (drop n lines)
behind_is n lines =
    let one : n + 1 ≡ suc n = omega arith in
    ap (λ (m : ℕ). drop m lines) one ∙ behind_suc n lines

-- the next line, as it was got
pub next_got : (n : ℕ) (lines : List Numbered1) (l : Numbered1) → n < length lines → l ≡ get_or lines n l → drop n lines ≡ l ∷ drop (n + 1) lines
next_got n lines l below is = drop_more lines n l below ∙ ap (λ (x : Numbered1). x ∷ drop (n + 1) lines) (sym is)
