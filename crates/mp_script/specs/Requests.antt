-- A set of numbers as marks, one for each number from 0 on.
use Rattle.std.specs.Prelude.{ℕ, suc, Bool, List, [], ◌∷◌, if◌then◌else◌}

-- the numbers whose marks are set, where the first mark is that of n, in rising order
abbrev pub numbers_from : ℕ → List Bool → List ℕ
numbers_from n [] = []
numbers_from n (mark ∷ marks) = if mark then n ∷ numbers_from (suc n) marks else numbers_from (suc n) marks

-- the numbers whose marks are set, where the first mark is that of 0, in rising order
unfoldable pub numbers_of : List Bool → List ℕ
numbers_of marks = numbers_from 0 marks
