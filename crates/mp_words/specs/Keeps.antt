-- How the tries of a request are kept, where most are kept whole.
use Rattle.std.specs.Prelude.{ℕ, ◌≡◌, ◌==◌, ◌-◌, zero, suc, List, [], ◌∷◌, ◌++◌, length, max, if◌then◌else◌}
use Rattle.mp_words.specs.declared.kept_try.KeptTry.{KeptTry}
use Rattle.mp_words.specs.declared.kept_try.KeptTry.TheVariants as how

-- How each try is kept, in order, and for how many more there is room.
pub record KeepsView : Type 0 where
  pub items : List KeptTry
  pub spare : ℕ

-- the first so many tries, each whole
abbrev pub wholes : ℕ → List KeptTry
wholes zero = []
wholes (suc n) = wholes n ++ how.Whole n ∷ []

-- so many tries: each is whole where no list says how they are kept
abbrev pub kept_in : ℕ → List KeptTry → List KeptTry
kept_in count [] = wholes count
kept_in count (k ∷ ks) = k ∷ ks

-- a list is empty, or has so many
abbrev pub AreCounted : ℕ → List KeptTry → Type 0
AreCounted count [] = Unit {0}
AreCounted count (k ∷ ks) = length (k ∷ ks) ≡ count

-- for how many more there is room behind so many: the first is whole, and wants none
abbrev pub room_in : ℕ → ℕ → ℕ
room_in count capacity = if count == 0 then max capacity 1 else (capacity - count)
