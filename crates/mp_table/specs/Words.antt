-- The 42 words of the table, in their order.
use Rattle.std.specs.Prelude.{ℕ, zero, suc, ◌+◌, List, [], ◌∷◌, slice_index}
use Rattle.mp_words.specs.declared.words.Words.{Words}
use Rattle.mp_core.specs.Memory.{Memory}
use Rattle.mp_core.specs.Unpacked.{unpacked}

-- so many numbers, the first of which is that of 0
abbrev pub collect : {A : Type 0} → (ℕ → A) → ℕ → List A
collect f zero = []
collect f (suc n) = f 0 ∷ collect (λ i. f (suc i)) n

-- so many words, from this one on
abbrev pub part : List ℕ → ℕ → ℕ → List ℕ
part words from n = collect (λ i. slice_index words (from + i)) n

-- the words in their order: the side index, the two sides, the list of paths, fifteen rows, fifteen depths and eight
-- current words
abbrev pub words_of : List ℕ → Words
words_of words = record {
  index = slice_index words 0;
  sides = part words 1 2;
  order = slice_index words 3;
  rows = part words 4 15;
  depths = part words 19 15;
  currents = part words 34 8;
}

-- what the words say
abbrev pub said : List ℕ → Memory
said words = unpacked (words_of words)
