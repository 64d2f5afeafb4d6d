-- The words of a worked case: two live, optimized and ready paths, listed under NUMA.
use Rattle.std.specs.Prelude.{◌∷◌, replicate}
use Rattle.mp_words.specs.declared.words.Words.{Words}
use Rattle.mp_words.specs.RowWord.{row_word}
use Rattle.mp_words.specs.OrderWord.{order_word}
use Rattle.mp_words.specs.TwoPaths.{first_path, second_path, two_paths}

-- the words of two paths, in which nobody has stepped yet
abbrev pub two_path_words : Words
two_path_words = record {
  index = 0;
  sides = replicate 2 0;
  order = order_word two_paths;
  rows = row_word first_path ∷ row_word second_path ∷ replicate 13 0;
  depths = replicate 15 0;
  currents = replicate 8 0;
}
