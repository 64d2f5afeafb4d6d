-- Current words that are cleared.
use Rattle.std.specs.Prelude.{ℕ, zero, suc, None}
use Rattle.mp_words.specs.Effect.{Clears, every_one, the_slots, none}
use Rattle.mp_core.specs.declared.view.View.{View}
use Rattle.mp_core.specs.Memory.{Memory, current_in, cleared_in}
use Rattle.mp_core.specs.Views.{cleared, passed}

-- The words after the current words of the first nodes were cleared of a slot.
abbrev pub cleared_upto_in : ℕ → ℕ → Memory → Memory
cleared_upto_in slot zero m = m
cleared_upto_in slot (suc n) m = cleared_in n slot (cleared_upto_in slot n m)

-- The words after the current words of the first nodes were made none.
abbrev pub emptied_upto_in : ℕ → Memory → Memory
emptied_upto_in zero m = m
emptied_upto_in (suc n) m = current_in n None (emptied_upto_in n m)

-- The view after the current words of the first nodes were cleared of a slot.
abbrev pub cleared_upto : ℕ → ℕ → View → View
cleared_upto slot zero v = v
cleared_upto slot (suc n) v = cleared n slot (cleared_upto slot n v)

-- The words after the clearing of a row change.
abbrev pub clears_in : Clears → ℕ → Memory → Memory
clears_in every_one slot m = emptied_upto_in 8 m
clears_in the_slots slot m = cleared_upto_in slot 8 m
clears_in none slot m = m

-- The view after the clearing of a row change.
abbrev pub clears_view : Clears → ℕ → View → View
clears_view every_one slot v = passed v
clears_view the_slots slot v = cleared_upto slot 8 v
clears_view none slot v = v
