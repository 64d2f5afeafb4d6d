-- The last places of an order's word, as they are read from the last on.
use Rattle.std.specs.Prelude.{◌≡◌, ℕ, ◌<◌, ◌==◌, true, false, List, Option, None, Some}
use Rattle.std.specs.List.{list_any}
use Rattle.std.specs.Int.{bit_at}
use Rattle.mp_words.specs.declared.later.Later.{Later}
use Rattle.mp_words.specs.OrderWord.{is_disordered, listed_count}

-- These are the places that were read, and they stand in order: they list so many slots, and the slots have marks.
pub record Tells (later : Later) (places : List ℕ) : Type 0 where
  pub ordered : is_disordered places ≡ false
  pub len : later.len ≡ listed_count places
  pub marks : (slot : ℕ) → slot < 15 → (bit_at later.marks slot == 1) ≡ list_any (λ q. q == slot) places

-- These are the places that were read, or they don't stand in order.
abbrev pub Behind : Option Later → List ℕ → Type 0
Behind None places = is_disordered places ≡ true
Behind (Some later) places = Tells later places
