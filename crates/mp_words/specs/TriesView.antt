-- The tries of a request as clauses see them.
use Rattle.std.specs.Prelude.{ℕ, List}
use Rattle.mp_words.specs.declared.trying.Try.{Try}

-- The tries in order, and for how many more there is room.
pub record TriesView : Type 0 where
  pub items : List Try
  pub spare : ℕ
