-- Notes that differ in their tickets at most.
use Rattle.std.specs.Prelude.{ℕ, Bool, true, false, ◌≡◌}
use Rattle.mp_words.specs.declared.note.Note.{Note}

-- a note with another ticket
abbrev pub at_ticket : ℕ → Note → Note
at_ticket ticket n = record n { ticket = ticket }

-- the answer says whether two are the same
abbrev pub Tells : {X : Type 0} → Bool → X → X → Type 0
Tells true x y = x ≡ y
Tells false x y = x ≡ y → ⊥
