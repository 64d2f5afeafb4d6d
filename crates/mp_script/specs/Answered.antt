-- Answers by request and attempt, as the entries of a map.
use Rattle.std.specs.Prelude.{◌≡◌, ℕ, List, map}
use Rattle.std.specs.List.{AllByRecursion}
use Rattle.mp_words.specs.declared.answers.Answer.{Answer}
use Rattle.mp_words.specs.Answers.{AreAnswers}

-- an answer with its request and attempt
abbrev pub Entry : Type 0
Entry = (ℕ × ℕ) × Answer

-- the answers of entries
abbrev pub answers_in : List Entry → List Answer
answers_in entries = map (λ (e : Entry). e.1) entries

-- an answer stands at its request and attempt
abbrev pub IsKeyed : Entry → Type 0
IsKeyed e = (e.0.0 ≡ e.1.req) × (e.0.1 ≡ e.1.attempt)

-- the entries of answers in their order
pub record AreEntries (entries : List Entry) : Type 0 where
  pub answers : AreAnswers (answers_in entries)
  pub keyed : AllByRecursion IsKeyed entries
