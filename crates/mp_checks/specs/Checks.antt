-- A reader's checks in their order. Each is a test with the refusal that is answered where it is the first to fail.
use Rattle.std.specs.Prelude.{◌≡◌, ◌<◌, length, slice_index_or, ℕ, suc, Bool, true, false, List, [], ◌∷◌, ◌++◌, Option, Some, None, Result, Ok, Err, if◌then◌else◌}

-- the refusal of the first test that fails
abbrev pub first_fault : {E : Type 0} → List (Bool × E) → Option E
first_fault [] = None
first_fault (c ∷ cs) = if c.0 then first_fault cs else Some c.1

-- each test passes
abbrev pub AllPass : {E : Type 0} → List (Bool × E) → Type 0
AllPass [] = Unit {0}
AllPass (c ∷ cs) = (c.0 ≡ true) × AllPass cs

-- The refusal is that of the first check that fails: those before it pass.
pub record IsFirst {E : Type 0} (checks : List (Bool × E)) (fault : E) : Type 0 where
  pub before : List (Bool × E)
  pub after : List (Bool × E)
  pub parts : checks ≡ before ++ (false, fault) ∷ after
  pub pass : AllPass before

-- What is answered is what is read, unless memory ran out.
abbrev pub Answers : {V E : Type 0} → E → Result V E → Result V E → Type 0
Answers memory (Ok v) read = read ≡ Ok v
Answers memory (Err e) read = (e ≡ memory → ⊥) → read ≡ Err e

-- What is answered is the value where no check fails, else the refusal of the first that does, unless memory ran out.
abbrev pub Reads : {V E : Type 0} → E → Result V E → List (Bool × E) → V → Type 0
Reads memory (Ok v) checks value = (first_fault checks ≡ None) × (v ≡ value)
Reads memory (Err e) checks value = (e ≡ memory → ⊥) → first_fault checks ≡ Some e

-- an answer, with its value as this function sees it
abbrev pub seen_as : {V W E : Type 0} → (V → W) → Result V E → Result W E
seen_as view (Ok v) = Ok (view v)
seen_as view (Err e) = Err e

-- a value, or the refusal where there is one
abbrev pub value_unless : {V E : Type 0} → Option E → V → Result V E
value_unless None value = Ok value
value_unless (Some refusal) value = Err refusal

-- the checks of each item in turn, with its place, counted from n
abbrev pub each_from : {X E : Type 0} → (ℕ → X → List (Bool × E)) → ℕ → List X → List (Bool × E)
each_from f n [] = []
each_from f n (x ∷ xs) = f n x ++ each_from f (suc n) xs

-- the test of a value, true where there is none
abbrev pub if_there : {X : Type 0} → (X → Bool) → Option X → Bool
if_there p None = true
if_there p (Some x) = p x

-- the first of two refusals
abbrev pub or_else : {E : Type 0} → Option E → Option E → Option E
or_else None later = later
or_else (Some e) later = Some e

-- The fault is the least pair of item and check that fails: the items before a place have no fault, and the fault is
-- the first of the item there.
pub record IsLeast {X E : Type 0} (f : ℕ → X → List (Bool × E)) (xs : List X) (fault : E) : Type 0 where
  pub place : ℕ
  pub within : place < length xs
  pub earlier : (k : ℕ) (d : X) → k < place → first_fault (f k (slice_index_or xs k d)) ≡ None
  pub here : (d : X) → first_fault (f place (slice_index_or xs place d)) ≡ Some fault
