-- What the tries of requests read, as they noted it.
use Rattle.std.specs.Prelude.{[], ◌≡◌, ℕ, ◌==◌, List, ◌∷◌, map, filter}
use Rattle.mp_legal.specs.TryRead.{TryRead, read_of}
use Rattle.mp_words.specs.RequestView.{RequestView}

-- what the tries of a request noted, in order
abbrev pub notes_of : RequestView → List TryRead
notes_of request = map (λ t. read_of t.note) request.tries

-- what was noted of the request of a number
abbrev pub notes_for : ℕ → List (ℕ × TryRead) → List TryRead
notes_for req made = map (λ m. m.1) (filter (λ m. m.0 == req) made)

-- the tries of each of these requests noted just what was noted of it
abbrev pub AreNoted : List (ℕ × TryRead) → List RequestView → Type 0
AreNoted made [] = Unit {0}
AreNoted made (request ∷ requests) = (notes_of request ≡ notes_for request.id made) × AreNoted made requests
