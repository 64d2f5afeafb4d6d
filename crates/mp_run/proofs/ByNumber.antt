-- Requests of a number.
use Rattle.std.proofs.Common.{[], ◌≡◌, ℕ, Bool, true, false, ◌||◌, ◌==◌, List, ◌∷◌, ◌++◌, Some, find, refl}
use Rattle.mp_words.specs.Request.{Asked}
use Rattle.mp_legal.specs.Numbers.{has_req}

pub or_false : (a b : Bool) → (a || b) ≡ false → (a ≡ false) × (b ≡ false)
or_false true b e = absurd cc
or_false false b e = (refl, e)

-- behind requests of other numbers a request is found
pub find_behind : (req : ℕ) (before after : List Asked) (a : Asked) → has_req req before ≡ false → (a.req == req) ≡ true → find (λ b. b.req == req) (before ++ a ∷ after) ≡ Some a
find_behind req [] after a none is = rw is refl
find_behind req (b ∷ before) after a none is =
    let parts = or_false (b.req == req) (has_req req before) none in
    rw parts.0 (find_behind req before after a parts.1 is)
