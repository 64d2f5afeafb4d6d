-- The last try of a request.
use Rattle.std.proofs.Common.{◌≡◌, ◌++◌, List, [], ◌∷◌, Option, Some, refl}
use Rattle.std.specs.List.{last_or}

-- the last of these is the one that was added
pub last_added : {X : Type 0} (o : Option X) (xs : List X) (x : X) → last_or o (xs ++ x ∷ []) ≡ Some x
last_added o [] x = refl
last_added o (y ∷ xs) x = last_added (Some y) xs x
