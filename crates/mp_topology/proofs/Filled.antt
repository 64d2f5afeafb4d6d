-- A list that is filled up to a length.
use Rattle.std.proofs.Common.{◌≡◌, ℕ, suc, ◌+◌, ◌-◌, ◌<◌, ◌≤◌, List, [], ◌∷◌, ◌++◌, length, take, get_or, map, set, refl, append_assoc, arith}
use Rattle.std.proofs.Math.Seq.{set-append_seam}
use Rattle.std.proofs.lemmas.List.{length-append, length-map, length-take-le, take_more, map-append}
use Rattle.mp_topology.specs.Distance.{filled}

pub filled_more : {X : Type 0} (n : ℕ) (x : X) (xs : List X) (y : X) → length xs < n → set (filled n x xs) (length xs) y ≡ filled n x (xs ++ y ∷ [])
unfolding filled
filled_more n x xs y lt =
    let one : n - length xs ≡ suc (n - (length xs + 1)) = omega (arith, lt) in
    rw (one, set-append_seam, length-append, append_assoc) refl

-- one more item of a list that a filled one is made from
pub filled_step : {D X : Type 0} (n : ℕ) (z : X) (f : D → X) (ds : List D) (i : ℕ) (d : D) (b : X) (row : List X) → i < length ds → length ds ≤ n → d ≡ get_or ds i d
    → row ≡ filled n z (map f (take i ds)) → b ≡ f d → set row i b ≡ filled n z (map f (take (i + 1) ds))
filled_step n z f ds i d b row lt most is so_far made =
    let len : length (map f (take i ds)) ≡ i = omega (arith, length-map (take i ds) f, length-take-le i ds (omega (arith, lt))) in
    let more : set (filled n z (map f (take i ds))) i b ≡ filled n z (map f (take i ds) ++ b ∷ []) = rw len at (filled_more n z (map f (take i ds)) b (omega (arith, len, lt, most))) in
    rw (so_far, more, take_more ds i d lt, ← is, map-append, made) refl
