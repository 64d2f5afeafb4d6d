-- The text of a list of lines, line by line and lane by lane.
use Rattle.std.proofs.Common.{◌≡◌, ℕ, ◌+◌, ◌<◌, List, [], ◌∷◌, ◌++◌, length, take, get_or, map, refl, append_assoc}
use Rattle.std.specs.List.{flat_map}
use Rattle.std.proofs.lemmas.Grind.{flat_map-append}
use Rattle.std.proofs.lemmas.List.{take_more, append-nil}

pub flat_of_map : {X : Type 0} (line : List (List ℕ) → List ℕ) (words : X → List (List ℕ)) (xs : List X) → flat_map line (map words xs) ≡ flat_map (λ x. line (words x)) xs
flat_of_map line words [] = refl
flat_of_map line words (x ∷ xs) = rw (flat_of_map line words xs) refl

pub flat_of_flat : {X : Type 0} (line : List (List ℕ) → List ℕ) (lines : X → List (List (List ℕ))) (xs : List X) → flat_map line (flat_map lines xs) ≡ flat_map (λ x. flat_map line (lines x)) xs
flat_of_flat line lines [] = refl
flat_of_flat line lines (x ∷ xs) = rw (flat_map-append, flat_of_flat line lines xs) refl

-- one more item
pub text_more : {X : Type 0} (f : X → List ℕ) (xs : List X) (i : ℕ) (x : X) (start text more : List ℕ) → i < length xs → get_or xs i x ≡ x
    → text ≡ start ++ flat_map f (take i xs) → more ≡ text ++ f x → more ≡ start ++ flat_map f (take (i + 1) xs)
text_more f xs i x start text more lt is so_far one = rw (take_more xs i x lt, is, one, so_far, flat_map-append, append-nil, append_assoc) refl

-- the answers and then the lanes
pub text_joined : {X Y : Type 0} (line : List (List ℕ) → List ℕ) (words : X → List (List ℕ)) (lines : Y → List (List (List ℕ))) (xs : List X) (ys : List Y)
    → flat_map (λ x. line (words x)) xs ++ flat_map (λ y. flat_map line (lines y)) ys ≡ flat_map line (map words xs ++ flat_map lines ys)
text_joined line words lines xs ys = rw (flat_map-append, flat_of_map line words xs, flat_of_flat line lines ys) refl

-- a lane's first line and then the others
pub text_behind : {X : Type 0} (line : List (List ℕ) → List ℕ) (words : X → List (List ℕ)) (xs ys : List X) (start mid text : List ℕ) (first lane : List (List ℕ)) → first ≡ lane → mid ≡ start ++ line first → ys ≡ xs
    → text ≡ mid ++ flat_map (λ x. line (words x)) ys → text ≡ start ++ (line lane ++ flat_map line (map words xs))
text_behind line words xs ys start mid text first lane named begun same so_far = rw (so_far, begun, named, same, flat_of_map line words xs, append_assoc) refl
