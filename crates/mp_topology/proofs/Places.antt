-- The place of a name among the controllers.
use Rattle.std.proofs.Common.{◌≡◌, ◌≢◌, ℕ, ◌<◌, ◌≤◌, true, false, List, [], length, drop, get_or, map, Option, Some, None, SomeIff, IfSome, is_some, All, HoldsAt, refl, sym, ap, ◌∙◌, arith}
use Rattle.std.proofs.Math.ListN.{drop_of_length-le}
use Rattle.std.proofs.lemmas.Bool.{false≢true}
use Rattle.std.proofs.lemmas.List.{drop_more, get_or-map, length-map}
use Rattle.std.proofs.lemmas.List.Quantifiers.{position-Some}
use Rattle.std.proofs.lemmas.Slice.Eq.{bytes_eq-Decides}
use Rattle.mp_topology.specs.Controllers.{place_of}
use Rattle.mp_topology.proofs.Passing.{none_at, bytes_same}
use Rattle.std.specs.List.{position_from}
use Rattle.std.specs.Str.{bytes_eq}
use Rattle.mp_topology.specs.declared.topology.Controller.{Controller}

abbrev pub name_of : Controller → List ℕ
name_of c = c.name

pub place_hit : (cs : List Controller) (i : ℕ) (c : Controller) (name : List ℕ) (total : Option ℕ) → i < length cs → c ≡ get_or cs i c → bytes_eq c.name name ≡ true
    → position_from (λ x. bytes_eq x name) i (map name_of (drop i cs)) ≡ total → Some i ≡ total
place_hit cs i c name total lt is same so_far =
    let one : position_from (λ x. bytes_eq x name) i (map name_of (drop i cs)) ≡ Some i = rw (drop_more cs i c lt, ← is, same) refl in
    sym one ∙ so_far

pub place_end : (cs : List Controller) (i : ℕ) (name : List ℕ) (total : Option ℕ) → length cs ≤ i → position_from (λ x. bytes_eq x name) i (map name_of (drop i cs)) ≡ total → None ≡ total
place_end cs i name total le so_far =
    let one : position_from (λ x. bytes_eq x name) i (map name_of (drop i cs)) ≡ None = rw (drop_of_length-le cs le) refl in
    sym one ∙ so_far

abbrev pub some_place : ℕ → Option ℕ
some_place i = Some i

pub made_some : (r : Option ℕ) (i : ℕ) → SomeIff r (i < 64) i → i < 64 → r ≡ some_place i
made_some None i h lt = absurd (h lt)
made_some (Some x) i h lt = ap some_place h.1

-- no name of a list is one that has no place in it
pub unlike : (name : List ℕ) (names : List (List ℕ)) (i : ℕ) (d : List ℕ) → i < length names → is_some (place_of name names) ≡ false → get_or names i d ≢ name
unfolding place_of
unlike name names i d lt none same =
    let fails = none_at (λ x. bytes_eq x name) names i d lt none in
    false≢true (sym fails ∙ rw same (bytes_same name))

-- the place of a name is that of a controller which has it
pub placed_there : (name : List ℕ) (cs : List Controller) (r : Option ℕ) → place_of name (map name_of cs) ≡ r → IfSome r (λ p. (p < length cs) × HoldsAt (λ c. c.name ≡ name) cs p)
unfolding place_of
placed_there name cs None e = tt
placed_there name cs (Some p) e =
    let found = position-Some (λ x. bytes_eq x name) (map name_of cs) p [] e in
    let within : p < length cs = omega (arith, found.0, length-map cs name_of) in
    (within, λ d. sym (get_or-map name_of cs p d [] within) ∙ (bytes_eq-Decides (get_or (map name_of cs) p []) name).0 found.1)

-- without a place, no controller has the name
pub placed_nowhere : (name : List ℕ) (cs : List Controller) → place_of name (map name_of cs) ≡ None → All (λ c. c.name ≢ name) cs
placed_nowhere name cs e k d lt =
    let apart : get_or (map name_of cs) k d.name ≢ name = unlike name (map name_of cs) k d.name (omega (arith, lt, length-map cs name_of)) (rw e refl) in
    rw (← get_or-map name_of cs k d d.name lt) apart
