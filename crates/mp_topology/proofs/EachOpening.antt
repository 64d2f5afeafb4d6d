-- The loop over the opening's items.
use Rattle.std.proofs.Common.{◌≡◌, ℕ, ◌+◌, ◌<◌, List, [], ◌∷◌, ◌++◌, length, take, get_or, map, Some, None, refl}
use Rattle.std.specs.Prelude.{unwrap_or}
use Rattle.std.proofs.lemmas.List.{take_more, take-map, map-append}
use Rattle.toml.specs.Data.{Data}
use Rattle.toml.specs.View.{view}
use Rattle.toml.specs.declared.value.Value.{Value}
use Rattle.mp_checks.specs.Checks.{first_fault, each_from}
use Rattle.mp_checks.proofs.CheckLaws.{each_more, each_stops}
use Rattle.mp_topology.specs.declared.errors.TopologyError.{TopologyError}
use Rattle.mp_topology.specs.Opening.{opening_item_checks, named_place, each_opening, places_in}
use Rattle.mp_topology.proofs.Values.{seen, seen_within}

each_is : (names : List (List ℕ)) (j : ℕ) (ds : List Data) (d : Data) (found earlier : List ℕ) → found ≡ places_in names (take j ds) → earlier ≡ found
    → opening_item_checks names earlier j d ≡ each_opening names ds j d
unfolding each_opening
each_is names j ds d found earlier is same = rw (same, is, take-map) refl

pub opening_stops : (names : List (List ℕ)) (vs : List Value) (j : ℕ) (x : Value) (found earlier : List ℕ) (fault : TopologyError) → j < length vs → x ≡ get_or vs j x
    → found ≡ places_in names (take j (map view vs)) → earlier ≡ found
    → first_fault (each_from (each_opening names (map view vs)) 0 (take j (map view vs))) ≡ None
    → first_fault (opening_item_checks names earlier j (view x)) ≡ Some fault
    → first_fault (each_from (each_opening names (map view vs)) 0 (map view vs)) ≡ Some fault
opening_stops names vs j x found earlier fault lt is so_far same pass here =
    each_stops (each_opening names (map view vs)) (map view vs) j (view x) (view x) fault (seen_within vs j lt) (seen vs j x lt is) pass
    (rw (← each_is names j (map view vs) (view x) found earlier so_far same) here)

pub opening_more : (names : List (List ℕ)) (vs : List Value) (j : ℕ) (x : Value) (found earlier : List ℕ) → j < length vs → x ≡ get_or vs j x
    → found ≡ places_in names (take j (map view vs)) → earlier ≡ found
    → first_fault (each_from (each_opening names (map view vs)) 0 (take j (map view vs))) ≡ None
    → first_fault (opening_item_checks names earlier j (view x)) ≡ None
    → first_fault (each_from (each_opening names (map view vs)) 0 (take (j + 1) (map view vs))) ≡ None
opening_more names vs j x found earlier lt is so_far same pass here =
    each_more (each_opening names (map view vs)) (map view vs) j (view x) (view x) (seen_within vs j lt) (seen vs j x lt is) pass
    (rw (← each_is names j (map view vs) (view x) found earlier so_far same) here)

pub places_more : (names : List (List ℕ)) (vs : List Value) (j : ℕ) (x : Value) (place : ℕ) (found : List ℕ) → j < length vs → x ≡ get_or vs j x
    → found ≡ places_in names (take j (map view vs)) → place ≡ unwrap_or (named_place names (view x)) 0 → found ++ place ∷ [] ≡ places_in names (take (j + 1) (map view vs))
places_more names vs j x place found lt is so_far made =
    rw (take_more (map view vs) j (view x) (seen_within vs j lt), ← seen vs j x lt is, map-append, so_far, made) refl
