-- What the crate `toml` gives, as lists.
use Rattle.std.proofs.Common.{◌≡◌, ℕ, Bor, Vec, Global, List, [], ◌∷◌, map, Option, Some, None, option_map, refl, ap}
use Rattle.toml.specs.Data.{Data, Items, Members, get_member, as_array}
use Rattle.toml.specs.declared.value.Value.{Value}
use Rattle.toml.specs.View.{items_of, array_view, view}
use Rattle.mp_topology.specs.Fields.{listed, list_at}

pub listed-items_of : (ds : List Data) → listed (items_of ds) ≡ ds
listed-items_of [] = refl
listed-items_of (d ∷ ds) = ap (λ (x : List Data). d ∷ x) (listed-items_of ds)

abbrev pub vec_view : Bor (Vec Value Global) → List Data
vec_view v = map view v.now.items

pub array_seen : (r : Option (Bor (Vec Value Global))) (o : Option Items) → option_map (λ v. array_view v.now) r ≡ o → option_map vec_view r ≡ option_map listed o
array_seen None o e = rw (← e) refl
array_seen (Some v) o e = rw (← e, listed-items_of) refl

pub list_seen : (key : List ℕ) (t : Members) (v : Value) (r : Option (Bor (Vec Value Global))) → Some (view v) ≡ get_member key t → option_map (λ w. array_view w.now) r ≡ as_array (view v)
    → option_map vec_view r ≡ list_at key t
unfolding list_at
list_seen key t v r found seen = rw (← found) (array_seen r (as_array (view v)) seen)
