-- The loop over the controllers.
use Rattle.std.proofs.Common.{◌≡◌, ℕ, ◌+◌, ◌<◌, List, [], ◌∷◌, ◌++◌, length, take, get_or, map, Some, None, refl, sym, ap, ◌∙◌, String, Global, BTreeMap}
use Rattle.std.proofs.lemmas.List.{take_more, take-map, map-append}
use Rattle.toml.specs.Data.{Data, Members, as_table}
use Rattle.toml.specs.View.{view, table_view}
use Rattle.toml.specs.declared.value.Value.{Value}
use Rattle.mp_checks.specs.Checks.{first_fault, each_from}
use Rattle.mp_checks.proofs.CheckLaws.{each_more, each_stops}
use Rattle.mp_topology.specs.declared.topology.Controller.{Controller}
use Rattle.mp_topology.specs.declared.errors.TopologyError.{TopologyError}
use Rattle.mp_topology.specs.Controllers.{fields_of, controller_of, controllers_in, names_in, controller_checks, each_controller}
use Rattle.mp_topology.proofs.Places.{name_of}
use Rattle.mp_topology.proofs.Values.{seen, seen_within, some_table}

earlier_names : (ds : List Data) (i : ℕ) (found earlier : List Controller) → found ≡ controllers_in (take i ds) → earlier ≡ found → map name_of earlier ≡ take i (names_in ds)
earlier_names ds i found earlier is same = rw (same, is, take-map, take-map) refl

fields_are : (d : Data) (t : Members) → some_table t ≡ as_table d → fields_of d ≡ t
fields_are d t e = rw (← e) refl

each_is : (nodes i : ℕ) (ds : List Data) (d : Data) (t : Members) (found earlier : List Controller) → some_table t ≡ as_table d → found ≡ controllers_in (take i ds) → earlier ≡ found
    → controller_checks nodes (map name_of earlier) i t ≡ each_controller nodes ds i d
unfolding each_controller
each_is nodes i ds d t found earlier e is same = rw (earlier_names ds i found earlier is same, fields_are d t e) refl

pub controller_stops : (nodes : ℕ) (vs : List Value) (i : ℕ) (x : Value) (t : BTreeMap (String Global) Value) (found earlier : List Controller) (fault : TopologyError) → i < length vs → x ≡ get_or vs i x
    → some_table (table_view t) ≡ as_table (view x) → found ≡ controllers_in (take i (map view vs)) → earlier ≡ found
    → first_fault (each_from (each_controller nodes (map view vs)) 0 (take i (map view vs))) ≡ None
    → first_fault (controller_checks nodes (map name_of earlier) i (table_view t)) ≡ Some fault
    → first_fault (each_from (each_controller nodes (map view vs)) 0 (map view vs)) ≡ Some fault
controller_stops nodes vs i x t found earlier fault lt is e so_far same pass here =
    each_stops (each_controller nodes (map view vs)) (map view vs) i (view x) (view x) fault (seen_within vs i lt) (seen vs i x lt is) pass
    (rw (← each_is nodes i (map view vs) (view x) (table_view t) found earlier e so_far same) here)

pub controller_more : (nodes : ℕ) (vs : List Value) (i : ℕ) (x : Value) (t : BTreeMap (String Global) Value) (found earlier : List Controller) → i < length vs → x ≡ get_or vs i x
    → some_table (table_view t) ≡ as_table (view x) → found ≡ controllers_in (take i (map view vs)) → earlier ≡ found
    → first_fault (each_from (each_controller nodes (map view vs)) 0 (take i (map view vs))) ≡ None
    → first_fault (controller_checks nodes (map name_of earlier) i (table_view t)) ≡ None
    → first_fault (each_from (each_controller nodes (map view vs)) 0 (take (i + 1) (map view vs))) ≡ None
controller_more nodes vs i x t found earlier lt is e so_far same pass here =
    each_more (each_controller nodes (map view vs)) (map view vs) i (view x) (view x) (seen_within vs i lt) (seen vs i x lt is) pass
    (rw (← each_is nodes i (map view vs) (view x) (table_view t) found earlier e so_far same) here)

pub controllers_more : (vs : List Value) (i : ℕ) (x : Value) (t : BTreeMap (String Global) Value) (c : Controller) (found : List Controller) → i < length vs → x ≡ get_or vs i x
    → some_table (table_view t) ≡ as_table (view x) → found ≡ controllers_in (take i (map view vs)) → c ≡ controller_of (table_view t)
    → found ++ c ∷ [] ≡ controllers_in (take (i + 1) (map view vs))
controllers_more vs i x t c found lt is e so_far made =
    let here : controller_of (fields_of (view x)) ≡ c = ap controller_of (fields_are (view x) (table_view t) e) ∙ sym made in
    rw (take_more (map view vs) i (view x) (seen_within vs i lt), ← seen vs i x lt is, map-append, so_far, here) refl
