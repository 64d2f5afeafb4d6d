-- What holds of a topology whose table passes all checks.
use Rattle.std.proofs.Common.{◌≡◌, ◌≢◌, ℕ, ◌-◌, ◌<◌, ◌≤◌, Bool, true, false, ◌&&◌, List, [], length, take, get_or, Option, Some, None, IfSome, IsSome, is_some, is_none, All, HoldsAt, AllPairs, refl, sym, ◌∙◌, rules, arith}
use Rattle.std.specs.Prelude.{not, ◌==◌, codes, unwrap_or, option_and_then}
use Rattle.std.specs.List.{list_any}
use Rattle.std.specs.Str.{bytes_eq}
use Rattle.std.proofs.lemmas.Bool.{false≢true}
use Rattle.std.proofs.lemmas.Bool.Decides.{nat_tests}
use Rattle.std.proofs.lemmas.List.{get_or-map, get_or-take, length-map, length-take-le}
use Rattle.std.proofs.lemmas.List.Folds.{list_any_at}
use Rattle.std.proofs.lemmas.List.Quantifiers.{position-Some}
use Rattle.std.proofs.lemmas.Option.{slice_get-get_or}
use Rattle.toml.specs.Data.{Data, Members, as_str, no_members, table}
use Rattle.mp_checks.specs.Checks.{first_fault, AllPass, each_from, if_there}
use Rattle.mp_checks.proofs.CheckLaws.{pass_split, all_pass, each_passes}
use Rattle.mp_topology.specs.Fields.{integer_at, text_at}
use Rattle.mp_topology.specs.Distance.{distance_checks}
use Rattle.mp_topology.specs.Controllers.{is_name, place_of, name_checks, name_of, node_checks, node_of, ana_checks, state_checks, page_checks, page_of, fields_of, controller_of, controllers_in, controller_checks, each_controller, controller_items, items_checks, controllers_checks, controllers_of, names_in, names_of}
use Rattle.mp_topology.specs.Opening.{opening_items, named_place, places_in, opening_item_checks, each_opening, opening_checks, opening_of, has_page, paged_checks, opening_page_checks}
use Rattle.mp_topology.specs.Topology.{nsid_checks, nsid_of, anagrpmax_checks, anagrpmax_of, group_checks, group_of, policy_checks, nodes_checks, nodes_of, checks, topology_of}
use Rattle.mp_topology.specs.Facts.{IsTopology, IsPaged}
use Rattle.mp_topology.specs.declared.topology.Controller.{Controller}
use Rattle.mp_topology.proofs.Places.{unlike}
use Rattle.mp_topology.proofs.Passing.{needed_within, optional_within, default_within}

-- ---- the parts

-- the parts of a table's checks
pub record Passes (t : Members) : Type 0 where
  pub nsid : AllPass (nsid_checks t)
  pub anagrpmax : AllPass (anagrpmax_checks t)
  pub group : AllPass (group_checks (anagrpmax_of t) t)
  pub nodes : AllPass (nodes_checks t)
  pub controllers : AllPass (controllers_checks (nodes_of t) t)
  pub opening : AllPass (opening_checks (names_of t) t)
  pub pages : AllPass (opening_page_checks (controllers_of t) (opening_of (names_of t) t))

pub passes : (t : Members) → first_fault (checks t) ≡ None → Passes t
passes t h =
    let a = pass_split (nsid_checks t) _ (all_pass (checks t) h) in
    let b = pass_split (anagrpmax_checks t) _ a.1 in
    let c = pass_split (group_checks (anagrpmax_of t) t) _ b.1 in
    let d = pass_split (policy_checks t) _ c.1 in
    let e = pass_split (nodes_checks t) _ d.1 in
    let f = pass_split (distance_checks (nodes_of t) t) _ e.1 in
    let g = pass_split (controllers_checks (nodes_of t) t) _ f.1 in
    let i = pass_split (opening_checks (names_of t) t) _ g.1 in
    record { nsid = a.0; anagrpmax = b.0; group = c.0; nodes = e.0; controllers = g.0; opening = i.0; pages = i.1 }

-- ---- the numbers

nsid_least : (t : Members) → AllPass (nsid_checks t) → 1 ≤ nsid_of t
unfolding nsid_checks nsid_of
nsid_least t h = (needed_within 1 4294967294 (integer_at (codes "nsid") t) h.0 h.1.0).0

anagrpmax_least : (t : Members) → AllPass (anagrpmax_checks t) → 1 ≤ anagrpmax_of t
unfolding anagrpmax_checks anagrpmax_of
anagrpmax_least t h = (needed_within 1 4294967295 (integer_at (codes "anagrpmax") t) h.0 h.1.0).0

group_within : (t : Members) → 1 ≤ anagrpmax_of t → AllPass (group_checks (anagrpmax_of t) t) → (1 ≤ group_of t) × (group_of t ≤ anagrpmax_of t)
unfolding group_checks group_of
group_within t least h = default_within 1 (anagrpmax_of t) 1 (integer_at (codes "group") t) (omega arith) least h.1.0

nodes_within : (t : Members) → AllPass (nodes_checks t) → (1 ≤ nodes_of t) × (nodes_of t ≤ 8)
unfolding nodes_checks nodes_of
nodes_within t h = needed_within 1 8 (integer_at (codes "nodes") t) h.0 h.1.0

-- ---- the controllers

not_true : (b : Bool) → not b ≡ true → b ≡ false
not_true false h = refl
not_true true h = absurd cc

record Controllers (nodes : ℕ) (ds : List Data) : Type 0 where
  filled : 1 ≤ length ds
  few : length ds ≤ 64
  each : AllPass (each_from (each_controller nodes ds) 0 ds)

controllers_pass : (nodes : ℕ) (t : Members) → AllPass (controllers_checks nodes t) → Controllers nodes (controller_items t)
unfolding controllers_checks items_checks
controllers_pass nodes t h = record { filled = grind (arith, nat_tests, h.1.1.0); few = grind (arith, nat_tests, h.1.1.1.0); each = h.1.1.1.1 }

controllers_length : (t : Members) → length (controllers_of t) ≡ length (controller_items t)
unfolding controllers_of
controllers_length t = length-map (controller_items t) (λ d. controller_of (fields_of d))

-- what the checks of a controller say
record Fields (nodes : ℕ) (names : List (List ℕ)) (i : ℕ) (c : Controller) : Type 0 where
  name : is_name c.name ≡ true
  once : is_some (place_of c.name (take i names)) ≡ false
  node : IfSome c.node (λ n. n ≤ nodes - 1)
  page : IfSome c.page (λ p. p ≤ 1023)

named : (o : Option (List ℕ)) → is_some o ≡ true → if_there is_name o ≡ true → is_name (unwrap_or o []) ≡ true
named None there h = absurd cc
named (Some s) there h = h

unplaced : (names : List (List ℕ)) (o : Option (List ℕ)) → is_some o ≡ true → if_there (λ s. not (is_some (place_of s names))) o ≡ true → is_some (place_of (unwrap_or o []) names) ≡ false
unplaced names None there h = absurd cc
unplaced names (Some s) there h = not_true (is_some (place_of s names)) h

name_passes : (earlier : List (List ℕ)) (i : ℕ) (t : Members) → AllPass (name_checks earlier i t) → (is_name (name_of t) ≡ true) × (is_some (place_of (name_of t) earlier) ≡ false)
unfolding name_checks name_of
name_passes earlier i t h = (named (text_at (codes "name") t) h.0 h.1.0, unplaced earlier (text_at (codes "name") t) h.0 h.1.1.0)

node_passes : (nodes i : ℕ) (t : Members) → AllPass (node_checks nodes i t) → IfSome (node_of t) (λ n. n ≤ nodes - 1)
unfolding node_checks node_of
node_passes nodes i t h = optional_within 0 (nodes - 1) (integer_at (codes "node") t) h.1.0

page_passes : (i : ℕ) (t : Members) → AllPass (page_checks i t) → IfSome (page_of t) (λ p. p ≤ 1023)
unfolding page_checks page_of
page_passes i t h = optional_within 0 1023 (integer_at (codes "page") t) h.1.0

controller_passes : (nodes : ℕ) (ds : List Data) (i : ℕ) (d : Data) → AllPass (each_controller nodes ds i d) → Fields nodes (names_in ds) i (controller_of (fields_of d))
unfolding each_controller controller_checks
controller_passes nodes ds i d h =
    let t = fields_of d in
    let a = pass_split (name_checks (take i (names_in ds)) i t) _ h in
    let b = pass_split (node_checks nodes i t) _ a.1 in
    let c = pass_split (ana_checks i t) _ b.1 in
    let e = pass_split (state_checks i t) _ c.1 in
    let name = name_passes (take i (names_in ds)) i t a.0 in
    record { name = name.0; once = name.1; node = node_passes nodes i t b.0; page = page_passes i t e.1 }

-- of the controller at each place
fields_at : (nodes : ℕ) (ds : List Data) → AllPass (each_from (each_controller nodes ds) 0 ds) → (k : ℕ) (c : Controller) → k < length (controllers_in ds) → Fields nodes (names_in ds) k (get_or (controllers_in ds) k c)
fields_at nodes ds h k c lt =
    let within : k < length ds = omega (arith, lt, length-map ds (λ d. controller_of (fields_of d))) in
    let item : get_or (controllers_in ds) k c ≡ controller_of (fields_of (get_or ds k (table no_members))) = get_or-map (λ d. controller_of (fields_of d)) ds k (table no_members) c within in
    rw item (controller_passes nodes ds k (get_or ds k (table no_members)) (each_passes (each_controller nodes ds) ds h k (table no_members) within))

below : (o : Option ℕ) (most limit : ℕ) → most < limit → IfSome o (λ p. p ≤ most) → IfSome o (λ p. p < limit)
below None most limit lt h = tt
below (Some p) most limit lt h = omega (arith, h, lt)

names_differ : (nodes : ℕ) (ds : List Data) → AllPass (each_from (each_controller nodes ds) 0 ds) → AllPairs (λ c d. c.name ≢ d.name) (controllers_in ds)
names_differ nodes ds h i j c earlier lt =
    let cs = controllers_in ds in
    let later = get_or cs j c in
    let few : i < length (take j (names_in ds)) = omega (arith, earlier, lt, length-map cs (λ x. x.name), length-take-le j (names_in ds) (omega (arith, lt, length-map cs (λ x. x.name)))) in
    let one : get_or (take j (names_in ds)) i c.name ≡ (get_or cs i c).name = get_or-take j (names_in ds) i c.name earlier ∙ get_or-map (λ x. x.name) cs i c c.name (omega (arith, earlier, lt)) in
    rw (← one) (unlike later.name (take j (names_in ds)) i c.name few (fields_at nodes ds h j c lt).once)

-- ---- the opening

record Opening (names : List (List ℕ)) (ds : List Data) : Type 0 where
  few : length ds ≤ 8
  each : AllPass (each_from (each_opening names ds) 0 ds)

opening_passes : (names : List (List ℕ)) (t : Members) → AllPass (opening_checks names t) → Opening names (opening_items t)
unfolding opening_checks
opening_passes names t h = record { few = grind (arith, nat_tests, h.1.0); each = h.1.1 }

place_below : (s : List ℕ) (names : List (List ℕ)) (r : Option ℕ) → place_of s names ≡ r → is_some r ≡ true → unwrap_or r 0 < length names
unfolding place_of
place_below s names None e h = absurd cc
place_below s names (Some p) e h = (position-Some (λ x. bytes_eq x s) names p [] e).0

named_below : (names : List (List ℕ)) (o : Option (List ℕ)) → is_some (option_and_then (λ s. place_of s names) o) ≡ true → unwrap_or (option_and_then (λ s. place_of s names) o) 0 < length names
named_below names None h = absurd cc
named_below names (Some s) h = place_below s names (place_of s names) refl h

record Item (names : List (List ℕ)) (ds : List Data) (j : ℕ) (d : Data) : Type 0 where
  named : is_some (named_place names d) ≡ true
  once : if_there (λ p. not (list_any (λ q. q == p) (take j (places_in names ds)))) (named_place names d) ≡ true

item_passes : (names : List (List ℕ)) (ds : List Data) (j : ℕ) (d : Data) → AllPass (each_opening names ds j d) → Item names ds j d
unfolding each_opening opening_item_checks
item_passes names ds j d h = record { named = h.1.0; once = h.1.1.0 }

place_at : (names : List (List ℕ)) (ds : List Data) (j p : ℕ) (e : Data) → j < length ds → get_or (places_in names ds) j p ≡ unwrap_or (named_place names (get_or ds j e)) 0
place_at names ds j p e lt = get_or-map (λ d. unwrap_or (named_place names d) 0) ds j e p lt

places_length : (names : List (List ℕ)) (ds : List Data) → length (places_in names ds) ≡ length ds
places_length names ds = length-map ds (λ d. unwrap_or (named_place names d) 0)

-- an item of the opening, with its place
item_at : (names : List (List ℕ)) (ds : List Data) → AllPass (each_from (each_opening names ds) 0 ds) → (j : ℕ) → j < length ds → Item names ds j (get_or ds j (table no_members))
item_at names ds h j lt = item_passes names ds j (get_or ds j (table no_members)) (each_passes (each_opening names ds) ds h j (table no_members) lt)

places_below : (names : List (List ℕ)) (ds : List Data) → AllPass (each_from (each_opening names ds) 0 ds) → All (λ p. p < length names) (places_in names ds)
places_below names ds h j p lt =
    let within : j < length ds = omega (arith, lt, places_length names ds) in
    rw (place_at names ds j p (table no_members) within) (named_below names (as_str (get_or ds j (table no_members))) (item_at names ds h j within).named)

not_there : (xs : List ℕ) (o : Option ℕ) → is_some o ≡ true → if_there (λ p. not (list_any (λ q. q == p) xs)) o ≡ true → list_any (λ q. q == unwrap_or o 0) xs ≡ false
not_there xs None some h = absurd cc
not_there xs (Some p) some h = not_true (list_any (λ q. q == p) xs) h

differs : (xs : List ℕ) (i p d : ℕ) → i < length xs → list_any (λ q. q == p) xs ≡ false → get_or xs i d ≢ p
differs xs i p d lt none same =
    let hit : (get_or xs i d == p) ≡ true = rw same (grind (arith, nat_tests)) in
    false≢true (sym none ∙ list_any_at (λ q. q == p) xs i d lt hit)

places_once : (names : List (List ℕ)) (ds : List Data) → AllPass (each_from (each_opening names ds) 0 ds) → AllPairs (λ p q. p ≢ q) (places_in names ds)
places_once names ds h i j p earlier lt =
    let within : j < length ds = omega (arith, lt, places_length names ds) in
    let item = item_at names ds h j within in
    let few : i < length (take j (places_in names ds)) = omega (arith, earlier, length-take-le j (places_in names ds) (omega (arith, lt))) in
    let apart = differs (take j (places_in names ds)) i (unwrap_or (named_place names (get_or ds j (table no_members))) 0) p few (not_there (take j (places_in names ds)) (named_place names (get_or ds j (table no_members))) item.named item.once) in
    rw (place_at names ds j p (table no_members) within, ← get_or-take j (places_in names ds) i p earlier) apart

paged_from : (ana : Bool) (page : Option ℕ) → not (ana && is_none page) ≡ true → ana ≡ true → IsSome page
paged_from ana (Some p) h is = refl
paged_from ana None h is = absurd (search (rules, h, is))

opening_is_paged : (controllers : List Controller) (opening : List ℕ) → All (λ p. p < length controllers) opening → AllPass (opening_page_checks controllers opening) → All (λ p. HoldsAt IsPaged controllers p) opening
unfolding opening_page_checks paged_checks
opening_is_paged controllers opening below h j p lt c =
    let place = get_or opening j p in
    let passes = (each_passes (λ j place. paged_checks controllers place) opening h j p lt).0 in
    let here : if_there has_page (Some (get_or controllers place c)) ≡ true = rw (slice_get-get_or controllers place c (below j p lt)) at passes in
    paged_from (get_or controllers place c).ana (get_or controllers place c).page here

-- ---- the whole

names_length : (t : Members) → length (names_of t) ≡ length (controllers_of t)
names_length t = length-map (controllers_of t) (λ c. c.name)

-- of the controllers of a table
record Each (nodes : ℕ) (cs : List Controller) : Type 0 where
  names : All (λ c. is_name c.name ≡ true) cs
  names_once : AllPairs (λ c d. c.name ≢ d.name) cs
  homes : All (λ c. IfSome c.node (λ n. n < nodes)) cs
  pages : All (λ c. IfSome c.page (λ p. p < 1024)) cs

each_of : (nodes : ℕ) (t : Members) → 1 ≤ nodes → AllPass (each_from (each_controller nodes (controller_items t)) 0 (controller_items t)) → Each nodes (controllers_of t)
unfolding controllers_of
each_of nodes t least h =
    let ds = controller_items t in
    record {
      names = λ k c lt. (fields_at nodes ds h k c lt).name;
      names_once = names_differ nodes ds h;
      homes = λ k c lt. below (get_or (controllers_in ds) k c).node (nodes - 1) nodes (omega (arith, least)) (fields_at nodes ds h k c lt).node;
      pages = λ k c lt. below (get_or (controllers_in ds) k c).page 1023 1024 (omega arith) (fields_at nodes ds h k c lt).page;
    }

pub is_topology : (t : Members) → first_fault (checks t) ≡ None → IsTopology (topology_of t)
unfolding opening_of
is_topology t h =
    let p = passes t h in
    let nodes = nodes_within t p.nodes in
    let group = group_within t (anagrpmax_least t p.anagrpmax) p.group in
    let controllers = controllers_pass (nodes_of t) t p.controllers in
    let each = each_of (nodes_of t) t nodes.0 controllers.each in
    let opening = opening_passes (names_of t) t p.opening in
    let there : All (λ p. p < length (controllers_of t)) (places_in (names_of t) (opening_items t)) = rw (names_length t) at (places_below (names_of t) (opening_items t) opening.each) in
    record {
      nsid = nsid_least t p.nsid;
      group_least = group.0;
      group_most = group.1;
      nodes_least = nodes.0;
      nodes_most = nodes.1;
      controllers_least = rw (controllers_length t) controllers.filled;
      controllers_most = rw (controllers_length t) controllers.few;
      opening_most = rw (places_length (names_of t) (opening_items t)) opening.few;
      opening_there = there;
      opening_once = places_once (names_of t) (opening_items t) opening.each;
      opening_paged = opening_is_paged (controllers_of t) (opening_of (names_of t) t) there p.pages;
      names = each.names;
      names_once = each.names_once;
      homes = each.homes;
      pages = each.pages;
    }
