-- The places of names, as a map.
use Rattle.std.specs.Prelude.{◌≡◌, ℕ, List}
use Rattle.std.specs.Borrow.{Bor}
use Rattle.std.specs.BTreeMap.{BTreeMap, get}
use Rattle.std.specs.Cmp.Lexicographic.{slice_cmp}
use Rattle.std.specs.Ordering.{nat_cmp}
use Rattle.std.specs.declared.cmp.Ordering.{Ordering}
use Rattle.mp_topology.specs.declared.topology.Controller.{Controller}
use Rattle.mp_script.specs.Wording.{place_in}

-- how two names compare, byte by byte
abbrev pub key_cmp : Bor (List ℕ) → Bor (List ℕ) → Ordering
key_cmp x y = slice_cmp nat_cmp x.now y.now

-- the map has the place of each name
abbrev pub HasPlaces : List Controller → BTreeMap (Bor (List ℕ)) ℕ → Type 0
HasPlaces controllers places = (w : Bor (List ℕ)) → get key_cmp places w ≡ place_in controllers w.now
