-- A place of a topology as a text: the field's name in the file, and the index.
use Rattle.std.specs.Prelude.{ℕ, List, ◌++◌, codes, decimal}
use Rattle.mp_topology.specs.declared.errors.Field.{Field}
use Rattle.mp_topology.specs.declared.errors.Field.TheVariants.{Nsid, Anagrpmax, Group, Policy, Nodes, Distance, Controllers, Name, Node, Ana, State, Page, Opening}
use Rattle.mp_topology.specs.declared.errors.Place.{Place}

-- a field's name in the file
unfoldable pub field_text : Field → List ℕ
field_text Nsid = codes "nsid"
field_text Anagrpmax = codes "anagrpmax"
field_text Group = codes "group"
field_text Policy = codes "policy"
field_text Nodes = codes "nodes"
field_text Distance = codes "distance"
field_text Controllers = codes "controllers"
field_text Name = codes "name"
field_text Node = codes "node"
field_text Ana = codes "ana"
field_text State = codes "state"
field_text Page = codes "page"
field_text Opening = codes "opening"

-- a place as a text: the field's name and the index
abbrev pub place_text : Place → List ℕ
place_text place = field_text place.field ++ codes " " ++ decimal place.index
