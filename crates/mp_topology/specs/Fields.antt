-- The fields of a table as TOML 1.1 writes them, and the checks of a number that is needed or may be missing.
use Rattle.std.specs.Prelude.{ℕ, ℤ, pos, negsuc, Bool, false, ◌&&◌, ◌||◌, nat_le, is_some, is_none, List, [], ◌∷◌, Option, Some, None, option_map, option_and_then}
use Rattle.toml.specs.Data.{Data, Items, no_items, item, Members, get_member, as_integer, as_str, as_bool, as_array}
use Rattle.mp_checks.specs.Checks.{if_there}
use Rattle.mp_topology.specs.declared.errors.Field.{Field}
use Rattle.mp_topology.specs.declared.errors.Place.{Place}
use Rattle.mp_topology.specs.declared.errors.TopologyError.{TopologyError}
use Rattle.mp_topology.specs.declared.errors.TopologyError.TheVariants as errors

-- the place of a field with an index
abbrev pub at : Field → ℕ → Place
at f i = record { field = f; index = i }

-- an array as a list
abbrev pub listed : Items → List Data
listed no_items = []
listed (item d ds) = d ∷ listed ds

-- whether there is no value at a key
unfoldable pub is_missing : List ℕ → Members → Bool
is_missing key t = is_none (get_member key t)

-- the whole number at a key, where there is one
unfoldable pub integer_at : List ℕ → Members → Option ℤ
integer_at key t = option_and_then as_integer (get_member key t)

-- the text at a key, where there is one
unfoldable pub text_at : List ℕ → Members → Option (List ℕ)
text_at key t = option_and_then as_str (get_member key t)

-- the truth value at a key, where there is one
unfoldable pub truth_at : List ℕ → Members → Option Bool
truth_at key t = option_and_then as_bool (get_member key t)

-- the list at a key, where there is one
unfoldable pub list_at : List ℕ → Members → Option (List Data)
list_at key t = option_map listed (option_and_then as_array (get_member key t))

-- the number is from low to high
abbrev pub is_within : ℕ → ℕ → ℤ → Bool
is_within low high (pos n) = nat_le low n && nat_le n high
is_within low high (negsuc n) = false

-- the number, where there is one that isn't negative
abbrev pub number_of : Option ℤ → ℕ
number_of (Some (pos n)) = n
number_of (Some (negsuc n)) = 0
number_of None = 0

-- the number of a field that may be missing
abbrev pub optional_of : Option ℤ → Option ℕ
optional_of o = option_map (λ z. number_of (Some z)) o

-- the checks of a number that is needed: a whole number, and within its range
abbrev pub number_checks : List ℕ → ℕ → ℕ → Place → Members → List (Bool × TopologyError)
number_checks key low high place t =
    (is_some (integer_at key t), errors.Field place)
    ∷ (if_there (is_within low high) (integer_at key t), errors.Range place)
    ∷ []

-- the checks of a number that may be missing: where it is there, a whole number and within its range
abbrev pub optional_checks : List ℕ → ℕ → ℕ → Place → Members → List (Bool × TopologyError)
optional_checks key low high place t =
    (is_missing key t || is_some (integer_at key t), errors.Field place)
    ∷ (if_there (is_within low high) (integer_at key t), errors.Range place)
    ∷ []
