-- What the checks of a table say of the bytes.
use Rattle.std.proofs.Common.{◌≡◌, ℕ, Bool, true, false, List, Some, None, Result, Ok, Err, IfOk, IsUtf8, refl, sym, subst}
use Rattle.std.proofs.lemmas.Str.{IsUtf8-from_is_utf8, is_utf8-from_IsUtf8}
use Rattle.std.specs.Str.{is_utf8}
use Rattle.toml.specs.Data.{Members}
use Rattle.toml.specs.Parse.{parse_document}
use Rattle.mp_checks.specs.Checks.{first_fault, Answers, Reads}
use Rattle.mp_checks.proofs.CheckLaws.{reads_answers}
use Rattle.mp_topology.specs.declared.errors.TopologyError.{TopologyError}
use Rattle.mp_topology.specs.declared.errors.TopologyError.TheVariants.{NoMemory, NotToml}
use Rattle.mp_topology.specs.declared.topology.Topology.{Topology}
use Rattle.mp_topology.specs.Topology.{checks, topology_of, table_in, read_of, topology_in}

table_of : (bytes : List ℕ) (t : Members) → IsUtf8 bytes → parse_document bytes ≡ Some t → table_in bytes ≡ Some t
table_of bytes t utf8 parsed = rw (is_utf8-from_IsUtf8 bytes utf8, parsed) refl

pub table_gives : (bytes : List ℕ) (t : Members) (r : Result Topology TopologyError) → IsUtf8 bytes → parse_document bytes ≡ Some t → Reads NoMemory r (checks t) (topology_of t) → Answers NoMemory r (topology_in bytes)
unfolding topology_in
table_gives bytes t r utf8 parsed h = rw (table_of bytes t utf8 parsed) (reads_answers NoMemory r (checks t) (topology_of t) h)

table_unless : (bytes : List ℕ) (b : Bool) → is_utf8 bytes ≡ b → (IsUtf8 bytes → parse_document bytes ≡ None) → read_of (table_in bytes) ≡ Err NotToml
table_unless bytes true e none = rw (e, none (IsUtf8-from_is_utf8 bytes e)) refl
table_unless bytes false e none = rw e refl

pub no_table_gives : (bytes : List ℕ) → (IsUtf8 bytes → parse_document bytes ≡ None) → topology_in bytes ≡ Err NotToml
unfolding topology_in
no_table_gives bytes none = table_unless bytes (is_utf8 bytes) refl none

pub if_read : (P : Topology → Type 0) (t : Members) (r : Result Topology TopologyError) → (first_fault (checks t) ≡ None → P (topology_of t)) → Reads NoMemory r (checks t) (topology_of t) → IfOk r P
if_read P t (Ok x) all h = subst P (sym h.1) (all h.0)
if_read P t (Err e) all h = tt
