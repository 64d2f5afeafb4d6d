-- Which texts are read, and which are refused.
use Rattle.std.proofs.Common.{◌≡◌, ◌⊎◌, inl, inr, ℕ, Bool, true, false, List, Option, Some, None, Ok, Err, refl, sym, ap, ◌∙◌}
use Rattle.std.proofs.lemmas.Str.{IsUtf8-from_is_utf8, is_utf8-from_IsUtf8}
use Rattle.std.specs.Str.{is_utf8}
use Rattle.toml.specs.Data.{Members}
use Rattle.toml.specs.Parse.{parse_document}
use Rattle.mp_checks.specs.Checks.{first_fault, AllPass, IsFirst}
use Rattle.mp_checks.proofs.CheckLaws.{all_pass, no_fault, first_from_fault, fault_from_first}
use Rattle.mp_topology.specs.declared.errors.TopologyError.{TopologyError}
use Rattle.mp_topology.specs.declared.errors.TopologyError.TheVariants.{NotToml}
use Rattle.mp_topology.specs.declared.topology.Topology.{Topology}
use Rattle.mp_topology.specs.Topology.{checks, topology_of, table_in, read_of, topology_in, IsTable}
use Rattle.mp_topology.specs.Readable.{Says, IsTableRefused, IsRefused}

-- ---- the table of a text

table_cases : (bytes : List ℕ) (b : Bool) (o : Option Members) → is_utf8 bytes ≡ b → parse_document bytes ≡ o
    → ((t : Members) × IsTable bytes t × (table_in bytes ≡ Some t)) ⊎ (((t : Members) → IsTable bytes t → ⊥) × (table_in bytes ≡ None))
table_cases bytes true (Some t) utf8 parsed =
    inl (t, record { utf8 = IsUtf8-from_is_utf8 bytes utf8; parsed = parsed }, rw (utf8, parsed) refl)
table_cases bytes true None utf8 parsed = inr (λ t table. cc (sym parsed ∙ table.parsed), rw (utf8, parsed) refl)
table_cases bytes false o utf8 parsed = inr (λ t table. cc (sym utf8 ∙ is_utf8-from_IsUtf8 bytes table.utf8), rw utf8 refl)

table_of : (bytes : List ℕ) (t : Members) → IsTable bytes t → table_in bytes ≡ Some t
table_of bytes t table = rw (is_utf8-from_IsUtf8 bytes table.utf8, table.parsed) refl

-- ---- what is read of it

unless_cases : (t : Members) (o : Option TopologyError) → first_fault (checks t) ≡ o
    → (AllPass (checks t) × (read_of (Some t) ≡ Ok (topology_of t))) ⊎ ((refusal : TopologyError) × IsFirst (checks t) refusal × (read_of (Some t) ≡ Err refusal))
unless_cases t None is = inl (all_pass (checks t) is, rw is refl)
unless_cases t (Some e) is = inr (e, first_from_fault (checks t) e is, rw is refl)

abbrev Is : List ℕ → Type 0
Is bytes = ((topology : Topology) × Says bytes topology × (topology_in bytes ≡ Ok topology)) ⊎ ((refusal : TopologyError) × IsRefused bytes refusal × (topology_in bytes ≡ Err refusal))

of_table : (bytes : List ℕ) (t : Members) → IsTable bytes t → table_in bytes ≡ Some t → Is bytes
unfolding topology_in
of_table bytes t table is =
    elim (unless_cases t (first_fault (checks t)) refl) [
      | inl pass ↦ inl (topology_of t, record { members = t; table = table; pass = pass.0; is = refl }, ap read_of is ∙ pass.1)
      | inr fault ↦ inr (fault.0, inr (record { members = t; table = table; first = fault.1 }), ap read_of is ∙ fault.2)
    ]

pub text_is : (bytes : List ℕ) → Is bytes
unfolding topology_in
text_is bytes =
    elim (table_cases bytes (is_utf8 bytes) (parse_document bytes) refl refl) [
      | inl some ↦ of_table bytes some.0 some.1 some.2
      | inr none ↦ inr (NotToml, inl (none.0, refl), ap read_of none.1)
    ]

pub read_or_refused : (bytes : List ℕ) → ((topology : Topology) × Says bytes topology) ⊎ ((refusal : TopologyError) × IsRefused bytes refusal)
read_or_refused bytes =
    elim (text_is bytes) [
      | inl read ↦ inl (read.0, read.1)
      | inr refused ↦ inr (refused.0, refused.1)
    ]

-- ---- and back

pub says_read : (bytes : List ℕ) (topology : Topology) → Says bytes topology → topology_in bytes ≡ Ok topology
unfolding topology_in
says_read bytes topology s =
    let none : first_fault (checks s.members) ≡ None = no_fault (checks s.members) s.pass in
    ap read_of (table_of bytes s.members s.table) ∙ rw (none, s.is) refl

refused_table : (bytes : List ℕ) (refusal : TopologyError) → IsTableRefused bytes refusal → topology_in bytes ≡ Err refusal
unfolding topology_in
refused_table bytes refusal r =
    let some : first_fault (checks r.members) ≡ Some refusal = fault_from_first (checks r.members) refusal r.first in
    ap read_of (table_of bytes r.members r.table) ∙ rw some refl

refused_text : (bytes : List ℕ) (b : Bool) (o : Option Members) → is_utf8 bytes ≡ b → parse_document bytes ≡ o → ((t : Members) → IsTable bytes t → ⊥) → topology_in bytes ≡ Err NotToml
unfolding topology_in
refused_text bytes b o utf8 parsed none =
    elim (table_cases bytes b o utf8 parsed) [
      | inl some ↦ absurd (none some.0 some.1)
      | inr other ↦ ap read_of other.1
    ]

pub refused_read : (bytes : List ℕ) (refusal : TopologyError) → IsRefused bytes refusal → topology_in bytes ≡ Err refusal
refused_read bytes refusal (inl none) = refused_text bytes (is_utf8 bytes) (parse_document bytes) refl refl none.0 ∙ ap Err (sym none.1)
refused_read bytes refusal (inr r) = refused_table bytes refusal r

pub read_says : (bytes : List ℕ) (topology : Topology) → topology_in bytes ≡ Ok topology → Says bytes topology
read_says bytes topology h =
    elim (text_is bytes) [
      | inl read ↦ let same : topology ≡ read.0 = cc (sym h ∙ read.2) in rw same read.1
      | inr refused ↦ absurd (cc (sym h ∙ refused.2))
    ]

pub read_refused : (bytes : List ℕ) (refusal : TopologyError) → topology_in bytes ≡ Err refusal → IsRefused bytes refusal
read_refused bytes refusal h =
    elim (text_is bytes) [
      | inl read ↦ absurd (cc (sym h ∙ read.2))
      | inr refused ↦ let same : refusal ≡ refused.0 = cc (sym h ∙ refused.2) in rw same refused.1
    ]
