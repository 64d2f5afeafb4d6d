-- Which texts are read, and which are refused.
use Rattle.std.proofs.Common.{◌≡◌, ◌⊎◌, inl, inr, ℕ, List, Option, Some, None, Ok, Err, refl, sym, ◌∙◌}
use Rattle.mp_checks.specs.Checks.{first_fault, IsFirst}
use Rattle.mp_checks.proofs.CheckLaws.{all_pass, no_fault, first_from_fault, fault_from_first}
use Rattle.mp_topology.specs.declared.topology.Topology.{Topology}
use Rattle.mp_script.specs.declared.errors.ScriptError.{ScriptError}
use Rattle.mp_script.specs.declared.script.Script.{Script}
use Rattle.mp_script.specs.Readable.{Says}
use Rattle.mp_script.specs.Script.{checks, script_of, script_in}
use Rattle.mp_script.specs.Splitting.{lines_of}

abbrev Is : Topology → ℕ → List ℕ → Type 0
Is t pages bytes =
    ((script : Script) × Says t pages bytes script × (script_in t pages bytes ≡ Ok script))
    ⊎ ((refusal : ScriptError) × IsFirst (checks t pages bytes) refusal × (script_in t pages bytes ≡ Err refusal))

cases : (t : Topology) (pages : ℕ) (bytes : List ℕ) (o : Option ScriptError) → first_fault (checks t pages bytes) ≡ o → Is t pages bytes
unfolding script_in
cases t pages bytes None is =
    inl (script_of t.controllers (lines_of bytes), record { pass = all_pass (checks t pages bytes) is; is = refl }, rw is refl)
cases t pages bytes (Some e) is = inr (e, first_from_fault (checks t pages bytes) e is, rw is refl)

text_is : (t : Topology) (pages : ℕ) (bytes : List ℕ) → Is t pages bytes
text_is t pages bytes = cases t pages bytes (first_fault (checks t pages bytes)) refl

pub read_or_refused : (t : Topology) (pages : ℕ) (bytes : List ℕ) → ((script : Script) × Says t pages bytes script) ⊎ ((refusal : ScriptError) × IsFirst (checks t pages bytes) refusal)
read_or_refused t pages bytes =
    elim (text_is t pages bytes) [
      | inl read ↦ inl (read.0, read.1)
      | inr refused ↦ inr (refused.0, refused.1)
    ]

pub says_read : (t : Topology) (pages : ℕ) (bytes : List ℕ) (script : Script) → Says t pages bytes script → script_in t pages bytes ≡ Ok script
unfolding script_in
says_read t pages bytes script s = let none : first_fault (checks t pages bytes) ≡ None = no_fault (checks t pages bytes) s.pass in rw (none, s.is) refl

pub refused_read : (t : Topology) (pages : ℕ) (bytes : List ℕ) (refusal : ScriptError) → IsFirst (checks t pages bytes) refusal → script_in t pages bytes ≡ Err refusal
unfolding script_in
refused_read t pages bytes refusal f = let some : first_fault (checks t pages bytes) ≡ Some refusal = fault_from_first (checks t pages bytes) refusal f in rw some refl

pub read_says : (t : Topology) (pages : ℕ) (bytes : List ℕ) (script : Script) → script_in t pages bytes ≡ Ok script → Says t pages bytes script
read_says t pages bytes script h =
    elim (text_is t pages bytes) [
      | inl read ↦ let same : script ≡ read.0 = cc (sym h ∙ read.2) in rw same read.1
      | inr refused ↦ absurd (cc (sym h ∙ refused.2))
    ]

pub read_refused : (t : Topology) (pages : ℕ) (bytes : List ℕ) (refusal : ScriptError) → script_in t pages bytes ≡ Err refusal → IsFirst (checks t pages bytes) refusal
read_refused t pages bytes refusal h =
    elim (text_is t pages bytes) [
      | inl read ↦ absurd (cc (sym h ∙ read.2))
      | inr refused ↦ let same : refusal ≡ refused.0 = cc (sym h ∙ refused.2) in rw same refused.1
    ]
