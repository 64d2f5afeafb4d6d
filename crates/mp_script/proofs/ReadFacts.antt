-- What holds of a text that passes the checks.
use Rattle.std.proofs.Common.{◌≡◌, ℕ, List, Option, Some, None, Result, Ok, Err, refl, sym, ◌∙◌}
use Rattle.std.specs.Prelude.{IfOk, IfErr}
use Rattle.mp_checks.specs.Checks.{first_fault, each_from, or_else, Reads}
use Rattle.mp_checks.proofs.CheckLaws.{fault_append, each_least}
use Rattle.mp_topology.specs.declared.topology.Topology.{Topology}
use Rattle.mp_script.specs.Splitting.{lines_of}
use Rattle.mp_script.specs.Script.{checks, script_of, IsLeastFault}
use Rattle.mp_script.specs.Lines.{byte_checks, line_checks}
use Rattle.mp_script.specs.declared.errors.ScriptError.{ScriptError}
use Rattle.mp_script.specs.declared.errors.ScriptError.TheVariants.{NoMemory}
use Rattle.mp_script.specs.declared.script.Script.{Script}
use Rattle.mp_script.specs.Facts.{IsScript, IsOver}
use Rattle.mp_script.proofs.Over.{over_facts}
use Rattle.mp_script.proofs.Holding.{script_facts}

-- ---- which check fails

none_parts : {E : Type 0} (a b : Option E) → or_else a b ≡ None → (a ≡ None) × (b ≡ None)
none_parts None b e = (refl, e)
none_parts (Some x) b e = absurd cc

pub read_least : (t : Topology) (pages : ℕ) (bytes : List ℕ) (r : Result Script ScriptError) (s : Script) → Reads NoMemory r (checks t pages bytes) s
    → IfErr r (λ e. (e ≡ NoMemory → ⊥) → first_fault (each_from byte_checks 0 bytes) ≡ None → IsLeastFault t pages (lines_of bytes) e)
unfolding checks
read_least t pages bytes (Ok v) s read = tt
read_least t pages bytes (Err e) s read = λ ne pass.
    let lines = each_from (line_checks t pages (lines_of bytes)) 0 (lines_of bytes) in
    let fault : first_fault lines ≡ Some e = rw (fault_append (each_from byte_checks 0 bytes) lines, pass) at (read ne) in
    each_least (line_checks t pages (lines_of bytes)) (lines_of bytes) e fault

-- the lines of a text that passes have no fault
pub pass_parts : (t : Topology) (pages : ℕ) (bytes : List ℕ) → first_fault (checks t pages bytes) ≡ None
    → first_fault (each_from (line_checks t pages (lines_of bytes)) 0 (lines_of bytes)) ≡ None
unfolding checks
pass_parts t pages bytes pass =
    let lines = each_from (line_checks t pages (lines_of bytes)) 0 (lines_of bytes) in
    (none_parts (first_fault (each_from byte_checks 0 bytes)) (first_fault lines) (sym (fault_append (each_from byte_checks 0 bytes) lines) ∙ pass)).1

pub read_facts : (t : Topology) (pages : ℕ) (bytes : List ℕ) (r : Result Script ScriptError) → Reads NoMemory r (checks t pages bytes) (script_of t.controllers (lines_of bytes)) → IfOk r (λ s. IsScript s × IsOver t pages s)
read_facts t pages bytes (Ok v) read =
    let lines = pass_parts t pages bytes read.0 in
    rw read.1 (script_facts t pages (lines_of bytes) lines, over_facts t pages (lines_of bytes) lines)
read_facts t pages bytes (Err e) read = tt

pub ok_each : {V E : Type 0} (r : Result V E) (P Q : V → Type 0) → IfOk r (λ v. P v × Q v) → IfOk r P × IfOk r Q
ok_each (Ok v) P Q h = h
ok_each (Err e) P Q h = (tt, tt)
