-- What a call asks of the folder.
use Rattle.std.proofs.Common.{[], ◌≡◌, ◌≤◌, ℕ, List, ◌∷◌, ◌++◌, append_assoc, take, length, Result, Ok, Err, sym, ap, ◌∙◌, arith, take_all}
use Rattle.std.specs.Prelude.{IfErr}
use Rattle.mp_run.specs.declared.status.Status.{Status}
use Rattle.mp_run.specs.declared.status.Status.TheVariants as end
use Rattle.mp_run.specs.Outcome.{IsReadStatus, IsTextStatus}
use Rattle.mp_run.specs.Outside.{Reads, status_of}

-- the read of a file ended the call, and the files before it were read
pub reads_refused : (names : List (List ℕ)) (file : ℕ) (status : Status) (old new : List (List ℕ)) → IsReadStatus file status → 1 ≤ file → file ≤ length names
    → new ≡ old ++ take file names → Reads names status old new
reads_refused names file end.NoMemory old new refused low high read = (file, read)
reads_refused names file (end.ReadFault i) old new refused low high read =
    record { low = omega (arith, refused, low); high = omega (arith, refused, high); read = read ∙ ap (λ n. old ++ take n names) (sym refused) }
reads_refused names file (end.TooLong i) old new refused low high read =
    record { low = omega (arith, refused, low); high = omega (arith, refused, high); read = read ∙ ap (λ n. old ++ take n names) (sym refused) }
reads_refused names file end.Ok old new refused low high read = absurd refused
reads_refused names file end.Usage old new refused low high read = absurd refused
reads_refused names file end.WriteFault old new refused low high read = absurd refused
reads_refused names file (end.Topology e) old new refused low high read = absurd refused
reads_refused names file (end.Script e) old new refused low high read = absurd refused
reads_refused names file (end.Boxes e) old new refused low high read = absurd refused
reads_refused names file (end.Spent lane) old new refused low high read = absurd refused

-- memory ran out once all files were read
pub reads_ran_out : (names old new : List (List ℕ)) → new ≡ old ++ names → Reads names end.NoMemory old new
reads_ran_out names old new read = (length names, read ∙ ap (λ ns. old ++ ns) (sym (take_all (length names) names (omega arith))))

reads_status : (names : List (List ℕ)) (status : Status) (old new : List (List ℕ)) → IsTextStatus status → new ≡ old ++ names → Reads names status old new
reads_status names end.NoMemory old new refused read = reads_ran_out names old new read
reads_status names (end.Topology e) old new refused read = read
reads_status names (end.Script e) old new refused read = read
reads_status names (end.Boxes e) old new refused read = read
reads_status names (end.Spent lane) old new refused read = read
reads_status names (end.ReadFault i) old new refused read = absurd refused
reads_status names (end.TooLong i) old new refused read = absurd refused
reads_status names end.Ok old new refused read = absurd refused
reads_status names end.Usage old new refused read = absurd refused
reads_status names end.WriteFault old new refused read = absurd refused

-- all files were read, and then a text was made or refused
pub reads_all : {T : Type 0} (names : List (List ℕ)) (r : Result T Status) (old new : List (List ℕ)) → IfErr r IsTextStatus → new ≡ old ++ names → Reads names (status_of r) old new
reads_all names (Ok text) old new refused read = read
reads_all names (Err status) old new refused read = reads_status names status old new refused read

-- two files were read in turn
pub two_read : (x y : List ℕ) (old : List (List ℕ)) {first second : List (List ℕ)} → first ≡ old ++ x ∷ [] → second ≡ first ++ y ∷ [] → second ≡ old ++ x ∷ y ∷ []
two_read x y old one two = two ∙ ap (λ names. names ++ y ∷ []) one ∙ append_assoc old (x ∷ []) (y ∷ [])

-- three files were read in turn
pub three_read : (x y z : List ℕ) (old : List (List ℕ)) {first second third : List (List ℕ)} → first ≡ old ++ x ∷ [] → second ≡ first ++ y ∷ []
    → third ≡ second ++ z ∷ [] → third ≡ old ++ x ∷ y ∷ z ∷ []
three_read x y z old one two three =
    three ∙ ap (λ names. names ++ z ∷ []) (two_read x y old one two) ∙ append_assoc old (x ∷ y ∷ []) (z ∷ [])
