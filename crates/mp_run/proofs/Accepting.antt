-- Words and files that are accepted have a text.
use Rattle.std.proofs.Common.{◌≡◌, ℕ, nat_le, true, false, List, length, Option, Some, None, Result, Ok, refl}
use Rattle.std.proofs.lemmas.Bool.{le-leb}
use Rattle.mp_io.specs.Files.{Files}
use Rattle.mp_page.specs.Text.{pages_text}
use Rattle.mp_record.specs.RunView.{RunView, noted}
use Rattle.mp_record.specs.RunText.{run_text}
use Rattle.mp_run.specs.declared.status.Status.{Status}
use Rattle.mp_run.specs.declared.status.Status.TheVariants as end
use Rattle.mp_run.specs.Accepted.{Holds, AcceptsFiles, AcceptsRun, AcceptsPages, Accepts, IsDone, run_asked}
use Rattle.mp_run.specs.Forms.{Names, Form, serial, pages, help, version}
use Rattle.mp_run.specs.Help.{help_text, version_text}
use Rattle.mp_run.specs.Outcome.{read_of, text_or, serial_text, serial_for, serial_in, pages_for, pages_in, for_form, Answers}

abbrev HasText : Result (List ℕ) Status → Type 0
HasText read = (text : List ℕ) × (read ≡ Ok text)

found_within : (i : ℕ) (files : Files) (name : List ℕ) (h : Holds files name) → read_of files i name ≡ Ok h.bytes
found_within i files name h = let b : nat_le (length h.bytes) 16777216 ≡ true = le-leb _ _ h.within in rw (h.there, b) refl

-- what the files of an accepted run give, up to its run
pub serial_asked : (files : Files) (names : Names) (a : AcceptsFiles files names) (r : Result RunView ℕ) → run_asked files names a ≡ r
    → serial_in files names ≡ text_or (record { topology = a.topology; pages = a.boxes }) r
unfolding serial_in serial_for serial_text
serial_asked files names a r is =
    let t : read_of files 1 names.topology ≡ Ok a.topology_file.bytes = found_within 1 files names.topology a.topology_file in
    let p : read_of files 2 names.boxes ≡ Ok a.boxes_file.bytes = found_within 2 files names.boxes a.boxes_file in
    let s : read_of files 3 names.script ≡ Ok a.script_file.bytes = found_within 3 files names.script a.script_file in
    rw (t, p, s, a.topology_read, a.boxes_read, a.fit, a.script_read, is) refl

serial_has : (files : Files) (names : Names) → AcceptsRun files names → HasText (serial_in files names)
serial_has files names a = (run_text a.read.topology (noted false a.run), serial_asked files names a.read (Ok a.run) a.paid)

pages_has : (files : Files) (name : List ℕ) (max : ℕ) → AcceptsPages files name → HasText (pages_in files name max)
unfolding pages_in pages_for
pages_has files name max a =
    let p : read_of files 1 name ≡ Ok a.boxes_file.bytes = found_within 1 files name a.boxes_file in
    (pages_text max a.boxes, rw (p, a.boxes_read) refl)

outcome_has : (files : Files) (form : Option Form) → Accepts files form → HasText (for_form files form)
outcome_has files None a = absurd a
outcome_has files (Some (serial names)) a = serial_has files names a
outcome_has files (Some (pages name max)) a = pages_has files name max a
outcome_has files (Some help) a = (help_text, refl)
outcome_has files (Some version) a = (version_text, refl)

done : (read : Result (List ℕ) Status) (text : List ℕ) (old new : Option (List ℕ)) (status : Status) → read ≡ Ok text → Answers read old new status
    → ((i : ℕ) → status ≡ end.ReadFault i → ⊥) → (status ≡ end.WriteFault → ⊥) → IsDone status
done read text old new end.Ok is told reads writes = tt
done read text old new end.NoMemory is told reads writes = tt
done read text old new (end.ReadFault i) is told reads writes = reads i refl
done read text old new end.WriteFault is told reads writes = writes refl
done read text old new end.Usage is told reads writes = absurd cc
done read text old new (end.Topology e) is told reads writes = absurd cc
done read text old new (end.Script e) is told reads writes = absurd cc
done read text old new (end.Boxes e) is told reads writes = absurd cc
done read text old new (end.TooLong i) is told reads writes = absurd cc
done read text old new (end.Spent lane) is told reads writes = absurd cc

pub told_done : (files : Files) (form : Option Form) (old new : Option (List ℕ)) (status : Status) → Accepts files form → Answers (for_form files form) old new status
    → ((i : ℕ) → status ≡ end.ReadFault i → ⊥) → (status ≡ end.WriteFault → ⊥) → IsDone status
told_done files form old new status a told reads writes =
    let has = outcome_has files form a in
    done (for_form files form) has.0 old new status has.1 told reads writes
