-- What the top call answers, where the files are told.
use Rattle.std.specs.Prelude.{◌≡◌, ℕ, ◌<◌, ◌≤◌, List, false, Option, Some, None, Result, Ok, Err, nat_le, length, if◌then◌else◌}
use Rattle.std.specs.Io.KnownBytes.{Appends}
use Rattle.mp_io.specs.Files.{Files, file_at}
use Rattle.mp_io.specs.Taken.{AppendsFront}
use Rattle.mp_topology.specs.declared.topology.Topology.{Topology}
use Rattle.mp_topology.specs.declared.errors.TopologyError.{TopologyError}
use Rattle.mp_topology.specs.Topology.{topology_in}
use Rattle.mp_topology.specs.Fits.{fits_checks}
use Rattle.mp_checks.specs.Checks.{value_unless}
use Rattle.mp_checks.specs.Checks.{first_fault}
use Rattle.mp_page.specs.declared.boxes.BoxError.{BoxError}
use Rattle.mp_page.specs.Boxes.{boxes_in}
use Rattle.mp_page.specs.Text.{pages_text}
use Rattle.mp_record.specs.RunView.{RunView, noted}
use Rattle.mp_record.specs.RunText.{run_text}
use Rattle.mp_script.specs.declared.errors.ScriptError.{ScriptError}
use Rattle.mp_script.specs.declared.script.Script.{Script}
use Rattle.mp_script.specs.declared.script.World.{World}
use Rattle.mp_script.specs.Script.{script_in}
use Rattle.mp_run.specs.declared.status.Status.{Status}
use Rattle.mp_run.specs.declared.status.Status.TheVariants as end
use Rattle.mp_run.specs.Forms.{Names, Form, serial, pages, help, version, form_of}
use Rattle.mp_run.specs.Help.{help_text, version_text}
use Rattle.mp_legal.specs.Units.{serial_over}

infixl 10 ◌>>=◌
-- what follows from a result that is no refusal
abbrev pub ◌>>=◌ : {A B : Type 0} → Result A Status → (A → Result B Status) → Result B Status
(Ok x) >>= f = f x
(Err e) >>= f = Err e

-- the bytes of a file that was found, or the refusal: read fault where there is none, too long above 16,777,216 bytes
abbrev pub read_found : ℕ → Option (List ℕ) → Result (List ℕ) Status
read_found i None = Err (end.ReadFault i)
read_found i (Some bytes) = if nat_le (length bytes) 16777216 then Ok bytes else Err (end.TooLong i)

-- the bytes of the file with number i
abbrev pub read_of : Files → ℕ → List ℕ → Result (List ℕ) Status
read_of files i name = read_found i (file_at files name)

-- a topology, or the status of its refusal
abbrev pub topology_or : {A : Type 0} → Result A TopologyError → Result A Status
topology_or (Ok t) = Ok t
topology_or (Err e) = Err (end.Topology e)

-- whether the page of each controller is among so many boxes, or the first whose page isn't
abbrev pub fits_in : Topology → ℕ → Result (Unit {0}) TopologyError
fits_in t boxes = value_unless (first_fault (fits_checks boxes t.controllers)) tt

-- the boxes, or the status of their refusal
abbrev pub boxes_or : Result (List (List ℕ)) BoxError → Result (List (List ℕ)) Status
boxes_or (Ok boxes) = Ok boxes
boxes_or (Err e) = Err (end.Boxes e)

-- a script, or the status of its refusal
abbrev pub script_or : Result Script ScriptError → Result Script Status
script_or (Ok s) = Ok s
script_or (Err e) = Err (end.Script e)

-- the text of a run of a script without sections and closings, or the status of the lane that is spent
abbrev pub text_or : World → Result RunView ℕ → Result (List ℕ) Status
text_or world (Ok run) = Ok (run_text world.topology (noted false run))
text_or world (Err lane) = Err (end.Spent lane)

-- the text of the run of a script with 2,097,152 units for each lane and for the drain, or the least lane that is spent
unfoldable pub serial_text : World → Script → Result (List ℕ) Status
serial_text world script = text_or world (serial_over 2097152 world script)

-- the text of a run for the bytes of the three files, or the first refusal
unfoldable pub serial_for : List ℕ → List ℕ → List ℕ → Result (List ℕ) Status
serial_for t p s = do
  topology ← topology_or (topology_in t)
  boxes ← boxes_or (boxes_in p)
  _ ← topology_or (fits_in topology (length boxes))
  script ← script_or (script_in topology (length boxes) s)
  serial_text (record { topology = topology; pages = boxes }) script

-- the text of a run of the three files, or the first refusal
unfoldable pub serial_in : Files → Names → Result (List ℕ) Status
serial_in files names = do
  t ← read_of files 1 names.topology
  p ← read_of files 2 names.boxes
  s ← read_of files 3 names.script
  serial_for t p s

-- the text of the pages in the bytes of a file of boxes, or the refusal
unfoldable pub pages_for : List ℕ → ℕ → Result (List ℕ) Status
pages_for p max = do
  boxes ← boxes_or (boxes_in p)
  Ok (pages_text max boxes)

-- the text of the pages of a file of boxes, or the first refusal
unfoldable pub pages_in : Files → List ℕ → ℕ → Result (List ℕ) Status
pages_in files name max = do
  p ← read_of files 1 name
  pages_for p max

-- the text that a form asks for, or the first refusal
abbrev pub text_in : Files → Form → Result (List ℕ) Status
text_in files (serial names) = serial_in files names
text_in files (pages name max) = pages_in files name max
text_in files help = Ok help_text
text_in files version = Ok version_text

-- what the program says of itself, for a form that asks for it
abbrev pub own_text : Option Form → Option (List ℕ)
own_text (Some help) = Some help_text
own_text (Some version) = Some version_text
own_text _ = None

-- the text for a form, and wrong usage without one
abbrev pub for_form : Files → Option Form → Result (List ℕ) Status
for_form files None = Err end.Usage
for_form files (Some form) = text_in files form

-- the text for the words, or the first refusal
abbrev pub outcome : Files → List (List ℕ) → Result (List ℕ) Status
outcome files words = for_form files (form_of words)

-- the file was found, and is no longer than a file may be
abbrev pub IsRead : Files → ℕ → List ℕ → Type 0
IsRead files i name = (bytes : List ℕ) × (read_of files i name ≡ Ok bytes)

-- there is a file with number i of the form, and the files before it were read
abbrev pub AreReadBefore : Files → Form → ℕ → Type 0
AreReadBefore files (serial names) i =
    (1 ≤ i) × (1 < i → IsRead files 1 names.topology) × (2 < i → IsRead files 2 names.boxes) × (i < 4)
AreReadBefore files (pages name max) i = i ≡ 1
AreReadBefore files help i = ⊥
AreReadBefore files version i = ⊥

-- The words are of a form, and the files before the one with this number were read.
abbrev pub BeforeFault : Files → Option Form → ℕ → Type 0
BeforeFault files None i = ⊥
BeforeFault files (Some form) i = AreReadBefore files form i

-- A status that may stand for a refusal: where it isn't want of memory or a fault, it is the first refusal.
abbrev pub Refuses : {T : Type 0} → Status → Result T Status → Type 0
Refuses end.NoMemory read = Unit {0}
Refuses (end.ReadFault i) read = Unit {0}
Refuses status read = read ≡ Err status

-- An answer seen by view is the outcome, unless it is want of memory or a fault.
abbrev pub Gives : {X Y : Type 0} → (X → Y) → Result X Status → Result Y Status → Type 0
Gives view (Ok x) read = read ≡ Ok (view x)
Gives view (Err status) read = Refuses status read

-- The bytes that the sink took, and the status, are those of the outcome.
abbrev pub Answers : Result (List ℕ) Status → Option (List ℕ) → Option (List ℕ) → Status → Type 0
Answers read old new end.Ok = (text : List ℕ) × (read ≡ Ok text) × Appends old new text
Answers read old new end.WriteFault = (text : List ℕ) × (read ≡ Ok text) × AppendsFront old new text
Answers read old new status = Refuses status read

-- A status that the read of the file with this number may give.
abbrev pub IsReadStatus : ℕ → Status → Type 0
IsReadStatus file end.NoMemory = Unit {0}
IsReadStatus file (end.ReadFault i) = i ≡ file
IsReadStatus file (end.TooLong i) = i ≡ file
IsReadStatus file _ = ⊥

-- A status that may be answered once the files are read.
abbrev pub IsTextStatus : Status → Type 0
IsTextStatus end.NoMemory = Unit {0}
IsTextStatus (end.Topology e) = Unit {0}
IsTextStatus (end.Boxes e) = Unit {0}
IsTextStatus (end.Script e) = Unit {0}
IsTextStatus (end.Spent lane) = Unit {0}
IsTextStatus _ = ⊥

-- A status that may be answered to words of a form before anything is written.
abbrev pub IsRunStatus : Status → Type 0
IsRunStatus end.Ok = ⊥
IsRunStatus end.Usage = ⊥
IsRunStatus end.WriteFault = ⊥
IsRunStatus _ = Unit {0}
