-- Words and files that are accepted, so that only a fault or want of memory keeps the text from being written.
use Rattle.std.specs.Prelude.{◌≡◌, ◌≤◌, ℕ, List, length, Option, Some, None, Result, Ok, Err}
use Rattle.mp_io.specs.Files.{Files, file_at}
use Rattle.mp_topology.specs.declared.topology.Topology.{Topology}
use Rattle.mp_topology.specs.Topology.{topology_in}
use Rattle.mp_page.specs.Boxes.{boxes_in}
use Rattle.mp_script.specs.declared.script.Script.{Script}
use Rattle.mp_script.specs.Script.{script_in}
use Rattle.mp_record.specs.RunView.{RunView}
use Rattle.mp_legal.specs.Units.{serial_over}
use Rattle.mp_run.specs.declared.status.Status.{Status}
use Rattle.mp_run.specs.declared.status.Status.TheVariants as end
use Rattle.mp_run.specs.Forms.{Names, Form, serial, pages, help, version}
use Rattle.mp_run.specs.Outcome.{fits_in}

-- The file is there, and no longer than a file may be.
pub record Holds (files : Files) (name : List ℕ) : Type 0 where
  pub bytes : List ℕ
  pub there : file_at files name ≡ Some bytes
  pub within : length bytes ≤ 16777216

-- The three files are there, and what they say is accepted.
pub record AcceptsFiles (files : Files) (names : Names) : Type 0 where
  pub topology_file : Holds files names.topology
  pub boxes_file : Holds files names.boxes
  pub script_file : Holds files names.script
  pub topology : Topology
  pub boxes : List (List ℕ)
  pub script : Script
  pub topology_read : topology_in topology_file.bytes ≡ Ok topology
  pub boxes_read : boxes_in boxes_file.bytes ≡ Ok boxes
  pub fit : fits_in topology (length boxes) ≡ Ok tt
  pub script_read : script_in topology (length boxes) script_file.bytes ≡ Ok script

-- The run that accepted files ask for, with 2,097,152 units for each lane and for the drain, or the least lane that is
-- spent.
abbrev pub run_asked : (files : Files) → (names : Names) → AcceptsFiles files names → Result RunView ℕ
run_asked files names a = serial_over 2097152 (record { topology = a.topology; pages = a.boxes }) a.script

-- The three files are there, what they say is accepted, and no lane of the run is spent.
pub record AcceptsRun (files : Files) (names : Names) : Type 0 where
  pub read : AcceptsFiles files names
  pub run : RunView
  pub paid : run_asked files names read ≡ Ok run

-- The three files are there, what they say is accepted, and this is the least lane of the run that is spent.
pub record SpendsRun (files : Files) (names : Names) (lane : ℕ) : Type 0 where
  pub read : AcceptsFiles files names
  pub spent : run_asked files names read ≡ Err lane

-- The words ask for a run whose files are accepted, and this is its least lane that is spent.
abbrev pub Spends : Files → Option Form → ℕ → Type 0
Spends files (Some (serial names)) lane = SpendsRun files names lane
Spends files (Some (pages name max)) lane = ⊥
Spends files (Some help) lane = ⊥
Spends files (Some version) lane = ⊥
Spends files None lane = ⊥

-- The file of boxes is there, and accepted.
pub record AcceptsPages (files : Files) (name : List ℕ) : Type 0 where
  pub boxes_file : Holds files name
  pub boxes : List (List ℕ)
  pub boxes_read : boxes_in boxes_file.bytes ≡ Ok boxes

-- the words are a form, and its files are accepted
abbrev pub Accepts : Files → Option Form → Type 0
Accepts files (Some (serial names)) = AcceptsRun files names
Accepts files (Some (pages name max)) = AcceptsPages files name
Accepts files (Some help) = Unit {0}
Accepts files (Some version) = Unit {0}
Accepts files None = ⊥

-- the text was written, or memory ran out
abbrev pub IsDone : Status → Type 0
IsDone end.Ok = Unit {0}
IsDone end.NoMemory = Unit {0}
IsDone _ = ⊥

-- this status, unless memory ran out or a file couldn't be read
abbrev pub IsUnlessFree : Status → Status → Type 0
IsUnlessFree wanted end.NoMemory = Unit {0}
IsUnlessFree wanted (end.ReadFault i) = Unit {0}
IsUnlessFree wanted status = status ≡ wanted
