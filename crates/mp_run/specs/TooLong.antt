-- Files that are longer than a file may be.
use Rattle.std.specs.Prelude.{◌≡◌, ◌⊎◌, ◌<◌, ℕ, List, length, Option, Some, None}
use Rattle.mp_io.specs.Files.{Files, file_at}
use Rattle.mp_run.specs.Forms.{Names, Form, serial, pages, help, version}
use Rattle.mp_run.specs.Outcome.{IsRead}

-- the file is there, and has more bytes than a file may have
abbrev pub IsLong : Files → List ℕ → Type 0
IsLong files name = (bytes : List ℕ) × (file_at files name ≡ Some bytes) × (16777216 < length bytes)

-- of the three files of a run, that with number i is too long, and those before it were read
abbrev pub IsLongOf : Files → Names → ℕ → Type 0
IsLongOf files names i =
    ((i ≡ 1) × IsLong files names.topology)
    ⊎ (((i ≡ 2) × IsRead files 1 names.topology × IsLong files names.boxes)
    ⊎ ((i ≡ 3) × IsRead files 1 names.topology × IsRead files 2 names.boxes × IsLong files names.script))

-- of the files that a form reads, that with number i is too long, and those before it were read
abbrev pub IsTooLong : Files → Option Form → ℕ → Type 0
IsTooLong files (Some (serial names)) i = IsLongOf files names i
IsTooLong files (Some (pages name max)) i = (i ≡ 1) × IsLong files name
IsTooLong files (Some help) i = ⊥
IsTooLong files (Some version) i = ⊥
IsTooLong files None i = ⊥
