-- What the top call asks of the folder and of the sink, by how it ended.
use Rattle.std.specs.Prelude.{[], ◌≡◌, ◌≤◌, ℕ, ◌+◌, ◌-◌, List, ◌∷◌, ◌++◌, take, drop, length, Option, Some, None, Result, Ok, Err}
use Rattle.mp_run.specs.declared.status.Status.{Status}
use Rattle.mp_run.specs.declared.status.Status.TheVariants as end
use Rattle.mp_run.specs.Forms.{Form, serial, pages, help, version}

-- the names of the files of a form, in the order of their numbers; without a form there are none
abbrev pub files_of : Option Form → List (List ℕ)
files_of (Some (serial names)) = names.topology ∷ names.boxes ∷ names.script ∷ []
files_of (Some (pages name max)) = name ∷ []
files_of (Some help) = []
files_of (Some version) = []
files_of None = []

-- There is a file with this number, counted from 1, and the files up to it were read in turn, and nothing else.
pub record ReadsUpTo (names : List (List ℕ)) (i : ℕ) (old new : List (List ℕ)) : Type 0 where
  pub low : 1 ≤ i
  pub high : i ≤ length names
  pub read : new ≡ old ++ take i names

-- What was read in a call that ended so, where the form's files have these names: up to the file that couldn't be read
-- or is too long; a front of the files where memory ran out; none for wrong usage; and else all, each once and in turn.
abbrev pub Reads : List (List ℕ) → Status → List (List ℕ) → List (List ℕ) → Type 0
Reads names (end.ReadFault i) old new = ReadsUpTo names i old new
Reads names (end.TooLong i) old new = ReadsUpTo names i old new
Reads names end.NoMemory old new = (n : ℕ) × (new ≡ old ++ take n names)
Reads names end.Usage old new = new ≡ old
Reads names status old new = new ≡ old ++ names

-- the name of the file with this number, alone
abbrev pub name_with : ℕ → List (List ℕ) → List (List ℕ)
name_with i names = take 1 (drop (i - 1) names)

-- The reads that failed in a call that ended so: with a read fault that of the file which it names, and else none.
abbrev pub Fails : List (List ℕ) → Status → List (List ℕ) → List (List ℕ) → Type 0
Fails names (end.ReadFault i) old new = new ≡ old ++ name_with i names
Fails names status old new = new ≡ old

-- How often the sink was called in a call that ended so: once where it took the text or failed, at most once where
-- memory ran out, and else never.
abbrev pub Puts : Status → ℕ → ℕ → Type 0
Puts end.Ok old new = new ≡ old + 1
Puts end.WriteFault old new = new ≡ old + 1
Puts end.NoMemory old new = (old ≤ new) × (new ≤ old + 1)
Puts status old new = new ≡ old

-- how a call ended that gave this, where it goes on with what was given
abbrev pub status_of : {T : Type 0} → Result T Status → Status
status_of (Ok x) = end.Ok
status_of (Err status) = status

-- the names of the reads that failed, after one more read of this name that gave this
abbrev pub failed_by : {T : Type 0} → List (List ℕ) → List ℕ → Result T Status → List (List ℕ)
failed_by before name (Err (end.ReadFault i)) = before ++ name ∷ []
failed_by before name _ = before
