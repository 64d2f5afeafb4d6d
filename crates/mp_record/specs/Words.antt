-- How the run text writes what a row, an order and an entry have.
use Rattle.std.specs.Prelude.{ℕ, Bool, ◌||◌, List, [], ◌++◌, codes, if◌then◌else◌}
use Rattle.std.specs.Fmt.{decimal}
use Rattle.mp_words.specs.declared.row.Row.{Row}
use Rattle.mp_words.specs.declared.entry.Grace.{Grace}
use Rattle.mp_words.specs.declared.entry.Grace.TheVariants as grace
use Rattle.mp_words.specs.declared.op.Maker.{Maker}
use Rattle.mp_words.specs.declared.op.Maker.TheVariants.{Start, Line, Hop}
use Rattle.mp_words.specs.Names.{cstate_word, state_word}
use Rattle.mp_words.specs.Row.{is_given}
use Rattle.mp_topology.specs.Names.{name_of}
use Rattle.mp_topology.specs.declared.topology.Topology.{Topology}

-- the comma before a further item of a list
abbrev pub comma : Bool → List ℕ
comma further = if further then codes "," else []

-- the dash of a list without items
abbrev pub dash : Bool → List ℕ
dash further = if further then [] else codes "-"

-- the letter of a grace period
abbrev pub grace_word : Grace → List ℕ
grace_word grace.A = codes "a"
grace_word grace.B = codes "b"

-- a letter, where its flag is on
abbrev pub letter : Bool → List ℕ → List ℕ
letter on text = if on then text else []

-- some flag of the row is on
abbrev pub has_flag : Row → Bool
has_flag row = row.pending || row.ready || row.armed || row.marked || row.ana

-- the letters of the flags that are on, or a dash
abbrev pub flags_word : Row → List ℕ
flags_word row =
    if has_flag row then
    letter row.pending (codes "p") ++ letter row.ready (codes "r") ++ letter row.armed (codes "a") ++ letter row.marked (codes "m") ++ letter row.ana (codes "n")
    else codes "-"

-- who made a version: the opening, a line of a lane, or a try of a request
abbrev pub maker_word : Maker → List ℕ
maker_word Start = codes "open"
maker_word (Line lane line) = decimal lane ++ codes "." ++ decimal line
maker_word (Hop lane req hop) = decimal lane ++ codes "/" ++ decimal req ++ codes "." ++ decimal hop

-- a path's controller, its state, the ANA state and the flags; or that the slot is free
abbrev pub path_word : Topology → Row → List ℕ
path_word t row =
    if is_given row then name_of t row.ctrl ++ codes " " ++ cstate_word row.cstate ++ codes " " ++ state_word row.state ++ codes " " ++ flags_word row
    else codes "free"
