-- The forms of the program's words.
use Rattle.std.specs.Prelude.{[], ℕ, List, ◌∷◌, Option, Some, None, nat_le, ◌&&◌, codes, option_and_then, if◌then◌else◌}
use Rattle.std.specs.Str.{bytes_eq}
use Rattle.mp_checks.specs.Digits.{number_of}

-- the names of the topology, the boxes and the script
pub record Names : Type 0 where
  pub topology : List ℕ
  pub boxes : List ℕ
  pub script : List ℕ

-- What words ask for: a run on one thread of three files, the text of the pages of a file under a bound on their
-- groups, the help, or the version.
pub data Form : Type 0 where
  serial : Names → Form
  pages : List ℕ → ℕ → Form
  help : Form
  version : Form

-- an ANA group identifier
abbrev pub in_bound : ℕ → Option ℕ
in_bound n = if nat_le 1 n && nat_le n 4294967295 then Some n else None

-- one to ten digits that say one
abbrev pub bound_in : List ℕ → Option ℕ
bound_in digits = option_and_then in_bound (number_of digits)

-- the form of a word alone
abbrev pub option_form : List ℕ → Option Form
option_form word =
    if bytes_eq word (codes "--help") then Some help
    else (if bytes_eq word (codes "--version") then Some version
    else None)

-- the form of the text of pages under a bound, if there is one
abbrev pub pages_form : List ℕ → Option ℕ → Option Form
pages_form p None = None
pages_form p (Some max) = Some (pages p max)

-- the form of the words, if they have one
abbrev pub form_of : List (List ℕ) → Option Form
form_of (word ∷ []) = option_form word
form_of (form ∷ p ∷ max ∷ []) = if bytes_eq form (codes "pages") then pages_form p (bound_in max) else None
form_of (form ∷ t ∷ p ∷ s ∷ []) =
    if bytes_eq form (codes "serial") then Some (serial (record { topology = t; boxes = p; script = s })) else None
form_of _ = None
