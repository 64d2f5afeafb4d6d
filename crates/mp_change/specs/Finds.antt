-- The first listed path of a controller.
use Rattle.std.specs.Prelude.{◌≡◌, ℕ, ◌<◌, ◌==◌, Bool, true, false, Option, None, Some}
use Rattle.mp_words.specs.declared.row.Row.{Row}
use Rattle.mp_words.specs.declared.note.Note.{Note}
use Rattle.mp_core.specs.declared.view.Section.{Section}
use Rattle.mp_core.specs.Core.{Core}
use Rattle.mp_core.specs.Reads.{LoadsRows, slot_of, row_of_place, is_read}
use Rattle.mp_change.specs.declared.find.Found.{Found}

-- The row is the controller's.
abbrev pub is_of : ℕ → Row → Bool
is_of ctrl row = row.ctrl == ctrl

-- The rows at the first places were loaded, and none is the controller's.
abbrev pub NoneUpto : ℕ → ℕ → Note → Type 0
NoneUpto ctrl upto n = (place : ℕ) → place < upto → (is_read n place ≡ true) × (is_of ctrl (row_of_place n.reading place) ≡ false)

-- The slot is the first listed one whose row, as it was loaded, is the controller's; the rows before it were loaded too.
pub record IsFirst (ctrl : ℕ) (n : Note) (slot : ℕ) (row : Row) : Type 0 where
  pub place : ℕ
  pub listed : place < n.reading.len
  pub read : is_read n place ≡ true
  pub before : NoneUpto ctrl place n
  pub slot_is : slot ≡ slot_of n.reading place
  pub row_is : row ≡ row_of_place n.reading place
  pub own : is_of ctrl row ≡ true

-- What a search found by what its note has loaded: the first row of the controller's, or none among all listed ones.
abbrev pub FoundSo : ℕ → Note → Option Found → Type 0
FoundSo ctrl n None = NoneUpto ctrl n.reading.len n
FoundSo ctrl n (Some f) = IsFirst ctrl n f.slot f.row

-- Rows were loaded in list order up to the first that is the controller's: where a row was loaded, those before it were, and
-- none of them is the controller's.
abbrev pub ReadsUpto : ℕ → Note → Type 0
ReadsUpto ctrl n = (place : ℕ) → is_read n place ≡ true → NoneUpto ctrl place n

-- Rows were loaded in list order, up to the first that is the controller's.
pub record Finds (ctrl : ℕ) (a b : Core) (s t : Section) (result : Option Found) : Type 0 where
  pub upto : ℕ
  pub loads : LoadsRows upto a b s t
  pub found : FoundSo ctrl t.note result
  pub just : (place : ℕ) → is_read s.note place ≡ false → is_read t.note place ≡ true → NoneUpto ctrl place t.note
