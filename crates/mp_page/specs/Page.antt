-- What bytes read as, taken for log page 0Ch (NVM Express Base Specification 2.0, "Asymmetric Namespace Access"): a
-- header of 16 bytes, then ANA group descriptors of 32 bytes, each with its list of namespace identifiers of 4 bytes.
-- All numbers are little endian.
use Rattle.std.specs.Prelude.{ℕ, zero, suc, ◌+◌, ◌*◌, Bool, not, nat_le, ◌==◌, List, [], ◌∷◌, ◌++◌, length, drop, slice_index, Result}
use Rattle.byteorder.specs.Endian.{little_number}
use Rattle.mp_checks.specs.Checks.{first_fault, value_unless}
use Rattle.mp_page.specs.declared.page.Group.{Group}
use Rattle.mp_page.specs.declared.page.Page.{Page}
use Rattle.mp_page.specs.declared.page.PageError.{PageError}
use Rattle.mp_page.specs.declared.page.PageError.TheVariants.{ShortHeader, ShortDescriptor, GroupZero, GroupAbove, StateBad, ShortList}

-- the number in the n bytes from a place
unfoldable pub number : ℕ → ℕ → List ℕ → ℕ
number place n bytes = little_number n (drop place bytes)

-- so many numbers of 4 bytes each from a place
abbrev pub numbers : ℕ → ℕ → List ℕ → List ℕ
numbers zero place bytes = []
numbers (suc n) place bytes = number place 4 bytes ∷ numbers n (place + 4) bytes

-- the descriptor at the front
abbrev pub group_of : List ℕ → Group
group_of rest = record {
  id = number 0 4 rest;
  changes = number 8 8 rest;
  state = slice_index rest 16;
  nsids = numbers (number 4 4 rest) 32 rest;
}

-- the bytes that the descriptor at the front takes, with its list
abbrev pub size_of : List ℕ → ℕ
size_of rest = 32 + 4 * number 4 4 rest

-- so many descriptors, one after the other
abbrev pub groups_of : ℕ → List ℕ → List Group
groups_of zero rest = []
groups_of (suc n) rest = group_of rest ∷ groups_of n (drop (size_of rest) rest)

-- the page that the bytes are where no check fails
abbrev pub page_of : List ℕ → Page
page_of bytes = record { changes = number 0 8 bytes; groups = groups_of (number 8 2 bytes) (drop 16 bytes) }

-- the checks of a descriptor that stands at an offset, where no group is above max
abbrev pub group_checks : ℕ → ℕ → List ℕ → List (Bool × PageError)
group_checks max offset rest =
    (nat_le 32 (length rest), ShortDescriptor offset)
    ∷ (not (number 0 4 rest == 0), GroupZero offset)
    ∷ (nat_le (number 0 4 rest) max, GroupAbove offset)
    ∷ (not (slice_index rest 16 == 0), StateBad offset)
    ∷ (nat_le (slice_index rest 16) 15, StateBad offset)
    ∷ (nat_le (size_of rest) (length rest), ShortList offset)
    ∷ []

-- the checks of n descriptors, the first of which stands at an offset
abbrev pub groups_checks : ℕ → ℕ → ℕ → List ℕ → List (Bool × PageError)
groups_checks max zero offset rest = []
groups_checks max (suc n) offset rest =
    group_checks max offset rest ++ groups_checks max n (offset + size_of rest) (drop (size_of rest) rest)

-- the checks of a page: its header, then each descriptor in turn
abbrev pub page_checks : ℕ → List ℕ → List (Bool × PageError)
page_checks max bytes =
    (nat_le 16 (length bytes), ShortHeader 0) ∷ groups_checks max (number 8 2 bytes) 16 (drop 16 bytes)

-- the page that the bytes are under a bound on its groups, or the refusal of the first check that fails
unfoldable pub page_in : ℕ → List ℕ → Result Page PageError
page_in max bytes = value_unless (first_fault (page_checks max bytes)) (page_of bytes)
