-- A file of boxes, each with the bytes of one log page: a length as four bytes, little endian, and then so many bytes.
-- The form is this project's own.
use Rattle.std.specs.Prelude.{◌≡◌, ◌⊎◌, ℕ, zero, suc, ◌+◌, ◌<◌, ◌≤◌, Bool, false, nat_le, List, [], ◌∷◌, ◌++◌, length, take, drop, Some, Result}
use Rattle.mp_checks.specs.Checks.{first_fault, value_unless}
use Rattle.mp_page.specs.declared.boxes.BoxError.{BoxError}
use Rattle.mp_page.specs.declared.boxes.BoxError.TheVariants.{TooMany, ShortBox, LongBox}
use Rattle.mp_page.specs.Page.{number}

-- the bytes in the box at the front
abbrev pub box_of : List ℕ → List ℕ
box_of rest = take (number 0 4 rest) (drop 4 rest)

-- the bytes that the box at the front takes, with its length
abbrev pub box_size : List ℕ → ℕ
box_size rest = 4 + number 0 4 rest

-- boxes up to the end, or so many as may come
abbrev pub boxes_of : ℕ → List ℕ → List (List ℕ)
boxes_of left [] = []
boxes_of zero (b ∷ bs) = []
boxes_of (suc left) (b ∷ bs) = box_of (b ∷ bs) ∷ boxes_of left (drop (box_size (b ∷ bs)) (b ∷ bs))

-- the checks of a box that stands at an offset
abbrev pub box_checks : ℕ → List ℕ → List (Bool × BoxError)
box_checks offset rest =
    (nat_le 4 (length rest), ShortBox offset)
    ∷ (nat_le (number 0 4 rest) 65536, LongBox offset)
    ∷ (nat_le (box_size rest) (length rest), ShortBox offset)
    ∷ []

-- the checks of boxes up to the end, of which only so many may come, the first at an offset
abbrev pub boxes_checks : ℕ → ℕ → List ℕ → List (Bool × BoxError)
boxes_checks left offset [] = []
boxes_checks zero offset (b ∷ bs) = (false, TooMany) ∷ []
boxes_checks (suc left) offset (b ∷ bs) =
    box_checks offset (b ∷ bs) ++ boxes_checks left (offset + box_size (b ∷ bs)) (drop (box_size (b ∷ bs)) (b ∷ bs))

-- the boxes of a file that may have so many, or the refusal of the first check that fails
abbrev pub boxes_up_to : ℕ → List ℕ → Result (List (List ℕ)) BoxError
boxes_up_to most bytes = value_unless (first_fault (boxes_checks most 0 bytes)) (boxes_of most bytes)

-- the boxes of a file, which may have 1,024, or the refusal of the first check that fails
unfoldable pub boxes_in : List ℕ → Result (List (List ℕ)) BoxError
boxes_in bytes = boxes_up_to 1024 bytes

-- the box at the front has these bytes
pub record IsBox (rest box : List ℕ) : Type 0 where
  pub header : 4 ≤ length rest
  pub count : number 0 4 rest ≡ length box
  pub within : length box ≤ 65536
  pub fits : 4 + length box ≤ length rest
  pub bytes : take (length box) (drop 4 rest) ≡ box

-- the rest begins with these boxes, one after the other; any rest does with none
abbrev pub AreBoxes : List ℕ → List (List ℕ) → Type 0
AreBoxes rest [] = Unit {0}
AreBoxes rest (box ∷ boxes) = IsBox rest box × AreBoxes (drop (4 + length box) rest) boxes

-- the bytes that these boxes take, with their lengths
abbrev pub boxes_size : List (List ℕ) → ℕ
boxes_size [] = 0
boxes_size (box ∷ boxes) = 4 + length box + boxes_size boxes

-- the bytes of a file that may have so many boxes are these
pub record AreAll (most : ℕ) (bytes : List ℕ) (boxes : List (List ℕ)) : Type 0 where
  pub count : length boxes ≤ most
  pub each : AreBoxes bytes boxes
  pub all : boxes_size boxes ≡ length bytes

-- the bytes are a file of these boxes
abbrev pub IsFile : List ℕ → List (List ℕ) → Type 0
IsFile bytes boxes = AreAll 1024 bytes boxes

-- The first box that is refused in a file that may have so many, and why: bytes remain behind boxes that are as they
-- should be, and either there are as many of these as may be, or the refusal is that of the first of the next one's
-- checks that fails.
pub record IsBoxRefused (most : ℕ) (bytes : List ℕ) (refusal : BoxError) : Type 0 where
  pub before : List (List ℕ)
  pub are : AreBoxes bytes before
  pub more : boxes_size before < length bytes
  pub fails : ((length before ≡ most) × (refusal ≡ TooMany))
      ⊎ ((length before < most)
      × (first_fault (box_checks (boxes_size before) (drop (boxes_size before) bytes)) ≡ Some refusal))

-- the bytes are no file, and why
abbrev pub IsFileRefused : List ℕ → BoxError → Type 0
IsFileRefused bytes refusal = IsBoxRefused 1024 bytes refusal
