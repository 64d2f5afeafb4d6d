-- The text that tells of log pages, line by line. Its form is this project's own; the ANA states have the names of NVM
-- Express Base Specification 2.0, "Asymmetric Namespace Access".
use Rattle.std.specs.Prelude.{ℕ, suc, List, [], ◌∷◌, ◌++◌, codes, length, Result, Ok, Err}
use Rattle.std.specs.List.{flat_map}
use Rattle.std.specs.Fmt.{decimal}
use Rattle.mp_words.specs.Names.{state_word, page_check_word}
use Rattle.mp_page.specs.declared.page.Group.{Group}
use Rattle.mp_page.specs.declared.page.Page.{Page}
use Rattle.mp_page.specs.declared.page.PageError.{PageError}
use Rattle.mp_page.specs.declared.page.PageError.TheVariants.{ShortHeader, ShortDescriptor, GroupZero, GroupAbove, StateBad, ShortList, NoMemory}
use Rattle.mp_page.specs.Page.{page_in}

-- a comma and a further number of a list
abbrev pub next_word : ℕ → List ℕ
next_word n = codes "," ++ decimal n

-- numbers joined by commas, or a dash
abbrev pub numbers_word : List ℕ → List ℕ
numbers_word [] = codes "-"
numbers_word (n ∷ ns) = decimal n ++ flat_map next_word ns

-- the name of the check that a page fails; want of memory is no check and has none
abbrev pub kind_word : PageError → List ℕ
kind_word (ShortHeader offset) = page_check_word 1
kind_word (ShortDescriptor offset) = page_check_word 2
kind_word (GroupZero offset) = page_check_word 3
kind_word (GroupAbove offset) = page_check_word 4
kind_word (StateBad offset) = page_check_word 5
kind_word (ShortList offset) = page_check_word 6
kind_word NoMemory = []

-- where the header or descriptor stands that fails it
abbrev pub offset_of : PageError → ℕ
offset_of (ShortHeader offset) = offset
offset_of (ShortDescriptor offset) = offset
offset_of (GroupZero offset) = offset
offset_of (GroupAbove offset) = offset
offset_of (StateBad offset) = offset
offset_of (ShortList offset) = offset
offset_of NoMemory = 0

-- the line of a descriptor
abbrev pub group_line : Group → List ℕ
group_line group =
    codes "group " ++ decimal group.id ++ codes " " ++ decimal group.changes ++ codes " "
    ++ state_word group.state ++ codes " " ++ numbers_word group.nsids ++ codes "\n"

-- the page in the box of this number and length, with its descriptors
abbrev pub page_lines : ℕ → ℕ → Page → List ℕ
page_lines box size page =
    codes "page " ++ decimal box ++ codes " " ++ decimal size ++ codes " " ++ decimal page.changes ++ codes " "
    ++ decimal (length page.groups) ++ codes "\n"
    ++ flat_map group_line page.groups

-- the line of a box whose page is refused
abbrev pub refused_line : ℕ → PageError → List ℕ
refused_line box refusal =
    codes "page " ++ decimal box ++ codes " refused " ++ kind_word refusal ++ codes " "
    ++ decimal (offset_of refusal) ++ codes "\n"

-- what is told of the box of this number and length
abbrev pub box_lines : ℕ → ℕ → Result Page PageError → List ℕ
box_lines box size (Ok page) = page_lines box size page
box_lines box size (Err refusal) = refused_line box refusal

-- what is told of boxes, counted from a number, under a bound on their groups
abbrev pub lines_from : ℕ → ℕ → List (List ℕ) → List ℕ
lines_from max n [] = []
lines_from max n (box ∷ boxes) = box_lines n (length box) (page_in max box) ++ lines_from max (suc n) boxes

-- the text for all boxes
unfoldable pub pages_text : ℕ → List (List ℕ) → List ℕ
pages_text max boxes = lines_from max 0 boxes ++ codes "end\n"
