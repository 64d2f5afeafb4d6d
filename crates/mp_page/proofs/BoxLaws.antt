-- Boxes, one after the other.
use Rattle.std.proofs.Common.{◌≡◌, ℕ, zero, suc, ◌+◌, ◌-◌, ◌≤◌, ◌<◌, List, [], ◌∷◌, ◌++◌, length, map, drop, Option, Some, None, Result, Ok, Err, refl, sym, ◌∙◌, append_assoc, arith, length-drop}
use Rattle.std.specs.Prelude.{IfOk, Vec}
use Rattle.std.specs.declared.alloc.Global.{Global}
use Rattle.std.specs.List.{All, AllByRecursion}
use Rattle.std.proofs.lemmas.Bool.{leb-true, le-leb}
use Rattle.std.proofs.lemmas.List.{length-take-le, length-map}
use Rattle.std.proofs.lemmas.List.Elements.{All-from_recursion}
use Rattle.mp_checks.specs.Checks.{first_fault, AllPass, Answers, Reads, seen_as}
use Rattle.mp_checks.proofs.CheckLaws.{fault_append, pass_split, pass_join, all_pass, reads_answers}
use Rattle.mp_page.specs.declared.boxes.BoxError.{BoxError}
use Rattle.mp_page.specs.declared.boxes.BoxError.TheVariants.{TooMany, NoMemory}
use Rattle.mp_page.specs.Page.{number}
use Rattle.mp_page.specs.Boxes.{box_of, box_size, boxes_of, box_checks, boxes_checks, boxes_in, IsBox, AreBoxes, boxes_size}

pub length-box : (rest : List ℕ) → box_size rest ≤ length rest → length (box_of rest) ≡ number 0 4 rest
length-box rest le =
    let after : length (drop 4 rest) ≡ length rest - 4 = length-drop 4 rest in
    length-take-le (number 0 4 rest) (drop 4 rest) (omega (arith, after))

-- a box that passes takes what its length says, and that is there
pub box_known : (offset : ℕ) (rest box : List ℕ) → first_fault (box_checks offset rest) ≡ None → box ≡ box_of rest
    → (4 + length box ≡ box_size rest) × (box_size rest ≤ length rest)
box_known offset rest box none is =
    let fits : box_size rest ≤ length rest = leb-true _ _ (all_pass (box_checks offset rest) none).1.1.0 in
    (rw (is, length-box rest fits) refl, fits)

pub checks_more : (left offset : ℕ) (rest : List ℕ) → 0 < length rest → boxes_checks (suc left) offset rest ≡ box_checks offset rest ++ boxes_checks left (offset + box_size rest) (drop (box_size rest) rest)
checks_more left offset [] some = absurd (omega arith)
checks_more left offset (b ∷ bs) some = refl

boxes_more : (left : ℕ) (rest : List ℕ) → 0 < length rest → boxes_of (suc left) rest ≡ box_of rest ∷ boxes_of left (drop (box_size rest) rest)
boxes_more left [] some = absurd (omega arith)
boxes_more left (b ∷ bs) some = refl

pub boxes_full : (most n offset : ℕ) (rest : List ℕ) (all : Option BoxError) → 0 < length rest → n ≡ most → first_fault (boxes_checks (most - n) offset rest) ≡ all → all ≡ Some TooMany
boxes_full most n offset [] all some full so_far = absurd (omega arith)
boxes_full most n offset (b ∷ bs) all some full so_far =
    let k : most - n ≡ 0 = omega arith in
    sym so_far ∙ rw k refl

pub boxes_stop : (most n offset : ℕ) (rest : List ℕ) (all : Option BoxError) (fault : BoxError) → 0 < length rest → n < most
    → first_fault (boxes_checks (most - n) offset rest) ≡ all → first_fault (box_checks offset rest) ≡ Some fault → all ≡ Some fault
boxes_stop most n offset rest all fault some lt so_far failed =
    let k : most - n ≡ suc (most - (n + 1)) = omega arith in
    sym so_far ∙ rw (k, checks_more (most - (n + 1)) offset rest some, fault_append, failed) refl

pub boxes_fault : (most n offset size : ℕ) (rest : List ℕ) (all : Option BoxError) → 0 < length rest → n < most
    → first_fault (boxes_checks (most - n) offset rest) ≡ all → first_fault (box_checks offset rest) ≡ None → size ≡ box_size rest
    → first_fault (boxes_checks (most - (n + 1)) (offset + size) (drop size rest)) ≡ all
boxes_fault most n offset size rest all some lt so_far passed same =
    let k : most - n ≡ suc (most - (n + 1)) = omega arith in
    let one : first_fault (boxes_checks (most - n) offset rest) ≡ first_fault (boxes_checks (most - (n + 1)) (offset + box_size rest) (drop (box_size rest) rest))
    = rw (k, checks_more (most - (n + 1)) offset rest some, fault_append, passed) refl in
    rw same (sym one ∙ so_far)

pub boxes_found : (found : List (List ℕ)) (most n size : ℕ) (rest box : List ℕ) (all : List (List ℕ)) → 0 < length rest → n < most
    → found ++ boxes_of (most - n) rest ≡ all → box ≡ box_of rest → size ≡ box_size rest
    → (found ++ box ∷ []) ++ boxes_of (most - (n + 1)) (drop size rest) ≡ all
boxes_found found most n size rest box all some lt so_far is same =
    let k : most - n ≡ suc (most - (n + 1)) = omega arith in
    let one : found ++ boxes_of (most - n) rest ≡ found ++ (box_of rest ∷ boxes_of (most - (n + 1)) (drop (box_size rest) rest)) = rw (k, boxes_more (most - (n + 1)) rest some) refl in
    rw (same, append_assoc, is) (sym one ∙ so_far)

pub is_box : (offset : ℕ) (rest : List ℕ) → AllPass (box_checks offset rest) → IsBox rest (box_of rest)
is_box offset rest pass =
    let fits : box_size rest ≤ length rest = leb-true _ _ pass.1.1.0 in
    let len : length (box_of rest) ≡ number 0 4 rest = length-box rest fits in
    record {
      header = leb-true _ _ pass.0;
      count = sym len;
      within = rw len (leb-true _ _ pass.1.0);
      fits = rw len fits;
      bytes = rw len refl;
    }

pub are_boxes : (left offset : ℕ) (rest : List ℕ) → AllPass (boxes_checks left offset rest) → AreBoxes rest (boxes_of left rest) × (boxes_size (boxes_of left rest) ≡ length rest)
are_boxes left offset [] pass = (tt, refl)
are_boxes zero offset (b ∷ bs) pass = absurd (cc pass.0)
are_boxes (suc left) offset (b ∷ bs) pass =
    let rest = b ∷ bs in
    let after = drop (box_size rest) rest in
    let p = pass_split (box_checks offset rest) (boxes_checks left (offset + box_size rest) after) pass in
    let fits : box_size rest ≤ length rest = leb-true _ _ p.0.1.1.0 in
    let len : length (box_of rest) ≡ number 0 4 rest = length-box rest fits in
    let more = are_boxes left (offset + box_size rest) after p.1 in
    let left_over : length after ≡ length rest - box_size rest = length-drop (box_size rest) rest in
    ((is_box offset rest p.0, rw len more.0), omega (arith, len, more.1, left_over))

pub length-boxes : (left : ℕ) (rest : List ℕ) → length (boxes_of left rest) ≤ left
length-boxes left [] = omega arith
length-boxes zero (b ∷ bs) = omega arith
length-boxes (suc left) (b ∷ bs) = omega (arith, length-boxes left (drop (box_size (b ∷ bs)) (b ∷ bs)))

pub box_passes : (offset : ℕ) (rest box : List ℕ) → IsBox rest box → AllPass (box_checks offset rest)
box_passes offset rest box is =
    let a : number 0 4 rest ≤ 65536 = omega (arith, is.count, is.within) in
    let b : box_size rest ≤ length rest = omega (arith, is.count, is.fits) in
    (le-leb _ _ is.header, (le-leb _ _ a, (le-leb _ _ b, tt)))

box_same : (rest box : List ℕ) → IsBox rest box → box_of rest ≡ box
box_same rest box is = rw is.count is.bytes

pub boxes_pass : (left offset : ℕ) (rest : List ℕ) (boxes : List (List ℕ)) → length boxes ≤ left → AreBoxes rest boxes → boxes_size boxes ≡ length rest
    → AllPass (boxes_checks left offset rest) × (boxes_of left rest ≡ boxes)
boxes_pass left offset [] [] few are all = (tt, refl)
boxes_pass left offset (b ∷ bs) [] few are all = absurd (omega arith)
boxes_pass zero offset rest (box ∷ boxes) few are all = absurd (omega arith)
boxes_pass (suc left) offset rest (box ∷ boxes) few are all =
    let is = are.0 in
    let some : 0 < length rest = omega (arith, is.header) in
    let size : 4 + length box ≡ box_size rest = rw is.count refl in
    let after = drop (box_size rest) rest in
    let left_over : length after ≡ length rest - box_size rest = length-drop (box_size rest) rest in
    let more = boxes_pass left (offset + box_size rest) after boxes (omega arith) (rw (← size) are.1) (omega (arith, size, left_over, all)) in
    rw (checks_more left offset rest some, boxes_more left rest some)
    (pass_join (box_checks offset rest) (boxes_checks left (offset + box_size rest) after) (box_passes offset rest box is) more.0, rw (box_same rest box is, more.1) refl)

pages_within : (rest : List ℕ) (boxes : List (List ℕ)) → AreBoxes rest boxes → AllByRecursion (λ page. length page ≤ 65536) boxes
pages_within rest [] are = tt
pages_within rest (box ∷ boxes) are = (are.0.within, pages_within (drop (4 + length box) rest) boxes are.1)

-- a file of boxes as the code has it
abbrev Boxes : Type 0
Boxes = Vec (Vec ℕ Global) Global

-- the boxes as lists
abbrev seen : Boxes → List (List ℕ)
seen boxes = map (λ v. v.items) boxes.items

-- what was answered is what was read, of boxes as lists
abbrev AreRead : ℕ → List ℕ → Result Boxes BoxError → Type 0
AreRead most bytes r = Reads NoMemory (seen_as seen r) (boxes_checks most 0 bytes) (boxes_of most bytes)

pub few : (most : ℕ) (bytes : List ℕ) (r : Result Boxes BoxError) → AreRead most bytes r → IfOk r (λ boxes. length boxes.items ≤ most)
few most bytes (Ok boxes) h =
    let same : length (seen boxes) ≡ length boxes.items = length-map boxes.items (λ v. v.items) in
    rw (← same, h.1) (length-boxes most bytes)
few most bytes (Err e) h = tt

seen_all : (P : List ℕ → Type 0) (vs : List (Vec ℕ Global)) → AllByRecursion P (map (λ v. v.items) vs) → AllByRecursion (λ v. P v.items) vs
seen_all P [] all = tt
seen_all P (v ∷ vs) all = (all.0, seen_all P vs all.1)

pub within : (most : ℕ) (bytes : List ℕ) (r : Result Boxes BoxError) → AreRead most bytes r → IfOk r (λ boxes. All (λ page. length page.items ≤ 65536) boxes.items)
within most bytes (Ok boxes) h =
    let all : AllByRecursion (λ page. length page ≤ 65536) (seen boxes) =
    rw h.1 (pages_within bytes (boxes_of most bytes) (are_boxes most 0 bytes (all_pass (boxes_checks most 0 bytes) h.0)).0) in
    All-from_recursion (λ page. length page.items ≤ 65536) boxes.items (seen_all (λ page. length page ≤ 65536) boxes.items all)
within most bytes (Err e) h = tt

pub gives : (bytes : List ℕ) (r : Result Boxes BoxError) → AreRead 1024 bytes r → Answers NoMemory (seen_as seen r) (boxes_in bytes)
unfolding boxes_in
gives bytes r h = reads_answers NoMemory (seen_as seen r) (boxes_checks 1024 0 bytes) (boxes_of 1024 bytes) h
