-- Which bytes are a file of boxes, and why others are none.
use Rattle.std.proofs.Common.{◌≡◌, ◌⊎◌, inl, inr, ◌↔◌, ℕ, zero, suc, ◌+◌, ◌-◌, ◌≤◌, ◌<◌, Bool, true, false, List, [], ◌∷◌, ◌++◌, length, Some, None, Ok, Err, drop, refl, sym, ap, ◌∙◌, add-zero, zero-add, arith, length-drop}
use Rattle.std.proofs.lemmas.Bool.{leb-true}
use Rattle.mp_checks.specs.Checks.{first_fault}
use Rattle.mp_checks.proofs.CheckLaws.{first_fault-append, all_pass, no_fault, fault_cases, unless_ok, unless_err}
use Rattle.mp_page.specs.declared.boxes.BoxError.{BoxError}
use Rattle.mp_page.specs.declared.boxes.BoxError.TheVariants.{TooMany}
use Rattle.mp_page.specs.Boxes.{box_of, box_size, boxes_of, box_checks, boxes_checks, boxes_up_to, boxes_in, AreBoxes, boxes_size, AreAll, IsFile, IsBoxRefused, IsFileRefused}
use Rattle.mp_page.proofs.Refused.{drop_both}
use Rattle.mp_page.proofs.BoxLaws.{length-box, is_box, are_boxes, length-boxes, boxes_pass, box_passes}

all_read : (most : ℕ) (bytes : List ℕ) (boxes : List (List ℕ)) → (boxes_up_to most bytes ≡ Ok boxes) ↔ AreAll most bytes boxes
all_read most bytes boxes = (
  λ h.
      let p = unless_ok (first_fault (boxes_checks most 0 bytes)) (boxes_of most bytes) boxes h in
      let are = are_boxes most 0 bytes (all_pass (boxes_checks most 0 bytes) p.0) in
      rw (← p.1) (record { count = length-boxes most bytes; each = are.0; all = are.1 }),
  λ is.
      let p = boxes_pass most 0 bytes boxes is.count is.each is.all in
      let none : first_fault (boxes_checks most 0 bytes) ≡ None = no_fault (boxes_checks most 0 bytes) p.0 in
      rw (none, p.1) refl,
)

pub file_read : (bytes : List ℕ) (boxes : List (List ℕ)) → (boxes_in bytes ≡ Ok boxes) ↔ IsFile bytes boxes
unfolding boxes_in
file_read bytes boxes = all_read 1024 bytes boxes

-- a box that is refused, behind boxes that are not
record Stops (left offset : ℕ) (rest : List ℕ) (refusal : BoxError) : Type 0 where
  before : List (List ℕ)
  are : AreBoxes rest before
  more : boxes_size before < length rest
  fails : ((length before ≡ left) × (refusal ≡ TooMany)) ⊎ ((length before < left) × (first_fault (box_checks (offset + boxes_size before) (drop (boxes_size before) rest)) ≡ Some refusal))

stops : (left offset : ℕ) (rest : List ℕ) (refusal : BoxError) → first_fault (boxes_checks left offset rest) ≡ Some refusal → Stops left offset rest refusal
stops left offset [] refusal h = absurd cc
stops zero offset (b ∷ bs) refusal h = record { before = []; are = tt; more = omega arith; fails = inl (refl, cc) }
stops (suc left) offset (b ∷ bs) refusal h =
    let rest = b ∷ bs in
    let size = box_size rest in
    let after = drop size rest in
    elim (fault_cases (box_checks offset rest) (boxes_checks left (offset + size) after) refusal h) [
      | inl here ↦ record { before = []; are = tt; more = omega arith; fails = inr (omega arith, rw add-zero here) }
      | inr later ↦
          let more = stops left (offset + size) after refusal later.1 in
          let pass = all_pass (box_checks offset rest) later.0 in
          let fits : size ≤ length rest = leb-true _ _ pass.1.1.0 in
          let takes : 4 + length (box_of rest) ≡ size = rw (length-box rest fits) refl in
          let left_over : length after ≡ length rest - size = length-drop size rest in
          let place : offset + (4 + length (box_of rest) + boxes_size more.before) ≡ offset + size + boxes_size more.before = omega (arith, takes) in
          let there : drop (4 + length (box_of rest) + boxes_size more.before) rest ≡ drop (boxes_size more.before) after = rw takes (sym (drop_both size (boxes_size more.before) rest)) in
          record {
            before = box_of rest ∷ more.before;
            are = (is_box offset rest pass, rw takes more.are);
            more = omega (arith, more.more, takes, left_over, fits);
            fails = elim more.fails [ inl full ↦ inl (ap suc full.0, full.1) | inr next ↦ inr (omega (arith, next.0), rw (place, there) next.1) ];
          }
    ]

first_stays : (cs ds : List (Bool × BoxError)) (e : BoxError) → first_fault cs ≡ Some e → first_fault (cs ++ ds) ≡ Some e
first_stays [] ds e h = absurd cc
first_stays ((true, f) ∷ cs) ds e h = first_stays cs ds e h
first_stays ((false, f) ∷ cs) ds e h = h

stopped : (left offset : ℕ) (rest : List ℕ) (refusal : BoxError) (before : List (List ℕ)) → AreBoxes rest before → boxes_size before < length rest
    → ((length before ≡ left) × (refusal ≡ TooMany)) ⊎ ((length before < left) × (first_fault (box_checks (offset + boxes_size before) (drop (boxes_size before) rest)) ≡ Some refusal))
    → first_fault (boxes_checks left offset rest) ≡ Some refusal
stopped left offset [] refusal before are more fails = absurd (omega arith)
stopped zero offset (b ∷ bs) refusal [] are more (inl full) = rw full.1 refl
stopped zero offset (b ∷ bs) refusal [] are more (inr next) = absurd (omega (arith, next.0))
stopped (suc left) offset (b ∷ bs) refusal [] are more (inl full) = absurd (omega (arith, full.0))
stopped (suc left) offset (b ∷ bs) refusal [] are more (inr next) =
    let rest = b ∷ bs in
    let here : first_fault (box_checks offset rest) ≡ Some refusal = rw add-zero at next.1 in
    first_stays (box_checks offset rest) (boxes_checks left (offset + box_size rest) (drop (box_size rest) rest)) refusal here
stopped zero offset (b ∷ bs) refusal (box ∷ before) are more (inl full) = absurd (omega (arith, full.0))
stopped zero offset (b ∷ bs) refusal (box ∷ before) are more (inr next) = absurd (omega (arith, next.0))
stopped (suc left) offset (b ∷ bs) refusal (box ∷ before) are more fails =
    let rest = b ∷ bs in
    let size = box_size rest in
    let after = drop size rest in
    let takes : 4 + length box ≡ size = rw are.0.count refl in
    let left_over : length after ≡ length rest - size = length-drop size rest in
    let place : offset + (4 + length box + boxes_size before) ≡ offset + size + boxes_size before = omega (arith, takes) in
    let there : drop (4 + length box + boxes_size before) rest ≡ drop (boxes_size before) after = rw takes (sym (drop_both size (boxes_size before) rest)) in
    let next : ((length before ≡ left) × (refusal ≡ TooMany)) ⊎ ((length before < left) × (first_fault (box_checks (offset + size + boxes_size before) (drop (boxes_size before) after)) ≡ Some refusal))
    = elim fails [ inl full ↦ inl (omega (arith, full.0), full.1) | inr next ↦ inr (omega (arith, next.0), rw (← place, ← there) next.1) ] in
    let later : first_fault (boxes_checks left (offset + size) after) ≡ Some refusal = stopped left (offset + size) after refusal before (rw (← takes) are.1) (omega (arith, more, takes, left_over, are.0.fits)) next in
    first_fault-append (box_checks offset rest) (boxes_checks left (offset + size) after) (box_passes offset rest box are.0) ∙ later

all_refused : (most : ℕ) (bytes : List ℕ) (refusal : BoxError) → (boxes_up_to most bytes ≡ Err refusal) ↔ IsBoxRefused most bytes refusal
all_refused most bytes refusal = (
  λ h.
      let s = stops most 0 bytes refusal (unless_err (first_fault (boxes_checks most 0 bytes)) (boxes_of most bytes) refusal h) in
      record { before = s.before; are = s.are; more = s.more; fails = rw (zero-add (boxes_size s.before)) at s.fails },
  λ r.
      let fault : first_fault (boxes_checks most 0 bytes) ≡ Some refusal = stopped most 0 bytes refusal r.before r.are r.more (rw (zero-add (boxes_size r.before)) r.fails) in
      rw fault refl,
)

pub file_refused : (bytes : List ℕ) (refusal : BoxError) → (boxes_in bytes ≡ Err refusal) ↔ IsFileRefused bytes refusal
unfolding boxes_in
file_refused bytes refusal = all_refused 1024 bytes refusal
