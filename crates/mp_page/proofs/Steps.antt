-- One step of the loops that read a page.
use Rattle.std.proofs.Common.{◌≡◌, ℕ, zero, suc, true, ◌-◌, ◌+◌, ◌*◌, ◌≤◌, ◌<◌, List, [], ◌∷◌, ◌++◌, length, Option, Some, None, drop, refl, sym, ap, ◌∙◌, append_assoc, arith}
use Rattle.std.specs.Prelude.{nat_le}
use Rattle.std.proofs.lemmas.Bool.{leb-true}
use Rattle.mp_checks.specs.Checks.{first_fault}
use Rattle.mp_checks.proofs.CheckLaws.{fault_append, all_pass}
use Rattle.mp_page.specs.declared.page.Group.{Group}
use Rattle.mp_page.specs.declared.page.PageError.{PageError}
use Rattle.mp_page.specs.Page.{number, numbers, size_of, group_checks, group_of, groups_checks, groups_of}

pub numbers_step : (found : List ℕ) (count i place : ℕ) (bytes : List ℕ) → i < count
    → (found ++ number (place + 4 * i) 4 bytes ∷ []) ++ numbers (count - (i + 1)) (place + 4 * (i + 1)) bytes ≡ found ++ numbers (count - i) (place + 4 * i) bytes
numbers_step found count i place bytes lt =
    let k : count - i ≡ suc (count - (i + 1)) = omega arith in
    let next : place + 4 * (i + 1) ≡ place + 4 * i + 4 = omega arith in
    rw (k, next, append_assoc) refl

pub length-numbers : (n place : ℕ) (bytes : List ℕ) → length (numbers n place bytes) ≡ n
length-numbers zero place bytes = refl
length-numbers (suc n) place bytes = ap suc (length-numbers n (place + 4) bytes)

-- a group that passes takes what its list takes, and that is there
pub size_known : (max offset : ℕ) (rest : List ℕ) (group : Group) → first_fault (group_checks max offset rest) ≡ None → group ≡ group_of rest
    → (32 + 4 * length group.nsids ≡ size_of rest) × (size_of rest ≤ length rest)
size_known max offset rest group none is =
    let long : nat_le (size_of rest) (length rest) ≡ true = (all_pass (group_checks max offset rest) none).1.1.1.1.1.0 in
    (rw (is, length-numbers (number 4 4 rest) 32 rest) refl, leb-true _ _ long)

pub groups_stop : (max count i offset : ℕ) (rest : List ℕ) (all : Option PageError) (fault : PageError) → i < count
    → first_fault (groups_checks max (count - i) offset rest) ≡ all → first_fault (group_checks max offset rest) ≡ Some fault → all ≡ Some fault
groups_stop max count i offset rest all fault lt so_far failed =
    let k : count - i ≡ suc (count - (i + 1)) = omega arith in
    sym so_far ∙ rw (k, fault_append, failed) refl

pub groups_fault : (max count i offset size : ℕ) (rest : List ℕ) (all : Option PageError) → i < count
    → first_fault (groups_checks max (count - i) offset rest) ≡ all → first_fault (group_checks max offset rest) ≡ None → size ≡ size_of rest
    → first_fault (groups_checks max (count - (i + 1)) (offset + size) (drop size rest)) ≡ all
groups_fault max count i offset size rest all lt so_far passed same =
    let k : count - i ≡ suc (count - (i + 1)) = omega arith in
    let one : first_fault (groups_checks max (count - i) offset rest) ≡ first_fault (groups_checks max (count - (i + 1)) (offset + size_of rest) (drop (size_of rest) rest)) = rw (k, fault_append, passed) refl in
    rw same (sym one ∙ so_far)

pub groups_found : (found : List Group) (count i size : ℕ) (rest : List ℕ) (group : Group) (all : List Group) → i < count
    → found ++ groups_of (count - i) rest ≡ all → group ≡ group_of rest → size ≡ size_of rest
    → (found ++ group ∷ []) ++ groups_of (count - (i + 1)) (drop size rest) ≡ all
groups_found found count i size rest group all lt so_far is same =
    let k : count - i ≡ suc (count - (i + 1)) = omega arith in
    let one : found ++ groups_of (count - i) rest ≡ found ++ (group_of rest ∷ groups_of (count - (i + 1)) (drop (size_of rest) rest)) = rw k refl in
    rw (same, append_assoc, is) (sym one ∙ so_far)
