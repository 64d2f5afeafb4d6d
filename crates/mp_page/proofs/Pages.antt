-- A page is what passes all checks.
use Rattle.std.proofs.Common.{◌≡◌, ℕ, zero, suc, ◌+◌, ◌*◌, ◌≤◌, ◌<◌, List, [], ◌∷◌, length, Some, None, Result, Ok, Err, drop, refl, sym, ap, ◌∙◌, arith}
use Rattle.std.specs.Prelude.{slice_index, IfOk, IfErr}
use Rattle.std.proofs.lemmas.Bool.{leb-true, le-leb}
use Rattle.std.proofs.lemmas.Bool.Decides.{nat_tests}
use Rattle.mp_checks.specs.Checks.{first_fault, AllPass, Answers, Reads}
use Rattle.mp_checks.proofs.CheckLaws.{pass_split, pass_join, all_pass, no_fault}
use Rattle.mp_page.specs.declared.page.Group.{Group}
use Rattle.mp_page.specs.declared.page.Page.{Page}
use Rattle.mp_page.specs.declared.page.PageError.{PageError}
use Rattle.mp_page.specs.declared.page.PageError.TheVariants.{NoMemory}
use Rattle.mp_page.specs.Page.{number, numbers, size_of, group_checks, group_of, groups_checks, groups_of, page_checks, page_of, page_in}
use Rattle.mp_page.specs.Grammar.{IsGroup, AreGroups, IsPage}
use Rattle.mp_page.proofs.Steps.{length-numbers}

pub is_group : (max offset : ℕ) (rest : List ℕ) → AllPass (group_checks max offset rest) → IsGroup max rest (group_of rest)
is_group max offset rest pass =
    let count : length (numbers (number 4 4 rest) 32 rest) ≡ number 4 4 rest = length-numbers (number 4 4 rest) 32 rest in
    let fits : size_of rest ≤ length rest = leb-true _ _ pass.1.1.1.1.1.0 in
    record {
      header = leb-true _ _ pass.0;
      id = refl;
      not_zero = grind (arith, nat_tests, pass.1.0);
      within = leb-true _ _ pass.1.1.0;
      changes = refl;
      state = refl;
      state_from = grind (arith, nat_tests, pass.1.1.1.0);
      state_to = leb-true _ _ pass.1.1.1.1.0;
      count = sym count;
      list = rw count fits;
      nsids = rw count refl;
    }

are_groups : (max n offset : ℕ) (rest : List ℕ) → AllPass (groups_checks max n offset rest) → AreGroups max rest (groups_of n rest)
are_groups max zero offset rest pass = tt
are_groups max (suc n) offset rest pass =
    let p = pass_split (group_checks max offset rest) (groups_checks max n (offset + size_of rest) (drop (size_of rest) rest)) pass in
    let count : length (numbers (number 4 4 rest) 32 rest) ≡ number 4 4 rest = length-numbers (number 4 4 rest) 32 rest in
    (is_group max offset rest p.0, rw count (are_groups max n (offset + size_of rest) (drop (size_of rest) rest) p.1))

length-groups_of : (n : ℕ) (rest : List ℕ) → length (groups_of n rest) ≡ n
length-groups_of zero rest = refl
length-groups_of (suc n) rest = ap suc (length-groups_of n (drop (size_of rest) rest))

pub is_page : (max : ℕ) (bytes : List ℕ) → AllPass (page_checks max bytes) → IsPage max bytes (page_of bytes)
is_page max bytes pass = record {
  header = leb-true _ _ pass.0;
  changes = refl;
  count = sym (length-groups_of (number 8 2 bytes) (drop 16 bytes));
  groups = are_groups max (number 8 2 bytes) 16 (drop 16 bytes) pass.1;
}

-- and the other way round
pub group_passes : (max offset : ℕ) (rest : List ℕ) (group : Group) → IsGroup max rest group → AllPass (group_checks max offset rest)
group_passes max offset rest group is =
    let id = is.id in
    let state = is.state in
    let count = is.count in
    let a : 0 < number 0 4 rest = omega (arith, is.id, is.not_zero) in
    let b : number 0 4 rest ≤ max = omega (arith, is.id, is.within) in
    let c : 1 ≤ slice_index rest 16 = omega (arith, is.state, is.state_from) in
    let d : slice_index rest 16 ≤ 15 = omega (arith, is.state, is.state_to) in
    let e : size_of rest ≤ length rest = omega (arith, is.count, is.list) in
    (le-leb _ _ is.header, (grind (arith, nat_tests, a), (le-leb _ _ b, (grind (arith, nat_tests, c), (le-leb _ _ d, (le-leb _ _ e, tt))))))

group_same : (max : ℕ) (rest : List ℕ) (group : Group) → IsGroup max rest group → group_of rest ≡ group
group_same max rest group is =
    let ns : numbers (number 4 4 rest) 32 rest ≡ group.nsids = rw is.count is.nsids in
    let made : Group = record { id = number 0 4 rest; changes = number 8 8 rest; state = slice_index rest 16; nsids = numbers (number 4 4 rest) 32 rest } in
    let e : made ≡ group = rw (is.id, is.changes, is.state, ns) refl in
    e

groups_pass : (max offset : ℕ) (rest : List ℕ) (groups : List Group) → AreGroups max rest groups → AllPass (groups_checks max (length groups) offset rest) × (groups_of (length groups) rest ≡ groups)
groups_pass max offset rest [] are = (tt, refl)
groups_pass max offset rest (group ∷ groups) are =
    let size : 32 + 4 * length group.nsids ≡ size_of rest = rw are.0.count refl in
    let more = groups_pass max (offset + size_of rest) (drop (size_of rest) rest) groups (rw (← size) are.1) in
    (pass_join (group_checks max offset rest) (groups_checks max (length groups) (offset + size_of rest) (drop (size_of rest) rest)) (group_passes max offset rest group are.0) more.0, rw (group_same max rest group are.0, more.1) refl)

page_passes : (max : ℕ) (bytes : List ℕ) (page : Page) → IsPage max bytes page → AllPass (page_checks max bytes) × (page_of bytes ≡ page)
page_passes max bytes page is =
    let p = groups_pass max 16 (drop 16 bytes) page.groups is.groups in
    let made : Page = record { changes = number 0 8 bytes; groups = groups_of (number 8 2 bytes) (drop 16 bytes) } in
    let e : made ≡ page = rw (is.changes, is.count, p.1) refl in
    ((le-leb _ _ is.header, rw is.count p.0), e)

pub found : (max : ℕ) (bytes : List ℕ) (r : Result Page PageError) → Reads NoMemory r (page_checks max bytes) (page_of bytes) → IfOk r (IsPage max bytes)
found max bytes (Ok page) h = rw h.1 (is_page max bytes (all_pass (page_checks max bytes) h.0))
found max bytes (Err e) h = tt

pub only : (max : ℕ) (bytes : List ℕ) (page : Page) (r : Result Page PageError) → Reads NoMemory r (page_checks max bytes) (page_of bytes) → IsPage max bytes page → Answers NoMemory r (Ok page)
only max bytes page (Ok p) h is = ap Ok (sym (h.1 ∙ (page_passes max bytes page is).1))
only max bytes page (Err e) h is = λ n.
    let none : first_fault (page_checks max bytes) ≡ None = no_fault (page_checks max bytes) (page_passes max bytes page is).0 in
    absurd (cc (sym none ∙ h n))

pub refused : (max : ℕ) (bytes : List ℕ) (r : Result Page PageError) → Reads NoMemory r (page_checks max bytes) (page_of bytes) → IfErr r (λ e. (e ≡ NoMemory → ⊥) → first_fault (page_checks max bytes) ≡ Some e)
refused max bytes (Ok page) h = tt
refused max bytes (Err e) h = h

pub gives : (max : ℕ) (bytes : List ℕ) (r : Result Page PageError) → Reads NoMemory r (page_checks max bytes) (page_of bytes) → Answers NoMemory r (page_in max bytes)
unfolding page_in
gives max bytes (Ok page) h = rw (h.0, h.1) refl
gives max bytes (Err e) h = λ n. rw (h n) refl

-- a page is what is in the bytes
pub page_found : (max : ℕ) (bytes : List ℕ) (page : Page) → IsPage max bytes page → page_in max bytes ≡ Ok page
unfolding page_in
page_found max bytes page is =
    let p = page_passes max bytes page is in
    let none : first_fault (page_checks max bytes) ≡ None = no_fault (page_checks max bytes) p.0 in
    rw (none, p.1) refl
