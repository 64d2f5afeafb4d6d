-- Why bytes are no page.
use Rattle.std.proofs.Common.{◌≡◌, ◌⊎◌, inl, inr, ◌↔◌, ℕ, zero, suc, ◌+◌, ◌<◌, Bool, true, false, List, [], ◌∷◌, ◌++◌, length, Option, Some, None, Ok, Err, drop, refl, sym, ◌∙◌, add-zero, arith}
use Rattle.std.specs.Prelude.{nat_le}
use Rattle.std.proofs.lemmas.List.{drop-drop}
use Rattle.std.proofs.lemmas.Bool.{leb-true, leb-false, le-leb, lt-leb}
use Rattle.mp_checks.specs.Checks.{first_fault}
use Rattle.mp_checks.proofs.CheckLaws.{first_fault-append, all_pass, fault_cases, first_cases, unless_ok, unless_err}
use Rattle.mp_page.specs.declared.page.Group.{Group}
use Rattle.mp_page.specs.declared.page.Page.{Page}
use Rattle.mp_page.specs.declared.page.PageError.{PageError}
use Rattle.mp_page.specs.declared.page.PageError.TheVariants.{ShortHeader, NoMemory}
use Rattle.mp_page.specs.Page.{number, size_of, group_of, group_checks, groups_checks, page_checks, page_of, page_in}
use Rattle.mp_page.specs.Grammar.{group_size, groups_size, IsGroup, AreGroups, IsPage, IsRefused}
use Rattle.mp_page.proofs.Steps.{length-numbers}
use Rattle.mp_page.proofs.Pages.{is_group, group_passes, is_page, page_found}

pub drop_both : (a b : ℕ) (xs : List ℕ) → drop b (drop a xs) ≡ drop (a + b) xs
drop_both a b xs = drop-drop b a xs

-- a descriptor that is refused, behind groups that are not
record Stops (max n offset : ℕ) (rest : List ℕ) (refusal : PageError) : Type 0 where
  before : List Group
  are : AreGroups max rest before
  more : length before < n
  fails : first_fault (group_checks max (offset + groups_size before) (drop (groups_size before) rest)) ≡ Some refusal

stops : (max n offset : ℕ) (rest : List ℕ) (refusal : PageError) → first_fault (groups_checks max n offset rest) ≡ Some refusal → Stops max n offset rest refusal
stops max zero offset rest refusal h = absurd cc
stops max (suc n) offset rest refusal h =
    let size = size_of rest in
    let after = drop size rest in
    elim (fault_cases (group_checks max offset rest) (groups_checks max n (offset + size) after) refusal h) [
      | inl here ↦ record { before = []; are = tt; more = omega arith; fails = rw add-zero here }
      | inr later ↦
          let more = stops max n (offset + size) after refusal later.1 in
          let is : IsGroup max rest (group_of rest) = is_group max offset rest (all_pass (group_checks max offset rest) later.0) in
          let takes : group_size (group_of rest) ≡ size = rw (length-numbers (number 4 4 rest) 32 rest) refl in
          let place : offset + (group_size (group_of rest) + groups_size more.before) ≡ offset + size + groups_size more.before = omega (arith, takes) in
          let there : drop (group_size (group_of rest) + groups_size more.before) rest ≡ drop (groups_size more.before) after = rw takes (sym (drop_both size (groups_size more.before) rest)) in
          record { before = group_of rest ∷ more.before; are = (is, rw takes more.are); more = omega (arith, more.more); fails = rw (place, there) more.fails }
    ]

stopped : (max n offset : ℕ) (rest : List ℕ) (refusal : PageError) (before : List Group) → AreGroups max rest before → length before < n
    → first_fault (group_checks max (offset + groups_size before) (drop (groups_size before) rest)) ≡ Some refusal → first_fault (groups_checks max n offset rest) ≡ Some refusal
stopped max zero offset rest refusal before are more fails = absurd (omega arith)
stopped max (suc n) offset rest refusal [] are more fails =
    let here : first_fault (group_checks max offset rest) ≡ Some refusal = rw add-zero at fails in
    first_stays (group_checks max offset rest) (groups_checks max n (offset + size_of rest) (drop (size_of rest) rest)) refusal here
  where
    first_stays : (cs ds : List (Bool × PageError)) (e : PageError) → first_fault cs ≡ Some e → first_fault (cs ++ ds) ≡ Some e
    first_stays [] ds e h = absurd cc
    first_stays ((true, f) ∷ cs) ds e h = first_stays cs ds e h
    first_stays ((false, f) ∷ cs) ds e h = h
stopped max (suc n) offset rest refusal (group ∷ before) are more fails =
    let size = size_of rest in
    let after = drop size rest in
    let takes : group_size group ≡ size = rw are.0.count refl in
    let place : offset + (group_size group + groups_size before) ≡ offset + size + groups_size before = omega (arith, takes) in
    let there : drop (group_size group + groups_size before) rest ≡ drop (groups_size before) after = rw takes (sym (drop_both size (groups_size before) rest)) in
    let later : first_fault (groups_checks max n (offset + size) after) ≡ Some refusal = stopped max n (offset + size) after refusal before (rw (← takes) are.1) (omega arith) (rw (← place, ← there) fails) in
    first_fault-append (group_checks max offset rest) (groups_checks max n (offset + size) after) (group_passes max offset rest group are.0) ∙ later

refused_by : (max : ℕ) (bytes : List ℕ) (refusal : PageError) → first_fault (page_checks max bytes) ≡ Some refusal → IsRefused max bytes refusal
refused_by max bytes refusal h =
    elim (first_cases (nat_le 16 (length bytes)) (ShortHeader 0) refusal (groups_checks max (number 8 2 bytes) 16 (drop 16 bytes)) h) [
      | inl short ↦ inl (leb-false _ _ short.0, short.1)
      | inr later ↦
          let s = stops max (number 8 2 bytes) 16 (drop 16 bytes) refusal later.1 in
          inr (record { header = leb-true _ _ later.0; before = s.before; are = s.are; more = s.more; fails = rw (← drop_both 16 (groups_size s.before) bytes) s.fails })
    ]

fault_of : (max : ℕ) (bytes : List ℕ) (refusal : PageError) → IsRefused max bytes refusal → first_fault (page_checks max bytes) ≡ Some refusal
fault_of max bytes refusal (inl short) =
    let test : nat_le 16 (length bytes) ≡ false = lt-leb 16 (length bytes) short.0 in
    rw (test, short.1) refl
fault_of max bytes refusal (inr r) =
    let test : nat_le 16 (length bytes) ≡ true = le-leb _ _ r.header in
    rw test (stopped max (number 8 2 bytes) 16 (drop 16 bytes) refusal r.before r.are r.more (rw (drop_both 16 (groups_size r.before) bytes) r.fails))

pub refusal_read : (max : ℕ) (bytes : List ℕ) (refusal : PageError) → (page_in max bytes ≡ Err refusal) ↔ IsRefused max bytes refusal
unfolding page_in
refusal_read max bytes refusal =
    (λ h. refused_by max bytes refusal (unless_err (first_fault (page_checks max bytes)) (page_of bytes) refusal h), λ is. rw (fault_of max bytes refusal is) refl)

pub page_read : (max : ℕ) (bytes : List ℕ) (page : Page) → (page_in max bytes ≡ Ok page) ↔ IsPage max bytes page
unfolding page_in
page_read max bytes page =
    (λ h. let p = unless_ok (first_fault (page_checks max bytes)) (page_of bytes) page h in rw (← p.1) (is_page max bytes (all_pass (page_checks max bytes) p.0)), λ is. page_found max bytes page is)

pub page_or_refused : (max : ℕ) (bytes : List ℕ) → ((page : Page) × IsPage max bytes page) ⊎ ((refusal : PageError) × IsRefused max bytes refusal)
page_or_refused max bytes = by_fault (first_fault (page_checks max bytes)) refl
  where
    by_fault : (fault : Option PageError) → first_fault (page_checks max bytes) ≡ fault → ((page : Page) × IsPage max bytes page) ⊎ ((refusal : PageError) × IsRefused max bytes refusal)
    by_fault None is = inl (page_of bytes, is_page max bytes (all_pass (page_checks max bytes) is))
    by_fault (Some refusal) is = inr (refusal, refused_by max bytes refusal is)

-- none of the refusals is want of memory
abbrev NoneIsMemory : List (Bool × PageError) → Type 0
NoneIsMemory [] = Unit {0}
NoneIsMemory (c ∷ cs) = (c.1 ≡ NoMemory → ⊥) × NoneIsMemory cs

fault_is_other : (cs : List (Bool × PageError)) → NoneIsMemory cs → first_fault cs ≡ Some NoMemory → ⊥
fault_is_other [] others h = absurd cc
fault_is_other ((true, f) ∷ cs) others h = fault_is_other cs others.1 h
fault_is_other ((false, f) ∷ cs) others h = others.0 cc

group_memory : (max offset : ℕ) (rest : List ℕ) → NoneIsMemory (group_checks max offset rest)
group_memory max offset rest = (λ e. absurd cc, (λ e. absurd cc, (λ e. absurd cc, (λ e. absurd cc, (λ e. absurd cc, (λ e. absurd cc, tt))))))

pub no_memory : (max : ℕ) (bytes : List ℕ) → page_in max bytes ≡ Err NoMemory → ⊥
no_memory max bytes h =
    elim ((refusal_read max bytes NoMemory).0 h) [
      | inl short ↦ absurd (cc short.1)
      | inr r ↦ let place = 16 + groups_size r.before in fault_is_other (group_checks max place (drop place bytes)) (group_memory max place (drop place bytes)) r.fails
    ]
