-- What is written is the page that it was written for.
use Rattle.std.proofs.Common.{◌≡◌, ℕ, zero, suc, ◌+◌, ◌*◌, ◌^◌, ◌≤◌, ◌<◌, List, [], ◌∷◌, ◌++◌, length, get_or, drop, refl, ap, ◌∙◌, append_assoc, arith}
use Rattle.std.specs.Prelude.{slice_index}
use Rattle.std.specs.List.{flat_map, All, AllByRecursion}
use Rattle.std.proofs.lemmas.List.Elements.{recursion_from_All}
use Rattle.std.proofs.Math.Seq.{drop-append-add, drop-append_seam}
use Rattle.std.proofs.lemmas.List.{get_or-append-add, length-append, append-nil}
use Rattle.std.proofs.lemmas.List.Concat.{flat_map-cons}
use Rattle.byteorder.specs.Numbers.{little_number-reads_back, length-bytes_low_first}
use Rattle.mp_page.specs.declared.page.Group.{Group}
use Rattle.mp_page.specs.declared.page.Page.{Page}
use Rattle.mp_page.specs.Page.{number, numbers}
use Rattle.mp_page.specs.Grammar.{IsGroup, AreGroups, IsPage}
use Rattle.mp_page.specs.Written.{word, zeros, group_bytes, page_bytes, CanWrite, CanWritePage, Fits}

pub length-word : (n x : ℕ) → length (word n x) ≡ n
unfolding word
length-word n x = length-bytes_low_first 0 n x

number-word : (n x : ℕ) (rest : List ℕ) → x < 256 ^ n → number 0 n (word n x ++ rest) ≡ x
unfolding word number
number-word n x rest h = little_number-reads_back n x rest h

number-past : (front rest : List ℕ) (place k n : ℕ) → length front ≡ place → number (place + k) n (front ++ rest) ≡ number k n rest
unfolding number
number-past front rest place k n len = rw (← len, drop-append-add front rest k) refl

numbers-past : (n : ℕ) (front rest : List ℕ) (place k : ℕ) → length front ≡ place → numbers n (place + k) (front ++ rest) ≡ numbers n k rest
numbers-past zero front rest place k len = refl
numbers-past (suc n) front rest place k len =
    let next : place + k + 4 ≡ place + (k + 4) = omega arith in
    rw (next, number-past front rest place k 4 len, numbers-past n front rest place (k + 4) len) refl

index-past : (front rest : List ℕ) (place k : ℕ) → length front ≡ place → slice_index (front ++ rest) (place + k) ≡ slice_index rest k
index-past front rest place k len = rw (← len) (get_or-append-add front rest k 0)

-- a list of numbers is read again
numbers_again : (ns more : List ℕ) → AllByRecursion (λ n. n < 2 ^ 32) ns → numbers (length ns) 0 (flat_map (word 4) ns ++ more) ≡ ns
numbers_again [] more fits = refl
numbers_again (n ∷ ns) more fits =
    let regrouped : flat_map (word 4) (n ∷ ns) ++ more ≡ word 4 n ++ (flat_map (word 4) ns ++ more) = ap (λ (x : List ℕ). x ++ more) (flat_map-cons (word 4) n ns) ∙ append_assoc (word 4 n) (flat_map (word 4) ns) more in
    rw (regrouped, number-word 4 n (flat_map (word 4) ns ++ more) fits.0, numbers-past (length ns) (word 4 n) (flat_map (word 4) ns ++ more) 4 0 (length-word 4 n), numbers_again ns more fits.1) refl

length-words : (ns : List ℕ) → length (flat_map (word 4) ns) ≡ 4 * length ns
length-words [] = refl
length-words (n ∷ ns) = rw (flat_map-cons (word 4) n ns, length-append) (omega (arith, length-word 4 n, length-words ns))

abbrev middle : Group → List ℕ
middle group = group.state ∷ zeros 15

length-middle : (group : Group) → length (middle group) ≡ 16
unfolding zeros
length-middle group = refl

pub length-group : (group : Group) → length (group_bytes group) ≡ 32 + 4 * length group.nsids
length-group group = rw (length-append, length-append, length-append, length-append) (omega (arith, length-word 4 group.id, length-word 4 (length group.nsids), length-word 8 group.changes, length-middle group, length-words group.nsids))

regroup : (a b c d e more : List ℕ) → (a ++ (b ++ (c ++ (d ++ e)))) ++ more ≡ a ++ (b ++ (c ++ (d ++ (e ++ more))))
regroup a b c d e more = simp append_assoc

pub group_again : (max : ℕ) (group : Group) (more : List ℕ) → CanWrite group → Fits group → group.id ≤ max → IsGroup max (group_bytes group ++ more) group
group_again max group more can fits within =
    let a = word 4 group.id in
    let b = word 4 (length group.nsids) in
    let c = word 8 group.changes in
    let d = middle group in
    let e = flat_map (word 4) group.nsids ++ more in
    let la : length a ≡ 4 = length-word 4 group.id in
    let lb : length b ≡ 4 = length-word 4 (length group.nsids) in
    let lc : length c ≡ 8 = length-word 8 group.changes in
    let ld : length d ≡ 16 = length-middle group in
    let whole : group_bytes group ++ more ≡ a ++ (b ++ (c ++ (d ++ e))) = regroup a b c d (flat_map (word 4) group.nsids) more in
    let len : length (group_bytes group ++ more) ≡ 32 + 4 * length group.nsids + length more = length-append (group_bytes group) more ∙ ap (λ (n : ℕ). n + length more) (length-group group) in
    record {
      header = omega (arith, len);
      id = ap (number 0 4) whole ∙ number-word 4 group.id (b ++ (c ++ (d ++ e))) fits.id;
      not_zero = can.not_zero;
      within = within;
      changes = ap (number 8 8) whole ∙ number-past a (b ++ (c ++ (d ++ e))) 4 4 8 la ∙ number-past b (c ++ (d ++ e)) 4 0 8 lb ∙ number-word 8 group.changes (d ++ e) fits.changes;
      state = ap (λ (x : List ℕ). slice_index x 16) whole ∙ index-past a (b ++ (c ++ (d ++ e))) 4 12 la ∙ index-past b (c ++ (d ++ e)) 4 8 lb ∙ index-past c (d ++ e) 8 0 lc;
      state_from = can.state_from;
      state_to = can.state_to;
      count = ap (number 4 4) whole ∙ number-past a (b ++ (c ++ (d ++ e))) 4 0 4 la ∙ number-word 4 (length group.nsids) (c ++ (d ++ e)) fits.count;
      list = omega (arith, len);
      nsids = ap (numbers (length group.nsids) 32) whole ∙ numbers-past (length group.nsids) a (b ++ (c ++ (d ++ e))) 4 28 la ∙ numbers-past (length group.nsids) b (c ++ (d ++ e)) 4 24 lb
          ∙ numbers-past (length group.nsids) c (d ++ e) 8 16 lc ∙ numbers-past (length group.nsids) d e 16 0 ld ∙ numbers_again group.nsids more fits.nsids;
    }

pub groups_again : (max : ℕ) (groups : List Group) (more : List ℕ) → AllByRecursion CanWrite groups → AllByRecursion Fits groups → AllByRecursion (λ group. group.id ≤ max) groups → AreGroups max (flat_map group_bytes groups ++ more) groups
groups_again max [] more can fits within = tt
groups_again max (group ∷ groups) more can fits within =
    let rest = flat_map group_bytes groups ++ more in
    let regrouped : flat_map group_bytes (group ∷ groups) ++ more ≡ group_bytes group ++ rest = ap (λ (x : List ℕ). x ++ more) (flat_map-cons group_bytes group groups) ∙ append_assoc (group_bytes group) (flat_map group_bytes groups) more in
    let after : drop (32 + 4 * length group.nsids) (group_bytes group ++ rest) ≡ rest = rw (← length-group group) (drop-append_seam (group_bytes group) rest) in
    rw regrouped (group_again max group rest can.0 fits.0 within.0, rw after (groups_again max groups more can.1 fits.1 within.1))

pub length-zeros6 : length (zeros 6) ≡ 6
unfolding zeros
length-zeros6 = refl

drop-past : (front rest : List ℕ) (place k : ℕ) → length front ≡ place → drop (place + k) (front ++ rest) ≡ drop k rest
drop-past front rest place k len = rw (← len) (drop-append-add front rest k)

pub page_again : (max : ℕ) (page : Page) → AllByRecursion CanWrite page.groups → AllByRecursion Fits page.groups → page.changes < 2 ^ 64 → length page.groups < 2 ^ 16
    → AllByRecursion (λ group. group.id ≤ max) page.groups → IsPage max (page_bytes page) page
page_again max page can fits changes count within =
    let a = word 8 page.changes in
    let b = word 2 (length page.groups) in
    let d = flat_map group_bytes page.groups in
    let la : length a ≡ 8 = length-word 8 page.changes in
    let lb : length b ≡ 2 = length-word 2 (length page.groups) in
    let lc : length (zeros 6) ≡ 6 = length-zeros6 in
    let len : length (a ++ (b ++ (zeros 6 ++ d))) ≡ 16 + length d = rw (length-append, length-append, length-append) (omega arith) in
    let after : drop 16 (a ++ (b ++ (zeros 6 ++ d))) ≡ d = drop-past a (b ++ (zeros 6 ++ d)) 8 8 la ∙ drop-past b (zeros 6 ++ d) 2 6 lb ∙ drop-past (zeros 6) d 6 0 lc in
    record {
      header = omega (arith, len);
      changes = number-word 8 page.changes (b ++ (zeros 6 ++ d)) changes;
      count = number-past a (b ++ (zeros 6 ++ d)) 8 0 2 la ∙ number-word 2 (length page.groups) (zeros 6 ++ d) count;
      groups = rw (after, ← append-nil d) (groups_again max page.groups [] can fits within);
    }

-- a group of a page that fits is no longer than the page
short : (groups : List Group) (i : ℕ) (d : Group) → i < length groups → length (get_or groups i d).nsids ≤ length (flat_map group_bytes groups)
short [] i d lt = absurd (omega arith)
short (group ∷ groups) zero d lt = rw (flat_map-cons group_bytes group groups, length-append) (omega (arith, length-group group))
short (group ∷ groups) (suc i) d lt = rw (flat_map-cons group_bytes group groups, length-append) (omega (arith, short groups i d (omega arith)))

pub short_lists : (page : Page) (groups : List Group) → groups ≡ page.groups → length (page_bytes page) ≤ 65536 → All (λ group. length group.nsids < 2 ^ 32) groups
short_lists page groups is h = rw is (λ i d lt.
    let len : length (page_bytes page) ≡ length (word 8 page.changes) + (length (word 2 (length page.groups)) + (length (zeros 6) + length (flat_map group_bytes page.groups))) = simp length-append in
    omega (arith, len, short page.groups i d lt))

pub fits_item : (x y : Group) → x ≡ y → Fits x → Fits y
fits_item x y e fits = rw (← e) fits

pub page_written : (max : ℕ) (page : Page) (groups : List Group) (bytes : List ℕ) → groups ≡ page.groups → CanWritePage page → page.changes < 2 ^ 64 → All Fits groups
    → AllByRecursion (λ group. group.id ≤ max) page.groups → bytes ≡ page_bytes page → IsPage max bytes page
page_written max page groups bytes is can changes fits within spelled =
    rw spelled (page_again max page can.groups (rw (← is) (recursion_from_All Fits groups fits)) changes can.count within)
