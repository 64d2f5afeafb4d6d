-- The histories before an entry was written, and how many entries each slot has.
use Rattle.std.proofs.Common.{◌≡◌, ℕ, Bool, zero, suc, ◌+◌, ◌<◌, true, false, ◌==◌, List, [], ◌∷◌, ◌++◌, map, length, get_or, set, take, replicate, refl, sym, ap, ◌∙◌, arith}
use Rattle.std.specs.List.{enumerate_from}
use Rattle.std.proofs.lemmas.Bool.Decides.{nat_tests}
use Rattle.std.proofs.lemmas.List.{take_more, map-append, length-take-le, length-map, get_or-set_same, get_or-set_other}
use Rattle.std.proofs.lemmas.List.FromFn.{length-map-range_with_len}
use Rattle.std.proofs.lemmas.List.Sums.{count_by_more_yes, count_by_more_no}
use Rattle.mp_words.specs.declared.row.Row.{Row}
use Rattle.mp_words.specs.declared.entry.RowEntry.{RowEntry}
use Rattle.mp_words.specs.RowWord.{row_in}
use Rattle.mp_legal.specs.Opening.{opening_entry}
use Rattle.mp_legal.specs.Gathering.{is_of, count_of}
use Rattle.mp_legal.specs.Placing.{entry_at, written_in, blank_for, firsts}

differ : (a b : ℕ) → (a == b) ≡ false → a ≡ b → ⊥
differ a b off is = grind (arith, nat_tests)

equal : (a b : ℕ) → (a == b) ≡ true → a ≡ b
equal a b on = grind (arith, nat_tests)

-- one more entry is counted at its slot
pub counted_more : (numbers : List ℕ) (xs : List RowEntry) (i : ℕ) (e : RowEntry) (at : ℕ) → length numbers ≡ 15 → i < length xs → e ≡ get_or xs i e → at ≡ e.slot → at < 15 → ((s : ℕ) → s < 15 → get_or numbers s 0 ≡ count_of s (take i xs))
    → (slot : ℕ) → slot < 15 → get_or (set numbers at (get_or numbers at 0 + 1)) slot 0 ≡ count_of slot (take (i + 1) xs)
counted_more numbers xs i e at len lt is here low was slot few = go (e.slot == slot) refl
  where
    go : (b : Bool) → (e.slot == slot) ≡ b → get_or (set numbers at (get_or numbers at 0 + 1)) slot 0 ≡ count_of slot (take (i + 1) xs)
    go true on =
        let same : at ≡ slot = here ∙ equal e.slot slot on in
        let counts : is_of slot (get_or xs i e) ≡ true = ap (λ (x : RowEntry). x.slot == slot) (sym is) ∙ on in
        ap (λ s. get_or (set numbers at (get_or numbers at 0 + 1)) s 0) (sym same)
        ∙ get_or-set_same numbers at (get_or numbers at 0 + 1) 0 (omega (arith, len, low))
        ∙ ap (λ n. n + 1) (was at low ∙ ap (λ s. count_of s (take i xs)) same)
        ∙ sym (count_by_more_yes (is_of slot) xs i e lt counts)
    go false off =
        let counts : is_of slot (get_or xs i e) ≡ false = ap (λ (x : RowEntry). x.slot == slot) (sym is) ∙ off in
        get_or-set_other numbers at slot (get_or numbers at 0 + 1) 0 (λ q. differ e.slot slot off (sym here ∙ sym q))
        ∙ was slot few
        ∙ sym (count_by_more_no (is_of slot) xs i e lt counts)

enumerate_more : {X : Type 0} (n : ℕ) (xs : List X) (x : X) → enumerate_from n (xs ++ x ∷ []) ≡ enumerate_from n xs ++ (n + length xs, x) ∷ []
enumerate_more n [] x = let e : n ≡ n + 0 = omega arith in ap (λ m. (m, x) ∷ []) e
enumerate_more n (y ∷ xs) x =
    let e : n + 1 + length xs ≡ n + suc (length xs) = omega arith in
    ap (λ rest. (n, y) ∷ rest) (enumerate_more (n + 1) xs x ∙ ap (λ m. enumerate_from (n + 1) xs ++ (m, x) ∷ []) e)

firsts_more : (n : ℕ) (rows : List Row) (r : Row) → firsts n (rows ++ r ∷ []) ≡ firsts n rows ++ opening_entry (n + length rows, r) ∷ []
firsts_more n rows r = ap (map opening_entry) (enumerate_more n rows r) ∙ map-append opening_entry (enumerate_from n rows) ((n + length rows, r) ∷ [])

-- the history of one slot more
pub blanks_more : (hs : List (List RowEntry)) (all : List RowEntry) (words : List ℕ) (place slot : ℕ) (number : ℕ) (first : RowEntry) (h : List RowEntry)
    → place < length words → slot ≡ place → first ≡ opening_entry (slot, row_in (get_or words place 0)) → number ≡ count_of place all → h ≡ replicate (suc number) first
    → hs ≡ map (blank_for all) (firsts 0 (map row_in (take place words))) → hs ++ h ∷ [] ≡ map (blank_for all) (firsts 0 (map row_in (take (place + 1) words)))
blanks_more hs all words place slot number first h lt here begins counts blank was =
    let word : ℕ = get_or words place 0 in
    let rows : List Row = map row_in (take place words) in
    let len : 0 + length rows ≡ place = omega (arith, length-map (take place words) row_in, length-take-le place words (omega (arith, lt))) in
    let entry : first ≡ opening_entry (0 + length rows, row_in word) = begins ∙ ap (λ s. opening_entry (s, row_in word)) (here ∙ sym len) in
    let own : h ≡ blank_for all (opening_entry (0 + length rows, row_in word)) =
    blank ∙ ap (λ n. replicate (suc n) first) (counts ∙ ap (λ s. count_of s all) (sym len)) ∙ ap (λ (f : RowEntry). replicate (suc (count_of (0 + length rows) all)) f) entry in
    let taken : map row_in (take (place + 1) words) ≡ rows ++ row_in word ∷ [] =
    ap (map row_in) (take_more words place 0 lt) ∙ map-append row_in (take place words) (word ∷ []) in
    ap (λ (gs : List (List RowEntry)). gs ++ h ∷ []) was
    ∙ ap (λ (g : List RowEntry). map (blank_for all) (firsts 0 rows) ++ g ∷ []) own
    ∙ sym (map-append (blank_for all) (firsts 0 rows) (opening_entry (0 + length rows, row_in word) ∷ []))
    ∙ ap (map (blank_for all)) (sym (firsts_more 0 rows (row_in word)))
    ∙ ap (λ (rs : List Row). map (blank_for all) (firsts 0 rs)) (sym taken)

-- each slot has a history
pub places : {X : Type 0} (f : RowEntry → X) (n : ℕ) (rows : List Row) → length (map f (firsts n rows)) ≡ length rows
places f n [] = refl
places f n (r ∷ rows) = let more = places f (n + 1) rows in omega (arith, more)

-- a slot's history has as many places behind the first one as the slot has entries
pub room_at : (n : ℕ) (rows : List Row) (all xs : List RowEntry) (place : ℕ) → place < length rows → length (get_or (map (written_in all xs) (firsts n rows)) place []) ≡ suc (count_of (n + place) all)
room_at n [] all xs place lt = absurd (omega arith)
room_at n (r ∷ rows) all xs zero lt =
    let e : n ≡ n + 0 = omega arith in
    ap suc (length-map-range_with_len (entry_at xs (opening_entry (n, r))) 1 (count_of n all)) ∙ ap (λ s. suc (count_of s all)) e
room_at n (r ∷ rows) all xs (suc place) lt =
    let e : n + 1 + place ≡ n + suc place = omega arith in
    room_at (n + 1) rows all xs place (omega (arith, lt)) ∙ ap (λ s. suc (count_of s all)) e
