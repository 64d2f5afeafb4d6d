-- Entries that are written at their versions.
use Rattle.std.proofs.Common.{◌≡◌, ℕ, Bool, subst, zero, suc, ◌+◌, ◌<◌, true, false, ◌==◌, ◌&&◌, List, [], ◌∷◌, ◌++◌, map, filter, length, get_or, set, replicate, refl, sym, ap, ◌∙◌, append-nil, arith, eq-eqb}
use Rattle.std.specs.List.{range_with_len}
use Rattle.std.proofs.lemmas.Bool.Decides.{nat_tests}
use Rattle.std.proofs.lemmas.List.Elements.{filter-append}
use Rattle.mp_words.specs.declared.row.Row.{Row}
use Rattle.mp_words.specs.declared.entry.RowEntry.{RowEntry}
use Rattle.mp_legal.specs.Opening.{opening_entry}
use Rattle.mp_legal.specs.Gathering.{is_version, count_of}
use Rattle.mp_legal.specs.Placing.{last_entry, entry_at, written_in, blank_for, firsts}

-- a function of the numbers of a range is changed at one of them
pub set_range : {X : Type 0} (f g : ℕ → X) (a n i : ℕ) (y : X) → i < n → g (a + i) ≡ y → ((v : ℕ) → (v == a + i) ≡ false → g v ≡ f v) → set (map f (range_with_len a n)) i y ≡ map g (range_with_len a n)
set_range f g a zero i y lt at else = absurd (omega arith)
set_range {X} f g a (suc n) zero y lt at else =
    let e : a + 0 ≡ a = omega arith in
    let here : g a ≡ y = ap g (sym e) ∙ at in
    ap (λ (x : X). x ∷ map f (range_with_len (a + 1) n)) (sym here) ∙ ap (λ (xs : List X). g a ∷ xs) (behind (a + 1) n (omega arith))
  where
    apart : (v w : ℕ) → w < v → (v == w) ≡ false
    apart v w lt = grind (arith, nat_tests)

    behind : (b m : ℕ) → a + 0 < b → map f (range_with_len b m) ≡ map g (range_with_len b m)
    behind b zero above = refl
    behind b (suc m) above = rw (else b (apart b (a + 0) above)) (ap (λ (xs : List X). f b ∷ xs) (behind (b + 1) m (omega arith)))
set_range {X} f g a (suc n) (suc i) y lt at else =
    let e : a + suc i ≡ a + 1 + i = omega arith in
    rw (else a (apart a (a + suc i) (omega arith))) (ap (λ (xs : List X). f a ∷ xs) (set_range f g (a + 1) n i y (omega arith) (ap g (sym e) ∙ at) (λ v off. else v (ap (λ w. v == w) e ∙ off))))
  where
    apart : (v w : ℕ) → v < w → (v == w) ≡ false
    apart v w lt = grind (arith, nat_tests)

last_more : (d : RowEntry) (xs : List RowEntry) (e : RowEntry) → last_entry d (xs ++ e ∷ []) ≡ e
last_more d [] e = refl
last_more d (x ∷ xs) e = last_more x xs e

-- the entry that was written last stands at its version
pub entry_here : (xs : List RowEntry) (first e : RowEntry) (v : ℕ) → is_version first.slot v e ≡ true → entry_at (xs ++ e ∷ []) first v ≡ e
entry_here xs first e v on =
    let more : filter (is_version first.slot v) (e ∷ []) ≡ e ∷ [] = rw on refl in
    ap (last_entry first) (filter-append (is_version first.slot v) xs (e ∷ []) ∙ ap (λ (es : List RowEntry). filter (is_version first.slot v) xs ++ es) more)
    ∙ last_more first (filter (is_version first.slot v) xs) e

-- any other version stays
pub entry_else : (xs : List RowEntry) (first e : RowEntry) (v : ℕ) → is_version first.slot v e ≡ false → entry_at (xs ++ e ∷ []) first v ≡ entry_at xs first v
entry_else xs first e v off =
    let more : filter (is_version first.slot v) (e ∷ []) ≡ [] = rw off refl in
    ap (last_entry first) (filter-append (is_version first.slot v) xs (e ∷ []) ∙ ap (λ (es : List RowEntry). filter (is_version first.slot v) xs ++ es) more ∙ append-nil (filter (is_version first.slot v) xs))

and_true : (a b : Bool) → a ≡ true → b ≡ true → (a && b) ≡ true
and_true a b x y = cc

and_off : (a b : Bool) → b ≡ false → (a && b) ≡ false
and_off true b off = off
and_off false b off = refl

and_first : (a b : Bool) → a ≡ false → (a && b) ≡ false
and_first a b off = rw off refl

flip : (a b : ℕ) → (a == b) ≡ false → (b == a) ≡ false
flip a b off = grind (arith, nat_tests)

-- an entry of the slot is written at its version
pub written_here : (all xs : List RowEntry) (first e : RowEntry) (w : ℕ) → e.slot ≡ first.slot → e.row.version ≡ suc w → w < count_of first.slot all
    → set (written_in all xs first) e.row.version e ≡ written_in all (xs ++ e ∷ []) first
written_here all xs first e w slot version lt =
    let f : ℕ → RowEntry = entry_at xs first in
    let g : ℕ → RowEntry = entry_at (xs ++ e ∷ []) first in
    let n = count_of first.slot all in
    let at : e.row.version ≡ 1 + w = omega (arith, version) in
    let on : is_version first.slot (1 + w) e ≡ true = and_true (e.slot == first.slot) (e.row.version == 1 + w) (eq-eqb e.slot first.slot slot) (eq-eqb e.row.version (1 + w) at) in
    let here : g (1 + w) ≡ e = entry_here xs first e (1 + w) on in
    let step : set (map f (range_with_len 1 n)) w e ≡ map g (range_with_len 1 n) = set_range f g 1 n w e lt here (λ v off. entry_else xs first e v (and_off (e.slot == first.slot) (e.row.version == v) (other v off at))) in
    ap (λ (k : ℕ). set (written_in all xs first) k e) version ∙ ap (λ (es : List RowEntry). first ∷ es) step
  where
    other : (v : ℕ) → (v == 1 + w) ≡ false → e.row.version ≡ 1 + w → (e.row.version == v) ≡ false
    other v off at = ap (λ k. k == v) at ∙ flip v (1 + w) off

-- an entry of another slot changes nothing
pub written_else : (all xs : List RowEntry) (first e : RowEntry) → (e.slot == first.slot) ≡ false → written_in all (xs ++ e ∷ []) first ≡ written_in all xs first
written_else all xs first e off =
    ap (λ (f : ℕ → RowEntry). first ∷ map f (range_with_len 1 (count_of first.slot all))) (λ i v. entry_else xs first e v (and_first (e.slot == first.slot) (e.row.version == v) off) i)

apart : (a b : ℕ) → a < b → (a == b) ≡ false
apart a b lt = grind (arith, nat_tests)

above_apart : (a b : ℕ) → b < a → (a == b) ≡ false
above_apart a b lt = grind (arith, nat_tests)

-- slots behind that of the entry keep their histories
behind : (n : ℕ) (rows : List Row) (all xs : List RowEntry) (e : RowEntry) → e.slot < n → map (written_in all (xs ++ e ∷ [])) (firsts n rows) ≡ map (written_in all xs) (firsts n rows)
behind n [] all xs e lt = refl
behind n (r ∷ rows) all xs e lt =
    rw (written_else all xs (opening_entry (n, r)) e (apart e.slot n lt)) (ap (λ (hs : List (List RowEntry)). written_in all xs (opening_entry (n, r)) ∷ hs) (behind (n + 1) rows all xs e (omega arith)))

-- an entry is written into the history of its slot, at its version
pub written_more : (n : ℕ) (rows : List Row) (all xs : List RowEntry) (e : RowEntry) (place w : ℕ) → e.slot ≡ n + place → place < length rows → e.row.version ≡ suc w → w < count_of e.slot all
    → set (map (written_in all xs) (firsts n rows)) place (set (get_or (map (written_in all xs) (firsts n rows)) place []) e.row.version e) ≡ map (written_in all (xs ++ e ∷ [])) (firsts n rows)
written_more n [] all xs e place w is lt version low = absurd (omega arith)
written_more n (r ∷ rows) all xs e zero w is lt version low =
    let here : e.slot ≡ n = omega arith in
    let few : w < count_of n all = subst (λ s. w < count_of s all) here low in
    ap (λ (h : List RowEntry). h ∷ map (written_in all xs) (firsts (n + 1) rows)) (written_here all xs (opening_entry (n, r)) e w here version few)
    ∙ ap (λ (hs : List (List RowEntry)). written_in all (xs ++ e ∷ []) (opening_entry (n, r)) ∷ hs) (sym (behind (n + 1) rows all xs e (omega arith)))
written_more n (r ∷ rows) all xs e (suc place) w is lt version low =
    rw (written_else all xs (opening_entry (n, r)) e (above_apart e.slot n (omega arith))) (ap (λ (hs : List (List RowEntry)). written_in all xs (opening_entry (n, r)) ∷ hs) (written_more (n + 1) rows all xs e place w (omega arith) (omega arith) version low))

-- before an entry was written each place has the first one
blank_range : (first : RowEntry) (a n : ℕ) → replicate n first ≡ map (entry_at [] first) (range_with_len a n)
blank_range first a zero = refl
blank_range first a (suc n) = ap (λ (es : List RowEntry). first ∷ es) (blank_range first (a + 1) n)

pub blank_is : (all : List RowEntry) (first : RowEntry) → blank_for all first ≡ written_in all [] first
blank_is all first = ap (λ (es : List RowEntry). first ∷ es) (blank_range first 1 (count_of first.slot all))

pub blanks_are : (all fs : List RowEntry) → map (blank_for all) fs ≡ map (written_in all []) fs
blanks_are all fs = ap (λ (h : RowEntry → List RowEntry). map h fs) (λ i first. blank_is all first i)
