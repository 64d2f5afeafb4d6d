-- Entries in any order make the histories of the entries in the order in which they were made.
use Rattle.std.proofs.Common.{◌≡◌, ℕ, Bool, zero, suc, ◌+◌, ◌<◌, ◌≤◌, true, false, ◌==◌, ◌&&◌, nat_le, if◌then◌else◌, List, [], ◌∷◌, ◌++◌, map, filter, length, inl, inr, refl, sym, ap, ◌∙◌, subst, arith}
use Rattle.std.specs.List.{AllByRecursion, range_with_len, flat_map, count_by}
use Rattle.std.specs.Coded.{Coded}
use Rattle.std.proofs.lemmas.Bool.{cases_Bool}
use Rattle.std.proofs.lemmas.Bool.Decides.{nat_tests}
use Rattle.std.proofs.lemmas.List.Concat.{flat_map-cons}
use Rattle.std.proofs.lemmas.List.Sums.{length-filter}
use Rattle.mp_words.specs.declared.row.Row.{Row}
use Rattle.mp_words.specs.declared.entry.RowEntry.{RowEntry}
use Rattle.mp_words.specs.contracts.entry.RowEntry as entry
use Rattle.mp_legal.specs.Fitting.{AllFollow, IsHistory}
use Rattle.mp_legal.specs.Gathering.{is_of, is_version, count_of, history, AreVersions, HaveSameItems}
use Rattle.mp_legal.specs.Opening.{opening_entry}
use Rattle.mp_legal.specs.Placing.{firsts}
use Rattle.mp_legal.specs.PlainRun.{rows_in}
use Rattle.mp_legal.proofs.SameItems.{filters_same, small_same}

abbrev row_entries : Coded RowEntry
row_entries = (entry.the_row).coded

-- the entry has this version
abbrev at : ℕ → RowEntry → Bool
at v e = e.row.version == v

-- The entries have this version, the next one and on.
abbrev RiseFrom : ℕ → List RowEntry → Type 0
RiseFrom k [] = Unit {0}
RiseFrom k (e ∷ es) = (e.row.version ≡ k) × RiseFrom (k + 1) es

follow_rise : (row : Row) (es : List RowEntry) (k : ℕ) → row.version + 1 ≡ k → AllFollow row es → RiseFrom k es
follow_rise row [] k is all = tt
follow_rise row (e ∷ es) k is all =
    let v : e.row.version ≡ k = all.0.next ∙ is in
    (v, follow_rise e.row es (k + 1) (ap (λ n. n + 1) v) all.1)

equal : (a b : ℕ) → (a == b) ≡ true → a ≡ b
equal a b on = grind (arith, nat_tests)

differ : (a b : ℕ) → (a == b) ≡ false → a ≡ b → ⊥
differ a b off is = grind (arith, nat_tests)

same : (a b : ℕ) → a ≡ b → (a == b) ≡ true
same a b is = grind (arith, nat_tests)

apart : (a b : ℕ) → a < b → (a == b) ≡ false
apart a b lt = grind (arith, nat_tests)

rise_below : (k v : ℕ) (es : List RowEntry) → RiseFrom k es → v < k → filter (at v) es ≡ []
rise_below k v [] rise lt = refl
rise_below k v (e ∷ es) rise lt = rw (above e.row.version v (omega (arith, rise.0))) (rise_below (k + 1) v es rise.1 (omega (arith, lt)))
  where
    above : (a b : ℕ) → b < a → (a == b) ≡ false
    above a b lt = grind (arith, nat_tests)

rise_above : (k v : ℕ) (es : List RowEntry) → RiseFrom k es → k + length es ≤ v → filter (at v) es ≡ []
rise_above k v [] rise le = refl
rise_above k v (e ∷ es) rise le = rw (apart e.row.version v (omega (arith, rise.0, le))) (rise_above (k + 1) v es rise.1 (omega (arith, le)))

rise_in : (k v : ℕ) (es : List RowEntry) → RiseFrom k es → k ≤ v → v < k + length es → length (filter (at v) es) ≡ 1
rise_in k v [] rise low high = absurd (omega (arith, low, high))
rise_in k v (e ∷ es) rise low high =
    elim (cases_Bool (e.row.version == v)) [
      | inl on ↦ let is : e.row.version ≡ v = equal e.row.version v on in rw on (ap (λ (xs : List RowEntry). suc (length xs)) (rise_below (k + 1) v es rise.1 (omega (arith, is, rise.0))))
      | inr off ↦ let more : k + 1 ≤ v = next k v low (λ q. differ e.row.version v off (rise.0 ∙ q)) in rw off (rise_in (k + 1) v es rise.1 more (omega (arith, high)))
    ]
  where
    bigger : (a b : ℕ) → a ≤ b → (a == b) ≡ false → a + 1 ≤ b
    bigger a b le off = grind (arith, nat_tests)

    next : (a b : ℕ) → a ≤ b → (a ≡ b → ⊥) → a + 1 ≤ b
    next a b le other = elim (cases_Bool (a == b)) [ inl on ↦ absurd (other (equal a b on)) | inr off ↦ bigger a b le off ]

range_same : (f g : ℕ → List RowEntry) (a n : ℕ) → ((v : ℕ) → a ≤ v → f v ≡ g v) → flat_map f (range_with_len a n) ≡ flat_map g (range_with_len a n)
range_same f g a zero each = refl
range_same f g a (suc n) each =
    flat_map-cons f a (range_with_len (a + 1) n)
    ∙ ap (λ (xs : List RowEntry). xs ++ flat_map f (range_with_len (a + 1) n)) (each a (omega arith))
    ∙ ap (λ (xs : List RowEntry). g a ++ xs) (range_same f g (a + 1) n (λ v le. each v (omega (arith, le))))
    ∙ sym (flat_map-cons g a (range_with_len (a + 1) n))

-- entries in order are those of each version, one version after the other
by_version : (k : ℕ) (es : List RowEntry) → RiseFrom k es → flat_map (λ v. filter (at v) es) (range_with_len k (length es)) ≡ es
by_version k [] rise = refl
by_version k (e ∷ es) rise =
    let f : ℕ → List RowEntry = λ v. filter (at v) (e ∷ es) in
    let own : f k ≡ e ∷ [] = rw (same e.row.version k rise.0) (ap (λ (xs : List RowEntry). e ∷ xs) (rise_below (k + 1) k es rise.1 (omega arith))) in
    flat_map-cons f k (range_with_len (k + 1) (length es))
    ∙ ap (λ (xs : List RowEntry). xs ++ flat_map f (range_with_len (k + 1) (length es))) own
    ∙ ap (λ (xs : List RowEntry). e ∷ xs) (range_same f (λ v. filter (at v) es) (k + 1) (length es) (λ v le. rw (apart e.row.version v (omega (arith, rise.0, le))) refl) ∙ by_version (k + 1) es rise.1)

filter_both : (p q : RowEntry → Bool) (xs : List RowEntry) → filter (λ x. p x && q x) xs ≡ filter q (filter p xs)
filter_both p q [] = refl
filter_both p q (x ∷ xs) =
    elim (cases_Bool (p x)) [
      | inl on ↦ elim (cases_Bool (q x)) [
        | inl also ↦ rw (on, also) (ap (λ (ys : List RowEntry). x ∷ ys) (filter_both p q xs))
        | inr off ↦ rw (on, off) (filter_both p q xs)
      ]
      | inr off ↦ rw off (filter_both p q xs)
    ]

-- the slot's entries of a version, by the slot first
of_version : (slot v : ℕ) (xs : List RowEntry) → filter (is_version slot v) xs ≡ filter (at v) (filter (is_of slot) xs)
of_version slot v xs = filter_both (is_of slot) (at v) xs

rise_few : (k v : ℕ) (es : List RowEntry) → RiseFrom k es → length (filter (at v) es) ≤ 1
rise_few k v es rise =
    elim (cases_Bool (nat_le k v)) [
      | inl low ↦ elim (cases_Bool (nat_le (k + length es) v)) [
        | inl high ↦ omega (arith, ap length (rise_above k v es rise (le_of (k + length es) v high)))
        | inr within ↦ omega (arith, rise_in k v es rise (le_of k v low) (lt_of (k + length es) v within))
      ]
      | inr below ↦ omega (arith, ap length (rise_below k v es rise (lt_of k v below)))
    ]
  where
    le_of : (a b : ℕ) → nat_le a b ≡ true → a ≤ b
    le_of a b e = grind (arith, nat_tests)

    lt_of : (a b : ℕ) → nat_le a b ≡ false → b < a
    lt_of a b e = grind (arith, nat_tests)

rises : (rows : List RowEntry) (first : RowEntry) → IsHistory (rows_in rows first) → RiseFrom 1 (filter (is_of first.slot) rows)
rises rows first is = follow_rise first.row (filter (is_of first.slot) rows) 1 (omega (arith, is.0)) is.1

-- the history of a slot
pub history_same : (rows entries : List RowEntry) (first : RowEntry) → IsHistory (rows_in rows first) → HaveSameItems entries rows → history entries first ≡ rows_in rows first
history_same rows entries first is all =
    let slot = first.slot in
    let own : List RowEntry = filter (is_of slot) rows in
    let rise = rises rows first is in
    let number : count_of slot entries ≡ length own = all (is_of slot) ∙ sym (length-filter (is_of slot) rows) in
    let each : (v : ℕ) → 1 ≤ v → filter (is_version slot v) entries ≡ filter (at v) own =
    λ v low. small_same row_entries (filter (is_version slot v) entries) (filter (is_version slot v) rows) (filters_same (is_version slot v) entries rows all) (few slot v rise) ∙ of_version slot v rows in
    ap (λ (es : List RowEntry). first ∷ es)
    (ap (λ n. flat_map (λ v. filter (is_version slot v) entries) (range_with_len 1 n)) number
    ∙ range_same (λ v. filter (is_version slot v) entries) (λ v. filter (at v) own) 1 (length own) each
    ∙ by_version 1 own rise)
  where
    few : (slot v : ℕ) → RiseFrom 1 (filter (is_of slot) rows) → length (filter (is_version slot v) rows) ≤ 1
    few slot v rise = omega (arith, ap length (of_version slot v rows), rise_few 1 v (filter (is_of slot) rows) rise)

-- the histories of all slots
pub histories_same : (slot : ℕ) (opened : List Row) (rows entries : List RowEntry) → AllByRecursion IsHistory (map (rows_in rows) (firsts slot opened)) → HaveSameItems entries rows → map (history entries) (firsts slot opened) ≡ map (rows_in rows) (firsts slot opened)
histories_same slot [] rows entries are all = refl
histories_same slot (r ∷ opened) rows entries are all =
    ap (λ (h : List RowEntry). h ∷ map (history entries) (firsts (slot + 1) opened)) (history_same rows entries (opening_entry (slot, r)) are.0 all)
    ∙ ap (λ (hs : List (List RowEntry)). rows_in rows (opening_entry (slot, r)) ∷ hs) (histories_same (slot + 1) opened rows entries are.1 all)

-- the rows of the opening have version 0
pub opened_at_0 : (slot : ℕ) (opened : List Row) (rows : List RowEntry) → AllByRecursion IsHistory (map (rows_in rows) (firsts slot opened)) → AllByRecursion (λ row. row.version ≡ 0) opened
opened_at_0 slot [] rows are = tt
opened_at_0 slot (r ∷ opened) rows are = (are.0.0, opened_at_0 (slot + 1) opened rows are.1)

rises_at : (n : ℕ) (opened : List Row) (rows : List RowEntry) (slot : ℕ) → AllByRecursion IsHistory (map (rows_in rows) (firsts n opened)) → n ≤ slot → slot < n + length opened → RiseFrom 1 (filter (is_of slot) rows)
rises_at n [] rows slot are low high = absurd (omega (arith, low, high))
rises_at n (r ∷ opened) rows slot are low high =
    elim (cases_Bool (n == slot)) [
      | inl on ↦ subst (λ s. RiseFrom 1 (filter (is_of s) rows)) (equal n slot on) (rises rows (opening_entry (n, r)) are.0)
      | inr off ↦ rises_at (n + 1) opened rows slot are.1 (next n slot low off) (omega (arith, high))
    ]
  where
    next : (a b : ℕ) → a ≤ b → (a == b) ≡ false → a + 1 ≤ b
    next a b le off = grind (arith, nat_tests)

-- each slot's entries have the versions 1, 2 and on, each once
pub versions_same : (opened : List Row) (rows entries : List RowEntry) → length opened ≡ 15 → AllByRecursion IsHistory (map (rows_in rows) (firsts 0 opened)) → HaveSameItems entries rows → AreVersions entries
versions_same opened rows entries fifteen are all slot v few =
    let own : List RowEntry = filter (is_of slot) rows in
    let rise = rises_at 0 opened rows slot are (omega arith) (omega (arith, fifteen, few)) in
    let number : count_of slot entries ≡ length own = all (is_of slot) ∙ sym (length-filter (is_of slot) rows) in
    let counts : count_by (is_version slot v) entries ≡ length (filter (at v) own) = all (is_version slot v) ∙ sym (length-filter (is_version slot v) rows) ∙ ap length (of_version slot v rows) in
    counts ∙ go own rise ∙ ap (λ n. if nat_le 1 v && nat_le v n then 1 else 0) (sym number)
  where
    le_of : (a b : ℕ) → nat_le a b ≡ true → a ≤ b
    le_of a b e = grind (arith, nat_tests)

    lt_of : (a b : ℕ) → nat_le a b ≡ false → b < a
    lt_of a b e = grind (arith, nat_tests)

    go : (es : List RowEntry) → RiseFrom 1 es → length (filter (at v) es) ≡ (if nat_le 1 v && nat_le v (length es) then 1 else 0)
    go es rise =
        elim (cases_Bool (nat_le 1 v)) [
          | inl low ↦ elim (cases_Bool (nat_le v (length es))) [
            | inl high ↦ rw (low, high) (rise_in 1 v es rise (le_of 1 v low) (omega (arith, le_of v (length es) high)))
            | inr past ↦ rw (low, past) (ap length (rise_above 1 v es rise (omega (arith, lt_of v (length es) past))))
          ]
          | inr none ↦ rw none (ap length (rise_below 1 v es rise (lt_of 1 v none)))
        ]
