-- Entries of which each slot has the versions 1, 2 and on, each once.
use Rattle.std.proofs.Common.{◌≡◌, ℕ, Bool, zero, suc, ◌+◌, ◌<◌, ◌≤◌, true, false, ◌==◌, ◌&&◌, nat_le, List, [], ◌∷◌, ◌++◌, map, filter, length, get_or, refl, sym, ap, ◌∙◌, arith, eq-eqb, if◌then◌else◌, cond}
use Rattle.std.specs.List.{range_with_len, flat_map, count_by}
use Rattle.std.proofs.lemmas.Bool.Decides.{nat_tests}
use Rattle.std.proofs.lemmas.List.Concat.{flat_map-cons}
use Rattle.std.proofs.lemmas.List.Sums.{length-filter, get_or-le-sum_by}
use Rattle.mp_words.specs.declared.row.Row.{Row}
use Rattle.mp_words.specs.declared.entry.RowEntry.{RowEntry}
use Rattle.mp_legal.specs.Opening.{opening_entry}
use Rattle.mp_legal.specs.Gathering.{is_version, count_of, history, AreVersions}
use Rattle.mp_legal.specs.Placing.{last_entry, written_in, firsts}

abbrev if_so : Bool → ℕ
if_so b = cond b 1 0

-- what the count of a version is, where the number is from 1 to the number of entries
within : (v n : ℕ) → 1 ≤ v → v ≤ n → (nat_le 1 v && nat_le v n) ≡ true
within v n low high = grind (arith, nat_tests)

and_parts : (a b : Bool) → (a && b) ≡ true → (a ≡ true) × (b ≡ true)
and_parts true b e = (refl, e)
and_parts false b e = absurd cc

low_of : (v : ℕ) → nat_le 1 v ≡ true → 1 ≤ v
low_of v e = grind (arith, nat_tests)

high_of : (v n : ℕ) → nat_le v n ≡ true → v ≤ n
high_of v n e = grind (arith, nat_tests)

counted : (b : Bool) (k : ℕ) → k ≡ (if b then 1 else 0) → 1 ≤ k → b ≡ true
counted true k e low = refl
counted false k e low = absurd (omega (arith, e))

-- an entry has one of the versions of its slot
pub version_fits : (xs : List RowEntry) (i : ℕ) (e : RowEntry) → AreVersions xs → i < length xs → e ≡ get_or xs i e → e.slot < 15 → (1 ≤ e.row.version) × (e.row.version ≤ count_of e.slot xs)
version_fits xs i e versions lt is few =
    let v = e.row.version in
    let p : RowEntry → Bool = is_version e.slot v in
    let own : p e ≡ true = own_version e in
    let one : cond (p (get_or xs i e)) 1 0 ≡ 1 = ap (λ (x : RowEntry). cond (p x) 1 0) (sym is) ∙ ap (λ b. if_so b) own in
    let some : 1 ≤ count_by p xs = omega (arith, one, get_or-le-sum_by (λ (x : RowEntry). cond (p x) 1 0) xs i e lt) in
    let parts = and_parts (nat_le 1 v) (nat_le v (count_of e.slot xs)) (counted (nat_le 1 v && nat_le v (count_of e.slot xs)) (count_by p xs) (versions e.slot v few) some) in
    (low_of v parts.0, high_of v (count_of e.slot xs) parts.1)
  where
    both : (a b : Bool) → a ≡ true → b ≡ true → (a && b) ≡ true
    both a b x y = cc

    own_version : (e : RowEntry) → is_version e.slot e.row.version e ≡ true
    own_version e = both (e.slot == e.slot) (e.row.version == e.row.version) (eq-eqb e.slot e.slot refl) (eq-eqb e.row.version e.row.version refl)

one_of : (d : RowEntry) (xs : List RowEntry) → length xs ≡ 1 → xs ≡ last_entry d xs ∷ []
one_of d [] e = absurd (omega (arith, e))
one_of d (x ∷ []) e = refl
one_of d (x ∷ y ∷ xs) e = absurd (omega (arith, e))

-- lists of one entry each, one behind the other
singles : (f : ℕ → List RowEntry) (d : RowEntry) (a n : ℕ) → ((v : ℕ) → a ≤ v → v < a + n → length (f v) ≡ 1) → map (λ v. last_entry d (f v)) (range_with_len a n) ≡ flat_map f (range_with_len a n)
singles f d a zero one = refl
singles f d a (suc n) one =
    let rest = singles f d (a + 1) n (λ v low high. one v (omega (arith, low)) (omega (arith, high))) in
    ap (λ (es : List RowEntry). last_entry d (f a) ∷ es) rest
    ∙ ap (λ (es : List RowEntry). es ++ flat_map f (range_with_len (a + 1) n)) (sym (one_of d (f a) (one a (omega arith) (omega arith))))
    ∙ sym (flat_map-cons f a (range_with_len (a + 1) n))

once : (xs : List RowEntry) → AreVersions xs → (slot v : ℕ) → slot < 15 → 1 ≤ v → v < 1 + count_of slot xs → length (filter (is_version slot v) xs) ≡ 1
once xs versions slot v few low high =
    length-filter (is_version slot v) xs ∙ versions slot v few ∙ ap if_so (within v (count_of slot xs) low (omega (arith, high)))

-- once all entries were written, the slot's history is whole
pub written_all : (xs : List RowEntry) (first : RowEntry) → AreVersions xs → first.slot < 15 → written_in xs xs first ≡ history xs first
written_all xs first versions few =
    ap (λ (es : List RowEntry). first ∷ es) (singles (λ v. filter (is_version first.slot v) xs) first 1 (count_of first.slot xs) (λ v low high. once xs versions first.slot v few low high))

-- and so are all of them
pub histories_are : (slot : ℕ) (rows : List Row) (xs : List RowEntry) → AreVersions xs → slot + length rows ≤ 15 → map (written_in xs xs) (firsts slot rows) ≡ map (history xs) (firsts slot rows)
histories_are slot [] xs versions few = refl
histories_are slot (r ∷ rows) xs versions few =
    ap (λ (h : List RowEntry). h ∷ map (written_in xs xs) (firsts (slot + 1) rows)) (written_all xs (opening_entry (slot, r)) versions (omega (arith, few)))
    ∙ ap (λ (hs : List (List RowEntry)). history xs (opening_entry (slot, r)) ∷ hs) (histories_are (slot + 1) rows xs versions (omega (arith, few)))
