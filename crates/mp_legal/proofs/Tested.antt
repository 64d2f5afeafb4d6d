-- What the tests gather: entries of each version of each slot, and requests from the last number to the first.
use Rattle.std.proofs.Common.{◌≡◌, ℕ, Bool, ◌+◌, ◌<◌, ◌≤◌, true, false, ◌==◌, ◌&&◌, ◌||◌, nat_lt, nat_le, cond, List, [], ◌∷◌, ◌++◌, map, inl, inr, refl, ap, ◌∙◌, arith}
use Rattle.std.specs.List.{count_by}
use Rattle.std.proofs.lemmas.Bool.{cases_Bool}
use Rattle.std.proofs.lemmas.Bool.Decides.{nat_tests}
use Rattle.std.proofs.lemmas.List.Sums.{sum_by_push}
use Rattle.mp_checks.specs.Marks.{has}
use Rattle.mp_words.specs.declared.entry.RowEntry.{RowEntry}
use Rattle.mp_words.specs.RequestView.{RequestView}
use Rattle.mp_script.specs.Distinct.{IsDistinct}
use Rattle.mp_legal.specs.Gathering.{count_of, is_of, is_version}

abbrev if_so : Bool → ℕ
if_so b = cond b 1 0

equal : (a b : ℕ) → (a == b) ≡ true → a ≡ b
equal a b on = grind (arith, nat_tests)

-- a slot is among those below a number, or is this number
slot_more : (s i : ℕ) (b : Bool) → if_so (nat_lt s i && b) + if_so ((i == s) && b) ≡ if_so (nat_lt s (i + 1) && b)
slot_more s i b =
    elim (cases_Bool (i == s)) [
      | inl on ↦ rw (on, past s i on, own s i on) (omega arith)
      | inr off ↦ elim (cases_Bool (nat_lt s i)) [
        | inl low ↦ rw (off, low, lower s i low) (omega arith)
        | inr high ↦ rw (off, high, higher s i off high) (omega arith)
      ]
    ]
  where
    past : (s i : ℕ) → (i == s) ≡ true → nat_lt s i ≡ false
    past s i on = grind (arith, nat_tests)

    own : (s i : ℕ) → (i == s) ≡ true → nat_lt s (i + 1) ≡ true
    own s i on = grind (arith, nat_tests)

    lower : (s i : ℕ) → nat_lt s i ≡ true → nat_lt s (i + 1) ≡ true
    lower s i low = grind (arith, nat_tests)

    higher : (s i : ℕ) → (i == s) ≡ false → nat_lt s i ≡ false → nat_lt s (i + 1) ≡ false
    higher s i off high = grind (arith, nat_tests)

pub version_more : (xs ys : List RowEntry) (e : RowEntry) (i w slot v : ℕ) → e.slot ≡ i → e.row.version ≡ w → count_by (is_version slot v) xs ≡ count_by (is_version slot v) ys + cond (nat_lt slot i && (w == v)) 1 0
    → count_by (is_version slot v) (xs ++ e ∷ []) ≡ count_by (is_version slot v) ys + cond (nat_lt slot (i + 1) && (w == v)) 1 0
version_more xs ys e i w slot v at is was =
    let own : if_so (is_version slot v e) ≡ if_so ((i == slot) && (w == v)) = ap (λ n. if_so ((n == slot) && (e.row.version == v))) at ∙ ap (λ n. if_so ((i == slot) && (n == v))) is in
    omega (arith, sum_by_push (λ (x : RowEntry). if_so (is_version slot v x)) xs e, own, was, slot_more slot i (w == v))

pub count_more : (xs ys : List RowEntry) (e : RowEntry) (i slot : ℕ) → e.slot ≡ i → count_of slot xs ≡ count_of slot ys + cond (nat_lt slot i && true) 1 0 → count_of slot (xs ++ e ∷ []) ≡ count_of slot ys + cond (nat_lt slot (i + 1) && true) 1 0
count_more xs ys e i slot at was =
    let own : if_so (is_of slot e) ≡ if_so (i == slot) = ap (λ n. if_so (n == slot)) at in
    omega (arith, sum_by_push (λ (x : RowEntry). if_so (is_of slot x)) xs e, own, was, slot_more slot i true, bare (i == slot))
  where
    bare : (b : Bool) → if_so (b && true) ≡ if_so b
    bare true = refl
    bare false = refl

-- a slot that is below the number of slots
pub all_slots : (slot i : ℕ) (b : Bool) → slot < 15 → i ≡ 15 → cond (nat_lt slot i && b) 1 0 ≡ if_so b
all_slots slot i b few end = rw (below slot i few end) refl
  where
    below : (s i : ℕ) → s < 15 → i ≡ 15 → nat_lt s i ≡ true
    below s i few end = grind (arith, nat_tests)

-- a version is one of those above a number, or is this number
pub round_more : (w most v : ℕ) → w ≤ most → if_so (nat_le (w + 1) v && nat_le v most) + if_so (w == v) ≡ if_so (nat_le w v && nat_le v most)
round_more w most v le =
    elim (cases_Bool (w == v)) [
      | inl on ↦ rw (on, past w v on, own w v on, within w most v on le) refl
      | inr off ↦ elim (cases_Bool (nat_le w v)) [
        | inl low ↦ rw (off, low, higher w v off low) (omega arith)
        | inr high ↦ rw (off, high, lower w v high) refl
      ]
    ]
  where
    past : (w v : ℕ) → (w == v) ≡ true → nat_le (w + 1) v ≡ false
    past w v on = grind (arith, nat_tests)

    own : (w v : ℕ) → (w == v) ≡ true → nat_le w v ≡ true
    own w v on = grind (arith, nat_tests)

    within : (w most v : ℕ) → (w == v) ≡ true → w ≤ most → nat_le v most ≡ true
    within w most v on le = grind (arith, nat_tests)

    higher : (w v : ℕ) → (w == v) ≡ false → nat_le w v ≡ true → nat_le (w + 1) v ≡ true
    higher w v off low = grind (arith, nat_tests)

    lower : (w v : ℕ) → nat_le w v ≡ false → nat_le (w + 1) v ≡ false
    lower w v high = grind (arith, nat_tests)

neither : (a b : Bool) → (a || b) ≡ false → (a ≡ false) × (b ≡ false)
neither true b e = absurd cc
neither false b e = (refl, e)

flip : (a b : ℕ) → (a == b) ≡ false → (b == a) ≡ false
flip a b off = grind (arith, nat_tests)

pub has_more : (xs : List RequestView) (r : RequestView) (n : ℕ) → has (map (λ q. q.id) xs) n ≡ false → (r.id == n) ≡ false → has (map (λ q. q.id) (xs ++ r ∷ [])) n ≡ false
has_more [] r n none off = rw off refl
has_more (x ∷ xs) r n none off =
    let parts = neither (x.id == n) (has (map (λ q. q.id) xs) n) none in
    rw parts.0 (has_more xs r n parts.1 off)

pub distinct_more : (xs : List RequestView) (r : RequestView) → IsDistinct (map (λ q. q.id) xs) → has (map (λ q. q.id) xs) r.id ≡ false → IsDistinct (map (λ q. q.id) (xs ++ r ∷ []))
distinct_more [] r distinct none = (refl, tt)
distinct_more (x ∷ xs) r distinct none =
    let parts = neither (x.id == r.id) (has (map (λ q. q.id) xs) r.id) none in
    (has_more xs r x.id distinct.0 (flip x.id r.id parts.0), distinct_more xs r distinct.1 parts.1)

pub apart : (a b : ℕ) → a < b → (b == a) ≡ false
apart a b lt = grind (arith, nat_tests)
