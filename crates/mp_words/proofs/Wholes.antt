-- Tries that are each kept whole.
use Rattle.std.proofs.Common.{◌≡◌, ℕ, ◌+◌, ◌<◌, zero, suc, List, [], ◌∷◌, ◌++◌, length, get_or, ◌⊎◌, inl, inr, ⊎_elim, refl, sym, ap, subst, ◌∙◌, Some, arith, length-append}
use native.Mathlib.Numerals.{unary_clauses}
use Rattle.std.specs.Prelude.{slice_get}
use Rattle.std.proofs.lemmas.Option.{slice_get-get_or, slice_get_read}
use Rattle.std.proofs.Math.ListN.{get_or-append}
use Rattle.std.proofs.Math.Seq.{get_or-append_seam}
use Rattle.mp_words.specs.declared.kept_try.KeptTry.{KeptTry}
use Rattle.mp_words.specs.declared.kept_try.KeptTry.TheVariants as how
use Rattle.mp_words.specs.Keeps.{wholes, kept_in, AreCounted}

pub length-wholes : (n : ℕ) → length (wholes n) ≡ n
length-wholes zero = refl
length-wholes (suc n) = omega (arith, length-append (wholes n) (how.Whole n ∷ []), length-wholes n)

pub kept-length : (n : ℕ) (ks : List KeptTry) → AreCounted n ks → length (kept_in n ks) ≡ n
kept-length n [] a = length-wholes n
kept-length n (k ∷ ks) a = a

cases_lt : (n i : ℕ) → i < suc n → (i < n) ⊎ (n ≡ i)
cases_lt zero zero h = inr refl
cases_lt zero (suc i) h = absurd (omega arith)
cases_lt (suc n) zero h = inl (omega arith)
cases_lt (suc n) (suc i) h = ⊎_elim (λ (low : i < n). inl (omega (arith, low))) (λ (at : n ≡ i). inr (ap suc at)) (cases_lt n i (omega (arith, h)))

-- each of them stands at its place
wholes-get : (n i : ℕ) (d : KeptTry) → i < n → get_or (wholes n) i d ≡ how.Whole i
wholes-get zero i d h = absurd (omega arith)
wholes-get (suc n) i d h =
    ⊎_elim
    (λ (low : i < n). get_or-append (wholes n) (how.Whole n ∷ []) d i (omega (arith, low, length-wholes n)) ∙ wholes-get n i d low)
    (λ (at : n ≡ i). subst (λ m. get_or (wholes n ++ how.Whole n ∷ []) m d ≡ how.Whole m) (length-wholes n ∙ at) (get_or-append_seam (wholes n) (how.Whole n) [] d ∙ ap how.Whole (sym (length-wholes n))))
    (cases_lt n i h)

-- one that is counted alone
pub counted-at : (n i : ℕ) (ks : List KeptTry) → length ks ≡ 0 → i < length (kept_in n ks) → slice_get (kept_in n ks) i ≡ Some (how.Whole i)
counted-at n i [] e h = slice_get-get_or (wholes n) i (how.Whole i) h ∙ ap Some (wholes-get n i (how.Whole i) (omega (arith, h, length-wholes n)))
counted-at n i (k ∷ ks) e h = absurd (omega arith)

-- one that stands in a list
pub listed-at : (n i : ℕ) (ks : List KeptTry) (k : KeptTry) → i < length ks → k ≡ get_or ks i k → slice_get (kept_in n ks) i ≡ Some k
listed-at n i [] k h g = absurd (omega arith)
listed-at n i (x ∷ xs) k h g = slice_get_read (x ∷ xs) (length (x ∷ xs)) i k refl h g

-- a list that isn't empty has them all
pub listed-long : (n : ℕ) (ks : List KeptTry) → AreCounted n ks → (length ks ≡ 0 → ⊥) → length ks ≡ n
listed-long n [] a e = absurd (e refl)
listed-long n (k ∷ ks) a e = a

-- an empty list counts for any number
pub counted-none : (n : ℕ) (ks : List KeptTry) → length ks ≡ 0 → AreCounted n ks
counted-none n [] e = tt
counted-none n (k ∷ ks) e = absurd (omega arith)

-- one more that is counted alone
pub counted-more : (n : ℕ) (ks : List KeptTry) → length ks ≡ 0 → kept_in (n + 1) ks ≡ kept_in n ks ++ how.Whole n ∷ []
counted-more n [] e = simp unary_clauses refl
counted-more n (k ∷ ks) e = absurd (omega arith)

-- one more in a list
pub listed-more : (n : ℕ) (ks : List KeptTry) (k : KeptTry) → length ks ≡ n → AreCounted (n + 1) (ks ++ k ∷ [])
listed-more n [] k e = ap (λ m. m + 1) e
listed-more n (x ∷ xs) k e = omega (arith, length-append (x ∷ xs) (k ∷ []))

pub listed-items : (n : ℕ) (ks : List KeptTry) (k : KeptTry) → kept_in n (ks ++ k ∷ []) ≡ ks ++ k ∷ []
listed-items n [] k = refl
listed-items n (x ∷ xs) k = refl

-- a list as it stands, and what is counted as it is written down
pub listed-same : (n : ℕ) (ks : List KeptTry) → (length ks ≡ 0 → ⊥) → kept_in n ks ≡ ks
listed-same n [] e = absurd (e refl)
listed-same n (k ∷ ks) e = refl

pub counted-same : (n : ℕ) (ks : List KeptTry) → length ks ≡ 0 → kept_in n ks ≡ wholes n
counted-same n [] e = refl
counted-same n (k ∷ ks) e = absurd (omega arith)
