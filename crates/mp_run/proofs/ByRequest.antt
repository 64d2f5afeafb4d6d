-- Requests in the order of their numbers are those of a run that has the same.
use Rattle.std.proofs.Common.{[], ◌≡◌, ℕ, ◌<◌, ◌==◌, Bool, true, false, List, ◌∷◌, inl, inr, map, refl, sym, ap, ◌∙◌, arith, nat_lt, eq-eqb, eqb-true}
use Rattle.std.specs.List.{AllByRecursion}
use Rattle.std.proofs.lemmas.Bool.{cases_Bool}
use Rattle.std.proofs.lemmas.Bool.Decides.{nat_tests}
use Rattle.mp_words.specs.Request.{Asked, asked_of}
use Rattle.mp_words.specs.RequestView.{RequestView}
use Rattle.mp_legal.specs.Numbers.{asked_at, has_req}
use Rattle.mp_legal.specs.ToldDesks.{IsInRun}
use Rattle.mp_legal.specs.ToldState.{Beside}
use Rattle.mp_run.specs.Notes.{AreNoted}
use Rattle.mp_run.specs.Told.{AreNumbered}

other_number : (n m : ℕ) → n < m → (m == n) ≡ false
other_number n m lt = grind (arith, nat_tests, lt)

-- a number below all is none of them
less_none : (n : ℕ) (rs : List Asked) → AllByRecursion (λ b. n < b.req) rs → has_req n rs ≡ false
less_none n [] all = refl
less_none n (r ∷ rs) all = rw (other_number n r.req all.0) (less_none n rs all.1)

greater : (n m : ℕ) (rs : List Asked) → n < m → AllByRecursion (λ b. m < b.req) rs → AllByRecursion (λ b. n < b.req) rs
greater n m [] lt all = tt
greater n m (r ∷ rs) lt all = (omega (arith, lt, all.0), greater n m rs lt all.1)

own_has : (r : Asked) (rs : List Asked) → has_req r.req (r ∷ rs) ≡ true
own_has r rs = rw (eq-eqb r.req r.req refl) refl

own_asked : (r : Asked) (rs : List Asked) → asked_at r.req (r ∷ rs) ≡ r
own_asked r rs = rw (eq-eqb r.req r.req refl) refl

not_before : (n : ℕ) (x : Asked) (xs : List Asked) → AreNumbered (x ∷ xs) → has_req n (x ∷ xs) ≡ true → n < x.req → ⊥
not_before n x xs numbered on lt = let off : has_req n (x ∷ xs) ≡ false = less_none n (x ∷ xs) (lt, greater n x.req xs lt numbered.0) in cc

later_has : (n : ℕ) (r : Asked) (rs : List Asked) → (r.req == n) ≡ false → has_req n (r ∷ rs) ≡ has_req n rs
later_has n r rs off = rw off refl

later_asked : (n : ℕ) (r : Asked) (rs : List Asked) → (r.req == n) ≡ false → asked_at n (r ∷ rs) ≡ asked_at n rs
later_asked n r rs off = rw off refl

-- two lists by number that have the same requests are the same
pub same_numbered : (rs xs : List Asked) → AreNumbered rs → AreNumbered xs → ((n : ℕ) → has_req n rs ≡ has_req n xs) → ((n : ℕ) → has_req n rs ≡ true → asked_at n rs ≡ asked_at n xs) → rs ≡ xs
same_numbered [] [] a b has told = refl
same_numbered [] (x ∷ xs) a b has told = let on = own_has x xs in let off = has x.req in absurd cc
same_numbered (r ∷ rs) [] a b has told = let on = own_has r rs in let off = has r.req in absurd cc
same_numbered (r ∷ rs) (x ∷ xs) a b has told =
    let there : has_req r.req (x ∷ xs) ≡ true = sym (has r.req) ∙ own_has r rs in
    let here : has_req x.req (r ∷ rs) ≡ true = has x.req ∙ own_has x xs in
    let number : r.req ≡ x.req = elim (cases_Bool (nat_lt r.req x.req)) [
      | inl low ↦ absurd (not_before r.req x xs b there (grind (arith, nat_tests, low)))
      | inr high ↦ elim (cases_Bool (nat_lt x.req r.req)) [
        | inl low ↦ absurd (not_before x.req r rs a here (grind (arith, nat_tests, low)))
        | inr same ↦ grind (arith, nat_tests, high, same)
      ]
    ] in
    let first : r ≡ x = sym (own_asked r rs) ∙ told r.req (own_has r rs) ∙ ap (λ n. asked_at n (x ∷ xs)) number ∙ own_asked x xs in
    let rest : rs ≡ xs = same_numbered rs xs a.1 b.1
    (λ n. elim (cases_Bool (r.req == n)) [
      | inl on ↦ let is : r.req ≡ n = eqb-true r.req n on in
          ap (λ k. has_req k rs) (sym is) ∙ less_none r.req rs a.0 ∙ sym (ap (λ k. has_req k xs) (sym is ∙ number) ∙ less_none x.req xs b.0)
      | inr off ↦ sym (later_has n r rs off) ∙ has n ∙ later_has n x xs (ap (λ k. k == n) (sym number) ∙ off)
    ])
    (λ n on. elim (cases_Bool (r.req == n)) [
      | inl same ↦ let is : r.req ≡ n = eqb-true r.req n same in
          let off : has_req n rs ≡ false = ap (λ k. has_req k rs) (sym is) ∙ less_none r.req rs a.0 in absurd cc
      | inr off ↦ sym (later_asked n r rs off) ∙ told n (later_has n r rs off ∙ on) ∙ later_asked n x xs (ap (λ k. k == n) (sym number) ∙ off)
    ]) in
    (λ j. first j ∷ rest j)

-- the requests of a run, by number, are those that it tells
pub asked_same : (x : Beside) (rs : List RequestView) → AreNumbered (map asked_of rs) → AreNumbered x.requests → AllByRecursion (IsInRun x) rs → ((n : ℕ) → has_req n x.requests ≡ true → has_req n (map asked_of rs) ≡ true) → map asked_of rs ≡ x.requests
asked_same x rs numbered other all whole = same_numbered (map asked_of rs) x.requests numbered other has told
  where
    told_in : (qs : List RequestView) → AllByRecursion (IsInRun x) qs → (n : ℕ) → has_req n (map asked_of qs) ≡ true → (asked_at n (map asked_of qs) ≡ asked_at n x.requests) × (has_req n x.requests ≡ true)
    told_in [] each n on = absurd cc
    told_in (q ∷ qs) each n on = elim (cases_Bool (q.id == n)) [
      | inl same ↦ let is : q.id ≡ n = eqb-true q.id n same in
          (ap (λ k. asked_at k (map asked_of (q ∷ qs))) (sym is) ∙ own_asked (asked_of q) (map asked_of qs) ∙ sym each.0.told ∙ ap (λ k. asked_at k x.requests) is, ap (λ k. has_req k x.requests) (sym is) ∙ each.0.there)
      | inr off ↦ let more = told_in qs each.1 n (sym (later_has n (asked_of q) (map asked_of qs) off) ∙ on) in
          (later_asked n (asked_of q) (map asked_of qs) off ∙ more.0, more.1)
    ]

    told : (n : ℕ) → has_req n (map asked_of rs) ≡ true → asked_at n (map asked_of rs) ≡ asked_at n x.requests
    told n on = (told_in rs all n on).0

    has : (n : ℕ) → has_req n (map asked_of rs) ≡ has_req n x.requests
    has n = by (has_req n (map asked_of rs)) refl (has_req n x.requests) refl
      where
        by : (a : Bool) → has_req n (map asked_of rs) ≡ a → (b : Bool) → has_req n x.requests ≡ b → a ≡ b
        by true e true f = refl
        by false e false f = refl
        by true e false f = let on = (told_in rs all n e).1 in absurd cc
        by false e true f = let on = whole n f in absurd cc

-- what their tries noted is what was read
pub noted_same : (x : Beside) (rs : List RequestView) → AllByRecursion (IsInRun x) rs → AreNoted x.reads rs
noted_same x [] all = tt
noted_same x (r ∷ rs) all = (all.0.read, noted_same x rs all.1)
