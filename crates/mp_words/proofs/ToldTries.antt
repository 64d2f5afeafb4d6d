-- Kept tries tell what they told when others come, and when the last one ends.
use Rattle.std.proofs.Common.{◌≡◌, ℕ, ◌+◌, ◌-◌, ◌*◌, ◌<◌, ◌≤◌, zero, suc, List, [], ◌∷◌, ◌++◌, length, map, get_or, refl, sym, ap, ◌∙◌, Some, None, arith, take, length-take, drop, subst, Option}
use Rattle.std.specs.Prelude.{slice_get, option_map}
use Rattle.std.specs.List.{last_or, AllByRecursion}
use Rattle.std.proofs.lemmas.Option.{none-some, slice_get-get_or, slice_get_within, get_or_from_slice_get}
use Rattle.std.proofs.lemmas.List.{get_or-map, length-map, map-append, at_drop_more, at_drop_all}
use Rattle.std.proofs.lemmas.List.Sums.{sum_by-cons}
use Rattle.std.proofs.Math.ListN.{get_or-append}
use Rattle.std.proofs.Math.Seq.{get_or-append_seam}
use Rattle.mp_words.specs.declared.trying.Try.{Try}
use Rattle.mp_words.specs.declared.trying.Back.{Back}
use Rattle.mp_words.specs.declared.trying.Outcome.TheVariants.{Sent}
use Rattle.mp_words.specs.declared.trying.TryEnd.{TryEnd}
use Rattle.mp_words.specs.declared.trying.TryEnd.TheVariants as end
use Rattle.mp_words.specs.declared.kept_try.KeptTry.{KeptTry}
use Rattle.mp_words.specs.declared.kept_try.KeptTry.TheVariants as kept
use Rattle.mp_words.specs.KeptTry.{told, no_try, as_again, AreFit, IsAgain}
use Rattle.mp_words.proofs.Last.{last_or-at, last_or-map}
use Rattle.mp_words.specs.Request.{Tried, map_last, tried_of, outcome_of, outcome_after, done_with, attempts_of, ended_try, ended_tries, IsShort}

-- what a kept try looks up is there
abbrev pub IsBelow : ℕ → KeptTry → Type 0
IsBelow n (kept.Whole place) = place < n
IsBelow n (kept.Again hop ticket like) = like < n

pub fit-le : (n m : ℕ) (ks : List KeptTry) → AreFit n m ks → m ≤ n
fit-le n m [] a = omega (arith, a)
fit-le n m (kept.Whole place ∷ ks) a = omega (arith, fit-le n (m + 1) ks a.1)
fit-le n m (kept.Again hop ticket like ∷ ks) a = fit-le n m ks a.1

-- the whole ones are among all
pub fit-few : (n m : ℕ) (ks : List KeptTry) → AreFit n m ks → n ≤ m + length ks
fit-few n m [] a = omega (arith, a)
fit-few n m (kept.Whole place ∷ ks) a = omega (arith, fit-few n (m + 1) ks a.1)
fit-few n m (kept.Again hop ticket like ∷ ks) a = omega (arith, fit-few n m ks a.1)

pub fit-below : (n m : ℕ) (ks : List KeptTry) (i : ℕ) (d : KeptTry) → i < length ks → AreFit n m ks → IsBelow n (get_or ks i d)
fit-below n m [] i d h a = absurd (omega arith)
fit-below n m (kept.Whole place ∷ ks) zero d h a = omega (arith, fit-le n (m + 1) ks a.1, a.0)
fit-below n m (kept.Whole place ∷ ks) (suc i) d h a = fit-below n (m + 1) ks i d (omega arith) a.1
fit-below n m (kept.Again hop ticket like ∷ ks) zero d h a = omega (arith, fit-le n m ks a.1, a.0)
fit-below n m (kept.Again hop ticket like ∷ ks) (suc i) d h a = fit-below n m ks i d (omega arith) a.1

pub fit-whole : (n m : ℕ) (ks : List KeptTry) → AreFit n m ks → AreFit (n + 1) m (ks ++ kept.Whole n ∷ [])
fit-whole n m [] a = (sym a, ap (λ i. i + 1) a)
fit-whole n m (kept.Whole place ∷ ks) a = (a.0, fit-whole n (m + 1) ks a.1)
fit-whole n m (kept.Again hop ticket like ∷ ks) a = (a.0, fit-whole n m ks a.1)

pub fit-again : (n m : ℕ) (ks : List KeptTry) (k : KeptTry) → AreFit n m ks → IsAgain n k → AreFit n m (ks ++ k ∷ [])
fit-again n m ks (kept.Whole place) a h = absurd h
fit-again n m [] (kept.Again hop ticket like) a h = (omega (arith, a, h), a)
fit-again n m (kept.Whole place ∷ ks) (kept.Again hop ticket like) a h = (a.0, fit-again n (m + 1) ks (kept.Again hop ticket like) a.1 h)
fit-again n m (kept.Again hop2 ticket2 like2 ∷ ks) (kept.Again hop ticket like) a h = (a.0, fit-again n m ks (kept.Again hop ticket like) a.1 h)

told-one : (whole : List Try) (t : Try) (k : KeptTry) → IsBelow (length whole) k → told (whole ++ t ∷ []) k ≡ told whole k
told-one whole t (kept.Whole place) h = get_or-append whole (t ∷ []) no_try place h
told-one whole t (kept.Again hop ticket like) h = ap (as_again hop ticket) (get_or-append whole (t ∷ []) no_try like h)

told-more : (whole : List Try) (t : Try) (m : ℕ) (ks : List KeptTry) → AreFit (length whole) m ks → map (told (whole ++ t ∷ [])) ks ≡ map (told whole) ks
told-more whole t m [] a = refl
told-more whole t m (kept.Whole place ∷ ks) a =
    ap (λ x. x ∷ map (told (whole ++ t ∷ [])) ks) (told-one whole t (kept.Whole place) (omega (arith, fit-le (length whole) (m + 1) ks a.1, a.0)))
    ∙ ap (λ xs. told whole (kept.Whole place) ∷ xs) (told-more whole t (m + 1) ks a.1)
told-more whole t m (kept.Again hop ticket like ∷ ks) a =
    ap (λ x. x ∷ map (told (whole ++ t ∷ [])) ks) (told-one whole t (kept.Again hop ticket like) (omega (arith, fit-le (length whole) m ks a.1, a.0)))
    ∙ ap (λ xs. told whole (kept.Again hop ticket like) ∷ xs) (told-more whole t m ks a.1)

-- one more whole try
pub told-whole : (whole : List Try) (t : Try) (ks : List KeptTry) → AreFit (length whole) 0 ks → map (told (whole ++ t ∷ [])) (ks ++ kept.Whole (length whole) ∷ []) ≡ map (told whole) ks ++ t ∷ []
told-whole whole t ks a =
    map-append (told (whole ++ t ∷ [])) ks (kept.Whole (length whole) ∷ [])
    ∙ ap (λ xs. xs ++ map (told (whole ++ t ∷ [])) (kept.Whole (length whole) ∷ [])) (told-more whole t 0 ks a)
    ∙ ap (λ x. map (told whole) ks ++ x ∷ []) (get_or-append_seam whole t [] no_try)

-- one more try that is like another
pub told-again : (whole : List Try) (t : Try) (ks : List KeptTry) (k : KeptTry) → told whole k ≡ t → map (told whole) (ks ++ k ∷ []) ≡ map (told whole) ks ++ t ∷ []
told-again whole t ks k is = map-append (told whole) ks (k ∷ []) ∙ ap (λ x. map (told whole) ks ++ x ∷ []) is

-- where the last one is sent, a whole one is still to come
sent-whole : (whole : List Try) (n m : ℕ) (ks : List KeptTry) → AreFit n m ks → outcome_of (last_or None (map tried_of (map (told whole) ks))) ≡ Sent → m < n
sent-whole whole n m [] a s = absurd cc
sent-whole whole n m (kept.Whole place ∷ ks) a s = omega (arith, fit-le n (m + 1) ks a.1)
sent-whole whole n m (kept.Again hop ticket like ∷ []) a s = absurd cc
sent-whole whole n m (kept.Again hop ticket like ∷ k ∷ ks) a s = sent-whole whole n m (k ∷ ks) a.1 s

pub sent-some : (whole : List Try) (n : ℕ) (ks : List KeptTry) → AreFit n 0 ks → outcome_of (last_or None (map tried_of (map (told whole) ks))) ≡ Sent → 1 ≤ n
sent-some whole n ks a s = omega (arith, sent-whole whole n 0 ks a s)

map_last-before : (f : Try → Try) (xs : List Try) (i : ℕ) (d : Try) → i + 1 < length xs → get_or (map_last f xs) i d ≡ get_or xs i d
map_last-before f [] i d h = refl
map_last-before f (x ∷ []) i d h = absurd (omega arith)
map_last-before f (x ∷ y ∷ xs) zero d h = refl
map_last-before f (x ∷ y ∷ xs) (suc i) d h = map_last-before f (y ∷ xs) i d (omega arith)

map_last-at : (f : Try → Try) (xs : List Try) (i : ℕ) (d : Try) → i + 1 ≡ length xs → get_or (map_last f xs) i d ≡ f (get_or xs i d)
map_last-at f [] i d h = absurd (omega arith)
map_last-at f (x ∷ []) zero d h = refl
map_last-at f (x ∷ []) (suc i) d h = absurd (omega arith)
map_last-at f (x ∷ y ∷ xs) zero d h = absurd (omega arith)
map_last-at f (x ∷ y ∷ xs) (suc i) d h = map_last-at f (y ∷ xs) i d (omega arith)

ended-one : (f : Try → Try) (whole : List Try) (m : ℕ) (k : KeptTry) → IsBelow m k → m < length whole → told (map_last f whole) k ≡ told whole k
ended-one f whole m (kept.Whole place) h l = map_last-before f whole place no_try (omega arith)
ended-one f whole m (kept.Again hop ticket like) h l = ap (as_again hop ticket) (map_last-before f whole like no_try (omega arith))

-- the last one, which is sent, ends
told-ended : (f : Try → Try) (whole : List Try) (m : ℕ) (ks : List KeptTry) → AreFit (length whole) m ks → outcome_of (last_or None (map tried_of (map (told whole) ks))) ≡ Sent → map (told (map_last f whole)) ks ≡ map_last f (map (told whole) ks)
told-ended f whole m [] a s = refl
told-ended f whole m (kept.Whole place ∷ []) a s = ap (λ x. x ∷ []) (map_last-at f whole place no_try (omega (arith, a.0, a.1)))
told-ended f whole m (kept.Again hop ticket like ∷ []) a s = absurd cc
told-ended f whole m (kept.Whole place ∷ k ∷ ks) a s =
    ap (λ x. x ∷ map (told (map_last f whole)) (k ∷ ks)) (ended-one f whole (m + 1) (kept.Whole place) (omega (arith, a.0)) (sent-whole whole (length whole) (m + 1) (k ∷ ks) a.1 s))
    ∙ ap (λ xs. told whole (kept.Whole place) ∷ xs) (told-ended f whole (m + 1) (k ∷ ks) a.1 s)
told-ended f whole m (kept.Again hop ticket like ∷ k ∷ ks) a s =
    ap (λ x. x ∷ map (told (map_last f whole)) (k ∷ ks)) (ended-one f whole m (kept.Again hop ticket like) a.0 (sent-whole whole (length whole) m (k ∷ ks) a.1 s))
    ∙ ap (λ xs. told whole (kept.Again hop ticket like) ∷ xs) (told-ended f whole m (k ∷ ks) a.1 s)

pub told-end : (f : Try → Try) (whole : List Try) (ks : List KeptTry) → AreFit (length whole) 0 ks → outcome_of (last_or None (map tried_of (map (told whole) ks))) ≡ Sent → map (told (map_last f whole)) ks ≡ map_last f (map (told whole) ks)
told-end f whole ks a s = told-ended f whole 0 ks a s

pub same-at : (xs : List Try) (i : ℕ) (d x : Try) → i < length xs → x ≡ get_or xs i x → get_or xs i d ≡ x
same-at xs i d x h at = get_or_from_slice_get xs i x d (slice_get-get_or xs i x h ∙ ap Some (sym at))

-- what is told at a place
pub told-there : (items whole : List Try) (ks : List KeptTry) (i : ℕ) (k : KeptTry) → map (told whole) ks ≡ items → slice_get ks i ≡ Some k → slice_get items i ≡ Some (told whole k)
told-there items whole ks i k e at =
    let lt : i < length ks = slice_get_within ks i k at in
    let far : i < length (map (told whole) ks) = omega (arith, lt, length-map ks (told whole)) in
    ap (λ ts. slice_get ts i) (sym e) ∙ slice_get-get_or (map (told whole) ks) i (told whole k) far
    ∙ ap Some (get_or-map (told whole) ks i k (told whole k) lt ∙ ap (told whole) (get_or_from_slice_get ks i k k at))

-- what it looks up is there
pub kept-there : (n : ℕ) (ks : List KeptTry) (i : ℕ) (k : KeptTry) → AreFit n 0 ks → slice_get ks i ≡ Some k → IsBelow n k
kept-there n ks i k a at = subst (IsBelow n) (get_or_from_slice_get ks i k k at) (fit-below n 0 ks i k (slice_get_within ks i k at) a)

-- what the last kept one tells, where there is one
pub last-told : (items whole : List Try) (ks : List KeptTry) (o : Option KeptTry) → map (told whole) ks ≡ items → last_or None ks ≡ o → last_or None items ≡ option_map (told whole) o
last-told items whole ks o e at = ap (last_or None) (sym e) ∙ last_or-map (told whole) ks ∙ ap (option_map (told whole)) at

-- what it looks up is there
pub last-below : (n m : ℕ) (ks : List KeptTry) (k : KeptTry) → AreFit n m ks → last_or None ks ≡ Some k → IsBelow n k
last-below n m [] k a at = absurd cc
last-below n m (kept.Whole place ∷ []) k a at = let is : kept.Whole place ≡ k = cc in subst (IsBelow n) is (fit-below n m (kept.Whole place ∷ []) 0 k (omega arith) a)
last-below n m (kept.Again hop ticket like ∷ []) k a at = let is : kept.Again hop ticket like ≡ k = cc in subst (IsBelow n) is (fit-below n m (kept.Again hop ticket like ∷ []) 0 k (omega arith) a)
last-below n m (kept.Whole place ∷ x ∷ xs) k a at = last-below n (m + 1) (x ∷ xs) k a.1 at
last-below n m (kept.Again hop ticket like ∷ x ∷ xs) k a at = last-below n m (x ∷ xs) k a.1 at

-- the last one, as it was found
pub last-found : (xs : List Try) (x : Try) → Some x ≡ slice_get xs (length xs - 1) → last_or None xs ≡ Some x
last-found [] x e = absurd cc
last-found (y ∷ xs) x e = last_or-at (y ∷ xs) (length (y ∷ xs) - 1) x (omega arith) (sym e)

-- one that is like another made no attempts
told-attempts : (whole : List Try) (m : ℕ) (ks : List KeptTry) → AreFit (length whole) m ks → attempts_of (map tried_of (map (told whole) ks)) ≡ attempts_of (map tried_of (drop m whole))
told-attempts whole m [] a = sym (at_drop_all (λ ts. attempts_of (map tried_of ts)) whole m (omega (arith, a)))
told-attempts whole m (kept.Whole place ∷ ks) a =
    let lt : m < length whole = omega (arith, fit-le (length whole) (m + 1) ks a.1) in
    let t = told whole (kept.Whole place) in
    let same : t ≡ get_or whole m no_try = ap (λ i. get_or whole i no_try) a.0 in
    sum_by-cons (λ (x : Tried). length x.statuses) (tried_of t) (map tried_of (map (told whole) ks))
    ∙ ap (λ n. length (tried_of t).statuses + n) (told-attempts whole (m + 1) ks a.1)
    ∙ sym (sum_by-cons (λ (x : Tried). length x.statuses) (tried_of t) (map tried_of (drop (m + 1) whole)))
    ∙ ap (λ x. attempts_of (map tried_of (x ∷ drop (m + 1) whole))) same
    ∙ sym (at_drop_more (λ ts. attempts_of (map tried_of ts)) whole m no_try lt)
told-attempts whole m (kept.Again hop ticket like ∷ ks) a =
    omega (arith, sum_by-cons (λ (x : Tried). length x.statuses) (tried_of (told whole (kept.Again hop ticket like))) (map tried_of (map (told whole) ks)), told-attempts whole m ks a.1)

pub all-attempts : (whole : List Try) (ks : List KeptTry) → AreFit (length whole) 0 ks → attempts_of (map tried_of (map (told whole) ks)) ≡ attempts_of (map tried_of whole)
all-attempts whole ks a = told-attempts whole 0 ks a

-- a try that made no attempts adds none
pub attempts-more : (tries : List Try) (t : Try) → t.count ≡ 0 → attempts_of (map tried_of (tries ++ t ∷ [])) ≡ attempts_of (map tried_of tries)
attempts-more [] t e = sum_by-cons (λ (x : Tried). length x.statuses) (tried_of t) [] ∙ ap (λ n. length (take n t.statuses) + 0) e
attempts-more (x ∷ xs) t e =
    sum_by-cons (λ (y : Tried). length y.statuses) (tried_of x) (map tried_of (xs ++ t ∷ []))
    ∙ ap (λ n. length (tried_of x).statuses + n) (attempts-more xs t e)
    ∙ sym (sum_by-cons (λ (y : Tried). length y.statuses) (tried_of x) (map tried_of xs))

last-some : (n : ℕ) (ns : List ℕ) → last_or None (n ∷ ns) ≡ None → ⊥
last-some n [] e = none-some n (sym e)
last-some n (m ∷ ns) e = last-some m ns e

done-not : (o : Option ℕ) → done_with o ≡ Sent → o ≡ None
done-not None s = refl
done-not (Some status) s = absurd cc

none-so : (e : TryEnd) (b : Option Back) (ss : List ℕ) → outcome_after e (record { end = e; statuses = ss; back = b }) ≡ Sent → length ss ≡ 0
none-so (end.Sent slot version) None [] s = refl
none-so (end.Sent slot version) None (n ∷ ns) s = absurd (last-some n ns (done-not (last_or None (n ∷ ns)) s))
none-so (end.Sent slot version) (Some b) ss s = absurd cc
none-so end.Listed b ss s = absurd cc
none-so end.Failed b ss s = absurd cc

-- a try that is on its way made none yet
none-yet : (t : Try) → outcome_of (Some (tried_of t)) ≡ Sent → length (tried_of t).statuses ≡ 0
none-yet t s = none-so t.end t.back (take t.count t.statuses) s

-- the attempts of the last one, which is sent, are added
pub attempts-ended : (statuses : List ℕ) (count : ℕ) (back : Option Back) (tries : List Try) → length statuses ≡ 6 → count ≤ 6 → outcome_of (last_or None (map tried_of tries)) ≡ Sent → attempts_of (map tried_of (ended_tries statuses count back tries)) ≡ attempts_of (map tried_of tries) + count
attempts-ended statuses count back [] l h s = absurd cc
attempts-ended statuses count back (t ∷ []) l h s =
    omega (arith, sum_by-cons (λ (y : Tried). length y.statuses) (tried_of (ended_try statuses count back t)) [], sum_by-cons (λ (y : Tried). length y.statuses) (tried_of t) [], none-yet t s, length-take count statuses)
attempts-ended statuses count back (t ∷ u ∷ ts) l h s =
    omega (arith, sum_by-cons (λ (y : Tried). length y.statuses) (tried_of t) (map tried_of (ended_tries statuses count back (u ∷ ts))), sum_by-cons (λ (y : Tried). length y.statuses) (tried_of t) (map tried_of (u ∷ ts)), attempts-ended statuses count back (u ∷ ts) l h s)

-- no try makes more than six
pub attempts-few : (tries : List Try) → AllByRecursion IsShort tries → attempts_of (map tried_of tries) ≤ 6 * length tries
attempts-few [] a = omega arith
attempts-few (t ∷ ts) a = omega (arith, sum_by-cons (λ (y : Tried). length y.statuses) (tried_of t) (map tried_of ts), a.0, attempts-few ts a.1)

pub short-more : (tries : List Try) (t : Try) → AllByRecursion IsShort tries → t.count ≡ 0 → AllByRecursion IsShort (tries ++ t ∷ [])
short-more [] t a e = (omega (arith, e, length-take t.count t.statuses), tt)
short-more (x ∷ xs) t a e = (a.0, short-more xs t a.1 e)

pub short-ended : (statuses : List ℕ) (count : ℕ) (back : Option Back) (tries : List Try) → count ≤ 6 → AllByRecursion IsShort tries → AllByRecursion IsShort (ended_tries statuses count back tries)
short-ended statuses count back [] h a = tt
short-ended statuses count back (t ∷ []) h a = (omega (arith, h, length-take count statuses), tt)
short-ended statuses count back (t ∷ u ∷ ts) h a = (a.0, short-ended statuses count back (u ∷ ts) h a.1)
