-- Laws of lists of checks.
use Rattle.std.proofs.Common.{◌⊎◌, inl, inr, zero, ◌≡◌, ℕ, suc, ◌+◌, ◌<◌, ◌≤◌, Bool, true, false, List, [], ◌∷◌, ◌++◌, length, take, drop, get_or, Option, Some, None, Result, Ok, Err, refl, sym, ap, ◌∙◌, append_assoc, add-zero, zero-add, arith}
use Rattle.std.proofs.lemmas.List.{length-take-le, take_more, take_all, drop_more, take-append-drop, append-nil}
use Rattle.mp_checks.specs.Checks.{first_fault, AllPass, Answers, Reads, value_unless, each_from, or_else, IsLeast, IsFirst}

pub first_fault-append : {E : Type 0} (before after : List (Bool × E)) → AllPass before → first_fault (before ++ after) ≡ first_fault after
first_fault-append [] after pass = refl
first_fault-append (c ∷ before) after pass = rw pass.0 (first_fault-append before after pass.1)

pub all_pass : {E : Type 0} (cs : List (Bool × E)) → first_fault cs ≡ None → AllPass cs
all_pass [] none = tt
all_pass ((true, f) ∷ cs) none = (refl, all_pass cs none)
all_pass ((false, f) ∷ cs) none = absurd cc

pub no_fault : {E : Type 0} (cs : List (Bool × E)) → AllPass cs → first_fault cs ≡ None
no_fault [] pass = refl
no_fault (c ∷ cs) pass = rw pass.0 (no_fault cs pass.1)

pub first_from_fault : {E : Type 0} (cs : List (Bool × E)) (fault : E) → first_fault cs ≡ Some fault → IsFirst cs fault
first_from_fault [] fault h = absurd cc
first_from_fault ((true, f) ∷ cs) fault h =
    let rest = first_from_fault cs fault h in
    record { before = (true, f) ∷ rest.before; after = rest.after; parts = ap (λ ds. (true, f) ∷ ds) rest.parts; pass = (refl, rest.pass) }
first_from_fault ((false, f) ∷ cs) fault h = record { before = []; after = cs; parts = ap (λ e. (false, e) ∷ cs) cc; pass = tt }

pub fault_from_first : {E : Type 0} (cs : List (Bool × E)) (fault : E) → IsFirst cs fault → first_fault cs ≡ Some fault
fault_from_first cs fault h = ap first_fault h.parts ∙ first_fault-append h.before ((false, fault) ∷ h.after) h.pass

pub pass_split : {E : Type 0} (cs ds : List (Bool × E)) → AllPass (cs ++ ds) → AllPass cs × AllPass ds
pass_split [] ds pass = (tt, pass)
pass_split (c ∷ cs) ds pass = let p = pass_split cs ds pass.1 in ((pass.0, p.0), p.1)

pub pass_join : {E : Type 0} (cs ds : List (Bool × E)) → AllPass cs → AllPass ds → AllPass (cs ++ ds)
pass_join [] ds p q = q
pass_join (c ∷ cs) ds p q = (p.0, pass_join cs ds p.1 q)

pub fault_append : {E : Type 0} (cs ds : List (Bool × E)) → first_fault (cs ++ ds) ≡ or_else (first_fault cs) (first_fault ds)
fault_append [] ds = refl
fault_append ((true, f) ∷ cs) ds = fault_append cs ds
fault_append ((false, f) ∷ cs) ds = refl

pub each_append : {X E : Type 0} (f : ℕ → X → List (Bool × E)) (n : ℕ) (xs ys : List X) → each_from f n (xs ++ ys) ≡ each_from f n xs ++ each_from f (n + length xs) ys
each_append f n [] ys = rw add-zero refl
each_append f n (x ∷ xs) ys =
    let e : suc n + length xs ≡ n + suc (length xs) = omega arith in
    rw (each_append f (suc n) xs ys, e, append_assoc) refl

-- the items before one have no fault, and it has none
pub each_more : {X E : Type 0} (f : ℕ → X → List (Bool × E)) (xs : List X) (i : ℕ) (x d : X) → i < length xs → x ≡ get_or xs i d
    → first_fault (each_from f 0 (take i xs)) ≡ None → first_fault (f i x) ≡ None → first_fault (each_from f 0 (take (i + 1) xs)) ≡ None
each_more f xs i x d lt is before here =
    let len : length (take i xs) ≡ i = length-take-le i xs (omega arith) in
    rw (take_more xs i d lt, ← is, each_append f 0 (take i xs) (x ∷ []), len, zero-add i, append-nil, fault_append, before, here) refl

-- the items before one have no fault, and it has one
pub each_stops : {X E : Type 0} (f : ℕ → X → List (Bool × E)) (xs : List X) (i : ℕ) (x d : X) (fault : E) → i < length xs → x ≡ get_or xs i d
    → first_fault (each_from f 0 (take i xs)) ≡ None → first_fault (f i x) ≡ Some fault → first_fault (each_from f 0 xs) ≡ Some fault
each_stops f xs i x d fault lt is before here =
    let len : length (take i xs) ≡ i = length-take-le i xs (omega arith) in
    let parts : xs ≡ take i xs ++ x ∷ drop (i + 1) xs = sym (take-append-drop i xs) ∙ rw (drop_more xs i d lt, ← is) refl in
    let one : each_from f 0 xs ≡ each_from f 0 (take i xs) ++ (f i x ++ each_from f (suc i) (drop (i + 1) xs)) = ap (each_from f 0) parts ∙ each_append f 0 (take i xs) (x ∷ drop (i + 1) xs) ∙ rw (len, zero-add i) refl in
    ap first_fault one ∙ rw (fault_append, before, fault_append, here) refl

pub each_all : {X E : Type 0} (f : ℕ → X → List (Bool × E)) (xs : List X) (i : ℕ) → length xs ≤ i → first_fault (each_from f 0 (take i xs)) ≡ None → first_fault (each_from f 0 xs) ≡ None
each_all f xs i le none = rw (← take_all i xs le) none

-- ---- which check fails

pub fault_cases : {E : Type 0} (cs ds : List (Bool × E)) (e : E) → first_fault (cs ++ ds) ≡ Some e → (first_fault cs ≡ Some e) ⊎ ((first_fault cs ≡ None) × (first_fault ds ≡ Some e))
fault_cases [] ds e h = inr (refl, h)
fault_cases ((true, f) ∷ cs) ds e h = fault_cases cs ds e h
fault_cases ((false, f) ∷ cs) ds e h = inl h

pub first_cases : {E : Type 0} (b : Bool) (f e : E) (cs : List (Bool × E)) → first_fault ((b, f) ∷ cs) ≡ Some e → ((b ≡ false) × (e ≡ f)) ⊎ ((b ≡ true) × (first_fault cs ≡ Some e))
first_cases true f e cs h = inr (refl, h)
first_cases false f e cs h = inl (refl, cc)

-- ---- a value, or the first refusal

pub unless_ok : {V E : Type 0} (o : Option E) (v w : V) → value_unless o v ≡ Ok w → (o ≡ None) × (v ≡ w)
unless_ok None v w h = (refl, cc)
unless_ok (Some e) v w h = absurd cc

pub unless_err : {V E : Type 0} (o : Option E) (v : V) (e : E) → value_unless o v ≡ Err e → o ≡ Some e
unless_err None v e h = absurd cc
unless_err (Some f) v e h = cc

pub reads_answers : {V E : Type 0} (memory : E) (r : Result V E) (cs : List (Bool × E)) (v : V) → Reads memory r cs v → Answers memory r (value_unless (first_fault cs) v)
reads_answers memory (Ok x) cs v h = rw (h.0, h.1) refl
reads_answers memory (Err e) cs v h = λ n. rw (h n) refl

-- ---- the checks of each item

each_from_passes : {X E : Type 0} (f : ℕ → X → List (Bool × E)) (n : ℕ) (xs : List X) → AllPass (each_from f n xs) → (k : ℕ) (d : X) → k < length xs → AllPass (f (n + k) (get_or xs k d))
each_from_passes f n [] h k d lt = absurd (omega arith)
each_from_passes f n (x ∷ xs) h zero d lt = rw add-zero (pass_split (f n x) (each_from f (suc n) xs) h).0
each_from_passes f n (x ∷ xs) h (suc k) d lt =
    let e : n + suc k ≡ suc n + k = omega arith in
    rw e (each_from_passes f (suc n) xs (pass_split (f n x) (each_from f (suc n) xs) h).1 k d (omega arith))

-- each item passes its checks
pub each_passes : {X E : Type 0} (f : ℕ → X → List (Bool × E)) (xs : List X) → AllPass (each_from f 0 xs) → (k : ℕ) (d : X) → k < length xs → AllPass (f k (get_or xs k d))
each_passes f xs h k d lt = rw zero-add at (each_from_passes f 0 xs h k d lt)

-- ---- the least fault of items

or_else_cases : {E : Type 0} (a b : Option E) (e : E) → or_else a b ≡ Some e → (a ≡ Some e) ⊎ ((a ≡ None) × (b ≡ Some e))
or_else_cases None b e h = inr (refl, h)
or_else_cases (Some x) b e h = inl h

least_before : {X E : Type 0} (f : ℕ → X → List (Bool × E)) (n : ℕ) (x : X) (xs : List X) (i : ℕ) → first_fault (f n x) ≡ None → ((k : ℕ) (d : X) → k < i → first_fault (f (suc n + k) (get_or xs k d)) ≡ None)
    → (k : ℕ) (d : X) → k < suc i → first_fault (f (n + k) (get_or (x ∷ xs) k d)) ≡ None
least_before f n x xs i none rest zero d lt = rw add-zero none
least_before f n x xs i none rest (suc k) d lt = let e : n + suc k ≡ suc n + k = omega arith in rw e (rest k d (omega arith))

least_from : {X E : Type 0} (f : ℕ → X → List (Bool × E)) (n : ℕ) (xs : List X) (fault : E) → first_fault (each_from f n xs) ≡ Some fault
    → (i : ℕ) × (i < length xs) × ((k : ℕ) (d : X) → k < i → first_fault (f (n + k) (get_or xs k d)) ≡ None) × ((d : X) → first_fault (f (n + i) (get_or xs i d)) ≡ Some fault)
least_from f n [] fault h = absurd cc
least_from f n (x ∷ xs) fault h =
    elim (or_else_cases (first_fault (f n x)) (first_fault (each_from f (suc n) xs)) fault (sym (fault_append (f n x) (each_from f (suc n) xs)) ∙ h)) [
      | inl here ↦ (0, omega arith, λ k d lt. absurd (omega arith), λ d. rw add-zero here)
      | inr later ↦
          let rest = least_from f (suc n) xs fault later.1 in
          (suc rest.0, omega (arith, rest.1), λ k d lt. least_before f n x xs rest.0 later.0 rest.2 k d lt, λ d. let e : n + suc rest.0 ≡ suc n + rest.0 = omega arith in rw e (rest.3 d))
    ]

pub each_least : {X E : Type 0} (f : ℕ → X → List (Bool × E)) (xs : List X) (fault : E) → first_fault (each_from f 0 xs) ≡ Some fault → IsLeast f xs fault
each_least f xs fault h =
    let p = least_from f 0 xs fault h in
    record { place = p.0; within = p.1; earlier = λ k d lt. rw zero-add at (p.2 k d lt); here = λ d. rw zero-add at (p.3 d) }
