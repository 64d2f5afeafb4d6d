-- The requests of a desk among those of a run.
use Rattle.std.proofs.Common.{◌≡◌, ℕ, ◌+◌, ◌==◌, ◌||◌, Bool, true, false, cond, List, [], ◌∷◌, ◌++◌, count_by, inl, inr, refl, sym, ap, ◌∙◌, arith, eq-eqb}
use Rattle.std.specs.List.{AllByRecursion}
use Rattle.std.proofs.lemmas.Bool.{cases_Bool}
use Rattle.std.proofs.lemmas.Bool.Decides.{nat_tests}
use Rattle.std.proofs.lemmas.List.Sums.{sum_by-append, sum_by-cons}
use Rattle.mp_words.specs.Request.{Asked, Tried, asked_of}
use Rattle.mp_words.specs.RequestView.{RequestView}
use Rattle.mp_desk.specs.declared.flying.Flying.{Flying}
use Rattle.mp_desk.specs.DeskView.{DeskView}
use Rattle.mp_legal.specs.Numbers.{has_req, asked_at}
use Rattle.mp_legal.specs.PlainState.{with_tries}
use Rattle.mp_legal.specs.ToldDesks.{AreInRun, IsInRun, IsSameIn}
use Rattle.mp_legal.specs.ToldState.{Beside}
use Rattle.mp_legal.specs.TryRead.{TryRead, notes_of, notes_for}

-- the same requests have numbers, whatever tries one of them has
pub has_tries : (req changed : ℕ) (tries : List Tried) (requests : List Asked) → has_req req (with_tries changed tries requests) ≡ has_req req requests
has_tries req changed tries [] = refl
has_tries req changed tries (b ∷ requests) =
    elim (cases_Bool (b.req == changed)) [
      | inl on ↦ rw on (ap (λ z. (b.req == req) || z) (has_tries req changed tries requests))
      | inr off ↦ rw off (ap (λ z. (b.req == req) || z) (has_tries req changed tries requests))
    ]

-- a number that is this one isn't that one
apart : (n req changed : ℕ) → (n == req) ≡ true → (req == changed) ≡ false → (n == changed) ≡ false
apart n req changed same other = grind (arith, nat_tests)

-- other requests are as they were
pub other_asked : (req changed : ℕ) (tries : List Tried) (requests : List Asked) → (req == changed) ≡ false → asked_at req (with_tries changed tries requests) ≡ asked_at req requests
other_asked req changed tries [] other = refl
other_asked req changed tries (a ∷ requests) other =
    elim (cases_Bool (a.req == req)) [
      | inl same_one ↦ rw (apart a.req req changed same_one other, same_one) refl
      | inr other_one ↦ elim (cases_Bool (a.req == changed)) [
        | inl change ↦ rw (change, other_one) (other_asked req changed tries requests other)
        | inr kept ↦ rw (kept, other_one) (other_asked req changed tries requests other)
      ]
    ]

-- the request has its new tries
pub this_asked : (req : ℕ) (tries : List Tried) (requests : List Asked) → has_req req requests ≡ true → asked_at req (with_tries req tries requests) ≡ record (asked_at req requests) { tries = tries }
this_asked req tries [] there = absurd cc
this_asked req tries (a ∷ requests) there =
    elim (cases_Bool (a.req == req)) [
      | inl same_one ↦ rw (same_one, same_one) refl
      | inr other_one ↦ rw (other_one, other_one) (this_asked req tries requests (rw other_one at there))
    ]

-- what was read for a number, once more was read
pub notes_more : (req : ℕ) (reads more : List (ℕ × TryRead)) → notes_for req (reads ++ more) ≡ notes_for req reads ++ notes_for req more
notes_more req [] more = refl
notes_more req (r ∷ reads) more =
    elim (cases_Bool (r.0 == req)) [
      | inl on ↦ rw on (ap (λ (ns : List TryRead). r.1 ∷ ns) (notes_more req reads more))
      | inr off ↦ rw off (notes_more req reads more)
    ]

pub notes_own : (req : ℕ) (t : TryRead) → notes_for req ((req, t) ∷ []) ≡ t ∷ []
notes_own req t = rw (eq-eqb req req refl) refl

pub notes_other : (req changed : ℕ) (t : TryRead) → (changed == req) ≡ false → notes_for req ((changed, t) ∷ []) ≡ []
notes_other req changed t apart = rw apart refl

-- a request of another number is the same
pub same_tries : (req changed : ℕ) (tries : List Tried) (x y : Beside) → y.requests ≡ with_tries changed tries x.requests → notes_for req y.reads ≡ notes_for req x.reads → (req == changed) ≡ false → IsSameIn req x y
same_tries req changed tries x y is read other = record {
  there = ap (has_req req) is ∙ has_tries req changed tries x.requests;
  told = ap (asked_at req) is ∙ other_asked req changed tries x.requests other;
  read = read;
}

-- a request that is the same stands there still
pub among_same : (r : RequestView) (x y : Beside) → IsSameIn r.id x y → IsInRun x r → IsInRun y r
among_same r x y same s = record { there = same.there ∙ s.there; told = same.told ∙ s.told; read = s.read ∙ sym same.read }

-- a request with its new tries stands there
pub among_tries : (before after : RequestView) (x y : Beside) → y.requests ≡ with_tries after.id (asked_of after).tries x.requests → notes_of after ≡ notes_for after.id y.reads → after.id ≡ before.id → after.node ≡ before.node → IsInRun x before → IsInRun y after
among_tries before after x y is read id node s = record {
  there = ap (has_req after.id) is ∙ has_tries after.id after.id (asked_of after).tries x.requests ∙ ap (λ n. has_req n x.requests) id ∙ s.there;
  told = ap (asked_at after.id) is ∙ this_asked after.id (asked_of after).tries x.requests (ap (λ n. has_req n x.requests) id ∙ s.there)
      ∙ (λ i. record ((ap (λ n. asked_at n x.requests) id ∙ s.told) i) { tries = (asked_of after).tries })
      ∙ (λ i. record { req = sym id i; node = sym node i; tries = (asked_of after).tries });
  read = read;
}

-- how many of these requests have a number
abbrev pub numbered : {X : Type 0} → (X → RequestView) → ℕ → List X → ℕ
numbered g req xs = count_by (λ x. (g x).id == req) xs

pub numbered-append : {X : Type 0} (g : X → RequestView) (req : ℕ) (xs ys : List X) → numbered g req (xs ++ ys) ≡ numbered g req xs + numbered g req ys
numbered-append g req xs ys = sum_by-append (λ x. cond ((g x).id == req) 1 0) xs ys

-- requests none of which has the number that changed
pub all_same : {X : Type 0} (g : X → RequestView) (changed : ℕ) (old new : Beside) → ((req : ℕ) → (req == changed) ≡ false → IsSameIn req old new)
    → (xs : List X) → numbered g changed xs ≡ 0 → AllByRecursion (λ x. IsInRun old (g x)) xs → AllByRecursion (λ x. IsInRun new (g x)) xs
all_same g changed old new same [] none all = tt
all_same g changed old new same (x ∷ xs) none all = by ((g x).id == changed) refl (sym (sum_by-cons (λ x. cond ((g x).id == changed) 1 0) x xs) ∙ none) (all_same g changed old new same xs)
  where
    by : (b : Bool) → ((g x).id == changed) ≡ b → cond b 1 0 + numbered g changed xs ≡ 0
        → (numbered g changed xs ≡ 0 → AllByRecursion (λ x. IsInRun old (g x)) xs → AllByRecursion (λ x. IsInRun new (g x)) xs)
        → AllByRecursion (λ x. IsInRun new (g x)) (x ∷ xs)
    by true is none rest = absurd (omega arith)
    by false is none rest = (among_same (g x) old new (same (g x).id is) all.0, rest (omega (arith, none)) all.1)

-- requests stand in a run in which all stand as in another
all_in : {X : Type 0} (g : X → RequestView) (x y : Beside) → ((req : ℕ) → IsSameIn req x y) → (xs : List X) → AllByRecursion (λ z. IsInRun x (g z)) xs → AllByRecursion (λ z. IsInRun y (g z)) xs
all_in g x y same [] all = tt
all_in g x y same (z ∷ xs) all = (among_same (g z) x y (same (g z).id) all.0, all_in g x y same xs all.1)

pub run_same : (x y : Beside) (d : DeskView) → ((req : ℕ) → IsSameIn req x y) → AreInRun x d → AreInRun y d
run_same x y d same h = record {
  flying = all_in (λ (f : Flying). f.request) x y same d.flying h.flying;
  out = all_in (λ (r : RequestView). r) x y same d.out h.out;
  ended = all_in (λ (r : RequestView). r) x y same d.ended h.ended;
  once = h.once;
}

-- a fact of each of these and of those
pub all_append : {X : Type 0} (P : X → Type 0) (xs ys : List X) → AllByRecursion P xs → AllByRecursion P ys → AllByRecursion P (xs ++ ys)
all_append P [] ys a b = b
all_append P (x ∷ xs) ys a b = (a.0, all_append P xs ys a.1 b)

pub all_first : {X : Type 0} (P : X → Type 0) (xs ys : List X) → AllByRecursion P (xs ++ ys) → AllByRecursion P xs
all_first P [] ys a = tt
all_first P (x ∷ xs) ys a = (a.0, all_first P xs ys a.1)

pub all_last : {X : Type 0} (P : X → Type 0) (xs ys : List X) → AllByRecursion P (xs ++ ys) → AllByRecursion P ys
all_last P [] ys a = a
all_last P (x ∷ xs) ys a = all_last P xs ys a.1
