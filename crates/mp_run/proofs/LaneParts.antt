-- The parts of a run on one thread: what lanes have together, and desks that another lane's turn leaves.
use Rattle.std.proofs.Common.{[], ◌≡◌, ℕ, zero, suc, ◌+◌, ◌≤◌, ◌<◌, ◌==◌, Bool, true, false, cond, List, ◌∷◌, ◌++◌, map, length, count_by, get_or, inl, inr, refl, sym, ap, ◌∙◌, subst, arith, append-nil, eq-eqb, eqb-true}
use Rattle.std.specs.Prelude.{sum_by}
use Rattle.std.specs.List.{AllByRecursion}
use Rattle.std.proofs.lemmas.Bool.{cases_Bool}
use Rattle.std.proofs.lemmas.List.Sums.{sum_by-cons}
use Rattle.mp_checks.specs.Marks.{has}
use Rattle.mp_script.specs.Distinct.{IsDistinct}
use Rattle.mp_words.specs.RequestView.{RequestView}
use Rattle.mp_core.specs.Core.{Core}
use Rattle.mp_core.specs.Memory.{Memory}
use Rattle.mp_desk.specs.declared.flying.Flying.{Flying}
use Rattle.mp_desk.specs.DeskView.{DeskView}
use Rattle.mp_desk.specs.Calls.{Stand}
use Rattle.mp_legal.specs.Numbers.{has_req}
use Rattle.mp_legal.specs.ToldDesks.{SitsAt, AreInRun, IsInRun, IsSameIn, times}
use Rattle.mp_legal.specs.TryRead.{notes_for}
use Rattle.mp_legal.specs.ToldState.{Beside, IsAt}
use Rattle.mp_run.proofs.LaneStarts.{among}
use Rattle.mp_run.proofs.TurnFacts.{count, count_distinct}

-- ---- sums

pub one_of : {X : Type 0} (f : X → ℕ) (xs : List X) (d : X) (i : ℕ) → i < length xs → f (get_or xs i d) ≤ sum_by f xs
one_of f [] d i lt = absurd (omega (arith, lt))
one_of f (x ∷ xs) d zero lt = let e = sum_by-cons f x xs in omega (arith, e)
one_of f (x ∷ xs) d (suc i) lt = let e = sum_by-cons f x xs in let more = one_of f xs d i (omega (arith, lt)) in omega (arith, e, more)

pub two_of : {X : Type 0} (f : X → ℕ) (xs : List X) (d : X) (i j : ℕ) → i < length xs → j < length xs → (i ≡ j → ⊥) → f (get_or xs i d) + f (get_or xs j d) ≤ sum_by f xs
two_of f [] d i j lt low apart = absurd (omega (arith, lt))
two_of f (x ∷ xs) d zero zero lt low apart = absurd (apart refl)
two_of f (x ∷ xs) d zero (suc j) lt low apart = let e = sum_by-cons f x xs in let more = one_of f xs d j (omega (arith, low)) in omega (arith, e, more)
two_of f (x ∷ xs) d (suc i) zero lt low apart = let e = sum_by-cons f x xs in let more = one_of f xs d i (omega (arith, lt)) in omega (arith, e, more)
two_of f (x ∷ xs) d (suc i) (suc j) lt low apart =
    let e = sum_by-cons f x xs in
    let more = two_of f xs d i j (omega (arith, lt)) (omega (arith, low)) (λ is. apart (ap suc is)) in
    omega (arith, e, more)

pub none_of : {X : Type 0} (f : X → ℕ) (xs : List X) (d : X) → ((i : ℕ) → i < length xs → f (get_or xs i d) ≡ 0) → sum_by f xs ≡ 0
none_of f [] d all = refl
none_of f (x ∷ xs) d all =
    let e = sum_by-cons f x xs in
    let first = all 0 (omega arith) in
    let more = none_of f xs d (λ i lt. all (suc i) (omega (arith, lt))) in
    omega (arith, e, first, more)

-- ---- requests of a run

-- requests that stand in a run stand where none but those of these numbers has changed, which weren't there
pub all_moved : {X : Type 0} (g : X → RequestView) (mine : List ℕ) (x y : Beside) → ((req : ℕ) → has mine req ≡ true → has_req req x.requests ≡ false) → ((req : ℕ) → has mine req ≡ false → IsSameIn req x y)
    → (xs : List X) → AllByRecursion (λ z. IsInRun x (g z)) xs → AllByRecursion (λ z. IsInRun y (g z)) xs
all_moved g mine x y new same [] all = tt
all_moved g mine x y new same (z ∷ zs) all = (by (has mine (g z).id) refl, all_moved g mine x y new same zs all.1)
  where
    by : (b : Bool) → has mine (g z).id ≡ b → IsInRun y (g z)
    by true on = let off = new (g z).id on in let there = all.0.there in absurd cc
    by false off =
        let s = same (g z).id off in
        let t = all.0 in
        record { there = s.there ∙ t.there; told = s.told ∙ t.told; read = t.read ∙ sym s.read }

-- no request that stands in a run has a number that the run hasn't
pub none_new : {X : Type 0} (g : X → RequestView) (x : Beside) (n : ℕ) → has_req n x.requests ≡ false → (xs : List X) → AllByRecursion (λ z. IsInRun x (g z)) xs → count_by (λ z. (g z).id == n) xs ≡ 0
none_new g x n new [] all = refl
none_new g x n new (z ∷ zs) all =
    let sum = sum_by-cons (λ y. cond ((g y).id == n) 1 0) z zs in
    let more = none_new g x n new zs all.1 in
    elim (cases_Bool ((g z).id == n)) [
      | inl on ↦ let there : has_req n x.requests ≡ true = ap (λ k. has_req k x.requests) (sym (eqb-true (g z).id n on)) ∙ all.0.there in absurd cc
      | inr off ↦ let none : ◌≡◌ {A = ℕ} (cond ((g z).id == n) 1 0) 0 = ap (λ (b : Bool). cond b 1 0) off in omega (arith, sum, more, none)
    ]

zero_sum : (a b c : ℕ) → a ≡ 0 → b ≡ 0 → c ≡ 0 → a + (b + c) ≡ 0
zero_sum a b c p q r = omega (arith, p, q, r)

pub desk_new : (x : Beside) (d : DeskView) (n : ℕ) → has_req n x.requests ≡ false → AreInRun x d → times n d ≡ 0
desk_new x d n new h =
    zero_sum _ _ _ (none_new (λ (f : Flying). f.request) x n new d.flying h.flying) (none_new (λ (r : RequestView). r) x n new d.out h.out) (none_new (λ (r : RequestView). r) x n new d.ended h.ended)

-- a request of these counts
pub some_of : (r : RequestView) (rs : List RequestView) → 1 ≤ among r.id (r ∷ rs)
some_of r rs =
    let sum = sum_by-cons (λ (q : RequestView). cond (q.id == r.id) 1 0) r rs in
    let one : ◌≡◌ {A = ℕ} (cond (r.id == r.id) 1 0) 1 = ap (λ (b : Bool). cond b 1 0) (eq-eqb r.id r.id refl) in
    omega (arith, sum, one)

pub fewer : (n : ℕ) (r : RequestView) (rs : List RequestView) → among n rs ≤ among n (r ∷ rs)
fewer n r rs = let sum = sum_by-cons (λ (q : RequestView). cond (q.id == n) 1 0) r rs in omega (arith, sum)

-- requests of which no number counts twice are distinct
pub among_count : (n : ℕ) (rs : List RequestView) → count n (map (λ r. r.id) rs) ≡ among n rs
among_count n [] = refl
among_count n (r ∷ rs) =
    step (r.id == n) (count n (map (λ (q : RequestView). q.id) rs)) (among n rs) (among_count n rs) ∙ sym (sum_by-cons (λ (q : RequestView). cond (q.id == n) 1 0) r rs)
  where
    step : (b : Bool) (c s : ℕ) → c ≡ s → cond b (suc c) c ≡ cond b 1 0 + s
    step true c s e = omega (arith, e)
    step false c s e = omega (arith, e)

pub distinct_among : (rs : List RequestView) → ((n : ℕ) → among n rs ≤ 1) → IsDistinct (map (λ r. r.id) rs)
distinct_among rs few = count_distinct (map (λ r. r.id) rs) (λ n. let e = among_count n rs in let le = few n in omega (arith, e, le))

-- what holds of each number that counts holds of each request
pub each_by : (P : ℕ → Type 0) (rs : List RequestView) → ((n : ℕ) → 1 ≤ among n rs → P n) → AllByRecursion (λ r. P r.id) rs
each_by P [] all = tt
each_by P (r ∷ rs) all = (all r.id (some_of r rs), each_by P rs (λ n some. all n (let le = fewer n r rs in omega (arith, some, le))))

-- ---- desks that sit

-- a lane that has nothing to list sits where only new requests and the list have changed
pub sits_beside : (r : Stand) (before : List ℕ) (m : Memory) (x y : Beside) (mine : List ℕ) → SitsAt r before m x → r.desk.out ≡ [] → y ≡ record x { waiting = y.waiting; requests = y.requests }
    → ((req : ℕ) → has mine req ≡ true → has_req req x.requests ≡ false) → ((req : ℕ) → has mine req ≡ false → IsSameIn req x y)
    → ((req : ℕ) → has_req req y.requests ≡ false → notes_for req y.reads ≡ []) → SitsAt r y.waiting m y
sits_beside r before m x y mine h none is new same noted =
    let k = h.at in
    let at : IsAt r.core m (record x { waiting = y.waiting; requests = y.requests }) =
    record { told = k.told; rows = k.rows; depths = k.depths; currents = k.currents; lanes = k.lanes; lane = k.lane; closed = k.closed; flights = k.flights; counted = k.counted } in
    record {
      at = subst (λ (z : Beside). IsAt r.core m z) (sym is) at;
      sits = h.sits;
      own = h.own;
      requests = record {
        flying = all_moved (λ (f : Flying). f.request) mine x y new same r.desk.flying h.requests.flying;
        out = all_moved (λ (q : RequestView). q) mine x y new same r.desk.out h.requests.out;
        ended = all_moved (λ (q : RequestView). q) mine x y new same r.desk.ended h.requests.ended;
        once = h.requests.once;
      };
      waiting = sym (append-nil y.waiting) ∙ ap (λ (rs : List RequestView). y.waiting ++ map (λ q. q.id) rs) (sym none);
      nobody = h.nobody;
      noted = noted;
    }

-- a lane that has done nothing since its own turn sits at its next
pub sits_again : (r : Stand) (before : List ℕ) (m : Memory) (x : Beside) (c : Core) → SitsAt r before m x → c.lane ≡ r.core.lane → c.told ≡ r.core.told → c.view.inside ≡ r.core.view.inside → c.view.flights ≡ r.core.view.flights
    → SitsAt (record r { core = c }) before m x
sits_again r before m x c h lane told inside flights =
    let k = h.at in
    record {
      at = record {
        told = told ∙ k.told;
        rows = k.rows;
        depths = k.depths;
        currents = k.currents;
        lanes = k.lanes;
        lane = subst (λ n. n < 17) (sym lane) k.lane;
        closed = inside ∙ k.closed;
        flights = flights ∙ k.flights ∙ ap (λ n. get_or x.flights n []) (sym lane);
        counted = k.counted;
      };
      sits = record { closed = inside ∙ h.sits.closed; flights = flights ∙ h.sits.flights; aloft = h.sits.aloft; waiting = h.sits.waiting };
      own = subst (λ n. AllByRecursion (λ (f : Flying). f.flight.lane ≡ n) r.desk.flying) (sym lane) h.own;
      requests = record { flying = h.requests.flying; out = h.requests.out; ended = h.requests.ended; once = h.requests.once };
      waiting = h.waiting;
      nobody = h.nobody;
      noted = h.noted;
    }
