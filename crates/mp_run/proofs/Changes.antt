-- What changes leave of flights, numbers and tries.
use Rattle.std.proofs.Common.{[], ◌≡◌, ℕ, zero, suc, Bool, true, false, not, ◌||◌, ◌==◌, List, ◌∷◌, ◌++◌, ◌⊎◌, inl, inr, filter, get_or, set, Some, None, refl, sym, ap, ◌∙◌, subst, eq-eqb, arith}
use Rattle.std.specs.List.{last_or}
use Rattle.std.proofs.lemmas.Bool.{cases_Bool, eqb-true, cases_eq}
use Rattle.std.proofs.lemmas.List.{get_or-set_other}
use Rattle.mp_checks.specs.Marks.{has}
use Rattle.mp_words.specs.declared.flight.Flight.{Flight}
use Rattle.mp_words.specs.Request.{Asked, Tried, outcome_of}
use Rattle.mp_legal.specs.PlainState.{State, with_tries}
use Rattle.mp_legal.specs.PlainLine.{flights_of}
use Rattle.mp_legal.specs.Numbers.{has_req, has_flight, asked_at, standing}
use Rattle.mp_run.specs.Sound.{AreOf}
use Rattle.mp_run.proofs.Standing.{other_asked, this_asked}

-- numbers of requests whose tries change stay
pub has_with_tries : (req changed : ℕ) (tries : List Tried) (requests : List Asked) → has_req req (with_tries changed tries requests) ≡ has_req req requests
has_with_tries req changed tries [] = refl
has_with_tries req changed tries (a ∷ requests) =
    elim (cases_Bool (a.req == changed)) [
      | inl on ↦ rw on (ap (λ b. (a.req == req) || b) (has_with_tries req changed tries requests))
      | inr off ↦ rw off (ap (λ b. (a.req == req) || b) (has_with_tries req changed tries requests))
    ]

pub or_true : (a b : Bool) → (a || b) ≡ true → (a ≡ true) ⊎ (b ≡ true)
or_true true b e = inl refl
or_true false b e = inr e

pub true_or : (a b : Bool) → b ≡ true → (a || b) ≡ true
true_or true b e = refl
true_or false b e = e

-- the flights of a lane after those of one lane were replaced
flights_set : (flights : List (List Flight)) (at lane : ℕ) (fs : List Flight)
    → ((get_or (set flights at fs) lane [] ≡ get_or flights lane []) × (lane ≡ at → get_or flights lane [] ≡ [])) ⊎ ((lane ≡ at) × (get_or (set flights at fs) lane [] ≡ fs))
flights_set flights at lane fs =
    elim (cases_eq lane at) [
      | inl same ↦ within flights at lane fs same
      | inr other ↦ inl (get_or-set_other flights at lane fs [] other, λ same. absurd (other same))
    ]
  where
    within : (flights : List (List Flight)) (at lane : ℕ) (fs : List Flight) → lane ≡ at
        → ((get_or (set flights at fs) lane [] ≡ get_or flights lane []) × (lane ≡ at → get_or flights lane [] ≡ [])) ⊎ ((lane ≡ at) × (get_or (set flights at fs) lane [] ≡ fs))
    within [] at lane fs same = inl (refl, λ e. refl)
    within (g ∷ flights) zero zero fs same = inr (refl, refl)
    within (g ∷ flights) (suc at) zero fs same = absurd (omega arith)
    within (g ∷ flights) zero (suc lane) fs same = absurd (omega arith)
    within (g ∷ flights) (suc at) (suc lane) fs same =
        elim (within flights at lane fs (omega arith)) [
          | inl kept ↦ inl (kept.0, λ e. kept.1 (omega arith))
          | inr new ↦ inr (same, new.1)
        ]

pub flight-filter : (fs : List Flight) (gone req : ℕ) → has_flight req (filter (λ f. not (f.req == gone)) fs) ≡ true → (has_flight req fs ≡ true) × ((req == gone) ≡ false)
flight-filter [] gone req has_it = absurd cc
flight-filter (f ∷ fs) gone req has_it =
    elim (cases_Bool (f.req == gone)) [
      | inl on ↦ let rest = flight-filter fs gone req (rw on at has_it) in (true_or (f.req == req) (has_flight req fs) rest.0, rest.1)
      | inr off ↦ elim (or_true (f.req == req) (has_flight req (filter (λ g. not (g.req == gone)) fs)) (rw off at has_it)) [
        | inl e ↦ (rw e refl, let same : f.req ≡ req = eqb-true f.req req e in rw same at off)
        | inr e ↦ let rest = flight-filter fs gone req e in (true_or (f.req == req) (has_flight req fs) rest.0, rest.1)
      ]
    ]

pub of-append : (lane : ℕ) (fs : List Flight) (f : Flight) → AreOf lane fs → f.lane ≡ lane → AreOf lane (fs ++ f ∷ [])
of-append lane [] f are is = (is, tt)
of-append lane (g ∷ fs) f are is = (are.0, of-append lane fs f are.1 is)

pub of-filter : (lane : ℕ) (test : Flight → Bool) (fs : List Flight) → AreOf lane fs → AreOf lane (filter test fs)
of-filter lane test [] are = tt
of-filter lane test (f ∷ fs) are =
    elim (cases_Bool (test f)) [
      | inl on ↦ rw on (are.0, of-filter lane test fs are.1)
      | inr off ↦ rw off (of-filter lane test fs are.1)
    ]

pub not_true : (b : Bool) → (b ≡ true → ⊥) → b ≡ false
not_true true no_way = absurd (no_way refl)
not_true false no_way = refl

-- how a request with one more try stands
last-more : (tries : List Tried) (t : Tried) → last_or None (tries ++ t ∷ []) ≡ Some t
last-more [] t = refl
last-more (u ∷ []) t = refl
last-more (u ∷ v ∷ tries) t = last-more (v ∷ tries) t

pub stands_tried : (req : ℕ) (t : Tried) (requests : List Asked) → has_req req requests ≡ true
    → standing req (with_tries req ((asked_at req requests).tries ++ t ∷ []) requests) ≡ outcome_of (Some t)
stands_tried req t requests there =
    ap (λ (a : Asked). outcome_of (last_or None a.tries)) (this_asked req ((asked_at req requests).tries ++ t ∷ []) requests there)
    ∙ ap outcome_of (last-more (asked_at req requests).tries t)

pub stands_other : (req changed : ℕ) (tries : List Tried) (requests : List Asked) → (req == changed) ≡ false → standing req (with_tries changed tries requests) ≡ standing req requests
stands_other req changed tries requests other = ap (λ (a : Asked). outcome_of (last_or None a.tries)) (other_asked req changed tries requests other)

-- what holds of each lane's flights holds after a change of one
pub each_lane : (P : ℕ → List Flight → Type 0) (flights : List (List Flight)) (at : ℕ) (fs : List Flight) → ((lane : ℕ) → P lane (get_or flights lane [])) → P at fs → (lane : ℕ) → P lane (get_or (set flights at fs) lane [])
each_lane P flights at fs all new lane =
    elim (flights_set flights at lane fs) [
      | inl kept ↦ rw kept.0 (all lane)
      | inr here ↦ rw here.1 (subst (λ n. P n fs) (sym here.0) new)
    ]

-- a number without the one in the middle
pub has_between : (xs ys : List ℕ) (n m : ℕ) → has (xs ++ ys) m ≡ true → has (xs ++ n ∷ ys) m ≡ true
has_between [] ys n m e = true_or (n == m) (has ys m) e
has_between (x ∷ xs) ys n m e =
    elim (or_true (x == m) (has (xs ++ ys) m) e) [ inl same ↦ rw same refl | inr rest ↦ true_or (x == m) (has (xs ++ n ∷ ys) m) (has_between xs ys n m rest) ]

pub has_middle : (xs ys : List ℕ) (n : ℕ) → has (xs ++ n ∷ ys) n ≡ true
has_middle [] ys n = rw (eq-eqb n n refl) refl
has_middle (x ∷ xs) ys n = true_or (x == n) (has (xs ++ n ∷ ys) n) (has_middle xs ys n)

-- the flights that were there, and the new one
flight-front : (fs gs : List Flight) (req : ℕ) → has_flight req fs ≡ true → has_flight req (fs ++ gs) ≡ true
flight-front [] gs req e = absurd cc
flight-front (f ∷ fs) gs req e =
    elim (or_true (f.req == req) (has_flight req fs) e) [ inl same ↦ rw same refl | inr rest ↦ true_or (f.req == req) (has_flight req (fs ++ gs)) (flight-front fs gs req rest) ]

pub flight-last : (fs : List Flight) (f : Flight) → has_flight f.req (fs ++ f ∷ []) ≡ true
flight-last [] f = rw (eq-eqb f.req f.req refl) refl
flight-last (g ∷ fs) f = true_or (g.req == f.req) (has_flight f.req (fs ++ f ∷ [])) (flight-last fs f)

pub before_more : (s : State) (at lane req : ℕ) (f : Flight) → has_flight req (flights_of lane s) ≡ true → has_flight req (get_or (set s.flights at (get_or s.flights at [] ++ f ∷ [])) lane []) ≡ true
before_more s at lane req f e =
    elim (flights_set s.flights at lane (get_or s.flights at [] ++ f ∷ [])) [
      | inl kept ↦ rw kept.0 e
      | inr new ↦ rw new.1 (flight-front (get_or s.flights at []) (f ∷ []) req (ap (λ n. has_flight req (get_or s.flights n [])) (sym new.0) ∙ e))
    ]

-- flights of other requests stay
filter-stays : (fs : List Flight) (gone req : ℕ) → has_flight req fs ≡ true → (req == gone) ≡ false → has_flight req (filter (λ f. not (f.req == gone)) fs) ≡ true
filter-stays [] gone req has_it other = absurd cc
filter-stays (f ∷ fs) gone req has_it other =
    elim (cases_Bool (f.req == gone)) [
      | inl on ↦ elim (or_true (f.req == req) (has_flight req fs) has_it) [
        | inl same ↦ let e : f.req ≡ req = eqb-true f.req req same in let off : (f.req == gone) ≡ false = rw e other in cc
        | inr rest ↦ rw on (filter-stays fs gone req rest other)
      ]
      | inr off ↦ rw off (elim (or_true (f.req == req) (has_flight req fs) has_it) [
        | inl same ↦ rw same refl
        | inr rest ↦ true_or (f.req == req) (has_flight req (filter (λ g. not (g.req == gone)) fs)) (filter-stays fs gone req rest other)
      ])
    ]

pub still_there : (s : State) (at gone lane req : ℕ) → has_flight req (flights_of lane s) ≡ true → (req == gone) ≡ false
    → has_flight req (get_or (set s.flights at (filter (λ f. not (f.req == gone)) (get_or s.flights at []))) lane []) ≡ true
still_there s at gone lane req there other =
    elim (flights_set s.flights at lane (filter (λ f. not (f.req == gone)) (get_or s.flights at []))) [
      | inl kept ↦ rw kept.0 there
      | inr new ↦ rw new.1 (filter-stays (get_or s.flights at []) gone req (ap (λ n. has_flight req (get_or s.flights n [])) (sym new.0) ∙ there) other)
    ]
