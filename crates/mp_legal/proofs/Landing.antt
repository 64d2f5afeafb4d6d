-- A flight that ends, among the flights of its lane and in the depths.
use Rattle.std.proofs.Common.{◌≡◌, ℕ, ◌+◌, ◌-◌, ◌<◌, ◌≤◌, ◌==◌, ◌&&◌, ◌||◌, not, Bool, true, false, cond, List, [], ◌∷◌, length, map, filter, get_or, set, option_map, inl, inr, refl, sym, ap, ◌∙◌, arith, eqb-true, eq-eqb, get_or-set_same, get_or-set_other}
use Rattle.std.specs.List.{list_any, sum_by, count_by}
use Rattle.std.proofs.lemmas.Bool.Decides.{nat_tests}
use Rattle.std.proofs.lemmas.List.{get_or_past, length-set}
use Rattle.std.proofs.lemmas.List.Sums.{sum_by-cons, sum_by-set, get_or-le-sum_by}
use Rattle.mp_script.specs.Distinct.{IsDistinct}
use Rattle.mp_words.specs.declared.flight.Flight.{Flight}
use Rattle.mp_words.proofs.Places.{cases_lt}
use Rattle.mp_core.specs.Core.{Core, stepped}
use Rattle.mp_core.specs.Memory.{Memory, landed_in}
use Rattle.mp_core.specs.Views.{is_flight, flights_without, on_slot, landed}
use Rattle.mp_core.proofs.Flights.{one_on, on_here, on_else, flying_less}
use Rattle.mp_legal.specs.ToldState.{Beside, IsAt}

-- the flights but those of a request
abbrev pub others : ℕ → List Flight → List Flight
others req fs = filter (λ g. not (g.req == req)) fs

-- how many of these flights are on a slot
abbrev pub counted : ℕ → List Flight → ℕ
counted slot fs = count_by (λ g. g.slot == slot) fs

abbrev has : List ℕ → ℕ → Bool
has ns n = list_any (λ x. x == n) ns

and_third : (a b c d : Bool) → a && b && c && d ≡ true → c ≡ true
and_third true true true d e = refl
and_third true true false d e = absurd cc
and_third true false c d e = absurd cc
and_third false b c d e = absurd cc

same_req : (f g : Flight) → is_flight f g ≡ true → g.req ≡ f.req
same_req f g e = eqb-true g.req f.req (and_third (g.slot == f.slot) (g.version == f.version) (g.req == f.req) (g.lane == f.lane) e)

either_false : (a b : Bool) → (a || b) ≡ false → (a ≡ false) × (b ≡ false)
either_false false false e = (refl, refl)
either_false true b e = absurd cc
either_false false true e = absurd cc

-- no request's flights are left out where it has none
others_all : (req : ℕ) (fs : List Flight) → has (map (λ (g : Flight). g.req) fs) req ≡ false → others req fs ≡ fs
others_all req [] e = refl
others_all req (g ∷ fs) e =
    let parts = either_false (g.req == req) (has (map (λ (g : Flight). g.req) fs) req) e in
    rw parts.0 (ap (λ gs. g ∷ gs) (others_all req fs parts.1))

-- a flight that is there has its request there
has_request : (f : Flight) (fs : List Flight) → list_any (is_flight f) fs ≡ true → has (map (λ (g : Flight). g.req) fs) f.req ≡ true
has_request f [] e = absurd cc
has_request f (g ∷ fs) e = by (is_flight f g) refl e (has_request f fs)
  where
    by : (b : Bool) → is_flight f g ≡ b → (b || list_any (is_flight f) fs) ≡ true → (list_any (is_flight f) fs ≡ true → has (map (λ (g : Flight). g.req) fs) f.req ≡ true)
        → ((g.req == f.req) || has (map (λ (g : Flight). g.req) fs) f.req) ≡ true
    by true is e later = rw (eq-eqb g.req f.req (same_req f g is)) refl
    by false is e later = rw (later e) (or_true (g.req == f.req))
      where
        or_true : (b : Bool) → (b || true) ≡ true
        or_true true = refl
        or_true false = refl

-- of distinct requests a flight alone is taken away
pub without_others : (f : Flight) (fs : List Flight) → list_any (is_flight f) fs ≡ true → IsDistinct (map (λ (g : Flight). g.req) fs) → flights_without f fs ≡ others f.req fs
without_others f [] e d = absurd cc
without_others f (g ∷ fs) e d = by (is_flight f g) refl e (without_others f fs)
  where
    by : (b : Bool) → is_flight f g ≡ b → (b || list_any (is_flight f) fs) ≡ true → (list_any (is_flight f) fs ≡ true → IsDistinct (map (λ (g : Flight). g.req) fs) → flights_without f fs ≡ others f.req fs)
        → flights_without f (g ∷ fs) ≡ others f.req (g ∷ fs)
    by true is e later =
        let same : g.req ≡ f.req = same_req f g is in
        let none : has (map (λ (g : Flight). g.req) fs) f.req ≡ false = ap (has (map (λ (g : Flight). g.req) fs)) (sym same) ∙ d.0 in
        rw (is, eq-eqb g.req f.req same) (sym (others_all f.req fs none))
    by false is e later = apart (g.req == f.req) refl
      where
        apart : (b : Bool) → (g.req == f.req) ≡ b → flights_without f (g ∷ fs) ≡ others f.req (g ∷ fs)
        apart true same =
            let there : has (map (λ (g : Flight). g.req) fs) f.req ≡ true = has_request f fs e in
            let none : has (map (λ (g : Flight). g.req) fs) f.req ≡ false = ap (has (map (λ (g : Flight). g.req) fs)) (sym (eqb-true g.req f.req same)) ∙ d.0 in
            absurd (both (has (map (λ (g : Flight). g.req) fs) f.req) there none)
          where
            both : (b : Bool) → b ≡ true → b ≡ false → ⊥
            both b x y = cc
        apart false other = rw (is, other) (ap (λ gs. g ∷ gs) (later e d.1))

pub on_counted : (slot : ℕ) (fs : List Flight) → on_slot slot fs ≡ counted slot fs
on_counted slot [] = refl
on_counted slot (f ∷ fs) = ap (λ n. cond (f.slot == slot) 1 0 + n) (on_counted slot fs) ∙ sym (sum_by-cons (λ (g : Flight). cond (g.slot == slot) 1 0) f fs)

-- the number on each slot, once the flight has gone
pub counted_less : (slot : ℕ) (f : Flight) (fs : List Flight) → list_any (is_flight f) fs ≡ true → IsDistinct (map (λ (g : Flight). g.req) fs) → counted slot fs ≡ counted slot (others f.req fs) + one_on slot f
counted_less slot f fs e d =
    sym (on_counted slot fs) ∙ flying_less slot f fs e ∙ ap (λ n. n + one_on slot f) (on_counted slot (flights_without f fs) ∙ ap (counted slot) (without_others f fs e d))

-- the depths, once the flight has gone
pub fewer : (depths : List ℕ) (flights : List (List Flight)) (lane : ℕ) (f : Flight) (slot : ℕ) → ((s : ℕ) → get_or depths s 0 ≡ sum_by (counted s) flights) → lane < length flights
    → list_any (is_flight f) (get_or flights lane []) ≡ true → IsDistinct (map (λ (g : Flight). g.req) (get_or flights lane []))
    → get_or (set depths f.slot (get_or depths f.slot 0 - 1)) slot 0 ≡ sum_by (counted slot) (set flights lane (others f.req (get_or flights lane [])))
fewer depths flights lane f slot all below there once = by (slot == f.slot) refl
  where
    is_apart : (x y : ℕ) → (x == y) ≡ false → x ≡ y → ⊥
    is_apart x y e f = grind (arith, nat_tests)

    total : (s : ℕ) → sum_by (counted s) (set flights lane (others f.req (get_or flights lane []))) + counted s (get_or flights lane []) ≡ sum_by (counted s) flights + counted s (others f.req (get_or flights lane []))
    total s = sum_by-set (counted s) flights lane (others f.req (get_or flights lane [])) [] below

    less : (s : ℕ) → counted s (get_or flights lane []) ≡ counted s (others f.req (get_or flights lane [])) + one_on s f
    less s = counted_less s f (get_or flights lane []) there once

    within : f.slot < length depths
    within = elim (cases_lt f.slot (length depths)) [
      | inl lt ↦ lt
      | inr past ↦
          let none : get_or depths f.slot 0 ≡ 0 = get_or_past depths f.slot 0 past in
          let most : counted f.slot (get_or flights lane []) ≤ sum_by (counted f.slot) flights = get_or-le-sum_by (counted f.slot) flights lane [] below in
          let one = on_here f.slot f refl in
          let l = less f.slot in
          let a = all f.slot in
          absurd (omega arith)
    ]

    by : (b : Bool) → (slot == f.slot) ≡ b → get_or (set depths f.slot (get_or depths f.slot 0 - 1)) slot 0 ≡ sum_by (counted slot) (set flights lane (others f.req (get_or flights lane [])))
    by true is =
        let same : slot ≡ f.slot = eqb-true slot f.slot is in
        let at : get_or (set depths f.slot (get_or depths f.slot 0 - 1)) f.slot 0 ≡ get_or depths f.slot 0 - 1 = get_or-set_same depths f.slot (get_or depths f.slot 0 - 1) 0 within in
        let one = on_here f.slot f refl in
        let l = less f.slot in
        let t = total f.slot in
        let a = all f.slot in
        let it : get_or depths f.slot 0 - 1 ≡ sum_by (counted f.slot) (set flights lane (others f.req (get_or flights lane []))) = omega arith in
        ap (λ s. get_or (set depths f.slot (get_or depths f.slot 0 - 1)) s 0) same ∙ at ∙ it ∙ ap (λ s. sum_by (counted s) (set flights lane (others f.req (get_or flights lane [])))) (sym same)
    by false off =
        let at : get_or (set depths f.slot (get_or depths f.slot 0 - 1)) slot 0 ≡ get_or depths slot 0 = get_or-set_other depths f.slot slot (get_or depths f.slot 0 - 1) 0 (is_apart slot f.slot off) in
        let one = on_else slot f (λ e. is_apart slot f.slot off (sym e)) in
        let l = less slot in
        let t = total slot in
        let a = all slot in
        at ∙ (omega arith)

-- a pass after a flight has ended, with what a run then has beside the words
pub landed_at : (c : Core) (m : Memory) (x y : Beside) (f : Flight) → IsAt c m x → f.lane ≡ c.lane → list_any (is_flight f) (get_or x.flights f.lane []) ≡ true → IsDistinct (map (λ (g : Flight). g.req) (get_or x.flights f.lane []))
    → y.flights ≡ set x.flights f.lane (others f.req (get_or x.flights f.lane [])) → IsAt (stepped (landed f) (landed_in f.slot) c) (landed_in f.slot m) y
landed_at c m x y f k lane there once is =
    let lanes = k.lanes in
    let within = k.lane in
    let below : f.lane < length x.flights = omega arith in
    let fs : List Flight = get_or x.flights f.lane [] in
    record {
      told = ap (option_map (landed_in f.slot)) k.told;
      rows = k.rows;
      depths = length-set m.depths f.slot (get_or m.depths f.slot 0 - 1) ∙ k.depths;
      currents = k.currents;
      lanes = ap length is ∙ length-set x.flights f.lane (others f.req fs) ∙ k.lanes;
      lane = k.lane;
      closed = k.closed;
      flights = ap (flights_without f) (k.flights ∙ ap (λ l. get_or x.flights l []) (sym lane)) ∙ without_others f fs there once ∙ sym (get_or-set_same x.flights f.lane (others f.req fs) [] below) ∙ (λ i. get_or (sym is i) (lane i) []);
      counted = λ slot. fewer m.depths x.flights f.lane f slot k.counted below there once ∙ ap (sum_by (counted slot)) (sym is);
    }
