-- All flights of a desk are ended.
use Rattle.std.proofs.Common.{◌≡◌, ℕ, ◌+◌, ◌≤◌, ◌<◌, List, [], ◌∷◌, ◌++◌, length, map, append-nil, append_assoc, Option, Some, None, true, option_map, refl, sym, ap, ◌∙◌, subst, arith}
use Rattle.std.specs.List.{list_any}
use Rattle.std.proofs.lemmas.List.{nil_from_length}
use Rattle.mp_words.specs.declared.flight.Flight.{Flight}
use Rattle.mp_core.specs.declared.view.Held.{Held}
use Rattle.mp_core.specs.declared.view.View.{View}
use Rattle.mp_keep.specs.Keeper.{StandsTo}
use Rattle.mp_desk.proofs.KeeperStands.{stands_same}
use Rattle.mp_core.specs.Core.{Core}
use Rattle.mp_core.specs.Kinds.{Lands}
use Rattle.mp_core.specs.Memory.{Memory, landed_in}
use Rattle.mp_core.specs.Views.{flights_without, has_flight, is_flight}
use Rattle.mp_desk.specs.declared.flying.Flying.{Flying}
use Rattle.mp_desk.specs.DeskView.{DeskView}
use Rattle.mp_desk.specs.Calls.{EndsAll, Sits, landed_all}
use Rattle.mp_desk.specs.Desks.{KeepsStand, Leaves}
use Rattle.mp_desk.specs.Indexed.{TakesFirst}
use Rattle.mp_desk.proofs.Sitting.{first_gone, flies}

-- the pass with these flights and this of what it knows else
abbrev with_flying : List Flight → Option Held → Option Memory → Core → Core
with_flying flights last told a = record a { view = record (a.view) { flights = flights; keeping = record (a.view.keeping) { last = last } }; told = told }

-- So many flights have ended, and nothing else was done.
pub record EndsSome (a c : Core) (d e : DeskView) (n most : ℕ) : Type 0 where
  pub gone : List Flying
  pub was : d.flying ≡ gone ++ e.flying
  pub core : c ≡ with_flying (map (λ f. f.flight) e.flying) c.view.keeping.last (option_map (landed_all (map (λ f. f.flight) gone)) a.told) a
  pub desk : e ≡ record d { flying = e.flying }
  pub few : length e.flying + n ≤ most

map_same : (t : Option Memory) → t ≡ option_map (λ m. m) t
map_same None = refl
map_same (Some m) = refl

landed_more : (flights : List Flight) (f : Flight) (m : Memory) → landed_all (flights ++ f ∷ []) m ≡ landed_in f.slot (landed_all flights m)
landed_more [] f m = refl
landed_more (g ∷ flights) f m = landed_more flights f (landed_in g.slot m)

landed_told : (flights : List Flight) (f : Flight) (t : Option Memory) → option_map (landed_in f.slot) (option_map (landed_all flights) t) ≡ option_map (landed_all (flights ++ f ∷ [])) t
landed_told flights f None = refl
landed_told flights f (Some m) = ap Some (sym (landed_more flights f m))

flights_more : (gone : List Flying) (f : Flying) → map (λ g. g.flight) gone ++ f.flight ∷ [] ≡ map (λ g. g.flight) (gone ++ f ∷ [])
flights_more [] f = refl
flights_more (g ∷ gone) f = ap (λ (fs : List Flight). g.flight ∷ fs) (flights_more gone f)

pub ends_none : (a : Core) (d : DeskView) (most : ℕ) → a.view.flights ≡ map (λ f. f.flight) d.flying → most ≡ length d.flying → EndsSome a a d d 0 most
ends_none a d most all is = record {
  gone = [];
  was = refl;
  core = λ i. with_flying (all i) a.view.keeping.last (map_same a.told i) a;
  desk = refl;
  few = omega (arith, is);
}

-- the first of all was taken
taken_first : (f : Flying) (old new : List Flying) → TakesFirst None f old new → old ≡ f ∷ new
taken_first f old new h = h.was ∙ (λ i. h.none i ++ f ∷ h.after) ∙ (λ i. f ∷ (sym (h.is ∙ (λ j. h.none j ++ h.after)) i))

pub flies_now : (f : Flying) (a c : Core) (d e : DeskView) (new : List Flying) (n most : ℕ) → EndsSome a c d e n most → TakesFirst None f e.flying new → has_flight f.flight c.view ≡ true
flies_now f a c d e new n most h t = ap (λ fs. list_any (is_flight f.flight) fs) (ap (λ (z : Core). z.view.flights) h.core ∙ ap (map (λ g. g.flight)) (taken_first f e.flying new t)) ∙ flies f [] new

pub ends_more : (f : Flying) (a c b : Core) (d e : DeskView) (new : List Flying) (n most : ℕ) → EndsSome a c d e n most → TakesFirst None f e.flying new → Lands c b f.flight → EndsSome a b d (record e { flying = new }) (n + 1) most
ends_more f a c b d e new n most h t k =
    let first = taken_first f e.flying new t in
    let flights : flights_without f.flight c.view.flights ≡ map (λ g. g.flight) new =
    ap (flights_without f.flight) (ap (λ (z : Core). z.view.flights) h.core ∙ ap (map (λ g. g.flight)) first) ∙ first_gone f [] new refl in
    let told : option_map (landed_in f.flight.slot) c.told ≡ option_map (landed_all (map (λ g. g.flight) (h.gone ++ f ∷ []))) a.told =
    ap (option_map (landed_in f.flight.slot)) (ap (λ (z : Core). z.told) h.core) ∙ landed_told (map (λ g. g.flight) h.gone) f.flight a.told ∙ ap (λ fs. option_map (landed_all fs) a.told) (flights_more h.gone f) in
    record {
      gone = h.gone ++ f ∷ [];
      was = h.was ∙ ap (λ fs. h.gone ++ fs) first ∙ sym (append_assoc h.gone (f ∷ []) new);
      core = k.after ∙ (λ i. with_flying (flights i) None (told i) c) ∙ (λ i. with_flying (map (λ g. g.flight) new) None (option_map (landed_all (map (λ g. g.flight) (h.gone ++ f ∷ []))) a.told) (h.core i))
          ∙ (λ i. with_flying (map (λ g. g.flight) new) (sym (ap (λ (z : Core). z.view.keeping.last) k.after) i) (option_map (landed_all (map (λ g. g.flight) (h.gone ++ f ∷ []))) a.told) a);
      desk = λ i. record (h.desk i) { flying = new };
      few = omega (arith, h.few, ap length first);
    }

-- there was none to take
pub ends_still : (a c : Core) (d e : DeskView) (n most : ℕ) → EndsSome a c d e n most → e.flying ≡ [] → n < most → EndsSome a c d e (n + 1) most
ends_still a c d e n most h is below = record { gone = h.gone; was = h.was; core = h.core; desk = h.desk; few = omega (arith, ap length is, below) }

pub ends_all : (a c : Core) (d e : DeskView) (n most : ℕ) → EndsSome a c d e n most → most ≤ n → EndsAll a c d e
ends_all a c d e n most h over =
    let is : e.flying ≡ [] = nil_from_length e.flying (omega (arith, h.few, over)) in
    let all : h.gone ≡ d.flying = sym (h.was ∙ ap (λ fs. h.gone ++ fs) is ∙ append-nil h.gone) in
    record {
      core = h.core ∙ (λ i. with_flying (map (λ f. f.flight) (is i)) c.view.keeping.last (option_map (landed_all (map (λ f. f.flight) (all i))) a.told) a);
      desk = h.desk ∙ (λ i. record d { flying = is i });
    }

-- a keeper stands as before then
pub end_stands : (a c : Core) (d e : DeskView) → EndsAll a c d e → KeepsStand a c
end_stands a c d e h k s =
    let v : View = record (a.view) { flights = []; keeping = record (a.view.keeping) { last = c.view.keeping.last } } in
    subst (StandsTo k) (sym (ap (λ (z : Core). z.view) h.core)) (stands_same k a.view v refl refl refl refl refl s)

pub end_leaves : (a c : Core) (d e : DeskView) → EndsAll a c d e → Sits a d → Leaves a c e
end_leaves a c d e h s = record {
  sits = subst (Sits c) (sym h.desk) (record {
    closed = ap (λ (z : Core). z.view.inside) h.core ∙ s.closed;
    flights = ap (λ (z : Core). z.view.flights) h.core;
    aloft = tt;
    waiting = s.waiting;
  });
  kept = record { home = ap (λ z. z.home) h.core; lane = ap (λ z. z.lane) h.core; alone = ap (λ z. z.alone) h.core; others = ap (λ z. z.others) h.core; role = ap (λ z. z.view.role) h.core; start = ap (λ z. z.view.keeping.start) h.core };
}
