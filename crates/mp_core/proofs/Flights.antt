-- The flights of a view, when one comes and when one goes.
use Rattle.std.proofs.Common.{◌≡◌, ◌≢◌, ℕ, zero, suc, ◌+◌, ◌≤◌, ◌==◌, ◌||◌, ◌&&◌, eqb-true, eq-eqb, ne_eqb, cond, Bool, true, false, List, [], ◌∷◌, ◌++◌, length, refl, sym, true≢false, ap, arith, if◌then◌else◌}
use Rattle.std.specs.List.{All, list_any}
use Rattle.std.proofs.lemmas.List.Elements.{All-cons, All-head, All-tail}
use Rattle.mp_words.specs.declared.flight.Flight.{Flight}
use Rattle.mp_core.specs.declared.view.View.{View}
use Rattle.mp_core.specs.Views.{is_flight, flights_without, has_flight, flying, on_slot}

never : {A : Type 0} → false ≡ true → A
never e = absurd (true≢false (sym e))

-- 1 where the flight is on the slot
abbrev pub one_on : ℕ → Flight → ℕ
one_on s f = cond (f.slot == s) 1 0

pub on_here : (s : ℕ) (f : Flight) → f.slot ≡ s → one_on s f ≡ 1
on_here s f e = ap (λ (b : Bool). cond b 1 0) (eq-eqb f.slot s e)

pub on_else : (s : ℕ) (f : Flight) → f.slot ≢ s → one_on s f ≡ 0
on_else s f e = ap (λ (b : Bool). cond b 1 0) (ne_eqb f.slot s e)

pub flying_more : (s : ℕ) (fs : List Flight) (f : Flight) → on_slot s (fs ++ f ∷ []) ≡ on_slot s fs + one_on s f
flying_more s [] f = omega arith
flying_more s (g ∷ fs) f = let r = flying_more s fs f in omega arith

-- not more than there are
pub on_most : (s : ℕ) (fs : List Flight) → on_slot s fs ≤ length fs
on_most s [] = omega arith
on_most s (f ∷ fs) = let r = on_most s fs in let o = most (f.slot == s) in omega arith
  where
    most : (b : Bool) → cond {A = ℕ} b 1 0 ≤ 1
    most true = omega arith
    most false = omega arith

-- the flight that goes
and_first : (a b c d : Bool) → a && b && c && d ≡ true → a ≡ true
and_first true b c d h = refl
and_first false b c d h = never h

pub same_slot : (f g : Flight) → is_flight f g ≡ true → g.slot ≡ f.slot
same_slot f g h = eqb-true g.slot f.slot (and_first (g.slot == f.slot) (g.version == f.version) (g.req == f.req) (g.lane == f.lane) h)

without_one : (s : ℕ) (f g : Flight) (gs : List Flight) (b : Bool) → is_flight f g ≡ b → (list_any (is_flight f) gs ≡ true → on_slot s gs ≡ on_slot s (flights_without f gs) + one_on s f) → b || list_any (is_flight f) gs ≡ true
    → on_slot s (g ∷ gs) ≡ on_slot s (if b then gs else g ∷ flights_without f gs) + one_on s f
without_one s f g gs true is less h =
    let e : one_on s g ≡ one_on s f = ap (λ (x : ℕ). cond (x == s) 1 0) (same_slot f g is) in omega arith
without_one s f g gs false is less h =
    let l = less h in omega arith

pub flying_less : (s : ℕ) (f : Flight) (fs : List Flight) → list_any (is_flight f) fs ≡ true → on_slot s fs ≡ on_slot s (flights_without f fs) + one_on s f
flying_less s f [] h = never h
flying_less s f (g ∷ gs) h = without_one s f g gs (is_flight f g) refl (flying_less s f gs) h

all_without_one : (P : Flight → Type 0) (f g : Flight) (gs : List Flight) (b : Bool) → P g → All P gs → All P (flights_without f gs) → All P (if b then gs else g ∷ flights_without f gs)
all_without_one P f g gs true p all less = all
all_without_one P f g gs false p all less = All-cons P g (flights_without f gs) p less

pub all_less : (P : Flight → Type 0) (f : Flight) (fs : List Flight) → All P fs → All P (flights_without f fs)
all_less P f [] h = h
all_less P f (g ∷ gs) h = all_without_one P f g gs (is_flight f g) (All-head P g gs h) (All-tail P g gs h) (all_less P f gs (All-tail P g gs h))

length_one : (f g : Flight) (gs : List Flight) (b : Bool) → (list_any (is_flight f) gs ≡ true → length gs ≡ length (flights_without f gs) + 1) → b || list_any (is_flight f) gs ≡ true → suc (length gs) ≡ length (if b then gs else g ∷ flights_without f gs) + 1
length_one f g gs true less h = omega arith
length_one f g gs false less h = let l = less h in omega arith

pub length_less : (f : Flight) (fs : List Flight) → list_any (is_flight f) fs ≡ true → length fs ≡ length (flights_without f fs) + 1
length_less f [] h = never h
length_less f (g ∷ gs) h = length_one f g gs (is_flight f g) (length_less f gs) h

-- a view that has a flight on a slot flies there
pub has_flies : (f : Flight) (v : View) → has_flight f v ≡ true → 1 ≤ flying f.slot v
has_flies f v h = let l = flying_less f.slot f v.flights h in let o = on_here f.slot f refl in omega arith
