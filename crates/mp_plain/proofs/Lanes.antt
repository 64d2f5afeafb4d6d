-- What holds of the words and of what all lanes know, after a step of a lane or of the keeper.
use Rattle.std.proofs.Common.{◌≡◌, ◌≢◌, ℕ, zero, suc, ◌+◌, ◌-◌, ◌<◌, ◌≤◌, List, [], ◌∷◌, length, map, get_or, set, inl, inr, ⊎_elim, sym, refl, ap, ◌∙◌, subst, arith, Option, None, Some}
use Rattle.std.proofs.lemmas.List.{length-set, map-set, get_or-map}
use Rattle.std.proofs.Math.Seq.{map-set_same}
use mathlib.Core.Option.{some, some-ne-none, some-injective}
use lib.ListN.{get_elem?}
use Rattle.atomic_table.specs.Seated.{TableId}
use Rattle.atomic_table.proofs.Lists.{at_set, at_index}
use Rattle.mp_core.specs.declared.view.Keeping.{Keeping}
use Rattle.mp_core.specs.declared.view.Role.TheVariants as role
use Rattle.mp_core.specs.declared.view.Seats.{Seats}
use Rattle.mp_core.specs.declared.view.Seen.{Seen}
use Rattle.mp_core.specs.declared.view.Start.{Start}
use Rattle.mp_core.specs.declared.view.View.{View}
use Rattle.mp_words.specs.declared.entry.RowEntry.{RowEntry}
use Rattle.mp_words.specs.declared.order.Order.{Order}
use Rattle.mp_words.specs.declared.row.Row.{Row}
use Rattle.mp_core.specs.Core.{Core, stepped, looked}
use Rattle.mp_core.specs.Memory.{Memory, row_at}
use Rattle.mp_core.specs.Seats.{with_keeping, no_view, view_of, core_of, put}
use Rattle.mp_core.specs.Views.{seen_row, unheld, passed}
use Rattle.mp_core.proofs.Seats.{step_of_lane}
use Rattle.mp_rule.specs.Holds.{Holds}
use Rattle.mp_rule.proofs.Kept as kept
use Rattle.mp_rule.proofs.Moves.{with_left, unit_moves}
use Rattle.mp_plain.specs.declared.ledger.Ruled.{Ruled}
use Rattle.mp_plain.specs.Lanes.{begun, core_at, keeper_of, views_of, part_of, seats_after}
use Rattle.mp_plain.specs.Stands.{Mirrors, Stands, units_of}

-- the words' versions, from one step to the next
pub record NotOlder (m n : Memory) : Type 0 where
  pub order : m.order.version ≤ n.order.version
  pub rows : (s : ℕ) → (row_at m s).version ≤ (row_at n s).version

pub same_words : (m n : Memory) → n.order ≡ m.order → row_at n ≡ row_at m → NotOlder m n
same_words m n order rows = record {
  order = let e = ap (λ (o : Order). o.version) order in omega arith;
  rows = λ s. let e = ap (λ (f : ℕ → Row). (f s).version) rows in omega arith;
}

-- the default is of no account where there is an item
pub any_default : (l : List View) (i : ℕ) (d e : View) → i < length l → get_or l i d ≡ get_or l i e
any_default [] i d e low = absurd (omega arith)
any_default (v ∷ vs) zero d e low = refl
any_default (v ∷ vs) (suc i) d e low = any_default vs i d e (omega arith)

-- the lane that steps has its view, and the rule is told one of it
pub seat_here : (m : Memory) (r : Ruled) (lane : ℕ) → lane < 17 → Stands m r → get_elem? r.seats.lanes lane ≡ some (get_or r.seats.lanes lane (no_view r.seats.keeping))
seat_here m r lane low h = at_index r.seats.lanes lane (get_or r.seats.lanes lane (no_view r.seats.keeping)) (let l = h.seats in omega arith) (any_default r.seats.lanes lane (no_view r.seats.keeping) (get_or r.seats.lanes lane (no_view r.seats.keeping)) (let l = h.seats in omega arith))

pub part_here : (m : Memory) (r : Ruled) (lane : ℕ) → lane < 17 → Stands m r → get_elem? r.lanes lane ≡ some (part_of lane r)
part_here m r lane low h = at_index r.lanes lane (part_of lane r) (let l = h.parts in omega arith) (any_default r.lanes lane (no_view r.seats.keeping) (part_of lane r) (let l = h.parts in omega arith))

pub mirror : (m : Memory) (r : Ruled) (lane : ℕ) → lane < 17 → Stands m r → Mirrors r.seats.keeping.start m (get_or r.seats.lanes lane (no_view r.seats.keeping)) (part_of lane r)
mirror m r lane low h = h.mirrors lane _ _ (seat_here m r lane low h) (part_here m r lane low h)

pub newer : (start : Start) (m n : Memory) (v w : View) → NotOlder m n → Mirrors start m v w → Mirrors start n v w
newer start m n v w later k = record {
  keeper = k.keeper;
  keeping = k.keeping;
  left = k.left;
  inside = k.inside;
  flights = k.flights;
  order = let a = k.order in let b = later.order in omega arith;
  rows = λ s. let a = k.rows s in let b = later.rows s in omega arith;
}

-- two lists after a write at the same place
pairs_set : (P : View → View → Type 0) (vs ws : List View) (lane : ℕ) (v w : View) → ((i : ℕ) (a b : View) → get_elem? vs i ≡ some a → get_elem? ws i ≡ some b → P a b) → P v w → (i : ℕ) (a b : View) → get_elem? (set vs lane v) i ≡ some a → get_elem? (set ws lane w) i ≡ some b → P a b
pairs_set P vs ws lane v w olds new i a b x y =
    ⊎_elim
    (λ (p : (i ≡ lane) × (v ≡ a)). ⊎_elim (λ (q : (i ≡ lane) × (w ≡ b)). subst (λ (z : View × View). P z.0 z.1) (λ j. (p.1 j, q.1 j)) new) (λ (q : (i ≢ lane) × (get_elem? ws i ≡ some b)). absurd (q.0 p.0)) (at_set ws lane i w b y))
    (λ (p : (i ≢ lane) × (get_elem? vs i ≡ some a)). ⊎_elim (λ (q : (i ≡ lane) × (w ≡ b)). absurd (p.0 q.0)) (λ (q : (i ≢ lane) × (get_elem? ws i ≡ some b)). olds i a b p.1 q.1) (at_set ws lane i w b y))
    (at_set vs lane i v a x)

-- one list after a write, where the other stays
pairs_left : (P : View → View → Type 0) (vs ws : List View) (lane : ℕ) (v w : View) → get_elem? ws lane ≡ some w → ((i : ℕ) (a b : View) → get_elem? vs i ≡ some a → get_elem? ws i ≡ some b → P a b) → P v w → (i : ℕ) (a b : View) → get_elem? (set vs lane v) i ≡ some a → get_elem? ws i ≡ some b → P a b
pairs_left P vs ws lane v w at olds new i a b x y =
    ⊎_elim
    (λ (p : (i ≡ lane) × (v ≡ a)). subst (λ (z : View × View). P z.0 z.1) (λ j. (p.1 j, some-injective w b (sym at ∙ ap (get_elem? ws) (sym p.0) ∙ y) j)) new)
    (λ (p : (i ≢ lane) × (get_elem? vs i ≡ some a)). olds i a b p.1 y)
    (at_set vs lane i v a x)

-- what is known after this view and this part of the lane, where the keeper's part is this
abbrev pub after_lane : ℕ → View → View → Keeping → Ruled → Ruled
after_lane lane v w k r = record {
  seats = record { lanes = set r.seats.lanes lane (with_keeping (begun r.seats.keeping.start) v); keeping = k };
  entries = r.entries;
  seen = r.seen;
  lanes = set r.lanes lane w;
}

keeping_as : (start : Start) (m : Memory) (v w : View) → Mirrors start m v w → Mirrors start m (with_keeping (begun start) v) w
keeping_as start m v w k = record { keeper = k.keeper; keeping = refl; left = k.left; inside = k.inside; flights = k.flights; order = k.order; rows = k.rows }

-- a step of a lane
pub lane_stands : (m n : Memory) (r : Ruled) (lane : ℕ) (v w : View) → Stands m r → NotOlder m n → Holds r.seats.keeping.start n (keeper_of r ∷ set r.lanes lane w) → Mirrors r.seats.keeping.start n (with_keeping (begun r.seats.keeping.start) v) w → Stands n (after_lane lane v w (unheld r.seats.keeping) r)
lane_stands m n r lane v w h later rule mine =
    let start : Start = r.seats.keeping.start in record {
      holds = kept.k1 start 0 (keeper_of r) n (keeper_of r ∷ set r.lanes lane w) rule refl;
      room = h.room;
      seats = length-set r.seats.lanes lane (with_keeping (begun start) v) ∙ h.seats;
      parts = length-set r.lanes lane w ∙ h.parts;
      mirrors = pairs_set (Mirrors start n) r.seats.lanes r.lanes lane (with_keeping (begun start) v) w (λ i a b x y. newer start m n a b later (h.mirrors i a b x y)) mine;
    }

-- what is known after this view of the lane, and after this of the keeper
abbrev pub after_keeper : ℕ → View → List RowEntry → Seen → Keeping → List View → Ruled → Ruled
after_keeper lane v entries seen k parts r = record {
  seats = record { lanes = set r.seats.lanes lane (with_keeping (begun r.seats.keeping.start) v); keeping = k };
  entries = entries;
  seen = seen;
  lanes = parts;
}

-- a step of the keeper that a lane makes
pub keeper_stands : (m n : Memory) (r : Ruled) (lane : ℕ) (v : View) (entries : List RowEntry) (seen : Seen) (k : Keeping) → lane < 17 → Stands m r → NotOlder m n → k.start ≡ r.seats.keeping.start → Holds r.seats.keeping.start n (views_of (after_keeper lane v entries seen k r.lanes r))
    → Mirrors r.seats.keeping.start n (with_keeping (begun r.seats.keeping.start) v) (part_of lane r) → Stands n (after_keeper lane v entries seen k r.lanes r)
keeper_stands m n r lane v entries seen k low h later same rule mine =
    let start : Start = r.seats.keeping.start in
    let pairs = pairs_left (Mirrors start n) r.seats.lanes r.lanes lane (with_keeping (begun start) v) (part_of lane r) (part_here m r lane low h) (λ i a b x y. newer start m n a b later (h.mirrors i a b x y)) mine in record {
      holds = subst (λ (s : Start). Holds s n (views_of (after_keeper lane v entries seen k r.lanes r))) (sym same) rule;
      room = subst (λ (s : Start). s.units < 1073741824) (sym same) h.room;
      seats = length-set r.seats.lanes lane (with_keeping (begun start) v) ∙ h.seats;
      parts = h.parts;
      mirrors = subst (λ (s : Start). (i : ℕ) (a b : View) → get_elem? (set r.seats.lanes lane (with_keeping (begun start) v)) i ≡ some a → get_elem? r.lanes i ≡ some b → Mirrors s n a b) (sym same) pairs;
    }

-- the same, of a step that takes a unit
pub unit_stands : (m n : Memory) (r : Ruled) (lane : ℕ) (v : View) (entries : List RowEntry) (seen : Seen) (k : Keeping) (w : View) → Stands m r → NotOlder m n → k.start ≡ r.seats.keeping.start → Holds r.seats.keeping.start n (views_of (after_keeper lane v entries seen k (set r.lanes lane w) r))
    → Mirrors r.seats.keeping.start n (with_keeping (begun r.seats.keeping.start) v) w → Stands n (after_keeper lane v entries seen k (set r.lanes lane w) r)
unit_stands m n r lane v entries seen k w h later same rule mine =
    let start : Start = r.seats.keeping.start in
    let pairs = pairs_set (Mirrors start n) r.seats.lanes r.lanes lane (with_keeping (begun start) v) w (λ i a b x y. newer start m n a b later (h.mirrors i a b x y)) mine in record {
      holds = subst (λ (s : Start). Holds s n (views_of (after_keeper lane v entries seen k (set r.lanes lane w) r))) (sym same) rule;
      room = subst (λ (s : Start). s.units < 1073741824) (sym same) h.room;
      seats = length-set r.seats.lanes lane (with_keeping (begun start) v) ∙ h.seats;
      parts = length-set r.lanes lane w ∙ h.parts;
      mirrors = subst (λ (s : Start). (i : ℕ) (a b : View) → get_elem? (set r.seats.lanes lane (with_keeping (begun start) v)) i ≡ some a → get_elem? (set r.lanes lane w) i ≡ some b → Mirrors s n a b) (sym same) pairs;
    }

-- the rule with a unit of the lane's become the keeper's
pub unit_taken : (m : Memory) (r : Ruled) (lane : ℕ) → lane < 17 → Stands m r → 1 ≤ (view_of lane r.seats).left → Holds r.seats.keeping.start m (with_left 1 (keeper_of r) ∷ set r.lanes lane (record (part_of lane r) { left = (part_of lane r).left - 1 }))
unit_taken m r lane low h some_left =
    let is = (mirror m r lane low h).left in
    let s = some_left in
    unit_moves r.seats.keeping.start (suc lane) (part_of lane r) (keeper_of r) m (views_of r) h.holds refl refl (part_here m r lane low h) (λ e. absurd (omega arith)) (omega arith)

-- what the lane that steps knows after its step, by what was stored
pub core_after : (home found : TableId) (lane : ℕ) (now next : Seats) (n stored : Memory) → found ≡ home → now ≡ next → stored ≡ n → (c : Core) → core_at home lane next n ≡ c → core_at found lane now stored ≡ c
core_after home found lane now next n stored a b d c e = (λ i. core_at (a i) lane (b i) (d i)) ∙ e

-- a step of the lane changes its view and the words alone
pub core_step : (home : TableId) (lane : ℕ) (m n : Memory) (r : Ruled) (v : View) → lane < 17 → Stands m r → core_of (begun r.seats.keeping.start) home lane (put (begun r.seats.keeping.start) lane v r.seats) n ≡ record (core_at home lane r.seats m) { view = v; told = Some n }
core_step home lane m n r v low h = step_of_lane (begun r.seats.keeping.start) home lane r.seats m n v (let l = h.seats in omega arith)

-- the units of the lanes
pub units_same : (r : Ruled) (lane : ℕ) (v : View) → v.left ≡ (view_of lane r.seats).left → units_of (seats_after lane v r.seats) ≡ units_of r.seats
units_same r lane v same = map-set_same (λ (u : View). u.left) r.seats.lanes lane (with_keeping (begun r.seats.keeping.start) v) (no_view r.seats.keeping) same

pub units_less : (r : Ruled) (lane : ℕ) (v : View) → units_of (seats_after lane v r.seats) ≡ set (units_of r.seats) lane v.left
units_less r lane v = map-set (λ (u : View). u.left) r.seats.lanes lane (with_keeping (begun r.seats.keeping.start) v)

-- the units of one lane
pub unit_of : (m : Memory) (r : Ruled) (lane : ℕ) (left : List ℕ) → lane < 17 → Stands m r → units_of r.seats ≡ left → get_or left lane 0 ≡ (view_of lane r.seats).left
unit_of m r lane left low h same =
    ap (λ (xs : List ℕ). get_or xs lane 0) (sym same) ∙ get_or-map (λ (u : View). u.left) r.seats.lanes lane (no_view r.seats.keeping) 0 (let l = h.seats in omega arith)

-- the lane's units after a unit was taken
pub units_taken : (m : Memory) (r : Ruled) (lane place : ℕ) (left : List ℕ) (v : View) → lane < 17 → Stands m r → units_of r.seats ≡ left → place ≡ lane → v.left ≡ (view_of lane r.seats).left - 1 → units_of (seats_after lane v r.seats) ≡ set left place (get_or left place 0 - 1)
units_taken m r lane place left v low h same at less =
    let is : v.left ≡ get_or left lane 0 - 1 = less ∙ ap (λ (n : ℕ). n - 1) (sym (unit_of m r lane left low h same)) in
    units_less r lane v ∙ (λ i. set (same i) lane (is i)) ∙ ap (λ (n : ℕ). set left n (get_or left n 0 - 1)) (sym at)

-- what stands after a step, by what was stored
pub stands_as : (n stored : Memory) (next now : Ruled) → stored ≡ n → now ≡ next → Stands n next → Stands stored now
stands_as n stored next now a b h = subst (λ (p : Memory × Ruled). Stands p.0 p.1) (λ i. (sym a i, sym b i)) h
