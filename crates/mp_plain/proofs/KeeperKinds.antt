-- Each kind of step of the keeper, made by a lane, where the words and what all lanes know stand.
use Rattle.std.proofs.Common.{◌≡◌, ◌≢◌, ℕ, zero, suc, ◌+◌, ◌-◌, ◌<◌, ◌≤◌, ◌==◌, ◌&&◌, ◌||◌, Bool, true, false, true≢false, List, [], ◌∷◌, length, get_or, set, cond, inl, inr, ⊎_elim, sym, refl, ap, ◌∙◌, subst, arith, Option, None, Some}
use Rattle.std.specs.List.{list_all, list_any}
use mathlib.Core.Option.{some, some-ne-none, some-injective}
use lib.ListN.{get_elem?}
use Rattle.std.proofs.Common.{take}
use Rattle.std.proofs.lemmas.List.{length-take, get_or-take}
use Rattle.atomic_table.specs.Seated.{TableId}
use Rattle.atomic_table.proofs.Lists.{set_else}
use Rattle.mp_words.specs.declared.entry.OrderEntry.{OrderEntry}
use Rattle.mp_words.specs.declared.entry.RowEntry.{RowEntry}
use Rattle.mp_words.specs.declared.flight.Flight.{Flight}
use Rattle.mp_words.specs.declared.op.Op.{Op}
use Rattle.mp_words.specs.declared.op.Op.TheVariants as op
use Rattle.mp_words.specs.declared.op.Gift.{Gift}
use Rattle.mp_words.specs.declared.op.Maker.{Maker}
use Rattle.mp_words.specs.declared.order.Order.{Order}
use Rattle.mp_words.specs.declared.row.Row.{Row}
use Rattle.mp_words.specs.Effect.{row_after}
use Rattle.mp_words.specs.Facts.{IsRow, IsOrder}
use Rattle.mp_words.specs.Order.{slots_of}
use Rattle.mp_words.specs.OrderWord.{FitsOrderWord}
use Rattle.mp_words.specs.Row.{is_given}
use Rattle.mp_words.proofs.Places.{cases_lt}
use Rattle.mp_core.specs.declared.view.Event.TheVariants.{Clears}
use Rattle.mp_core.specs.declared.view.Held.{Held}
use Rattle.mp_core.specs.declared.view.Keeping.{Keeping}
use Rattle.mp_core.specs.declared.view.Role.{Role}
use Rattle.mp_core.specs.declared.view.Role.TheVariants as role
use Rattle.mp_core.specs.declared.view.Section.{Section}
use Rattle.mp_core.specs.declared.view.Start.{Start}
use Rattle.mp_core.specs.declared.view.View.{View}
use Rattle.mp_core.specs.Memory.{Memory, side_at, row_at, depth_at, row_in, order_in, flipped_in, cleared_in}
use Rattle.mp_core.specs.Kinds.{Changes, entry_of, status_at, IsNext, MayKeep}
use Rattle.mp_core.specs.Seats.{with_keeping, no_view, view_of, is_in, no_section, no_flight, others_of, core_of, put}
use Rattle.mp_core.specs.Status.{is_used, listed, lists, has}
use Rattle.mp_core.specs.Views as view
use Rattle.mp_core.specs.Views.{seen_row, flying, last_version, with_event, clear_by, on_slot, greatest, keep_moved}
use Rattle.mp_rule.specs.History.{ReadAt}
use Rattle.mp_rule.specs.Holds.{Holds, start_row}
use Rattle.mp_rule.specs.Rule.{total, on_side, sits}
use Rattle.mp_rule.specs.Sums.{room}
use Rattle.mp_rule.proofs.Kept as kept
use Rattle.mp_rule.proofs.Moves.{with_left}
use Rattle.mp_rule.proofs.Ops.{mark_lawful, give_lawful, free_lawful}
use Rattle.mp_rule.proofs.Promises.{row_used, keep_done, depth_own}
use Rattle.mp_rule.proofs.Told.{older}
use Rattle.mp_rule.proofs.Views.{by_case, le-total}
use Rattle.mp_plain.specs.declared.ledger.Ruled.{Ruled}
use Rattle.mp_plain.specs.Lanes.{begun, core_at, keeper_of, part_of, seats_after, views_of, keeper_turn, unit_turn}
use Rattle.mp_plain.specs.Stands.{Mirrors, Stands}
use Rattle.mp_plain.proofs.Lanes.{NotOlder, same_words, seat_here, part_here, mirror, after_keeper, keeper_stands, unit_stands, unit_taken, core_step}
use Rattle.mp_plain.proofs.LaneKinds.{seen_below, next_row, next_seen}

-- a lane's view after a step by which it has seen nothing
same_mirror : (m n : Memory) (r : Ruled) (lane : ℕ) (k : Keeping) → lane < 17 → Stands m r → NotOlder m n → Mirrors r.seats.keeping.start n (with_keeping (begun r.seats.keeping.start) (record (view_of lane r.seats) { keeping = k })) (part_of lane r)
same_mirror m n r lane k low h later =
    let o = mirror m r lane low h in
    record { keeper = o.keeper; keeping = refl; left = o.left; inside = o.inside; flights = o.flights; order = (let a = o.order in let b = later.order in omega arith); rows = λ s. (let a = o.rows s in let b = later.rows s in omega arith) }

-- a clear of a current word
pub cleared_stands : (m : Memory) (r : Ruled) (lane node slot : ℕ) → lane < 17 → node < 8 → Stands m r → Stands (cleared_in node slot m) (keeper_turn lane (view.cleared node slot) r)
cleared_stands m r lane node slot low range h =
    let n : Memory = cleared_in node slot m in
    let later : NotOlder m n = same_words m n refl refl in
    let k : Keeping = with_event (Clears node slot) r.seats.keeping in
    subst (λ (ρ : Role). Stands n (after_keeper lane (record (view_of lane r.seats) { keeping = clear_by ρ node slot r.seats.keeping }) r.entries r.seen (clear_by ρ node slot r.seats.keeping) r.lanes r)) (sym (mirror m r lane low h).keeper)
    (keeper_stands m n r lane (record (view_of lane r.seats) { keeping = k }) r.entries r.seen k low h later refl
    (kept.k17 r.seats.keeping.start 0 (keeper_of r) node slot range m (views_of r) h.holds refl)
    (same_mirror m n r lane k low h later))

-- a clear leaves the start
clear_start : (ρ : Role) (node slot : ℕ) (k : Keeping) → (clear_by ρ node slot k).start ≡ k.start
clear_start role.Keeper node slot k = refl
clear_start (role.Lane lane) node slot k = refl
clear_start role.Spent node slot k = refl

pub cleared_core : (home : TableId) (lane : ℕ) (m n : Memory) (r : Ruled) (node slot : ℕ) → lane < 17 → Stands m r → core_at home lane (seats_after lane (view.cleared node slot (view_of lane r.seats)) r.seats) n ≡ record (core_at home lane r.seats m) { view = view.cleared node slot (view_of lane r.seats); told = Some n }
cleared_core home lane m n r node slot low h =
    ap (λ (s : Start). core_of (begun s) home lane (put (begun r.seats.keeping.start) lane (view.cleared node slot (view_of lane r.seats)) r.seats) n) (clear_start (view_of lane r.seats).role node slot r.seats.keeping)
    ∙ core_step home lane m n r (view.cleared node slot (view_of lane r.seats)) low h

-- a scan
pub scanned_stands : (m : Memory) (r : Ruled) (lane side : ℕ) → lane < 17 → side < 2 → Stands m r → Stands m (keeper_turn lane (view.scanned side (side_at m side).entries (side_at m side).inside (last_version (keeper_of r))) r)
scanned_stands m r lane side low range h =
    let later : NotOlder m m = same_words m m refl refl in
    let v : View = view.scanned side (side_at m side).entries (side_at m side).inside (last_version (keeper_of r)) (view_of lane r.seats) in
    keeper_stands m m r lane v r.entries r.seen v.keeping low h later refl
    (kept.k4 r.seats.keeping.start 0 (keeper_of r) side range refl m (views_of r) h.holds refl)
    (same_mirror m m r lane v.keeping low h later)

-- a flip
pub flipped_stands : (m : Memory) (r : Ruled) (lane : ℕ) → lane < 17 → Stands m r → Stands (flipped_in m) (keeper_turn lane view.flipped r)
flipped_stands m r lane low h =
    let later : NotOlder m (flipped_in m) = same_words m (flipped_in m) refl refl in
    let v : View = view.flipped (view_of lane r.seats) in
    keeper_stands m (flipped_in m) r lane v r.entries r.seen v.keeping low h later refl
    (kept.k5 r.seats.keeping.start 0 (keeper_of r) refl m (views_of r) h.holds refl)
    (same_mirror m (flipped_in m) r lane v.keeping low h later)

-- a load of a row
pub held_stands : (m : Memory) (r : Ruled) (lane slot : ℕ) → lane < 17 → Stands m r → Stands m (keeper_turn lane (view.row_held slot (row_at m slot)) r)
held_stands m r lane slot low h =
    let o = mirror m r lane low h in
    let v : View = view.row_held slot (row_at m slot) (view_of lane r.seats) in
    keeper_stands m m r lane v r.entries (view.row_held slot (row_at m slot) (keeper_of r)).seen v.keeping low h (same_words m m refl refl) refl
    (kept.k9_keeper r.seats.keeping.start 0 (keeper_of r) slot refl m (views_of r) h.holds refl)
    record { keeper = o.keeper; keeping = refl; left = o.left; inside = o.inside; flights = o.flights; order = o.order; rows = seen_below m slot (view_of lane r.seats) o.rows }

-- what it tells
pub used_here : (m : Memory) (r : Ruled) (lane slot : ℕ) → Stands m r → is_given (row_at m slot) ≡ is_used (status_at slot (view_of lane r.seats))
used_here m r lane slot h = row_used r.seats.keeping.start 0 (keeper_of r) slot refl m (views_of r) h.holds refl

-- a load of a depth
pub looked_stands : (m : Memory) (r : Ruled) (lane slot : ℕ) → lane < 17 → Stands m r → Stands m (keeper_turn lane (view.depth_looked slot (depth_at m slot)) r)
looked_stands m r lane slot low h =
    let later : NotOlder m m = same_words m m refl refl in
    let v : View = view.depth_looked slot (depth_at m slot) (view_of lane r.seats) in
    keeper_stands m m r lane v r.entries r.seen v.keeping low h later refl
    (kept.k12_keeper r.seats.keeping.start 0 (keeper_of r) slot refl m (views_of r) h.holds refl)
    (same_mirror m m r lane v.keeping low h later)

-- a row change
pub row_kept_stands : (m : Memory) (r : Ruled) (lane slot : ℕ) (old : Row) (o : Op) (by : Maker) → lane < 17 → slot < 15 → 1 ≤ (view_of lane r.seats).left → MayKeep o (status_at slot (view_of lane r.seats)) → row_at m slot ≡ old → Stands m r
    → Stands (row_in slot (row_after old o) m) (unit_turn lane (view.row_kept (entry_of slot old o by)) r)
row_kept_stands m r lane slot old o by low range some_left may is h =
    let k = mirror m r lane low h in
    let e : RowEntry = entry_of slot old o by in
    let n : Memory = row_in slot (row_after old o) m in
    let next : (row_after old o).version ≡ (row_at m slot).version + 1 = keeps_next o may ∙ ap (λ (x : Row). x.version + 1) (sym is) in
    let v : View = view.row_kept e (view_of lane r.seats) in
    unit_stands m n r lane v (view.row_kept e (keeper_of r)).entries (view.row_kept e (keeper_of r)).seen v.keeping less h (next_row m slot (row_after old o) range h.holds.sized next) refl
    (rule o may)
    record { keeper = k.keeper; keeping = refl; left = ap (λ (x : ℕ). x - 1) k.left; inside = k.inside; flights = k.flights; order = k.order; rows = next_seen m slot (row_after old o) (view_of lane r.seats) range h.holds.sized next k.rows }
  where
    less : View
    less = record (part_of lane r) { left = (part_of lane r).left - 1 }

    more : View
    more = with_left 1 (keeper_of r)

    keeps_next : (o : Op) → MayKeep o (status_at slot (view_of lane r.seats)) → (row_after old o).version ≡ old.version + 1
    keeps_next (op.Give gift) may = refl
    keeps_next op.Mark may = refl
    keeps_next op.Free may = refl
    keeps_next (op.Log x y) may = absurd may
    keeps_next (op.Ctrl x) may = absurd may
    keeps_next op.Expire may = absurd may
    keeps_next op.Pending may = absurd may

    rule : (o : Op) → MayKeep o (status_at slot (view_of lane r.seats)) → Holds r.seats.keeping.start (row_in slot (row_after old o) m) (set (more ∷ set r.lanes lane less) 0 (view.row_kept (entry_of slot old o by) more))
    rule (op.Give gift) may = kept.k10_give r.seats.keeping.start 0 more slot old gift by range refl (omega arith) may.0 may.1 may.2 m (more ∷ set r.lanes lane less) (unit_taken m r lane low h some_left) refl is
    rule op.Mark may = kept.k10_mark r.seats.keeping.start 0 more slot old by range refl (omega arith) may m (more ∷ set r.lanes lane less) (unit_taken m r lane low h some_left) refl is
    rule op.Free may = kept.k10_free r.seats.keeping.start 0 more slot old by range refl (omega arith) may m (more ∷ set r.lanes lane less) (unit_taken m r lane low h some_left) refl is
    rule (op.Log x y) may = absurd may
    rule (op.Ctrl x) may = absurd may
    rule op.Expire may = absurd may
    rule op.Pending may = absurd may

-- a row change that found another row
pub keep_moved_stands : (m : Memory) (r : Ruled) (lane slot : ℕ) → lane < 17 → 1 ≤ (view_of lane r.seats).left → Stands m r → Stands m (unit_turn lane (view.keep_moved slot (row_at m slot)) r)
keep_moved_stands m r lane slot low some_left h =
    let k = mirror m r lane low h in
    let less : View = record (part_of lane r) { left = (part_of lane r).left - 1 } in
    let more : View = with_left 1 (keeper_of r) in
    let v : View = view.keep_moved slot (row_at m slot) (view_of lane r.seats) in
    unit_stands m m r lane v r.entries (view.keep_moved slot (row_at m slot) (keeper_of r)).seen v.keeping less h (same_words m m refl refl) refl
    (kept.k10_keep_moved r.seats.keeping.start 0 more slot m (more ∷ set r.lanes lane less) (unit_taken m r lane low h some_left) refl)
    record { keeper = k.keeper; keeping = refl; left = ap (λ (x : ℕ). x - 1) k.left; inside = k.inside; flights = k.flights; order = k.order; rows = seen_below m slot (view_of lane r.seats) k.rows }

-- the row that the keeper holds is the word, or is older; and it is the word where a slot is given a path or freed
pub held_here : (m : Memory) (r : Ruled) (lane slot : ℕ) (old : Row) → (view_of lane r.seats).keeping.last ≡ Some (record { slot = slot; row = old }) → Stands m r → ReadAt slot (start_row r.seats.keeping.start slot) (row_at m slot) (seen_row (keeper_of r) slot) (views_of r) old
held_here m r lane slot old last h = ((h.holds.rows slot).each 0 (keeper_of r) refl).held (record { slot = slot; row = old }) last refl

pub same_held : (m : Memory) (r : Ruled) (lane slot : ℕ) (old : Row) → (view_of lane r.seats).keeping.last ≡ Some (record { slot = slot; row = old }) → old.version ≡ (row_at m slot).version → Stands m r → row_at m slot ≡ old
same_held m r lane slot old last same h = sym ((held_here m r lane slot old last h).last same)

pub older_held : (m : Memory) (r : Ruled) (lane slot : ℕ) (old : Row) → (view_of lane r.seats).keeping.last ≡ Some (record { slot = slot; row = old }) → old.version ≢ (row_at m slot).version → Stands m r → old.version < (row_at m slot).version
older_held m r lane slot old last apart h = older r.seats.keeping.start slot _ old m (views_of r) ((h.holds.rows slot).each 0 (keeper_of r) refl).to (held_here m r lane slot old last h) apart

-- only a mark meets another row, and its slot has a path
pub only_mark : (m : Memory) (r : Ruled) (lane slot : ℕ) (old : Row) (o : Op) → (view_of lane r.seats).keeping.last ≡ Some (record { slot = slot; row = old }) → MayKeep o (status_at slot (view_of lane r.seats)) → old.version ≢ (row_at m slot).version → Stands m r → (o ≡ op.Mark) × (is_given (row_at m slot) ≡ true)
only_mark m r lane slot old op.Mark last may apart h = (refl, used_here m r lane slot h ∙ ap is_used may)
only_mark m r lane slot old (op.Give gift) last may apart h = absurd (apart (ap (λ (x : Row). x.version) (sym (keep_done r.seats.keeping.start 0 (keeper_of r) slot old (op.Give gift) tt may refl last m (views_of r) h.holds refl))))
only_mark m r lane slot old op.Free last may apart h = absurd (apart (ap (λ (x : Row). x.version) (sym (keep_done r.seats.keeping.start 0 (keeper_of r) slot old op.Free tt may refl last m (views_of r) h.holds refl))))
only_mark m r lane slot old (op.Log x y) last may apart h = absurd may
only_mark m r lane slot old (op.Ctrl x) last may apart h = absurd may
only_mark m r lane slot old op.Expire last may apart h = absurd may
only_mark m r lane slot old op.Pending last may apart h = absurd may

-- what the keeper makes of a row changes it, and may be stored
pub keep_changes : (m : Memory) (r : Ruled) (lane slot : ℕ) (row : Row) (o : Op) → MayKeep o (status_at slot (view_of lane r.seats)) → row_at m slot ≡ row → Stands m r → Changes row o × IsRow (row_after row o)
keep_changes m r lane slot row (op.Give gift) may is h = (refl, give_lawful row gift may.1 may.2)
keep_changes m r lane slot row op.Mark may is h = (refl, mark_lawful row (sym (ap is_given is) ∙ used_here m r lane slot h ∙ ap is_used may) (subst IsRow is (h.holds.lawful slot)))
keep_changes m r lane slot row op.Free may is h = (refl, free_lawful row)
keep_changes m r lane slot row (op.Log x y) may is h = absurd may
keep_changes m r lane slot row (op.Ctrl x) may is h = absurd may
keep_changes m r lane slot row op.Expire may is h = absurd may
keep_changes m r lane slot row op.Pending may is h = absurd may

-- a list of paths that fits its word lists slots below 15
none_has : (xs : List ℕ) (s : ℕ) → ((i : ℕ) → i < length xs → get_or xs i 0 < 15) → 15 ≤ s → has s xs ≡ false
none_has [] s low far = refl
none_has (x ∷ xs) s low far = by_case (λ b. b || has s xs ≡ false) x s (λ e. let l = low 0 (omega arith) in absurd (omega arith)) (λ _. none_has xs s (λ i l. low (suc i) (omega arith)) far)

pub unlisted_far : (order : Order) → FitsOrderWord order → (s : ℕ) → 15 ≤ s → lists s order ≡ false
unlisted_far order fits s far =
    let n = length-take order.len order.slots in
    none_has (take order.len order.slots) s (λ i l. let low : i < order.len = omega arith in let f = fits.slots_fit i low in let e = get_or-take order.len order.slots i 0 low in omega arith) far

-- a store of the list
pub order_stored_stands : (m : Memory) (r : Ruled) (lane : ℕ) (e : OrderEntry) → lane < 17 → 1 ≤ (view_of lane r.seats).left → IsNext (view_of lane r.seats) e.order → FitsOrderWord e.order → Stands m r → Stands (order_in e.order m) (unit_turn lane (view.order_stored e) r)
order_stored_stands m r lane e low some_left next fits h =
    let k = mirror m r lane low h in
    let n : Memory = order_in e.order m in
    let less : View = record (part_of lane r) { left = (part_of lane r).left - 1 } in
    let more : View = with_left 1 (keeper_of r) in
    let v : View = view.order_stored e (view_of lane r.seats) in
    let version : e.order.version ≡ m.order.version + 1 = next.version ∙ ap (λ (o : Order). o.version + 1) (sym h.holds.graces.stored) in
    let later : NotOlder m n = record { order = omega arith; rows = λ s. omega arith } in
    unit_stands m n r lane v r.entries (view.order_stored e (keeper_of r)).seen v.keeping less h later refl
    (kept.k11 r.seats.keeping.start 0 more e refl (omega arith) (record { lawful = next.lawful; version = next.version; slots = next.slots }) (unlisted_far e.order fits) m (more ∷ set r.lanes lane less) (unit_taken m r lane low h some_left) refl)
    record { keeper = k.keeper; keeping = refl; left = ap (λ (x : ℕ). x - 1) k.left; inside = k.inside; flights = k.flights; order = omega arith; rows = k.rows }

pub order_fits : (m : Memory) (r : Ruled) (lane : ℕ) (order : Order) → lane < 17 → 1 ≤ (view_of lane r.seats).left → IsNext (view_of lane r.seats) order → Stands m r → order.version < 1073741824
order_fits m r lane order low some_left next h =
    let version : order.version ≡ m.order.version + 1 = next.version ∙ ap (λ (o : Order). o.version + 1) (sym h.holds.graces.stored) in
    let k = (mirror m r lane low h).left in
    let s = some_left in
    let t = le-total (λ (v : View). v.left) (views_of r) (suc lane) (part_of lane r) (part_here m r lane low h) in
    let o = h.holds.sums.order in
    let less = total_room (views_of r) in
    omega arith
  where
    total_room : (views : List View) → total (λ (v : View). v.left) views ≤ total room views
    total_room [] = omega arith
    total_room (v ∷ views) = let t = total_room views in omega arith

-- where no other lane is out, one view has all of a sum
total_one : (f : View → ℕ) (views : List View) (id : ℕ) (v : View) → get_elem? views id ≡ some v → ((i : ℕ) (u : View) → get_elem? views i ≡ some u → i ≢ id → f u ≡ 0) → total f views ≡ f v
total_one f [] id v at none = absurd (some-ne-none v (sym at))
total_one f (x ∷ xs) zero v at none = let a : f x ≡ f v = ap f (some-injective x v at) in let b = total_zero xs (λ i u e. none (suc i) u e (λ z. absurd (omega arith))) in omega arith
  where
    total_zero : (views : List View) → ((i : ℕ) (u : View) → get_elem? views i ≡ some u → f u ≡ 0) → total f views ≡ 0
    total_zero [] h = refl
    total_zero (u ∷ us) h = let a = h 0 u refl in let b = total_zero us (λ i w e. h (suc i) w e) in omega arith
total_one f (x ∷ xs) (suc id) v at none = let a = none 0 x refl (λ z. absurd (omega arith)) in let b = total_one f xs id v at (λ i u e d. none (suc i) u e (λ z. d (omega arith))) in omega arith

both : (a b : Bool) → a && b ≡ true → (a ≡ true) × (b ≡ true)
both true true e = (refl, refl)
both true false e = absurd (true≢false (sym e))
both false b e = absurd (true≢false (sym e))

all_at : (vs : List View) → list_all is_in vs ≡ true → (i : ℕ) (v : View) → get_elem? vs i ≡ some v → is_in v ≡ true
all_at [] h i v at = absurd (some-ne-none v (sym at))
all_at (x ∷ xs) h zero v at = ap is_in (sym (some-injective x v at)) ∙ (both (is_in x) (list_all is_in xs) h).0
all_at (x ∷ xs) h (suc i) v at = all_at xs (both (is_in x) (list_all is_in xs) h).1 i v at

closed : (o : Option Section) → no_section o ≡ true → o ≡ None
closed None e = refl
closed (Some s) e = absurd (true≢false (sym e))

landed : (fs : List Flight) → no_flight fs ≡ true → fs ≡ []
landed [] e = refl
landed (f ∷ fs) e = absurd (true≢false (sym e))

-- a lane that is in, and not the one that steps
other_in : (m : Memory) (r : Ruled) (lane : ℕ) → Stands m r → list_all is_in (others_of (begun r.seats.keeping.start) lane r.seats) ≡ true → (i : ℕ) (u : View) → get_elem? r.lanes i ≡ some u → i ≢ lane → (u.inside ≡ None) × (u.flights ≡ [])
other_in m r lane h alone i u at apart =
    let v : View = get_or r.seats.lanes i (no_view r.seats.keeping) in
    let here = seat_here m r i low h in
    let k = h.mirrors i v u here at in
    let out = all_at (others_of (begun r.seats.keeping.start) lane r.seats) alone i v (set_else r.seats.lanes lane i (no_view (begun r.seats.keeping.start)) apart ∙ here) in
    let x = both (no_section v.inside) (no_flight v.flights) out in
    (k.inside ∙ closed v.inside x.0, k.flights ∙ landed v.flights x.1)
  where
    below : (us : List View) (i : ℕ) → get_elem? us i ≡ some u → i < length us
    below [] i e = absurd (some-ne-none u (sym e))
    below (x ∷ xs) zero e = omega arith
    below (x ∷ xs) (suc i) e = let b = below xs i e in omega arith

    low : i < 17
    low = let b = below r.lanes i at in let p = h.parts in omega arith

only : (m : Memory) (r : Ruled) (lane : ℕ) (f : View → ℕ) → lane < 17 → Stands m r → list_all is_in (others_of (begun r.seats.keeping.start) lane r.seats) ≡ true → f (keeper_of r) ≡ 0 → ((u : View) → u.inside ≡ None → u.flights ≡ [] → f u ≡ 0) → total f (views_of r) ≡ f (part_of lane r)
only m r lane f low h alone keeper none = total_one f (views_of r) (suc lane) (part_of lane r) (part_here m r lane low h) others
  where
    others : (i : ℕ) (u : View) → get_elem? (views_of r) i ≡ some u → i ≢ suc lane → f u ≡ 0
    others zero u e d = ap f (sym (some-injective (keeper_of r) u e)) ∙ keeper
    others (suc i) u e d = let o = other_in m r lane h alone i u e (λ z. d (ap suc z)) in none u o.0 o.1

-- what a scan and a look at a depth tell where no other lane is out
pub nobody_here : (m : Memory) (r : Ruled) (lane side : ℕ) → lane < 17 → Stands m r → list_all is_in (others_of (begun r.seats.keeping.start) lane r.seats) ≡ true → (view_of lane r.seats).inside ≡ None → (side_at m side).inside ≡ 0
nobody_here m r lane side low h alone none = (h.holds.graces.sides side).counted ∙ only m r lane (sits side) low h alone refl (λ u a b. ap (on_side side) a) ∙ ap (on_side side) ((mirror m r lane low h).inside ∙ none)

pub only_flights : (m : Memory) (r : Ruled) (lane slot : ℕ) → lane < 17 → Stands m r → list_all is_in (others_of (begun r.seats.keeping.start) lane r.seats) ≡ true → depth_at m slot ≡ flying slot (view_of lane r.seats)
only_flights m r lane slot low h alone = (h.holds.graces.slots slot).counted ∙ only m r lane (flying slot) low h alone refl (λ u a b. ap (on_slot slot) b) ∙ ap (on_slot slot) (mirror m r lane low h).flights
