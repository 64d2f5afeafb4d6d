-- An add is the plain run's.
use Rattle.std.proofs.Common.{◌≡◌, ℕ, ◌+◌, ◌-◌, ◌<◌, ◌≤◌, ◌==◌, ◌&&◌, not, List, [], ◌∷◌, ◌++◌, length, map, set, nat_lt, cond, Bool, true, false, Option, Some, None, Result, Ok, Err, option_map, refl, sym, ap, ◌∙◌, subst, arith, if◌then◌else◌}
use Rattle.std.specs.Prelude.{position}
use Rattle.std.specs.List.{list_all, position_or_len}
use Rattle.std.proofs.lemmas.Bool.Decides.{nat_tests}
use Rattle.std.proofs.lemmas.List.{length-set, length-map, length-append, map-set}
use Rattle.std.proofs.lemmas.List.Folds.{list_all-append}
use Rattle.std.proofs.lemmas.List.Quantifiers.{position-Some}
use Rattle.mp_words.specs.declared.row.Row.{Row}
use Rattle.mp_words.specs.declared.order.Order.{Order}
use Rattle.mp_words.specs.declared.op.Gift.{Gift}
use Rattle.mp_words.specs.declared.op.Op.TheVariants as op
use Rattle.mp_words.specs.declared.entry.RowEntry.{RowEntry}
use Rattle.mp_words.specs.declared.entry.OrderEntry.{OrderEntry}
use Rattle.mp_words.specs.declared.entry.KeepEntry.TheVariants as keep
use Rattle.mp_words.specs.Effect.{IsState, Clears, clears_of, cleared, row_after}
use Rattle.mp_words.specs.Order.{slots_of, next_order}
use Rattle.mp_words.specs.Row.{is_given}
use Rattle.mp_record.specs.declared.event.Event.TheVariants as event
use Rattle.mp_record.specs.declared.event.Said.TheVariants as said
use Rattle.mp_core.specs.declared.view.View.{View}
use Rattle.mp_core.specs.Core.{Core, stepped}
use Rattle.mp_core.specs.Memory.{Memory, row_at, row_in, order_in}
use Rattle.mp_core.specs.Views.{row_held, row_kept, order_stored}
use Rattle.mp_keep.specs.declared.added.Added.{Added}
use Rattle.mp_keep.specs.declared.add_error.AddError.{AddError}
use Rattle.mp_keep.specs.declared.add_error.AddError.TheVariants.{Already, NoSlot, OrderFull}
use Rattle.mp_keep.specs.declared.removal.Removal.{Removal}
use Rattle.mp_keep.specs.Keeper.{KeeperView, StandsTo, IsSound, owner_of}
use Rattle.mp_keep.specs.Keeps.{Adds, AddTo, AddsIn, is_owner, slot_with, free_slot, add_refusal, added_view, added_in, with_order, with_owner}
use Rattle.mp_legal.specs.PlainKeep.{added, given, given_in, given_unless, slot_with as plain_slot_with, free_slot as plain_free_slot}
use Rattle.mp_legal.specs.Stepped.{Stepped, Place, maker_of, says}
use Rattle.mp_legal.specs.ToldKeeper.{IsKeeperStep, KeepsAt, is_at_rest, orders_in, entry_added, added_said}
use Rattle.mp_legal.specs.ToldState.{Beside, IsAt, state_in}
use Rattle.mp_legal.proofs.Cleared.{clears_words, cleared_length, lasts_cleared, clears_flights, clears_inside, clears_left, clears_start}
use Rattle.mp_legal.proofs.KeptWords.{Leads, led_at, slots_next, still_step, orders_more, took}

-- a test of owners, and one of rows that agrees with it
first_alike : {X Y : Type 0} (p : X → Bool) (q : Y → Bool) (f : Y → X) → ((y : Y) → p (f y) ≡ q y) → (ys : List Y) → position_or_len p (map f ys) ≡ position_or_len q ys
first_alike p q f same [] = refl
first_alike p q f same (y ∷ ys) = λ i. cond (not (same y i)) (1 + first_alike p q f same ys i) 0

alike : {X Y : Type 0} (p : X → Bool) (q : Y → Bool) (f : Y → X) (xs : List X) (ys : List Y) → xs ≡ map f ys → ((y : Y) → p (f y) ≡ q y) → position p xs ≡ position q ys
alike p q f xs ys e same =
    ap (position p) e ∙ (λ i. cond (nat_lt (first_alike p q f same ys i) (length-map ys f i)) (Some (first_alike p q f same ys i)) None)

with_alike : (p : Option ℕ → Bool) (ctrl : ℕ) (owners : List (Option ℕ)) (rows : List Row) → owners ≡ map owner_of rows → p None ≡ false → ((c : ℕ) → p (Some c) ≡ (c == ctrl)) → position p owners ≡ position (λ (row : Row). is_given row && (row.ctrl == ctrl)) rows
with_alike p ctrl owners rows e none some = alike p (λ (row : Row). is_given row && (row.ctrl == ctrl)) owner_of owners rows e (λ row. by row (is_given row))
  where
    by : (row : Row) (b : Bool) → p (if b then Some row.ctrl else None) ≡ (b && (row.ctrl == ctrl))
    by row true = some row.ctrl
    by row false = none

same_slot : (k : KeeperView) (m : Memory) (x : Beside) (ctrl : ℕ) → KeepsAt k (state_in m x) → slot_with k ctrl ≡ plain_slot_with (state_in m x) ctrl
same_slot k m x ctrl ks = with_alike _ ctrl k.owners m.rows ks.owners refl (λ c. refl)

same_free : (k : KeeperView) (m : Memory) (x : Beside) → KeepsAt k (state_in m x) → free_slot k ≡ plain_free_slot (state_in m x)
same_free k m x ks = alike (is_owner None) (λ (row : Row). not (is_given row)) owner_of k.owners m.rows ks.owners (λ row. by row (is_given row))
  where
    by : (row : Row) (b : Bool) → is_owner None (if b then Some row.ctrl else None) ≡ not b
    by row true = refl
    by row false = refl

-- the refusal, by the slot that the controller has and the free one
refusal_some : (k : KeeperView) (ctrl slot : ℕ) → slot_with k ctrl ≡ Some slot → add_refusal k ctrl ≡ Some (Already slot)
refusal_some k ctrl slot e = rw e refl

refusal_none : (k : KeeperView) (ctrl : ℕ) → slot_with k ctrl ≡ None → free_slot k ≡ None → add_refusal k ctrl ≡ Some NoSlot
refusal_none k ctrl e f = rw (e, f) refl

refusal_free : (k : KeeperView) (ctrl slot : ℕ) → slot_with k ctrl ≡ None → free_slot k ≡ Some slot → add_refusal k ctrl ≡ (if k.order.len == 8 then Some OrderFull else None)
refusal_free k ctrl slot e f = rw (e, f) refl

-- the entries of an add to a slot
abbrev row_made : Place → Memory → Gift → ℕ → RowEntry
row_made at m gift slot = record { slot = slot; row = row_after (row_at m slot) (op.Give gift); op = op.Give gift; by = maker_of at }

abbrev order_made : Place → Memory → ℕ → OrderEntry
order_made at m slot = record { order = next_order m.order m.order.policy (slots_of m.order ++ slot ∷ []); by = maker_of at }

abbrev made : Place → Memory → Gift → ℕ → Added
made at m gift slot = record { row = row_made at m gift slot; order = order_made at m slot }

abbrev clearing : Place → Memory → Gift → ℕ → Clears
clearing at m gift slot = clears_of (op.Give gift) (row_made at m gift slot).row

-- the words after it
abbrev add_words : Place → Memory → Gift → ℕ → Memory
add_words at m gift slot = record m { order = (order_made at m slot).order; rows = set m.rows slot (row_made at m gift slot).row; currents = cleared (clearing at m gift slot) slot m.currents }

-- the view before the clearing
abbrev before_clearing : ℕ → Row → Added → View → View
before_clearing slot old z v = order_stored z.order (row_kept z.row (row_held slot old v))

add_leads : (at : Place) (gift : Gift) (slot : ℕ) (old : Row) (a b : Core) (m : Memory) (x : Beside) → b ≡ stepped (added_view slot old (made at m gift slot)) (added_in slot (made at m gift slot)) a → IsAt a m x → Leads a b m (add_words at m gift slot)
add_leads at gift slot old a b m x core i =
    let c = clearing at m gift slot in
    let v : View = before_clearing slot old (made at m gift slot) a.view in
    record {
      carries = record {
        lane = ap (λ (z : Core). z.lane) core;
        home = ap (λ (z : Core). z.home) core;
        others = ap (λ (z : Core). z.others) core;
        inside = ap (λ (z : Core). z.view.inside) core ∙ clears_inside c slot v;
        flights = ap (λ (z : Core). z.view.flights) core ∙ clears_flights c slot v;
        start = ap (λ (z : Core). z.view.keeping.start) core ∙ clears_start c slot v;
      };
      told = ap (λ (z : Core). z.told) core ∙ ap (option_map (added_in slot (made at m gift slot))) i.told ∙ ap Some (clears_words c slot (order_in (order_made at m slot).order (row_in slot (row_made at m gift slot).row m)) i.currents);
      rows = length-set m.rows slot (row_made at m gift slot).row ∙ i.rows;
      depths = refl;
      currents = cleared_length c slot m.currents ∙ i.currents;
    }

-- the given row's controller
given_owner : (gift : Gift) → 1 ≤ gift.state → (if not (gift.state == 0) then Some gift.ctrl else None) ≡ Some gift.ctrl
given_owner gift least = by (gift.state == 0) refl
  where
    by : (b : Bool) → (gift.state == 0) ≡ b → (if not b then Some gift.ctrl else None) ≡ Some gift.ctrl
    by true e = absurd (grind (arith, nat_tests))
    by false e = refl

give_step : (at : Place) (gift : Gift) (slot : ℕ) (old : Row) (k l : KeeperView) (a b : Core) (m : Memory) (x : Beside)
    → b ≡ stepped (added_view slot old (made at m gift slot)) (added_in slot (made at m gift slot)) a → l ≡ with_order (order_made at m slot) (with_owner slot (Some gift.ctrl) k)
    → IsAt a m x → IsSound k → KeepsAt k (state_in m x) → IsState gift.state → free_slot k ≡ Some slot → (k.order.len == 8) ≡ false
    → IsKeeperStep (given at (state_in m x) (row_made at m gift slot)) k l a b x (row_made at m gift slot ∷ []) (event.At at.line (said.Added slot (row_made at m gift slot).row.version (order_made at m slot).order.version) ∷ [])
give_step at gift slot old k l a b m x core keeper i sound ks state free room =
    let leads = add_leads at gift slot old a b m x core i in
    let lawful = sound.lawful in
    let most = lawful.within in
    let listed = took k.order.len k.order.slots in
    let seven : k.order.len ≤ 7 = grind (arith, nat_tests, most, room) in
    let longer : length (slots_of k.order ++ slot ∷ []) ≡ length (slots_of k.order) + 1 = length-append (slots_of k.order) (slot ∷ []) in
    let few : length (slots_of k.order ++ slot ∷ []) ≤ 8 = omega arith in
    let few_in : length (slots_of m.order ++ slot ∷ []) ≤ 8 = subst (λ (o : Order). length (slots_of o ++ slot ∷ []) ≤ 8) (sym ks.order) few in
    let sized = sound.sized in
    let at_place : slot < length k.owners = (position-Some (is_owner None) k.owners slot None free).0 in
    let below : slot < 15 = omega arith in
    let lists : slots_of (order_made at m slot).order ≡ slots_of k.order ++ slot ∷ [] = slots_next m.order m.order.policy (slots_of m.order ++ slot ∷ []) few_in ∙ ap (λ (o : Order). slots_of o ++ slot ∷ []) ks.order in
    let removals : x.removals ≡ map (λ (r : Removal). r.slot) l.removals = ks.removals ∙ ap (λ (z : KeeperView). map (λ (r : Removal). r.slot) z.removals) (sym keeper) in
    let flips : x.flips ≡ l.flips = ks.flips ∙ ap (λ (z : KeeperView). z.flips) (sym keeper) in
    let test : nat_lt slot 15 ≡ true = grind (arith, nat_tests, below) in
    record {
      memory = add_words at m gift slot;
      at = led_at a b m (add_words at m gift slot) x l leads i;
      keeps = record {
        order = ap (λ (z : KeeperView). z.order) (sym keeper);
        within = ap (λ (z : KeeperView). list_all (λ s. nat_lt s 15) (slots_of z.order)) keeper ∙ ap (list_all (λ s. nat_lt s 15)) lists
            ∙ list_all-append (λ s. nat_lt s 15) (slots_of k.order) (slot ∷ []) ∙ (λ j. ks.within j && (test j && true));
        owners = ap (λ (z : KeeperView). z.owners) keeper ∙ ap (λ (os : List (Option ℕ)). set os slot (Some gift.ctrl)) ks.owners
            ∙ ap (set (map owner_of m.rows) slot) (sym (given_owner gift state.0)) ∙ sym (map-set owner_of m.rows slot (row_made at m gift slot).row);
        removals = removals;
        rest = ap (λ (z : KeeperView). list_all (λ (r : Removal). is_at_rest r.stage) z.removals) keeper ∙ ks.rest;
        flips = flips;
      };
      state = λ j. record (state_in m x) {
        rows = set m.rows slot (row_made at m gift slot).row;
        order = (order_made at m slot).order;
        lasts = lasts_cleared m.order.policy (clearing at m gift slot) slot m.currents j;
        removals = removals j;
        flips = flips j;
      };
      rows = refl;
      orders = ap (λ (z : KeeperView). orders_in z.entries) keeper ∙ orders_more k.entries (keep.Order (order_made at m slot) ∷ []);
      events = refl;
      left = ap (λ (z : Core). z.view.left) core ∙ clears_left (clearing at m gift slot) slot (before_clearing slot old (made at m gift slot) a.view) ∙ two a.view.left;
      lane = leads.carries.lane;
      home = leads.carries.home;
      others = leads.carries.others;
      keeping = leads.carries.start;
    }
  where
    two : (n : ℕ) → n - 1 - 1 ≡ n - (1 + 1)
    two n = omega arith

-- the entries are those of the words
made_is : (at : Place) (gift : Gift) (k l : KeeperView) (a b : Core) (slot : ℕ) (z : Added) (m : Memory) (x : Beside) → AddsIn k l a b gift (maker_of at) slot z → IsAt a m x → KeepsAt k (state_in m x) → z ≡ made at m gift slot
made_is at gift k l a b slot z m x h i ks =
    let old : h.old ≡ row_at m slot = h.found.told m i.told in
    let row : z.row ≡ row_made at m gift slot = h.row ∙ (λ j. record { slot = slot; row = row_after (old j) (op.Give gift); op = op.Give gift; by = maker_of at }) in
    let order : z.order ≡ order_made at m slot = h.order ∙ (λ j. record { order = next_order (sym ks.order j) (sym ks.order j).policy (slots_of (sym ks.order j) ++ slot ∷ []); by = maker_of at }) in
    λ j. record { row = row j; order = order j }

-- what the law says of an answer, over what the plain run finds
abbrev AddStep : Place → Gift → KeeperView → KeeperView → Core → Core → Memory → Beside → Stepped → Result Added AddError → Type 0
AddStep at gift k l a b m x step z = IsKeeperStep step k l a b x (entry_added z) (event.At at.line (added_said z) ∷ [])

pub add_step : (at : Place) (gift : Gift) (k l : KeeperView) (a b : Core) (answer : Result Added AddError) (m : Memory) (x : Beside) → Adds k l a b gift (maker_of at) answer → IsAt a m x → StandsTo k a.view → KeepsAt k (state_in m x) → IsState gift.state
    → IsKeeperStep (added at (state_in m x) gift) k l a b x (entry_added answer) (event.At at.line (added_said answer) ∷ [])
add_step at gift k l a b answer m x h i st ks state =
    subst (λ (o : Option ℕ). AddStep at gift k l a b m x (given_unless at (state_in m x) gift o) answer) (same_slot k m x gift.ctrl ks) (with_slot (slot_with k gift.ctrl) refl answer h.to)
  where
    already : (e : AddError) (f : AddError) → Some e ≡ Some f → f ≡ e
    already e f is = cc

    refuses : {A : Type 0} (e : AddError) → Some e ≡ None → A
    refuses e is = absurd cc

    same_slots : (s t : ℕ) → Some s ≡ Some t → s ≡ t
    same_slots s t e = cc

    -- a refusal does nothing
    refused : (e : AddError) → add_refusal k gift.ctrl ≡ Some e → (z : Result Added AddError) → AddTo k l a b gift (maker_of at) z → AddStep at gift k l a b m x (says at (state_in m x) (added_said (Err e))) z
    refused e is (Err f) t =
        subst (λ (g : AddError). AddStep at gift k l a b m x (says at (state_in m x) (added_said (Err e))) (Err g)) (sym (already e f (sym is ∙ t.0)))
        (still_step k l a b m x (event.At at.line (added_said (Err e)) ∷ []) t.1 t.2 i ks)
    refused e is (Ok added) t = refuses e (sym is ∙ t.0)

    -- a path is given to the slot
    gives : (slot : ℕ) → slot_with k gift.ctrl ≡ None → free_slot k ≡ Some slot → (k.order.len == 8) ≡ false → (z : Result Added AddError) → AddTo k l a b gift (maker_of at) z → AddStep at gift k l a b m x (given at (state_in m x) (row_made at m gift slot)) z
    gives slot none free room (Err f) t = refuses f (sym t.0 ∙ refusal_free k gift.ctrl slot none free ∙ ap (λ (c : Bool). if c then Some OrderFull else None) room)
    gives slot none free room (Ok z) t =
        let same : t.1 ≡ slot = same_slots t.1 slot (sym t.2 ∙ free) in
        let into : AddsIn k l a b gift (maker_of at) slot z = subst (λ (s : ℕ). AddsIn k l a b gift (maker_of at) s z) same t.3 in
        let is : z ≡ made at m gift slot = made_is at gift k l a b slot z m x into i ks in
        subst (λ (y : Added). AddStep at gift k l a b m x (given at (state_in m x) (row_made at m gift slot)) (Ok y)) (sym is)
        (give_step at gift slot into.old k l a b m x (into.core ∙ (λ j. stepped (added_view slot into.old (is j)) (added_in slot (is j)) a)) (into.keeper ∙ (λ j. with_order (is j).order (with_owner slot (Some gift.ctrl) k))) i st.sound ks state free room)

    in_room : (slot : ℕ) → slot_with k gift.ctrl ≡ None → free_slot k ≡ Some slot → (c : Bool) → (k.order.len == 8) ≡ c → (z : Result Added AddError) → AddTo k l a b gift (maker_of at) z
        → AddStep at gift k l a b m x (if c then says at (state_in m x) said.OrderFull else given at (state_in m x) (row_made at m gift slot)) z
    in_room slot none free true full z t = refused OrderFull (refusal_free k gift.ctrl slot none free ∙ ap (λ (c : Bool). if c then Some OrderFull else None) full) z t
    in_room slot none free false room z t = gives slot none free room z t

    with_free : slot_with k gift.ctrl ≡ None → (o : Option ℕ) → free_slot k ≡ o → (z : Result Added AddError) → AddTo k l a b gift (maker_of at) z → AddStep at gift k l a b m x (given_in at (state_in m x) gift o) z
    with_free none None free z t = refused NoSlot (refusal_none k gift.ctrl none free) z t
    with_free none (Some slot) free z t = in_room slot none free (m.order.len == 8) ((λ j. (sym ks.order j).len == 8)) z t

    with_slot : (o : Option ℕ) → slot_with k gift.ctrl ≡ o → (z : Result Added AddError) → AddTo k l a b gift (maker_of at) z → AddStep at gift k l a b m x (given_unless at (state_in m x) gift o) z
    with_slot None is z t =
        subst (λ (o : Option ℕ). AddStep at gift k l a b m x (given_in at (state_in m x) gift o) z) (same_free k m x ks) (with_free is (free_slot k) refl z t)
    with_slot (Some slot) is z t = refused (Already slot) (refusal_some k gift.ctrl slot is) z t
