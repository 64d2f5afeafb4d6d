-- A path is added.
use Rattle.std.proofs.Common.{◌≡◌, ℕ, ◌+◌, ◌<◌, ◌≤◌, ◌==◌, ◌||◌, Bool, true, false, List, [], ◌∷◌, ◌++◌, length, get_or, set, replicate, cond, nat_lt, if◌then◌else◌, Option, None, Some, is_some, Ok, refl, sym, ap, ◌∙◌, subst, arith}
use Rattle.std.specs.List.{position, position_or_len}
use Rattle.std.proofs.Math.ListN.{get_or-eq_default}
use Rattle.std.proofs.lemmas.List.{length-set, get_or-set_same, get_or-set_other, get_or-take}
use Rattle.std.proofs.lemmas.List.Folds.{list_any-append, list_any_at}
use Rattle.std.proofs.lemmas.List.Quantifiers.{position-Some}
use Rattle.std.proofs.lemmas.Bool.Decides.{nat_tests}
use Rattle.mp_words.specs.declared.order.Order.{Order}
use Rattle.mp_words.specs.declared.op.Op.TheVariants as op
use Rattle.mp_words.specs.declared.op.Gift.{Gift}
use Rattle.mp_words.specs.declared.op.Maker.{Maker}
use Rattle.mp_words.specs.declared.row.Row.{Row}
use Rattle.mp_words.specs.declared.entry.RowEntry.{RowEntry}
use Rattle.mp_words.specs.declared.entry.OrderEntry.{OrderEntry}
use Rattle.mp_words.specs.declared.entry.KeepEntry.TheVariants as keep
use Rattle.mp_words.specs.Facts.{IsOrder}
use Rattle.mp_words.specs.Order.{slots_of, next_order}
use Rattle.mp_core.specs.declared.view.View.{View}
use Rattle.mp_core.specs.Core.{Core, stepped, looked}
use Rattle.mp_core.specs.Memory.{row_in, order_in}
use Rattle.mp_change.specs.Clears.{clears_in, clears_view}
use Rattle.mp_words.specs.Effect.{Clears, every_one, the_slots, none, clears_of}
use Rattle.mp_keep.specs.declared.added.Added.{Added}
use Rattle.mp_keep.specs.declared.add_error.AddError.TheVariants.{OrderFull}
use Rattle.mp_core.specs.Status.{Status, unused, fresh, listed, lists, has, ordered, is_used, MayOrder}
use Rattle.mp_core.specs.Views.{order_stored, row_held, row_kept}
use Rattle.mp_core.specs.Kinds.{status_at, entry_of, IsNext}
use Rattle.mp_keep.specs.declared.removal.Removal.{Removal}
use Rattle.mp_keep.specs.Keeper.{KeeperView, StandsTo, StatusBy, removal_of, owner_at}
use Rattle.mp_keep.specs.Keeps.{Adds, AddsIn, KeepsOne, add_refusal, refusal_by, added_view, added_in, free_slot, slot_with, is_owner, with_owner, with_order, next_entry}
use Rattle.mp_keep.proofs.Finding.{same_is, is_same, below, position_below}
use Rattle.mp_keep.proofs.Lists.{last_is, with_last, len_of, length_snoc, slots_back}
use Rattle.mp_keep.proofs.Statuses.{never, stays_ordered, may_stay}
use Rattle.mp_keep.proofs.Stands.{entries_more, length_more, passed_stands, clears_stand}
use Rattle.mp_keep.proofs.Clearing.{stepped_both}
use Rattle.mp_keep.proofs.Marking.{none_some}

-- A free slot: it has no controller, is not listed, and is not under removal.
pub record IsFree (k : KeeperView) (v : View) (slot : ℕ) : Type 0 where
  pub below : slot < 15
  pub owner : owner_at k slot ≡ None
  pub stays : removal_of k.removals slot ≡ None
  pub unlisted : lists slot k.order ≡ false
  pub status_is : status_at slot v ≡ unused

no_owner : (o : Option ℕ) → is_owner None o ≡ true → o ≡ None
no_owner None h = refl
no_owner (Some c) h = never h

either_false : (r : Option Removal) (b : Bool) → false ≡ (is_some r || b) → (r ≡ None) × (b ≡ false)
either_false None false h = (refl, refl)
either_false None true h = never h
either_false (Some r) b h = never h

pub free_is : (k : KeeperView) (v : View) (slot : ℕ) → StandsTo k v → free_slot k ≡ Some slot → IsFree k v slot
free_is k v slot s e =
    let sized = s.sound.sized in
    let at = position-Some (is_owner None) k.owners slot None e in
    let low = at.0 in
    let below : slot < 15 = omega arith in
    let owner = no_owner (owner_at k slot) at.1 in
    let gone = either_false (removal_of k.removals slot) (lists slot k.order) (sym (ap is_some owner) ∙ s.sound.owned slot below) in record {
      below = below;
      owner = owner;
      stays = gone.0;
      unlisted = gone.1;
      status_is = subst (λ (b : Bool). StatusBy None b (status_at slot v)) gone.1 (subst (λ (r : Option Removal). StatusBy r (lists slot k.order) (status_at slot v)) gone.0 (s.slots slot below));
    }

or_true : (b : Bool) → (b || true) ≡ true
or_true true = refl
or_true false = refl

or_false : (b : Bool) → (b || false) ≡ b
or_false true = refl
or_false false = refl

-- the slots that the order with one more lists
pub lists_last : (o order : Order) (slot t : ℕ) → IsOrder o → o.len < 8 → order ≡ next_order o o.policy (slots_of o ++ slot ∷ []) → lists t order ≡ (lists t o || (slot == t))
lists_last o order slot t l room is =
    let len = len_of o l in
    let more = length_snoc (slots_of o) slot in
    ap (lists t) is ∙ ap (has t) (slots_back (slots_of o ++ slot ∷ []) (replicate 8 0) 8 (omega arith)) ∙ list_any-append (λ x. x == t) (slots_of o) (slot ∷ [])
    ∙ ap (λ (b : Bool). lists t o || b) (or_false (slot == t))

not_among : (o : Order) (slot i : ℕ) → IsOrder o → lists slot o ≡ false → i < o.len → get_or o.slots i 0 ≡ slot → ⊥
not_among o slot i l off at e =
    let len = len_of o l in
    true_false (sym (list_any_at (λ x. x == slot) (slots_of o) i 0 (omega arith) (same_is (get_or (slots_of o) i 0) slot (get_or-take o.len o.slots i 0 at ∙ e))) ∙ off)
  where
    true_false : true ≡ false → ⊥
    true_false e = never (sym e)

last_lawful : (o : Order) (slot : ℕ) → IsOrder o → o.len < 8 → lists slot o ≡ false → IsOrder (with_last o slot)
last_lawful o slot l room off =
    let places = l.places in record {
      within = omega arith;
      places = length-set o.slots o.len slot ∙ l.places;
      distinct = λ i j a b e. differ i j (nat_lt i o.len) (nat_lt j o.len) refl refl a b e;
      past = λ i at. get_or-set_other o.slots o.len i slot 0 (λ e. absurd (omega arith)) ∙ l.past i (omega arith);
    }
  where
    here : (i : ℕ) → i < o.len + 1 → nat_lt i o.len ≡ false → i ≡ o.len
    here i a e = grind (arith, nat_tests)

    before : (i : ℕ) → nat_lt i o.len ≡ true → i < o.len
    before i e = grind (arith, nat_tests)

    old : (i : ℕ) → nat_lt i o.len ≡ true → get_or (set o.slots o.len slot) i 0 ≡ get_or o.slots i 0
    old i e = let m = before i e in get_or-set_other o.slots o.len i slot 0 (λ q. absurd (omega arith))

    new : (i : ℕ) → i < o.len + 1 → nat_lt i o.len ≡ false → get_or (set o.slots o.len slot) i 0 ≡ slot
    new i a e = let places = l.places in ap (λ n. get_or (set o.slots o.len slot) n 0) (here i a e) ∙ get_or-set_same o.slots o.len slot 0 (omega arith)

    differ : (i j : ℕ) (b c : Bool) → nat_lt i o.len ≡ b → nat_lt j o.len ≡ c → i < o.len + 1 → j < o.len + 1 → get_or (set o.slots o.len slot) i 0 ≡ get_or (set o.slots o.len slot) j 0 → i ≡ j
    differ i j true true p q a b e = l.distinct i j (before i p) (before j q) (sym (old i p) ∙ e ∙ old j q)
    differ i j true false p q a b e = absurd (not_among o slot i l off (before i p) (sym (old i p) ∙ e ∙ new j b q))
    differ i j false true p q a b e = absurd (not_among o slot j l off (before j q) (sym (old j q) ∙ sym e ∙ new i a p))
    differ i j false false p q a b e = here i a p ∙ sym (here j b q)

pub lawful_last : (o order : Order) (slot : ℕ) → IsOrder o → o.len < 8 → lists slot o ≡ false → order ≡ next_order o o.policy (slots_of o ++ slot ∷ []) → IsOrder order
lawful_last o order slot l room off is = subst IsOrder (last_is o slot l room ∙ sym is) (last_lawful o slot l room off)

may_last : (x c b : Bool) (r : Option Removal) (st : Status) → b ≡ (x || c) → StatusBy r x st → MayOrder b (cond c fresh st)
may_last true true b r st e h = subst (λ (b : Bool). MayOrder b fresh) (sym e) tt
may_last false true b r st e h = subst (λ (b : Bool). MayOrder b fresh) (sym e) tt
may_last x false b r st e h = subst (λ (b : Bool). MayOrder b st) (sym (e ∙ or_false x)) (may_stay r x st h)

-- the order with the slot may be stored, once the slot is given a path
pub give_next : (k : KeeperView) (v : View) (slot : ℕ) (gift : Gift) (by : Maker) (old : Row) (order : Order) → StandsTo k v → IsFree k v slot → k.order.len < 8
    → order ≡ next_order k.order k.order.policy (slots_of k.order ++ slot ∷ []) → IsNext (row_kept (entry_of slot old (op.Give gift) by) (row_held slot old v)) order
give_next k v slot gift by old order s free room is = record {
  lawful = lawful_last k.order order slot s.sound.lawful room free.unlisted is;
  version = ap (λ (o : Order). o.version) is ∙ ap (λ (o : Order). o.version + 1) s.order;
  slots = λ t l. may_last (lists t k.order) (slot == t) (lists t order) (removal_of k.removals t) (status_at t v) (lists_last k.order order slot t s.sound.lawful room is) (s.slots t l);
}

last_status : (x c b : Bool) (r : Option Removal) (st : Status) → b ≡ (x || c) → StatusBy r x st → (c ≡ true → (r ≡ None) × (x ≡ false)) → StatusBy r b (ordered b (cond c fresh st))
last_status true true b r st e h n = never (sym (n refl).1)
last_status false true b r st e h n = subst (λ (b : Bool). StatusBy r b (ordered b fresh)) (sym e) (subst (λ (r : Option Removal). StatusBy r true listed) (sym (n refl).0) refl)
last_status x false b r st e h n = subst (λ (b : Bool). StatusBy r b (ordered b st)) (sym (e ∙ or_false x)) (stays_ordered r x st h)

-- no slot has a controller that isn't found
no_place : (a n : ℕ) → a < n → cond (nat_lt a n) (Some a) None ≡ None → ⊥
no_place a n l h = none_some (sym (ap (λ (b : Bool). cond b (Some a) None) (below a n l)) ∙ h)

none_of : (p : Option ℕ → Bool) (xs : List (Option ℕ)) → position p xs ≡ None → (i : ℕ) → i < length xs → p (get_or xs i None) ≡ false
none_of p xs e i l = cases (p (get_or xs i None)) refl
  where
    cases : (b : Bool) → p (get_or xs i None) ≡ b → p (get_or xs i None) ≡ false
    cases true h = absurd (no_place (position_or_len p xs) (length xs) (position_below p xs i None l h) e)
    cases false h = h

owned_last : (c x y : Bool) (r : Option Removal) (o : Option ℕ) (ctrl : ℕ) → y ≡ (x || c) → is_some o ≡ (is_some r || x) → (c ≡ true → r ≡ None) → is_some (cond c (Some ctrl) o) ≡ (is_some r || y)
owned_last true x y None o ctrl e h n = sym (e ∙ or_true x)
owned_last true x y (Some r) o ctrl e h n = refl
owned_last false x y r o ctrl e h n = h ∙ ap (λ (b : Bool). is_some r || b) (sym (e ∙ or_false x))

owner_set : (k : KeeperView) (slot ctrl t : ℕ) → length k.owners ≡ 15 → slot < 15 → get_or (set k.owners slot (Some ctrl)) t None ≡ cond (slot == t) (Some ctrl) (owner_at k t)
owner_set k slot ctrl t sized low = cases (slot == t) refl
  where
    cases : (b : Bool) → (slot == t) ≡ b → get_or (set k.owners slot (Some ctrl)) t None ≡ cond b (Some ctrl) (owner_at k t)
    cases true e = ap (λ n. get_or (set k.owners slot (Some ctrl)) n None) (sym (is_same slot t e)) ∙ get_or-set_same k.owners slot (Some ctrl) None (omega arith)
    cases false e = get_or-set_other k.owners slot t (Some ctrl) None (λ q. never (sym e ∙ same_is slot t (sym q)))

-- a slot with a controller is one of the table
owner_low : (k : KeeperView) (i ctrl : ℕ) → owner_at k i ≡ Some ctrl → i < length k.owners
owner_low k i ctrl e = cases (nat_lt i (length k.owners)) refl
  where
    past : nat_lt i (length k.owners) ≡ false → length k.owners ≤ i
    past h = grind (arith, nat_tests)

    low : nat_lt i (length k.owners) ≡ true → i < length k.owners
    low h = grind (arith, nat_tests)

    cases : (b : Bool) → nat_lt i (length k.owners) ≡ b → i < length k.owners
    cases true h = low h
    cases false h = absurd (none_some (sym e ∙ get_or-eq_default k.owners None (past h)))

apart_last : (k : KeeperView) (slot ctrl : ℕ) → ((i j c : ℕ) → owner_at k i ≡ Some c → owner_at k j ≡ Some c → i ≡ j) → slot_with k ctrl ≡ None
    → (i j c : ℕ) → cond (slot == i) (Some ctrl) (owner_at k i) ≡ Some c → cond (slot == j) (Some ctrl) (owner_at k j) ≡ Some c → i ≡ j
apart_last k slot ctrl apart nothing i j c e f = cases (slot == i) (slot == j) refl refl e f
  where
    nobody : (t : ℕ) → owner_at k t ≡ Some ctrl → ⊥
    nobody t h = never (sym (none_of (is_owner (Some ctrl)) k.owners nothing t (owner_low k t ctrl h)) ∙ ap (is_owner (Some ctrl)) h ∙ same_is ctrl ctrl refl)

    inj : (a b : ℕ) → Some a ≡ Some b → a ≡ b
    inj a b q = cc

    cases : (a b : Bool) → (slot == i) ≡ a → (slot == j) ≡ b → cond a (Some ctrl) (owner_at k i) ≡ Some c → cond b (Some ctrl) (owner_at k j) ≡ Some c → i ≡ j
    cases true true p q e f = sym (is_same slot i p) ∙ is_same slot j q
    cases true false p q e f = absurd (nobody j (f ∙ sym e))
    cases false true p q e f = absurd (nobody i (e ∙ sym f))
    cases false false p q e f = apart i j c e f

-- the slot was given a path and listed last
pub last_stands : (k : KeeperView) (v : View) (slot : ℕ) (gift : Gift) (by : Maker) (old : Row) (e : OrderEntry) → StandsTo k v → IsFree k v slot → k.order.len < 8 → slot_with k gift.ctrl ≡ None
    → e.order ≡ next_order k.order k.order.policy (slots_of k.order ++ slot ∷ []) → StandsTo (with_order e (with_owner slot (Some gift.ctrl) k)) (order_stored e (row_kept (entry_of slot old (op.Give gift) by) (row_held slot old v)))
last_stands k v slot gift by old e s free room nobody is =
    let sound = s.sound in
    let versions = sound.versions in
    let flipped = sound.flipped in
    let version : e.order.version ≡ k.order.version + 1 = ap (λ (o : Order). o.version) is in
    let many = length_more k.entries (keep.Order e) in
    let own = owner_set k slot gift.ctrl in
    let listing : (t : ℕ) → lists t e.order ≡ (lists t k.order || (slot == t)) = λ t. lists_last k.order e.order slot t sound.lawful room is in
    let here : (t : ℕ) → (slot == t) ≡ true → (removal_of k.removals t ≡ None) × (lists t k.order ≡ false) =
    λ t q. (ap (removal_of k.removals) (sym (is_same slot t q)) ∙ free.stays, ap (λ n. lists n k.order) (sym (is_same slot t q)) ∙ free.unlisted) in record {
      sound = record {
        lawful = lawful_last k.order e.order slot sound.lawful room free.unlisted is;
        sized = length-set k.owners slot (Some gift.ctrl) ∙ sound.sized;
        owned = λ t l. ap is_some (own t sound.sized free.below) ∙ owned_last (slot == t) (lists t k.order) (lists t e.order) (removal_of k.removals t) (owner_at k t) gift.ctrl (listing t) (sound.owned t l) (λ q. (here t q).0);
        apart = λ i j c a b. apart_last k slot gift.ctrl sound.apart nobody i j c (sym (own i sound.sized free.below) ∙ a) (sym (own j sound.sized free.below) ∙ b);
        within = sound.within;
        distinct = sound.distinct;
        ordered = sound.ordered;
        turned = sound.turned;
        versions = omega arith;
        flipped = omega arith;
      };
      keeper = s.keeper;
      order = refl;
      slots = λ t l. last_status (lists t k.order) (slot == t) (lists t e.order) (removal_of k.removals t) (status_at t v) (listing t) (s.slots t l) (here t);
      flips = s.flips;
      index = s.index;
      entries = entries_more v.keeping.events k.entries (keep.Order e) s.entries;
    }

-- the view after an add, whatever it clears
clears_any : (k : KeeperView) (c : Clears) (slot : ℕ) (v : View) → StandsTo k v → StandsTo k (clears_view c slot v)
clears_any k every_one slot v s = passed_stands k v s
clears_any k the_slots slot v s = clears_stand k slot 8 v s
clears_any k none slot v s = s

pub adds_stand : (k l : KeeperView) (a b : Core) (gift : Gift) (by : Maker) (slot : ℕ) (added : Added) → StandsTo k a.view → free_slot k ≡ Some slot → k.order.len < 8 → slot_with k gift.ctrl ≡ None → AddsIn k l a b gift by slot added → StandsTo l b.view
adds_stand k l a b gift by slot added s f room nobody h =
    let free = free_is k a.view slot s f in
    let mid : StandsTo (with_order added.order (with_owner slot (Some gift.ctrl) k)) (order_stored added.order (row_kept (entry_of slot h.old (op.Give gift) by) (row_held slot h.old a.view))) =
    last_stands k a.view slot gift by h.old added.order s free room nobody (ap (λ (e : OrderEntry). e.order) h.order) in
    let kept : StandsTo (with_order added.order (with_owner slot (Some gift.ctrl) k)) (order_stored added.order (row_kept added.row (row_held slot h.old a.view))) =
    subst (λ (e : RowEntry). StandsTo (with_order added.order (with_owner slot (Some gift.ctrl) k)) (order_stored added.order (row_kept e (row_held slot h.old a.view)))) (sym h.row) mid in
    subst (λ (z : KeeperView). StandsTo z b.view) (sym h.keeper)
    (subst (λ (c : Core). StandsTo (with_order added.order (with_owner slot (Some gift.ctrl) k)) c.view) (sym h.core) (clears_any (with_order added.order (with_owner slot (Some gift.ctrl) k)) (clears_of added.row.op added.row.row) slot (order_stored added.order (row_kept added.row (row_held slot h.old a.view))) kept))

-- the steps of an add are one
pub adds_core : (a m n b : Core) (slot : ℕ) (old : Row) (row : RowEntry) (e : OrderEntry) → row.slot ≡ slot
    → m ≡ stepped (row_kept row) (row_in slot row.row) (looked (row_held slot old) a) → n ≡ stepped (order_stored e) (order_in e.order) m
    → b ≡ stepped (clears_view (clears_of row.op row.row) row.slot) (clears_in (clears_of row.op row.row) row.slot) n
    → b ≡ stepped (added_view slot old (record { row = row; order = e })) (added_in slot (record { row = row; order = e })) a
adds_core a m n b slot old row e at f g h =
    h ∙ ap (λ t. stepped (clears_view (clears_of row.op row.row) t) (clears_in (clears_of row.op row.row) t) n) at
    ∙ ap (stepped (clears_view (clears_of row.op row.row) slot) (clears_in (clears_of row.op row.row) slot)) (g ∙ ap (stepped (order_stored e) (order_in e.order)) f ∙ stepped_both (order_stored e) (row_kept row) (order_in e.order) (row_in slot row.row) (looked (row_held slot old) a))
    ∙ stepped_both (clears_view (clears_of row.op row.row) slot) (λ v. order_stored e (row_kept row v)) (clears_in (clears_of row.op row.row) slot) (λ w. order_in e.order (row_in slot row.row w)) (looked (row_held slot old) a)

-- what the steps of an add are
pub adds_in : (k l : KeeperView) (a m n b : Core) (gift : Gift) (by : Maker) (slot : ℕ) (row : RowEntry) (e : OrderEntry) → StandsTo k a.view → free_slot k ≡ Some slot
    → KeepsOne a m slot (op.Give gift) by row → e ≡ next_entry k k.order.policy (slots_of k.order ++ slot ∷ []) by → n ≡ stepped (order_stored e) (order_in e.order) m
    → b ≡ stepped (clears_view (clears_of row.op row.row) row.slot) (clears_in (clears_of row.op row.row) row.slot) n → l ≡ with_order e (with_owner slot (Some gift.ctrl) k)
    → AddsIn k l a b gift by slot (record { row = row; order = e })
adds_in k l a m n b gift by slot row e s f kept is stored cleared took =
    let free = free_is k a.view slot s f in record {
      old = kept.old;
      found = kept.found;
      free = kept.used ∙ ap is_used free.status_is;
      row = kept.row;
      order = is;
      keeper = took;
      core = adds_core a m n b slot kept.old row e (ap (λ (z : RowEntry). z.slot) kept.row) kept.core stored cleared;
    }

-- the order of an add may be stored
pub next_given : (k : KeeperView) (a m : Core) (gift : Gift) (by : Maker) (slot : ℕ) (row : RowEntry) (order : Order) → StandsTo k a.view → free_slot k ≡ Some slot → k.order.len < 8
    → KeepsOne a m slot (op.Give gift) by row → order ≡ next_order k.order k.order.policy (slots_of k.order ++ slot ∷ []) → IsNext m.view order
next_given k a m gift by slot row order s f room kept is =
    subst (λ (z : Core). IsNext z.view order) (sym kept.core)
    (subst (λ (z : RowEntry). IsNext (row_kept z (row_held slot kept.old a.view)) order) (sym kept.row) (give_next k a.view slot gift by kept.old order s (free_is k a.view slot s f) room is))

-- nothing refuses the path
pub not_refused : (k : KeeperView) (ctrl slot : ℕ) → slot_with k ctrl ≡ None → free_slot k ≡ Some slot → (k.order.len == 8) ≡ false → add_refusal k ctrl ≡ None
not_refused k ctrl slot e f full = (λ i. refusal_by k (e i) (f i)) ∙ ap (λ (b : Bool). if b then Some OrderFull else None) full

not_full : (n : ℕ) → n ≤ 8 → (n == 8) ≡ false → n < 8
not_full n l e = grind (arith, nat_tests)

-- an add that nothing refuses
pub adds : (k l : KeeperView) (a b : Core) (gift : Gift) (by : Maker) (slot : ℕ) (added : Added) → StandsTo k a.view → slot_with k gift.ctrl ≡ None → free_slot k ≡ Some slot → (k.order.len == 8) ≡ false → AddsIn k l a b gift by slot added
    → Adds k l a b gift by (Ok added)
adds k l a b gift by slot added s e f full h = record {
  to = (not_refused k gift.ctrl slot e f full, slot, f, h);
  stands = adds_stand k l a b gift by slot added s f (not_full k.order.len s.sound.lawful.within full) e h;
}
