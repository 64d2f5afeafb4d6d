-- A keeper that stands to its steps, after some of them.
use Rattle.std.proofs.Common.{◌≡◌, ℕ, zero, suc, ◌+◌, ◌==◌, ◌||◌, Bool, true, false, List, [], ◌∷◌, ◌++◌, map, reverse, filter, length, replicate, cond, Option, is_some, refl, sym, ap, ◌∙◌, subst, arith}
use Rattle.std.proofs.lemmas.List.{map-append, reverse-append}
use Rattle.mp_words.specs.declared.order.Order.{Order}
use Rattle.mp_words.specs.declared.row.Policy.{Policy}
use Rattle.mp_words.specs.declared.entry.OrderEntry.{OrderEntry}
use Rattle.mp_words.specs.declared.entry.KeepEntry.{KeepEntry}
use Rattle.mp_words.specs.declared.entry.KeepEntry.TheVariants as keep
use Rattle.mp_words.specs.declared.op.Maker.{Maker}
use Rattle.mp_words.specs.Facts.{IsOrder}
use Rattle.mp_words.specs.Order.{slots_of, next_order}
use Rattle.mp_core.specs.declared.view.Event.{Event}
use Rattle.mp_core.specs.declared.view.Role.{Role}
use Rattle.mp_core.specs.declared.view.Role.TheVariants as role
use Rattle.mp_core.specs.declared.view.View.{View}
use Rattle.mp_core.specs.Core.{Core, stepped}
use Rattle.mp_core.specs.Memory.{order_in}
use Rattle.mp_core.specs.Status.{Status, lists, has, status, ordered, cleared, MayOrder}
use Rattle.mp_core.specs.Unpacked.{first_status, start_order}
use Rattle.mp_core.specs.Views as view
use Rattle.mp_core.specs.Views.{passed, order_stored, clear_by, last_order, last_version}
use Rattle.mp_core.specs.Kinds.{status_at, IsNext}
use Rattle.mp_change.specs.Clears.{cleared_upto, emptied_upto_in}
use Rattle.mp_keep.specs.declared.removal.Removal.{Removal}
use Rattle.mp_keep.specs.Keeper.{KeeperView, StandsTo, SameKeeping, StatusBy, event_of, has_entry, removal_of}
use Rattle.mp_keep.specs.Keeps.{SetsPolicy, with_order, passed_upto}
use Rattle.mp_keep.proofs.Clearing.{stepped_both}
use Rattle.mp_keep.proofs.Lists.{policy_is, len_of, slots_back}
use Rattle.mp_keep.proofs.Statuses.{stays_ordered, stays_cleared, may_stay}

entry_first : (x : KeepEntry) (es : List Event) → filter has_entry (event_of x ∷ es) ≡ event_of x ∷ filter has_entry es
entry_first (keep.Order e) es = refl
entry_first (keep.Closing c) es = refl

-- one entry more
pub entries_more : (es : List Event) (xs : List KeepEntry) (x : KeepEntry) → filter has_entry es ≡ reverse (map event_of xs) → filter has_entry (event_of x ∷ es) ≡ reverse (map event_of (xs ++ x ∷ []))
entries_more es xs x h =
    entry_first x es ∙ ap (λ (ys : List Event). event_of x ∷ ys) h
    ∙ sym (ap reverse (map-append event_of xs (x ∷ [])) ∙ reverse-append (map event_of xs) (event_of x ∷ []))

pub length_more : {X : Type 0} (xs : List X) (x : X) → length (xs ++ x ∷ []) ≡ length xs + 1
length_more [] x = refl
length_more (y ∷ xs) x = let r = length_more xs x in ap suc r ∙ omega arith

-- a step that tells the keeper nothing
pub passed_stands : (k : KeeperView) (v : View) → StandsTo k v → StandsTo k (passed v)
passed_stands k v s = record { sound = s.sound; keeper = s.keeper; order = s.order; slots = s.slots; flips = s.flips; index = s.index; entries = s.entries }

-- a clear of a current word
pub clear_stands : (k : KeeperView) (n slot : ℕ) (v : View) → StandsTo k v → StandsTo k (view.cleared n slot v)
clear_stands k n slot v s = by v.role
  where
    cases : (b : Bool) (r : Option Removal) (l : Bool) (st : Status) → StatusBy r l st → StatusBy r l (cond b (cleared n st) st)
    cases true r l st h = stays_cleared r l n st h
    cases false r l st h = h

    by : (r : Role) → StandsTo k (record v { keeping = clear_by r n slot v.keeping })
    by role.Keeper = record {
      sound = s.sound;
      keeper = s.keeper;
      order = s.order;
      slots = λ t l. cases (slot == t) (removal_of k.removals t) (lists t k.order) (status_at t v) (s.slots t l);
      flips = s.flips;
      index = s.index;
      entries = s.entries;
    }
    by (role.Lane lane) = passed_stands k v s
    by role.Spent = passed_stands k v s

pub clears_stand : (k : KeeperView) (slot n : ℕ) (v : View) → StandsTo k v → StandsTo k (cleared_upto slot n v)
clears_stand k slot zero v s = s
clears_stand k slot (suc n) v s = clear_stands k n slot (cleared_upto slot n v) (clears_stand k slot n v s)

-- a list of paths with the same slots
pub record SameSlots (k : KeeperView) (order : Order) : Type 0 where
  pub lawful : IsOrder order
  pub version : order.version ≡ k.order.version + 1
  pub slots : (slot : ℕ) → lists slot order ≡ lists slot k.order

pub same_stands : (k : KeeperView) (v : View) (e : OrderEntry) → StandsTo k v → SameSlots k e.order → StandsTo (with_order e k) (order_stored e v)
same_stands k v e s o =
    let sound = s.sound in
    let versions = sound.versions in
    let flipped = sound.flipped in
    let version = o.version in
    let many = length_more k.entries (keep.Order e) in record {
      sound = record {
        lawful = o.lawful;
        sized = sound.sized;
        owned = λ slot l. sound.owned slot l ∙ ap (λ (b : Bool). is_some (removal_of k.removals slot) || b) (sym (o.slots slot));
        apart = sound.apart;
        within = sound.within;
        distinct = sound.distinct;
        ordered = sound.ordered;
        turned = sound.turned;
        versions = omega arith;
        flipped = omega arith;
      };
      keeper = s.keeper;
      order = refl;
      slots = λ slot l. subst (λ (b : Bool). StatusBy (removal_of k.removals slot) b (ordered b (status_at slot v))) (sym (o.slots slot)) (stays_ordered (removal_of k.removals slot) (lists slot k.order) (status_at slot v) (s.slots slot l));
      flips = s.flips;
      index = s.index;
      entries = entries_more v.keeping.events k.entries (keep.Order e) s.entries;
    }

pub same_next : (k : KeeperView) (v : View) (order : Order) → StandsTo k v → SameSlots k order → IsNext v order
same_next k v order s o = record {
  lawful = o.lawful;
  version = o.version ∙ ap (λ (p : Order). p.version + 1) s.order;
  slots = λ slot l. subst (λ (b : Bool). MayOrder b (status_at slot v)) (sym (o.slots slot)) (may_stay (removal_of k.removals slot) (lists slot k.order) (status_at slot v) (s.slots slot l));
}

pub same_slots : (k : KeeperView) (policy : Policy) (order : Order) → IsOrder k.order → order ≡ next_order k.order policy (slots_of k.order) → SameSlots k order
same_slots k policy order l is =
    let many = len_of k.order l in
    let within = l.within in record {
      lawful = subst IsOrder (policy_is k.order policy l ∙ sym is) (record { within = l.within; places = l.places; distinct = l.distinct; past = l.past });
      version = ap (λ (o : Order). o.version) is;
      slots = λ slot. ap (lists slot) is ∙ ap (has slot) (slots_back (slots_of k.order) (replicate 8 0) 8 (omega arith));
    }

-- the policy was set
pub sets_policy : (k l : KeeperView) (a m b : Core) (policy : Policy) (by : Maker) (order : Order) → StandsTo k a.view → order ≡ next_order k.order policy (slots_of k.order)
    → m ≡ stepped (order_stored (record { order = order; by = by })) (order_in order) a → b ≡ stepped (passed_upto 8) (emptied_upto_in 8) m → l ≡ with_order (record { order = order; by = by }) k
    → SetsPolicy k l a b policy by (record { order = order; by = by })
sets_policy k l a m b policy by order s is stored emptied took =
    let e : OrderEntry = record { order = order; by = by } in
    let core : b ≡ stepped (λ v. passed (order_stored e v)) (λ w. emptied_upto_in 8 (order_in e.order w)) a =
    emptied ∙ ap (stepped (passed_upto 8) (emptied_upto_in 8)) stored ∙ stepped_both (passed_upto 8) (order_stored e) (emptied_upto_in 8) (order_in order) a in
    let stands : StandsTo (with_order e k) (passed (order_stored e a.view)) = passed_stands (with_order e k) (order_stored e a.view) (same_stands k a.view e s (same_slots k policy order s.sound.lawful is)) in record {
      order = λ i. record { order = is i; by = by };
      keeper = took;
      core = core;
      stands = subst (λ (z : KeeperView). StandsTo z b.view) (sym took) (subst (StandsTo (with_order e k)) (sym (ap (λ (c : Core). c.view) core)) stands);
    }

-- the keeper's part that a keeper knows stays
pub still_stands : (k : KeeperView) (v w : View) → SameKeeping v w → StandsTo k v → StandsTo k w
still_stands k v w m s = record {
  sound = s.sound;
  keeper = m.role ∙ s.keeper;
  order = s.order ∙ (λ i. last_order (start_order (sym m.start i)) (sym m.events i));
  slots = λ t l. subst (StatusBy (removal_of k.removals t) (lists t k.order)) (λ i. status (first_status (sym m.start i) t) t (sym m.events i)) (s.slots t l);
  flips = s.flips ∙ sym m.flips;
  index = m.index ∙ s.index;
  entries = ap (filter has_entry) m.events ∙ s.entries;
}

-- however much room there is
pub room_stands : (k : KeeperView) (v : View) (room : ℕ) → StandsTo k v → StandsTo (record k { spare = room }) v
room_stands k v room s =
    let sound = s.sound in record {
      sound = record {
        lawful = sound.lawful;
        sized = sound.sized;
        owned = sound.owned;
        apart = sound.apart;
        within = sound.within;
        distinct = sound.distinct;
        ordered = sound.ordered;
        turned = sound.turned;
        versions = sound.versions;
        flipped = sound.flipped;
      };
      keeper = s.keeper;
      order = s.order;
      slots = s.slots;
      flips = s.flips;
      index = s.index;
      entries = s.entries;
    }
