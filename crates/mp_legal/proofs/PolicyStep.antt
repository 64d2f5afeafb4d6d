-- A change of the policy is the plain run's.
use Rattle.std.proofs.Common.{◌≡◌, ℕ, ◌≤◌, List, [], ◌∷◌, ◌++◌, length, map, replicate, nat_lt, Option, Some, None, option_map, refl, sym, ap, ◌∙◌, subst}
use Rattle.std.specs.List.{list_all}
use Rattle.std.proofs.lemmas.List.{length-map}
use Rattle.std.proofs.lemmas.Simd.{splat_is_map}
use Rattle.mp_words.specs.declared.entry.OrderEntry.{OrderEntry}
use Rattle.mp_words.specs.declared.entry.KeepEntry.TheVariants as keep
use Rattle.mp_words.specs.declared.order.Order.{Order}
use Rattle.mp_words.specs.declared.row.Policy.{Policy}
use Rattle.mp_words.specs.declared.row.Policy.TheVariants.{Numa, RoundRobin, QueueDepth}
use Rattle.mp_words.specs.Effect.{every_one}
use Rattle.mp_words.specs.Order.{slots_of, next_order}
use Rattle.mp_record.specs.declared.event.Event.TheVariants as event
use Rattle.mp_record.specs.declared.event.Said.TheVariants as said
use Rattle.mp_core.specs.Core.{Core}
use Rattle.mp_core.specs.Memory.{Memory, order_in}
use Rattle.mp_change.specs.Clears.{emptied_upto_in}
use Rattle.mp_keep.specs.Keeper.{KeeperView, StandsTo}
use Rattle.mp_keep.specs.Keeps.{SetsPolicy}
use Rattle.mp_legal.specs.PlainKeep.{policy_set}
use Rattle.mp_legal.specs.Stepped.{Place, maker_of}
use Rattle.mp_legal.specs.ToldKeeper.{IsKeeperStep, KeepsAt, is_at_rest, orders_in}
use Rattle.mp_legal.specs.ToldState.{Beside, IsAt, state_in, lasts_by}
use Rattle.mp_legal.proofs.Cleared.{clears_words}
use Rattle.mp_legal.proofs.KeptWords.{Leads, led_at, few_slots, slots_next, orders_more}

abbrev nothing : Option ℕ → Option ℕ
nothing last = None

-- no last choice is left
none_left : (p : Policy) (xs : List (Option ℕ)) → length xs ≡ 8 → map nothing (lasts_by p xs) ≡ replicate 8 None
none_left Numa xs e = refl
none_left RoundRobin xs e = sym (splat_is_map xs 8 None e)
none_left QueueDepth xs e = refl

none_last : (p : Policy) (xs : List (Option ℕ)) → length xs ≡ 8 → lasts_by p (map nothing xs) ≡ replicate 8 None
none_last Numa xs e = refl
none_last RoundRobin xs e = sym (splat_is_map xs 8 None e)
none_last QueueDepth xs e = refl

-- the next list of paths with this policy
abbrev order_set : Policy → Memory → Order
order_set policy m = next_order m.order policy (slots_of m.order)

-- the words after it
abbrev set_words : Policy → Memory → Memory
set_words policy m = record m { order = order_set policy m; currents = map nothing m.currents }

-- its entry
abbrev set_entry : Place → Policy → Memory → OrderEntry
set_entry at policy m = record { order = order_set policy m; by = maker_of at }

set_leads : (at : Place) (policy : Policy) (k l : KeeperView) (a b : Core) (entry : OrderEntry) (m : Memory) (x : Beside) → SetsPolicy k l a b policy (maker_of at) entry → IsAt a m x → entry ≡ set_entry at policy m → Leads a b m (set_words policy m)
set_leads at policy k l a b entry m x h i is =
    let core = h.core in
    record {
      carries = record {
        lane = ap (λ (c : Core). c.lane) core;
        home = ap (λ (c : Core). c.home) core;
        others = ap (λ (c : Core). c.others) core;
        inside = ap (λ (c : Core). c.view.inside) core;
        flights = ap (λ (c : Core). c.view.flights) core;
        start = ap (λ (c : Core). c.view.keeping.start) core;
      };
      told = ap (λ (c : Core). c.told) core ∙ ap (option_map (λ m. emptied_upto_in 8 (order_in entry.order m))) i.told
          ∙ ap Some (clears_words every_one 0 (order_in entry.order m) i.currents) ∙ (λ j. Some (record m { order = (is j).order; currents = map nothing m.currents }));
      rows = i.rows;
      depths = refl;
      currents = length-map m.currents nothing ∙ i.currents;
    }

pub policy_step : (at : Place) (policy : Policy) (k l : KeeperView) (a b : Core) (entry : OrderEntry) (m : Memory) (x : Beside) → SetsPolicy k l a b policy (maker_of at) entry → IsAt a m x → StandsTo k a.view → KeepsAt k (state_in m x)
    → IsKeeperStep (policy_set at (state_in m x) policy) k l a b x [] (event.At at.line (said.Policy entry.order.version) ∷ [])
policy_step at policy k l a b entry m x h i st ks =
    let is : entry ≡ set_entry at policy m = h.order ∙ (λ j. record { order = next_order (sym ks.order j) policy (slots_of (sym ks.order j)); by = maker_of at }) in
    let leads = set_leads at policy k l a b entry m x h i is in
    let few : length (slots_of m.order) ≤ 8 = subst (λ (o : Order). length (slots_of o) ≤ 8) (sym ks.order) (few_slots k.order st.sound.lawful) in
    let lists : slots_of entry.order ≡ slots_of k.order = ap (λ (e : OrderEntry). slots_of e.order) is ∙ slots_next m.order policy (slots_of m.order) few ∙ ap slots_of ks.order in
    let removals : map (λ r. r.slot) k.removals ≡ map (λ r. r.slot) l.removals = ap (λ (z : KeeperView). map (λ r. r.slot) z.removals) (sym h.keeper) in
    let flips : k.flips ≡ l.flips = ap (λ (z : KeeperView). z.flips) (sym h.keeper) in
    record {
      memory = set_words policy m;
      at = led_at a b m (set_words policy m) x l leads i;
      keeps = record {
        order = ap (λ (e : OrderEntry). e.order) (sym is) ∙ ap (λ (z : KeeperView). z.order) (sym h.keeper);
        within = ap (λ (z : KeeperView). list_all (λ slot. nat_lt slot 15) (slots_of z.order)) h.keeper ∙ ap (list_all (λ slot. nat_lt slot 15)) lists ∙ ks.within;
        owners = ap (λ (z : KeeperView). z.owners) h.keeper ∙ ks.owners;
        removals = ks.removals ∙ removals;
        rest = ap (λ (z : KeeperView). list_all (λ r. is_at_rest r.stage) z.removals) h.keeper ∙ ks.rest;
        flips = ks.flips ∙ flips;
      };
      state = λ j. record (state_in m x) { order = order_set policy m; lasts = (none_left m.order.policy m.currents i.currents ∙ sym (none_last policy m.currents i.currents)) j; removals = (ks.removals ∙ removals) j; flips = (ks.flips ∙ flips) j };
      rows = refl;
      orders = ap (λ (z : KeeperView). orders_in z.entries) h.keeper ∙ orders_more k.entries (keep.Order entry ∷ []) ∙ ap (λ (e : OrderEntry). orders_in k.entries ++ e ∷ []) is;
      events = ap (λ (e : OrderEntry). event.At at.line (said.Policy e.order.version) ∷ []) (sym is);
      left = ap (λ (c : Core). c.view.left) h.core;
      lane = leads.carries.lane;
      home = leads.carries.home;
      others = leads.carries.others;
      keeping = leads.carries.start;
    }
