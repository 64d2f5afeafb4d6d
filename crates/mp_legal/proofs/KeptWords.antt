-- What the laws of the keeper's calls share: the pass after a call, the next list of paths, and the controllers of rows.
use Rattle.std.proofs.Common.{◌≡◌, ℕ, zero, suc, ◌+◌, ◌-◌, ◌<◌, ◌≤◌, List, [], ◌∷◌, ◌++◌, length, take, replicate, get_or, Some, refl, sym, ap, ◌∙◌, subst, append-nil, arith}
use Rattle.mp_words.specs.declared.order.Order.{Order}
use Rattle.mp_words.specs.declared.row.Policy.{Policy}
use Rattle.mp_words.specs.declared.entry.OrderEntry.{OrderEntry}
use Rattle.mp_words.specs.declared.entry.KeepEntry.{KeepEntry}
use Rattle.mp_words.specs.declared.entry.KeepEntry.TheVariants as keep
use Rattle.mp_words.specs.Facts.{IsOrder}
use Rattle.mp_words.specs.Order.{slots_of, next_order}
use Rattle.mp_record.specs.declared.event.Event.{Event}
use Rattle.mp_core.specs.Core.{Core}
use Rattle.mp_core.specs.Memory.{Memory}
use Rattle.mp_keep.specs.Keeper.{KeeperView}
use Rattle.mp_legal.specs.Stepped.{tells}
use Rattle.mp_legal.specs.ToldKeeper.{IsKeeperStep, KeepsAt, orders_in, with_keeper}
use Rattle.mp_legal.specs.ToldState.{Beside, IsAt, state_in}

-- what a call keeps of the pass
pub record Carries (a b : Core) : Type 0 where
  pub lane : b.lane ≡ a.lane
  pub home : b.home ≡ a.home
  pub others : b.others ≡ a.others
  pub inside : b.view.inside ≡ a.view.inside
  pub flights : b.view.flights ≡ a.view.flights
  pub start : b.view.keeping.start ≡ a.view.keeping.start

-- the words after a call, of which a run keeps the sizes and depths
pub record Leads (a b : Core) (m n : Memory) : Type 0 where
  pub carries : Carries a b
  pub told : b.told ≡ Some n
  pub rows : length n.rows ≡ 15
  pub depths : n.depths ≡ m.depths
  pub currents : length n.currents ≡ 8

-- the pass after a call
pub led_at : (a b : Core) (m n : Memory) (x : Beside) (l : KeeperView) → Leads a b m n → IsAt a m x → IsAt b n (with_keeper l x)
led_at a b m n x l g k =
    let c = g.carries in
    record {
      told = g.told;
      rows = g.rows;
      depths = ap length g.depths ∙ k.depths;
      currents = g.currents;
      lanes = k.lanes;
      lane = subst (λ p. p < 17) (sym c.lane) k.lane;
      closed = c.inside ∙ k.closed;
      flights = c.flights ∙ k.flights ∙ ap (λ p. get_or x.flights p []) (sym c.lane);
      counted = λ slot. ap (λ ds. get_or ds slot 0) g.depths ∙ k.counted slot;
    }

-- at most so many are taken
pub took : (n : ℕ) (xs : List ℕ) → length (take n xs) ≤ n
took zero xs = omega arith
took (suc n) [] = omega arith
took (suc n) (x ∷ xs) = let r = took n xs in omega arith

-- at most eight slots are listed
pub few_slots : (o : Order) → IsOrder o → length (slots_of o) ≤ 8
few_slots o l = let w = l.within in let t = took o.len o.slots in omega arith

took_front : (k : ℕ) (xs ys : List ℕ) → length xs ≤ k → take (length xs) (take k (xs ++ ys)) ≡ xs
took_front k [] ys le = refl
took_front zero (x ∷ xs) ys le = absurd (omega arith)
took_front (suc k) (x ∷ xs) ys le = ap (λ (zs : List ℕ). x ∷ zs) (took_front k xs ys (omega arith))

-- the next list of paths lists just these slots
pub slots_next : (o : Order) (policy : Policy) (slots : List ℕ) → length slots ≤ 8 → slots_of (next_order o policy slots) ≡ slots
slots_next o policy slots le = took_front 8 slots (replicate 8 0) le

-- the lists of paths among more entries
pub orders_more : (xs ys : List KeepEntry) → orders_in (xs ++ ys) ≡ orders_in xs ++ orders_in ys
orders_more [] ys = refl
orders_more (keep.Order e ∷ xs) ys = ap (λ (os : List OrderEntry). e ∷ os) (orders_more xs ys)
orders_more (keep.Closing c ∷ xs) ys = orders_more xs ys

-- the state, with the removals and flips of a keeper whose data agree with it
pub kept_state : (k : KeeperView) (m : Memory) (x : Beside) → KeepsAt k (state_in m x) → state_in m x ≡ state_in m (with_keeper k x)
kept_state k m x ks = λ i. record (state_in m x) { removals = ks.removals i; flips = ks.flips i }

-- a call that does nothing
pub still_step : (k l : KeeperView) (a b : Core) (m : Memory) (x : Beside) (events : List Event) → b ≡ a → l ≡ k → IsAt a m x → KeepsAt k (state_in m x) → IsKeeperStep (tells (state_in m x) events) k l a b x [] events
still_step k l a b m x events same kept i ks =
    subst (λ (c : Core). IsKeeperStep (tells (state_in m x) events) k l a c x [] events) (sym same)
    (subst (λ (z : KeeperView). IsKeeperStep (tells (state_in m x) events) k z a a x [] events) (sym kept) (record {
      memory = m;
      at = record {
        told = i.told;
        rows = i.rows;
        depths = i.depths;
        currents = i.currents;
        lanes = i.lanes;
        lane = i.lane;
        closed = i.closed;
        flights = i.flights;
        counted = i.counted;
      };
      keeps = ks;
      state = kept_state k m x ks;
      rows = refl;
      orders = sym (append-nil (orders_in k.entries));
      events = refl;
      left = minus_none a.view.left;
      lane = refl;
      home = refl;
      others = refl;
      keeping = refl;
    }))
  where
    minus_none : (n : ℕ) → n ≡ n - (0 + 0)
    minus_none n = omega arith
