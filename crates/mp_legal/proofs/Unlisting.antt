-- A marked removal is carried past its grace periods, by four looks at sides that find nobody inside.
use Rattle.std.proofs.Common.{◌≡◌, ℕ, ◌+◌, ◌-◌, ◌≤◌, ◌==◌, nat_lt, false, List, [], ◌∷◌, ◌++◌, length, map, Option, Some, option_map, refl, sym, ap, ◌∙◌, subst, arith}
use Rattle.std.specs.Prelude.{filter}
use Rattle.std.specs.List.{list_all, AllByRecursion}
use Rattle.std.proofs.lemmas.List.{map-append}
use Rattle.mp_words.specs.declared.op.Maker.{Maker}
use Rattle.mp_words.specs.declared.order.Order.{Order}
use Rattle.mp_words.specs.declared.entry.OrderEntry.{OrderEntry}
use Rattle.mp_words.specs.declared.entry.KeepEntry.TheVariants as keep
use Rattle.mp_words.specs.Effect.{the_slots, cleared}
use Rattle.mp_words.specs.Order.{slots_of, next_order}
use Rattle.mp_core.specs.declared.view.Look.{Look}
use Rattle.mp_core.specs.Core.{Core}
use Rattle.mp_core.specs.Memory.{Memory, flipped_in, order_in}
use Rattle.mp_change.specs.Clears.{cleared_upto_in}
use Rattle.mp_keep.specs.declared.deep.Deep.{Deep}
use Rattle.mp_keep.specs.declared.reaped.Reaped.{Reaped}
use Rattle.mp_keep.specs.declared.removal.Removal.{Removal}
use Rattle.mp_keep.specs.declared.stage.Stage.TheVariants.{Marked, HalfA, Unlisted, HalfB, Past}
use Rattle.mp_keep.specs.Keeper.{KeeperView}
use Rattle.mp_keep.specs.Walks.{IsWalk, entry_without, closing_of, flipped_core, unlisted_core}
use Rattle.mp_legal.specs.Answers.{through_first}
use Rattle.mp_legal.specs.PlainKeep.{is_among, without, is_idle, unlisted}
use Rattle.mp_legal.specs.Stepped.{Place, maker_of}
use Rattle.mp_legal.specs.ToldKeeper.{orders_in, with_keeper}
use Rattle.mp_legal.specs.ToldState.{Beside, state_in}
use Rattle.mp_legal.proofs.Cleared.{clears_words, cleared_length, lasts_cleared}
use Rattle.mp_legal.proofs.KeptWords.{slots_next}
use Rattle.mp_legal.proofs.PlainWalk.{among_without, among_others, filter_others, through_others, or_false}
use Rattle.mp_legal.proofs.Walking.{Walking, IsPut, alone, slot_of, closing_more, order_more, all_without, few_without}
use Rattle.mp_legal.proofs.WalkSteps.{Closes, closes, closing_keeper}

-- the removal in each stage
abbrev marked : Removal → Removal
marked r = record r { stage = Marked }

abbrev half_a : Removal → Removal
half_a r = record r { stage = HalfA }

abbrev out : Removal → Removal
out r = record r { stage = Unlisted }

abbrev half_b : Removal → Removal
half_b r = record r { stage = HalfB }

abbrev pub over : Removal → Removal
over r = record r { stage = Past }

-- the next list of paths, without the slot
abbrev pub order_out : Memory → ℕ → Order
order_out m slot = next_order m.order m.order.policy (without slot (slots_of m.order))

abbrev pub entry_out : Place → Memory → ℕ → OrderEntry
entry_out at m slot = record { order = order_out m slot; by = maker_of at }

-- the words once the slot is past its grace periods
abbrev pub out_words : Memory → ℕ → Memory
out_words m slot = record m { index = 1 - (1 - m.index); order = order_out m slot; currents = cleared the_slots slot m.currents }

-- the other removals are listed as they were
put_others : (o n : Order) (d : ℕ) (rest : List Removal) → slots_of n ≡ without d (slots_of o) → is_among (map slot_of rest) d ≡ false → AllByRecursion (IsPut o) rest → AllByRecursion (IsPut n) rest
put_others o n d [] lists none all = tt
put_others o n d (r ∷ rest) lists none all =
    let apart = or_false (r.slot == d) (is_among (map slot_of rest) d) none in
    (record { rest = all.0.rest; listed = ap (λ (ss : List ℕ). is_among ss r.slot) lists ∙ among_others d r.slot (slots_of o) apart.0 ∙ all.0.listed }, put_others o n d rest lists apart.1 all.1)

-- A removal was carried past its grace periods.
pub record Unlists (at : Place) (place : ℕ) (first : Option Deep) (k l : KeeperView) (a b : Core) (answer : Reaped) (m : Memory) (x : Beside) (before : List Removal) (r : Removal) (rest : List Removal) : Type 0 where
  pub keeper : KeeperView
  pub core : Core
  pub looks : List Look
  pub walking : Walking keeper core (out_words m r.slot) x before (over r ∷ rest)
  pub walk : IsWalk (maker_of at) place first looks keeper l core b answer
  pub state : (unlisted at (state_in m (with_keeper k x)) r.slot).state ≡ state_in (out_words m r.slot) (with_keeper keeper x)
  pub stored : orders_in keeper.entries ≡ orders_in k.entries ++ entry_out at m r.slot ∷ []
  pub left : core.view.left ≡ a.view.left - 1

-- what the list has after it
pub record Lists (at : Place) (m : Memory) (x : Beside) (d : ℕ) (rest : List Removal) : Type 0 where
  pub slots : slots_of (order_out m d) ≡ without d (slots_of m.order)
  pub gone : is_among (slots_of (order_out m d)) d ≡ false
  pub same : filter (is_among (slots_of (order_out m d))) (through_first (is_idle (state_in m x)) (map slot_of rest)) ≡ filter (is_among (slots_of m.order)) (through_first (is_idle (state_in m x)) (map slot_of rest))

pub lists_out : (at : Place) (m : Memory) (x : Beside) (d : ℕ) (rest : List Removal) → length (slots_of m.order) ≤ 8 → is_among (map slot_of rest) d ≡ false → Lists at m x d rest
lists_out at m x d rest few none =
    let slots : slots_of (order_out m d) ≡ without d (slots_of m.order) = slots_next m.order m.order.policy (without d (slots_of m.order)) (few_without d (slots_of m.order) few) in
    let first : List ℕ = through_first (is_idle (state_in m x)) (map slot_of rest) in
    record {
      slots = slots;
      gone = ap (λ (ss : List ℕ). is_among ss d) slots ∙ among_without d (slots_of m.order);
      same = ap (λ (ss : List ℕ). filter (is_among ss) first) slots ∙ filter_others d (slots_of m.order) first (through_others (is_idle (state_in m x)) d (map slot_of rest) none);
    }

-- the keeper after so many looks
abbrev keeper1 : Maker → Removal → List Removal → List Removal → ℕ → KeeperView → KeeperView
keeper1 by r before rest e k = closing_keeper by (marked r) before rest e k

abbrev keeper2 : Maker → Removal → List Removal → List Removal → ℕ → KeeperView → KeeperView
keeper2 by r before rest e k = closing_keeper by (half_a r) before rest e k

abbrev keeper3 : Maker → Removal → List Removal → List Removal → ℕ → KeeperView → KeeperView
keeper3 by r before rest e k = closing_keeper by (out r) before rest e k

abbrev keeper4 : Maker → Removal → List Removal → List Removal → ℕ → KeeperView → KeeperView
keeper4 by r before rest e k = closing_keeper by (half_b r) before rest e k

-- the keeper after the four looks
abbrev keeper_out : Maker → Removal → List Removal → List Removal → ℕ → ℕ → ℕ → ℕ → KeeperView → KeeperView
keeper_out by r before rest e f g h k = keeper4 by r before rest h (keeper3 by r before rest g (keeper2 by r before rest f (keeper1 by r before rest e k)))

orders_out : (by : Maker) (r : Removal) (before rest : List Removal) (e f g h : ℕ) (k : KeeperView) → orders_in (keeper_out by r before rest e f g h k).entries ≡ orders_in k.entries ++ entry_without k r.slot by ∷ []
orders_out by r before rest e f g h k =
    let k1 : KeeperView = keeper1 by r before rest e k in
    let k2 : KeeperView = keeper2 by r before rest f k1 in
    let k3 : KeeperView = keeper3 by r before rest g k2 in
    closing_more k3.entries (closing_of by k3 (half_b r) h)
    ∙ closing_more k2.entries (closing_of by k2 (out r) g)
    ∙ order_more (k1.entries ++ keep.Closing (closing_of by k1 (half_a r) f) ∷ []) (entry_without k r.slot by)
    ∙ ap (λ (os : List OrderEntry). os ++ entry_without k r.slot by ∷ []) (closing_more k1.entries (closing_of by k1 (half_a r) f) ∙ closing_more k.entries (closing_of by k (marked r) e))

-- what the four looks know
record Looks (by : Maker) (place : ℕ) (first : Option Deep) (k l : KeeperView) (a b : Core) (answer : Reaped) (m : Memory) (before : List Removal) (r : Removal) (rest : List Removal) : Type 0 where
  one : ℕ
  two : ℕ
  three : ℕ
  four : ℕ
  looks : List Look
  core : Core
  told : core.told ≡ Some (flipped_in (order_in (entry_without k r.slot by).order (cleared_upto_in r.slot 8 (flipped_in m))))
  left : core.view.left ≡ a.view.left - 1
  walk : IsWalk by place first looks (keeper_out by r before rest one two three four k) l core b answer

four_looks : (by : Maker) (place : ℕ) (first : Option Deep) (looks : List Look) (k l : KeeperView) (a b : Core) (answer : Reaped) (m : Memory) (x : Beside) (before : List Removal) (r : Removal) (rest : List Removal)
    → Walking k a m x before (r ∷ rest) → length before ≡ place → r.stage ≡ Marked → IsWalk by place first looks k l a b answer → Looks by place first k l a b answer m before r rest
four_looks by place first looks k l a b answer m x before r rest w at is walk =
    first_look (closes by place first looks k l a b answer m before (marked r) rest (record { removals = w.removals ∙ (λ j. before ++ record r { stage = is j } ∷ rest); place_is = at }) refl w.told w.nobody walk)
  where
    words : Memory
    words = order_in (entry_without k r.slot by).order (cleared_upto_in r.slot 8 (flipped_in m))

    fourth_look : (e f g : ℕ) (c : Core)
        → Closes by place first (keeper3 by r before rest g (keeper2 by r before rest f (keeper1 by r before rest e k))) l c b answer before (half_b r) rest
        → c.told ≡ Some (flipped_in (order_in (entry_without k r.slot by).order (cleared_upto_in r.slot 8 (flipped_in m)))) → c.view.left ≡ a.view.left - 1 → Looks by place first k l a b answer m before r rest
    fourth_look e f g c d told left = record {
      one = e;
      two = f;
      three = g;
      four = d.entries;
      looks = d.looks;
      core = d.seen;
      told = d.told ∙ told;
      left = d.left ∙ left;
      walk = d.walk;
    }

    third_look : (e f : ℕ) (c : Core)
        → Closes by place first (keeper2 by r before rest f (keeper1 by r before rest e k)) l c b answer before (out r) rest
        → c.told ≡ Some (order_in (entry_without k r.slot by).order (cleared_upto_in r.slot 8 (flipped_in m))) → c.view.left ≡ a.view.left - 1 → Looks by place first k l a b answer m before r rest
    third_look e f c d told left =
        let now : (flipped_core d.seen).told ≡ Some (flipped_in words) = ap (option_map flipped_in) (d.told ∙ told) in
        fourth_look e f d.entries (flipped_core d.seen)
        (closes by place first d.looks (keeper3 by r before rest d.entries (keeper2 by r before rest f (keeper1 by r before rest e k))) l (flipped_core d.seen) b answer (flipped_in words) before (half_b r) rest (record { removals = refl; place_is = at }) refl now w.nobody d.walk)
        now (d.left ∙ left)

    second_look : (e : ℕ) (c : Core)
        → Closes by place first (keeper1 by r before rest e k) l c b answer before (half_a r) rest
        → c.told ≡ Some (flipped_in m) → c.view.left ≡ a.view.left → Looks by place first k l a b answer m before r rest
    second_look e c d told left =
        let now : (unlisted_core r.slot (entry_without k r.slot by) d.seen).told ≡ Some words = ap (option_map (λ n. order_in (entry_without k r.slot by).order (cleared_upto_in r.slot 8 n))) (d.told ∙ told) in
        third_look e d.entries (unlisted_core r.slot (entry_without k r.slot by) d.seen)
        (closes by place first d.looks (keeper2 by r before rest d.entries (keeper1 by r before rest e k)) l (unlisted_core r.slot (entry_without k r.slot by) d.seen) b answer words before (out r) rest (record { removals = refl; place_is = at }) refl now w.nobody d.walk)
        now (ap (λ n. n - 1) (d.left ∙ left))

    first_look : Closes by place first k l a b answer before (marked r) rest → Looks by place first k l a b answer m before r rest
    first_look d =
        let now : (flipped_core d.seen).told ≡ Some (flipped_in m) = ap (option_map flipped_in) (d.told ∙ w.told) in
        second_look d.entries (flipped_core d.seen)
        (closes by place first d.looks (keeper1 by r before rest d.entries k) l (flipped_core d.seen) b answer (flipped_in m) before (half_a r) rest (record { removals = refl; place_is = at }) refl now w.nobody d.walk)
        now d.left

two_flips : (n : ℕ) → n + 2 ≡ n + 1 + 1
two_flips n = omega arith

pub unlists : (at : Place) (place : ℕ) (first : Option Deep) (looks : List Look) (k l : KeeperView) (a b : Core) (answer : Reaped) (m : Memory) (x : Beside) (before : List Removal) (r : Removal) (rest : List Removal)
    → Walking k a m x before (r ∷ rest) → length before ≡ place → r.stage ≡ Marked → IsWalk (maker_of at) place first looks k l a b answer → Unlists at place first k l a b answer m x before r rest
unlists at place first looks k l a b answer m x before r rest w place_is is walk =
    let f = four_looks (maker_of at) place first looks k l a b answer m x before r rest w place_is is walk in
    let n : KeeperView = keeper_out (maker_of at) r before rest f.one f.two f.three f.four k in
    let d : ℕ = r.slot in
    let order : order_out m d ≡ n.order = λ j. next_order (w.order j) (w.order j).policy (without d (slots_of (w.order j))) in
    let words : flipped_in (order_in n.order (cleared_upto_in d 8 (flipped_in m))) ≡ out_words m d =
    ap (λ (z : Memory). flipped_in (order_in n.order z)) (clears_words the_slots d (flipped_in m) w.currents) ∙ (λ j. record m { index = 1 - (1 - m.index); order = sym order j; currents = cleared the_slots d m.currents }) in
    let slots : slots_of n.order ≡ without d (slots_of k.order) = slots_next k.order k.order.policy (without d (slots_of k.order)) (few_without d (slots_of k.order) w.few) in
    let once = alone (map slot_of before) d (map slot_of rest) w.distinct in
    let removals : map slot_of k.removals ≡ map slot_of n.removals =
    ap (map slot_of) w.removals ∙ map-append slot_of before (r ∷ rest) ∙ sym (map-append slot_of before (over r ∷ rest)) in
    record {
      keeper = n;
      core = f.core;
      looks = f.looks;
      walking = record {
        removals = refl;
        order = order;
        within = ap (list_all (λ slot. nat_lt slot 15)) slots ∙ all_without d (slots_of k.order) w.within;
        few = subst (λ (ss : List ℕ). length ss ≤ 8) (sym slots) (few_without d (slots_of k.order) w.few);
        owners = w.owners;
        distinct = w.distinct;
        past = w.past;
        put = (record { rest = refl; listed = ap (λ (ss : List ℕ). is_among ss d) slots ∙ among_without d (slots_of k.order) }, put_others k.order n.order d rest slots once.behind w.put.1);
        told = f.told ∙ ap Some words;
        nobody = w.nobody;
        rows = w.rows;
        currents = cleared_length the_slots d m.currents ∙ w.currents;
        counted = w.counted;
      };
      walk = f.walk;
      state = λ j. record (state_in m x) { order = order_out m d; lasts = lasts_cleared m.order.policy the_slots d m.currents j; removals = removals j; flips = two_flips k.flips j };
      stored = orders_out (maker_of at) r before rest f.one f.two f.three f.four k ∙ (λ j. orders_in k.entries ++ record { order = sym order j; by = maker_of at } ∷ []);
      left = f.left;
    }
