-- A reap is the plain run's.
use Rattle.std.proofs.Common.{◌≡◌, ℕ, suc, ◌+◌, ◌-◌, ◌≤◌, ◌==◌, ◌&&◌, nat_lt, eqb, Bool, true, false, List, [], ◌∷◌, ◌++◌, length, map, Option, Some, None, refl, sym, ap, ◌∙◌, subst, arith, append-nil, append_assoc}
use Rattle.std.specs.List.{list_all, IsDistinct}
use Rattle.std.proofs.lemmas.List.{length-append}
use Rattle.std.proofs.lemmas.List.Folds.{list_all-append}
use Rattle.mp_words.specs.declared.entry.RowEntry.{RowEntry}
use Rattle.std.proofs.Math.Dec.{eqb-suc-zero}
use Rattle.mp_words.specs.declared.op.Maker.{Maker}
use Rattle.mp_words.specs.declared.order.Order.{Order}
use Rattle.mp_words.specs.Order.{slots_of}
use Rattle.mp_record.specs.declared.event.Event.{Event}
use Rattle.mp_record.specs.declared.event.Event.TheVariants as event
use Rattle.mp_record.specs.declared.event.Said.TheVariants as said
use Rattle.mp_core.specs.declared.view.Look.{Look}
use Rattle.mp_core.specs.Core.{Core}
use Rattle.mp_core.specs.Memory.{Memory, depth_at}
use Rattle.mp_keep.specs.declared.deep.Deep.{Deep}
use Rattle.mp_keep.specs.declared.reaped.Reaped.{Reaped}
use Rattle.mp_keep.specs.declared.reaped.Reaped.TheVariants.{Again}
use Rattle.mp_keep.specs.declared.stop.Stop.TheVariants.{Depth}
use Rattle.mp_keep.specs.declared.removal.Removal.{Removal}
use Rattle.mp_keep.specs.declared.stage.Stage.{Stage}
use Rattle.mp_keep.specs.declared.stage.Stage.TheVariants.{Marked, HalfA, Unlisted, HalfB, Past}
use Rattle.mp_keep.specs.Keeper.{KeeperView, StandsTo, is_listed, is_past, slots_differ}
use Rattle.mp_keep.specs.Walks.{Reaps, IsWalk, entries_of, first_of, ended_by}
use Rattle.mp_legal.specs.PlainKeep.{reaped, reaped_from, is_among, is_idle, unlisted}
use Rattle.mp_legal.specs.PlainState.{State}
use Rattle.mp_legal.specs.Stepped.{Stepped, Place, maker_of}
use Rattle.mp_legal.specs.ToldKeeper.{IsKeeperStep, KeepsAt, NobodyInside, is_at_rest, orders_in, reaped_said, with_keeper}
use Rattle.mp_legal.specs.ToldState.{Beside, IsAt, state_in}
use Rattle.mp_legal.proofs.KeptWords.{Leads, led_at, kept_state, still_step, few_slots}
use Rattle.mp_legal.proofs.PlainWalk.{walked_from, walk_listed, walk_past, walk_idle}
use Rattle.mp_legal.proofs.Freeing.{free_step}
use Rattle.mp_legal.proofs.Unlisting.{lists_out, unlists, out_words, entry_out, over}
use Rattle.mp_legal.proofs.Walking.{Walking, Walked, alone, put_all, slot_of, slots_distinct, slots_moved, walked_behind}
use Rattle.mp_legal.proofs.WalkSteps.{Looked, frees, goes, looks_depth, walk_ends}

-- what a walk remembers: the depth of the oldest removal, once it was looked at
abbrev Remembers : Option Deep → ℕ → Memory → List Removal → Type 0
Remembers None oldest m [] = ⊥
Remembers None oldest m (r ∷ rest) = oldest ≡ r.slot
Remembers (Some deep) oldest m rest = deep ≡ record { slot = oldest; depth = depth_at m oldest }

-- the law of a walk over the rest of the removals
abbrev Walks : Place → KeeperView → Core → Reaped → Beside → ℕ → List Removal → Type 0
Walks at l b answer x oldest rest =
    (place : ℕ) (first : Option Deep) (looks : List Look) (k : KeeperView) (a : Core) (m : Memory) (before : List Removal) → length before ≡ place → Walking k a m x before rest → Remembers first oldest m rest
    → IsWalk (maker_of at) place first looks k l a b answer → Walked (walked_from at (state_in m (with_keeper k x)) oldest (map slot_of rest)) k l a b m x (entries_of answer) (event.At at.line (reaped_said answer) ∷ [])

-- the walk behind a look
walked_seen : (step : Stepped) (k l : KeeperView) (a c b : Core) (m : Memory) (x : Beside) (made : List RowEntry) (told : List Event) → c.view.left ≡ a.view.left → Walked step k l c b m x made told → Walked step k l a b m x made told
walked_seen step k l a c b m x made told left w = record {
  memory = w.memory;
  told = w.told;
  sized = w.sized;
  depths = w.depths;
  currents = w.currents;
  keeps = w.keeps;
  state = w.state;
  rows = w.rows;
  orders = w.orders;
  events = w.events;
  left = w.left ∙ ap (λ n. n - (length step.rows + length step.orders)) left;
}

remembers_on : (first : Option Deep) (oldest n : ℕ) (m : Memory) (r : Removal) (rest : List Removal) → Remembers first oldest m (r ∷ rest) → depth_at m r.slot ≡ n → Remembers (Some (first_of first r.slot n)) oldest m rest
remembers_on None oldest n m r rest is depth = λ i. record { slot = sym is i; depth = (sym depth ∙ ap (depth_at m) (sym is)) i }
remembers_on (Some deep) oldest n m r rest is depth = is

-- a removal past its grace periods, and the rest behind it
past_removal : (at : Place) (l : KeeperView) (b : Core) (answer : Reaped) (x : Beside) (oldest : ℕ) (r : Removal) (rest : List Removal) → is_past r.stage ≡ true → is_listed r.stage ≡ false → Walks at l b answer x oldest rest → Walks at l b answer x oldest (r ∷ rest)
past_removal at l b answer x oldest r rest past unlisted_is later place first looks k a m before place_is w remembers walk =
    by (looks_depth (maker_of at) place first looks k l a b answer m before r rest (record { removals = w.removals; place_is = place_is }) past w.told walk)
  where
    gone : is_among (slots_of m.order) r.slot ≡ false
    gone = ap (λ (o : Order). is_among (slots_of o) r.slot) w.order ∙ w.put.0.listed ∙ unlisted_is

    idle : (n : ℕ) → depth_at m r.slot ≡ n → is_idle (state_in m (with_keeper k x)) r.slot ≡ (n == 0)
    idle n e = ap (λ d. d == 0) (sym (w.counted r.slot) ∙ e)

    by : Looked (maker_of at) place first k l a b answer m r → Walked (walked_from at (state_in m (with_keeper k x)) oldest (r.slot ∷ map slot_of rest)) k l a b m x (entries_of answer) (event.At at.line (reaped_said answer) ∷ [])
    by (frees f) =
        let is = walk_idle at (state_in m (with_keeper k x)) oldest r.slot (map slot_of rest) gone (idle 0 f.idle) in
        subst (λ (z : Reaped). Walked (walked_from at (state_in m (with_keeper k x)) oldest (r.slot ∷ map slot_of rest)) k l a b m x (entries_of z) (event.At at.line (reaped_said z) ∷ [])) (sym f.ends)
        (subst (λ (step : Stepped). Walked step k l a b m x (f.entry ∷ []) (event.At at.line (said.Freed f.entry.slot f.entry.row.version k.flips) ∷ [])) (sym is)
        (free_step at place k l a f.seen b m x before r rest f.entry w (record { removals = w.removals; place_is = place_is }) f.told f.left f.frees))
    by (goes g) =
        let is = walk_past at (state_in m (with_keeper k x)) oldest r.slot (map slot_of rest) gone (idle (suc g.over) g.busy ∙ eqb-suc-zero g.over) in
        let long = length-append before (r ∷ []) in
        let next : length (before ++ r ∷ []) ≡ place + 1 = omega arith in
        let on : Walking k g.seen m x (before ++ r ∷ []) rest = record {
          removals = w.removals ∙ sym (append_assoc before (r ∷ []) rest);
          order = w.order;
          within = w.within;
          few = w.few;
          owners = w.owners;
          distinct = subst (IsDistinct eqb) (sym (slots_moved before r rest)) w.distinct;
          past = list_all-append (λ (q : Removal). is_at_rest q.stage) before (r ∷ []) ∙ (λ i. w.past i && (w.put.0.rest i && true));
          put = w.put.1;
          told = g.told ∙ w.told;
          nobody = w.nobody;
          rows = w.rows;
          currents = w.currents;
          counted = w.counted;
        } in
        subst (λ (step : Stepped). Walked step k l a b m x (entries_of answer) (event.At at.line (reaped_said answer) ∷ [])) (sym is)
        (walked_seen (walked_from at (state_in m (with_keeper k x)) oldest (map slot_of rest)) k l a g.seen b m x (entries_of answer) (event.At at.line (reaped_said answer) ∷ []) g.left
        (later (place + 1) (Some (first_of first r.slot (suc g.over))) g.looks k g.seen m (before ++ r ∷ []) next on (remembers_on first oldest (suc g.over) m r rest remembers g.busy) g.walk))

-- a marked removal, and the rest behind it
marked_removal : (at : Place) (l : KeeperView) (b : Core) (answer : Reaped) (x : Beside) (oldest : ℕ) (r : Removal) (rest : List Removal) → r.stage ≡ Marked → Walks at l b answer x oldest rest → Walks at l b answer x oldest (r ∷ rest)
marked_removal at l b answer x oldest r rest is later place first looks k a m before place_is w remembers walk =
    let u = unlists at place first looks k l a b answer m x before r rest w place_is is walk in
    let once = alone (map slot_of before) r.slot (map slot_of rest) w.distinct in
    let lists = lists_out at m (with_keeper k x) r.slot rest (subst (λ (o : Order). length (slots_of o) ≤ 8) (sym w.order) w.few) once.behind in
    let there : is_among (slots_of m.order) r.slot ≡ true = ap (λ (o : Order). is_among (slots_of o) r.slot) w.order ∙ w.put.0.listed ∙ ap is_listed is in
    let steps = walk_listed at (state_in m (with_keeper k x)) oldest r.slot (map slot_of rest) there lists.gone lists.same in
    let behind : Walked (walked_from at (state_in (out_words m r.slot) (with_keeper u.keeper x)) oldest (r.slot ∷ map slot_of rest)) u.keeper l u.core b (out_words m r.slot) x (entries_of answer) (event.At at.line (reaped_said answer) ∷ []) =
    past_removal at l b answer x oldest (over r) rest refl refl later place first u.looks u.keeper u.core (out_words m r.slot) before place_is u.walking (still first remembers) u.walk in
    let moved : Walked (walked_from at (unlisted at (state_in m (with_keeper k x)) r.slot).state oldest (r.slot ∷ map slot_of rest)) u.keeper l u.core b (out_words m r.slot) x (entries_of answer) (event.At at.line (reaped_said answer) ∷ []) =
    subst (λ (t : State). Walked (walked_from at t oldest (r.slot ∷ map slot_of rest)) u.keeper l u.core b (out_words m r.slot) x (entries_of answer) (event.At at.line (reaped_said answer) ∷ [])) (sym u.state) behind in
    subst (λ (step : Stepped). Walked step k l a b m x (entries_of answer) (event.At at.line (reaped_said answer) ∷ [])) (sym steps)
    (walked_behind (unlisted at (state_in m (with_keeper k x)) r.slot) (walked_from at (unlisted at (state_in m (with_keeper k x)) r.slot).state oldest (r.slot ∷ map slot_of rest)) k u.keeper l a u.core b m (out_words m r.slot) x (entry_out at m r.slot) (entries_of answer) (event.At at.line (reaped_said answer) ∷ [])
    refl refl refl u.stored u.left refl moved)
  where
    still : (first : Option Deep) → Remembers first oldest m (r ∷ rest) → Remembers first oldest (out_words m r.slot) (over r ∷ rest)
    still None is = is
    still (Some deep) is = is

not_at_rest : {A : Type 0} (s t : Stage) → s ≡ t → is_at_rest s ≡ true → is_at_rest t ≡ false → A
not_at_rest s t e is off = by (is_at_rest t) (ap is_at_rest (sym e) ∙ is) off
  where
    by : {A : Type 0} (b : Bool) → b ≡ true → b ≡ false → A
    by true e f = absurd cc
    by false e f = absurd cc

-- the end of the removals
walk_none : (at : Place) (l : KeeperView) (b : Core) (answer : Reaped) (x : Beside) (oldest : ℕ) → Walks at l b answer x oldest []
walk_none at l b answer x oldest place first looks k a m before place_is w remembers walk =
    let long : length k.removals ≡ place = ap length (w.removals ∙ append-nil before) ∙ place_is in
    let e = walk_ends (maker_of at) place first looks k l a b answer long walk in
    by first remembers e.ends e.keeper e.core
  where
    by : (first : Option Deep) → Remembers first oldest m [] → answer ≡ ended_by first → l ≡ k → b ≡ a
        → Walked (walked_from at (state_in m (with_keeper k x)) oldest []) k l a b m x (entries_of answer) (event.At at.line (reaped_said answer) ∷ [])
    by None none_yet ends keeper core = absurd none_yet
    by (Some deep) is ends keeper core =
        let told : answer ≡ Again oldest (Depth (depth_at m oldest)) = ends ∙ (λ i. Again (is i).slot (Depth (is i).depth)) in
        subst (λ (z : Reaped). Walked (walked_from at (state_in m (with_keeper k x)) oldest []) k l a b m x (entries_of z) (event.At at.line (reaped_said z) ∷ [])) (sym told) (record {
          memory = m;
          told = ap (λ (c : Core). c.told) core ∙ w.told;
          sized = w.rows;
          depths = refl;
          currents = w.currents;
          keeps = record {
            order = w.order ∙ ap (λ (z : KeeperView). z.order) (sym keeper);
            within = ap (λ (z : KeeperView). list_all (λ slot. nat_lt slot 15) (slots_of z.order)) keeper ∙ w.within;
            owners = ap (λ (z : KeeperView). z.owners) keeper ∙ w.owners;
            removals = ap (λ (z : KeeperView). map slot_of z.removals) (sym keeper);
            rest = ap (λ (z : KeeperView). list_all (λ (q : Removal). is_at_rest q.stage) z.removals) keeper ∙ ap (list_all (λ (q : Removal). is_at_rest q.stage)) (w.removals ∙ append-nil before) ∙ w.past;
            flips = ap (λ (z : KeeperView). z.flips) (sym keeper);
          };
          state = ap (λ (z : KeeperView). state_in m (with_keeper z x)) (sym keeper);
          rows = refl;
          orders = ap (λ (z : KeeperView). orders_in z.entries) keeper ∙ sym (append-nil (orders_in k.entries));
          events = ap (λ n. event.At at.line (said.AgainDepth oldest n) ∷ []) (sym (w.counted oldest));
          left = ap (λ (c : Core). c.view.left) core ∙ none a.view.left;
        })
      where
        none : (n : ℕ) → n ≡ n - (0 + 0)
        none n = omega arith

walk_all : (at : Place) (l : KeeperView) (b : Core) (answer : Reaped) (x : Beside) (oldest : ℕ) (rest : List Removal) → Walks at l b answer x oldest rest
walk_all at l b answer x oldest [] = walk_none at l b answer x oldest
walk_all at l b answer x oldest (r ∷ rest) = by r.stage refl (walk_all at l b answer x oldest rest)
  where
    by : (s : Stage) → r.stage ≡ s → Walks at l b answer x oldest rest → Walks at l b answer x oldest (r ∷ rest)
    by Marked is later = marked_removal at l b answer x oldest r rest is later
    by HalfA is later = λ place first looks k a m before place_is w remembers walk. not_at_rest r.stage HalfA is w.put.0.rest refl
    by Unlisted is later = λ place first looks k a m before place_is w remembers walk. not_at_rest r.stage Unlisted is w.put.0.rest refl
    by HalfB is later = λ place first looks k a m before place_is w remembers walk. not_at_rest r.stage HalfB is w.put.0.rest refl
    by Past is later = past_removal at l b answer x oldest r rest (ap is_past is) (ap is_listed is) later

-- a walk is the call's
by_walk : (step : Stepped) (by : Maker) (k l : KeeperView) (a b : Core) (answer : Reaped) (m : Memory) (x : Beside) (told : List Event) → Reaps k l a b by answer → IsAt a m x → Walked step k l a b m x (entries_of answer) told
    → IsKeeperStep step k l a b x (entries_of answer) told
by_walk step by k l a b answer m x told h i w =
    let kept = h.kept in
    let leads : Leads a b m w.memory = record {
      carries = record { lane = kept.lane; home = kept.home; others = kept.others; inside = kept.inside; flights = kept.flights; start = kept.start };
      told = w.told;
      rows = w.sized;
      depths = w.depths;
      currents = w.currents;
    } in
    record {
      memory = w.memory;
      at = led_at a b m w.memory x l leads i;
      keeps = w.keeps;
      state = w.state;
      rows = w.rows;
      orders = w.orders;
      events = w.events;
      left = w.left;
      lane = kept.lane;
      home = kept.home;
      others = kept.others;
      keeping = kept.start;
    }

pub reap_step : (at : Place) (k l : KeeperView) (a b : Core) (answer : Reaped) (m : Memory) (x : Beside) → Reaps k l a b (maker_of at) answer → IsAt a m x → NobodyInside m → StandsTo k a.view → KeepsAt k (state_in m x)
    → IsKeeperStep (reaped at (state_in m x)) k l a b x (entries_of answer) (event.At at.line (reaped_said answer) ∷ [])
reap_step at k l a b answer m x h i nobody st ks = by k.removals refl
  where
    slots_are : (rs : List Removal) → k.removals ≡ rs → x.removals ≡ map slot_of rs
    slots_are rs e = ks.removals ∙ ap (map slot_of) e

    by : (rs : List Removal) → k.removals ≡ rs → IsKeeperStep (reaped at (state_in m x)) k l a b x (entries_of answer) (event.At at.line (reaped_said answer) ∷ [])
    by [] e =
        let ends = walk_ends (maker_of at) 0 None h.looks k l a b answer (ap length e) h.walk in
        subst (λ (z : Reaped). IsKeeperStep (reaped at (state_in m x)) k l a b x (entries_of z) (event.At at.line (reaped_said z) ∷ [])) (sym ends.ends)
        (subst (λ (ss : List ℕ). IsKeeperStep (reaped_from at (state_in m x) ss) k l a b x [] (event.At at.line said.Idle ∷ [])) (sym (slots_are [] e))
        (still_step k l a b m x (event.At at.line said.Idle ∷ []) ends.core ends.keeper i ks))
    by (r ∷ rest) e =
        let sound = st.sound in
        let d : IsDistinct eqb (map slot_of (r ∷ rest)) = slots_distinct (r ∷ rest) (ap slots_differ (sym e) ∙ sound.distinct) in
        let w : Walking k a m x [] (r ∷ rest) = record {
          removals = e;
          order = ks.order;
          within = ks.within;
          few = few_slots k.order sound.lawful;
          owners = ks.owners;
          distinct = d;
          past = refl;
          put = put_all k a.view st [] (r ∷ rest) e d (ap (list_all (λ (q : Removal). is_at_rest q.stage)) (sym e) ∙ ks.rest) (ap (list_all (λ (q : Removal). nat_lt q.slot 15)) (sym e) ∙ sound.within);
          told = i.told;
          nobody = nobody;
          rows = i.rows;
          currents = i.currents;
          counted = i.counted;
        } in
        let walked = walk_all at l b answer x r.slot (r ∷ rest) 0 None h.looks k a m [] refl w refl h.walk in
        subst (λ (ss : List ℕ). IsKeeperStep (reaped_from at (state_in m x) ss) k l a b x (entries_of answer) (event.At at.line (reaped_said answer) ∷ [])) (sym (slots_are (r ∷ rest) e))
        (subst (λ (s : State). IsKeeperStep (reaped_from at s (map slot_of (r ∷ rest))) k l a b x (entries_of answer) (event.At at.line (reaped_said answer) ∷ [])) (sym (kept_state k m x ks))
        (by_walk (walked_from at (state_in m (with_keeper k x)) r.slot (map slot_of (r ∷ rest))) (maker_of at) k l a b answer m x (event.At at.line (reaped_said answer) ∷ []) h i walked))
