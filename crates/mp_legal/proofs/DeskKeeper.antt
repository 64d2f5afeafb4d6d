-- The keeper's calls of a desk are the plain run's.
use Rattle.std.proofs.Common.{◌≡◌, ℕ, zero, suc, ◌+◌, ◌-◌, ◌≤◌, List, [], ◌∷◌, ◌++◌, map, length, get_or, option_map, Option, Some, None, Result, Ok, Err, refl, sym, ap, ◌∙◌, subst, arith, append-nil}
use Rattle.std.specs.List.{AllByRecursion}
use Rattle.std.proofs.lemmas.List.Elements.{filter-append}
use Rattle.mp_words.specs.declared.entry.RowEntry.{RowEntry}
use Rattle.mp_words.specs.declared.op.Gift.{Gift}
use Rattle.mp_words.specs.declared.op.Maker.{Maker}
use Rattle.mp_words.specs.declared.row.Policy.{Policy}
use Rattle.mp_words.specs.declared.words.Side.{Side}
use Rattle.mp_words.specs.Effect.{IsState, clears_of}
use Rattle.mp_record.specs.declared.event.Event.{Event}
use Rattle.mp_record.specs.declared.event.Event.TheVariants as event
use Rattle.mp_record.specs.declared.event.Said.TheVariants as said
use Rattle.mp_record.specs.RunView.{is_plain}
use Rattle.mp_core.specs.declared.view.Look.{Look}
use Rattle.mp_core.specs.declared.view.Look.TheVariants as look
use Rattle.mp_core.specs.declared.view.View.{View}
use Rattle.mp_core.specs.Core.{Core, stepped}
use Rattle.mp_core.specs.Memory.{Memory, row_in, order_in}
use Rattle.mp_core.specs.Views.{row_held, row_kept, order_stored, passed}
use Rattle.mp_change.specs.Clears.{emptied_upto_in, cleared_upto_in}
use Rattle.mp_keep.specs.declared.added.Added.{Added}
use Rattle.mp_keep.specs.declared.add_error.AddError.{AddError}
use Rattle.mp_keep.specs.declared.deep.Deep.{Deep}
use Rattle.mp_keep.specs.declared.reaped.Reaped.{Reaped}
use Rattle.mp_keep.specs.declared.remove_error.RemoveError.{RemoveError}
use Rattle.mp_keep.specs.declared.remove_error.RemoveError.TheVariants as refused
use Rattle.mp_keep.specs.declared.stage.Stage.{Stage}
use Rattle.mp_keep.specs.declared.stage.Stage.TheVariants.{Marked, HalfA, Unlisted, HalfB, Past}
use Rattle.mp_keep.specs.Keeper.{KeeperView, StandsTo, removal_at}
use Rattle.mp_keep.specs.Keeps.{AddTo, RemoveTo, added_view, added_in}
use Rattle.mp_keep.specs.Walks as walk
use Rattle.mp_words.specs.declared.entry.OrderEntry.{OrderEntry}
use Rattle.mp_desk.specs.declared.flying.Flying.{Flying}
use Rattle.mp_desk.specs.DeskView.{DeskView, noting, entering}
use Rattle.mp_desk.specs.Says.{entry_added, added_said, entry_marked, marked_said, reaped_said}
use Rattle.mp_desk.specs.Calls.{DeskCall, add, remove, set_policy, reap, Means, Stand, Adding, RemovalBegins, RemovalStays, SettingPolicy, Reaping, IsAloft, IsWaiting, with_room, maker_at}
use Rattle.mp_legal.specs.PlainKeep.{added, removed, policy_set, reaped}
use Rattle.mp_legal.specs.Stepped.{Stepped}
use Rattle.mp_legal.specs.ToldDesks.{SitsAt, AreInRun, KeepsIn, IsLaneCall, Leads, told_events, place_at, times}
use Rattle.mp_legal.specs.ToldKeeper.{IsKeeperStep, KeepsAt, with_keeper}
use Rattle.mp_legal.specs.ToldState.{Beside, state_in}
use Rattle.mp_legal.proofs.AddStep.{add_step}
use Rattle.mp_legal.proofs.RemoveStep.{remove_step}
use Rattle.mp_legal.proofs.PolicyStep.{policy_step}
use Rattle.mp_legal.proofs.ReapStep.{reap_step}
use Rattle.mp_legal.proofs.DeskChange.{clears_role, clears_sides, cleared_sides, emptied_sides, said_told}
use Rattle.mp_legal.proofs.DeskNobody.{nobody_same}
use Rattle.mp_legal.proofs.DeskRequests.{run_same}
use Rattle.mp_legal.proofs.KeeperKept.{stands_room, keeps_room}

abbrev sides_of : Memory → List Side
sides_of m = m.sides

-- The pass is whose it was, and the sides of the words are what they were.
record Passed (a b : Core) : Type 0 where
  alone : b.alone ≡ a.alone
  role : b.view.role ≡ a.view.role
  sides : option_map sides_of b.told ≡ option_map sides_of a.told

passed_same : (a b : Core) → b ≡ a → Passed a b
passed_same a b is = record { alone = ap (λ (c : Core). c.alone) is; role = ap (λ (c : Core). c.view.role) is; sides = ap (λ (c : Core). option_map sides_of c.told) is }

sides_kept : (change : Memory → Memory) (t : Option Memory) → ((w : Memory) → (change w).sides ≡ w.sides) → option_map sides_of (option_map change t) ≡ option_map sides_of t
sides_kept change None kept = refl
sides_kept change (Some w) kept = ap Some (kept w)

passed_step : (of_view : View → View) (change : Memory → Memory) (a b : Core) → b ≡ stepped of_view change a → (of_view a.view).role ≡ a.view.role → ((w : Memory) → (change w).sides ≡ w.sides) → Passed a b
passed_step of_view change a b is role kept = record {
  alone = ap (λ (c : Core). c.alone) is;
  role = ap (λ (c : Core). c.view.role) is ∙ role;
  sides = ap (λ (c : Core). option_map sides_of c.told) is ∙ sides_kept change a.told kept;
}

-- a call of the keeper's leads on
keeper_leads : (step : Stepped) (room : ℕ) (p q : Stand) (before : List ℕ) (m : Memory) (x : Beside) (made : List RowEntry) (told : List Event) → SitsAt p before m x → (calls : List DeskCall) → (AllByRecursion IsLaneCall calls → ⊥) → Passed p.core q.core
    → IsKeeperStep step (with_room room p.keeper) q.keeper p.core q.core x made told → StandsTo q.keeper q.core.view → q.desk ≡ entering made (noting told p.desk) → told_events told ≡ told → Leads step calls p q before m x
keeper_leads step room p q before m x made told h calls never pass k stands desk plain =
    let sits = h.sits in
    let memory_sides : k.memory.sides ≡ m.sides = inj k.memory.sides m.sides (ap (option_map sides_of) (sym k.at.told) ∙ pass.sides ∙ ap (option_map sides_of) h.at.told) in
    record {
      memory = k.memory;
      beside = with_keeper q.keeper x;
      sits = record {
        at = k.at;
        sits = record {
          closed = k.at.closed;
          flights = k.at.flights ∙ ap (λ l. get_or x.flights l []) k.lane ∙ sym h.at.flights ∙ sits.flights ∙ ap (λ (e : DeskView). map (λ (f : Flying). f.flight) e.flying) (sym desk);
          aloft = subst (λ (e : DeskView). AllByRecursion IsAloft e.flying) (sym desk) sits.aloft;
          waiting = subst (λ (e : DeskView). AllByRecursion IsWaiting e.out) (sym desk) sits.waiting;
        };
        own = subst (λ (l : ℕ). AllByRecursion (λ (f : Flying). f.flight.lane ≡ l) q.desk.flying) (sym k.lane) (subst (λ (e : DeskView). AllByRecursion (λ (f : Flying). f.flight.lane ≡ p.core.lane) e.flying) (sym desk) h.own);
        requests = subst (AreInRun (with_keeper q.keeper x)) (sym desk) (run_same x (with_keeper q.keeper x) (entering made (noting told p.desk)) (λ req. record { there = refl; told = refl; read = refl })
            (record { flying = h.requests.flying; out = h.requests.out; ended = h.requests.ended; once = h.requests.once }));
        waiting = h.waiting ∙ ap (λ (e : DeskView). before ++ map (λ r. r.id) e.out) (sym desk);
        nobody = nobody_same m k.memory memory_sides h.nobody;
        noted = h.noted;
      };
      state = k.state;
      rows = ap (λ (e : DeskView). e.rows) desk ∙ ap (λ (es : List RowEntry). p.desk.rows ++ es) (sym k.rows);
      orders = k.orders;
      events = ap (λ (e : DeskView). told_events e.events) desk ∙ filter-append is_plain p.desk.events told ∙ ap (λ (es : List Event). told_events p.desk.events ++ es) (plain ∙ sym k.events);
      pass = record { home = k.home; lane = k.lane; alone = pass.alone; others = k.others; role = pass.role; start = k.keeping };
      keeper = λ old. record { stands = stands; agrees = subst (KeepsAt q.keeper) k.state k.keeps };
      desk = λ req apart. subst (λ (e : DeskView). times req e ≤ times req p.desk) (sym desk) (omega arith);
      requests = λ req apart. record { there = refl; told = refl; read = refl };
      flights = λ lane apart. refl;
      agrees = λ lanes z sound old. absurd (never lanes);
    }
  where
    inj : (ss ts : List Side) → Some ss ≡ Some ts → ss ≡ ts
    inj ss ts e = cc

-- ---- an add

add_passed : (k l : KeeperView) (a b : Core) (gift : Gift) (by : Maker) (answer : Result Added AddError) → AddTo k l a b gift by answer → Passed a b
add_passed k l a b gift by (Err e) to = passed_same a b to.1
add_passed k l a b gift by (Ok added) to =
    let slot : ℕ = to.1 in
    let s = to.3 in
    passed_step (added_view slot s.old added) (added_in slot added) a b s.core
    (clears_role (clears_of added.row.op added.row.row) slot (order_stored added.order (row_kept added.row (row_held slot s.old a.view))))
    (λ w. clears_sides (clears_of added.row.op added.row.row) slot (order_in added.order.order (row_in slot added.row.row w)))

-- how far a step of the keeper's leads, and the units that it used
abbrev KeeperLed : Stepped → DeskCall → Stand → Stand → List ℕ → Memory → Beside → Type 0
KeeperLed step c p q before m x = Leads step (c ∷ []) p q before m x × (q.core.view.left ≡ p.core.view.left - (length step.rows + length step.orders))

room_stands : (room : ℕ) (p : Stand) (m : Memory) (x : Beside) → KeepsIn p m x → StandsTo (with_room room p.keeper) p.core.view
room_stands room p m x k = stands_room p.keeper (with_room room p.keeper) p.core.view refl k.stands

room_agrees : (room : ℕ) (p : Stand) (m : Memory) (x : Beside) → KeepsIn p m x → KeepsAt (with_room room p.keeper) (state_in m x)
room_agrees room p m x k = keeps_room p.keeper (with_room room p.keeper) (state_in m x) refl k.agrees

pub desk_add : (w : Means) (gift : Gift) (p q : Stand) (before : List ℕ) (m : Memory) (x : Beside) → SitsAt p before m x → KeepsIn p m x → IsState gift.state → Adding w gift p q → KeeperLed (added (place_at w p) (state_in m x) gift) (add gift) p q before m x
desk_add w gift p q before m x h k state s =
    let step : IsKeeperStep (added (place_at w p) (state_in m x) gift) (with_room s.room p.keeper) q.keeper p.core q.core x (entry_added s.answer) (event.At w.line (added_said s.answer) ∷ []) =
    add_step (place_at w p) gift (with_room s.room p.keeper) q.keeper p.core q.core s.answer m x s.adds h.at (room_stands s.room p m x k) (room_agrees s.room p m x k) state in
    (keeper_leads _ s.room p q before m x _ _ h (add gift ∷ []) (λ lanes. lanes.0) (add_passed (with_room s.room p.keeper) q.keeper p.core q.core gift (maker_at w p) s.answer s.adds.to) step s.adds.stands s.desk refl, step.left)

-- ---- the begin of a removal

remove_passed : (k l : KeeperView) (a b : Core) (ctrl : ℕ) (by : Maker) (answer : Result RowEntry RemoveError) → RemoveTo k l a b ctrl by answer → Passed a b
remove_passed k l a b ctrl by (Err (refused.NoPath order)) to = passed_same a b to.2
remove_passed k l a b ctrl by (Err (refused.Moved row)) to = let core = to.2.core in record { alone = ap (λ (c : Core). c.alone) core; role = ap (λ (c : Core). c.view.role) core; sides = ap (λ (c : Core). option_map sides_of c.told) core }
remove_passed k l a b ctrl by (Ok entry) to =
    let s = to.2 in passed_step (λ v. row_kept entry (row_held to.0 s.old v)) (row_in to.0 entry.row) a b s.core refl (λ w. refl)

-- where the words are told the row that was to be marked hasn't moved
pub told_marks : (w : Means) (ctrl : ℕ) (p q : Stand) (m : Memory) → p.core.told ≡ Some m → RemovalStays w ctrl p q → ⊥
told_marks w ctrl p q m told s = s.removes.to.2.untold m told

pub desk_remove : (w : Means) (ctrl : ℕ) (p q : Stand) (before : List ℕ) (m : Memory) (x : Beside) → SitsAt p before m x → KeepsIn p m x → RemovalBegins w ctrl p q → KeeperLed (removed (place_at w p) (state_in m x) ctrl) (remove ctrl) p q before m x
desk_remove w ctrl p q before m x h k s =
    let step : IsKeeperStep (removed (place_at w p) (state_in m x) ctrl) (with_room s.room p.keeper) q.keeper p.core q.core x (entry_marked s.answer) (map (event.At w.line) (marked_said s.answer)) =
    remove_step (place_at w p) ctrl (with_room s.room p.keeper) q.keeper p.core q.core s.answer m x s.removes h.at (room_stands s.room p m x k) (room_agrees s.room p m x k) in
    (keeper_leads _ s.room p q before m x _ _ h (remove ctrl ∷ []) (λ lanes. lanes.0) (remove_passed (with_room s.room p.keeper) q.keeper p.core q.core ctrl (maker_at w p) s.answer s.removes.to) step s.removes.stands s.desk (said_told w.line (marked_said s.answer)), step.left)

-- ---- the policy

pub desk_policy : (w : Means) (policy : Policy) (p q : Stand) (before : List ℕ) (m : Memory) (x : Beside) → SitsAt p before m x → KeepsIn p m x → SettingPolicy w policy p q → KeeperLed (policy_set (place_at w p) (state_in m x) policy) (set_policy policy) p q before m x
desk_policy w policy p q before m x h k s =
    let step : IsKeeperStep (policy_set (place_at w p) (state_in m x) policy) (with_room s.room p.keeper) q.keeper p.core q.core x [] (event.At w.line (said.Policy s.entry.order.version) ∷ []) =
    policy_step (place_at w p) policy (with_room s.room p.keeper) q.keeper p.core q.core s.entry m x s.sets h.at (room_stands s.room p m x k) (room_agrees s.room p m x k) in
    let pass : Passed p.core q.core = passed_step (λ v. passed (order_stored s.entry v)) (λ w. emptied_upto_in 8 (order_in s.entry.order w)) p.core q.core s.sets.core refl (λ w. emptied_sides 8 (order_in s.entry.order w)) in
    let desk : q.desk ≡ entering [] (noting (event.At w.line (said.Policy s.entry.order.version) ∷ []) p.desk) = s.desk ∙ (λ i. record (noting (event.At w.line (said.Policy s.entry.order.version) ∷ []) p.desk) { rows = sym (append-nil p.desk.rows) i }) in
    (keeper_leads _ s.room p q before m x _ _ h (set_policy policy ∷ []) (λ lanes. lanes.0) pass step s.sets.stands desk refl, step.left)

-- ---- a reap

behind_sides : (stage : Stage) (slot : ℕ) (e : OrderEntry) (c : Core) → option_map sides_of (walk.behind_core stage slot e c).told ≡ option_map sides_of c.told
behind_sides Marked slot e c = sides_kept _ c.told (λ w. refl)
behind_sides HalfA slot e c = sides_kept (λ m. order_in e.order (cleared_upto_in slot 8 m)) c.told (λ w. cleared_sides slot 8 w)
behind_sides Unlisted slot e c = sides_kept _ c.told (λ w. refl)
behind_sides HalfB slot e c = refl
behind_sides Past slot e c = refl

walk_sides : (by : Maker) (place : ℕ) (first : Option Deep) (looks : List Look) (k l : KeeperView) (a b : Core) (answer : Reaped) → walk.IsWalk by place first looks k l a b answer → option_map sides_of b.told ≡ option_map sides_of a.told
walk_sides by place first [] k l a b answer w = ap (λ (c : Core). option_map sides_of c.told) w.3
walk_sides by place first (look.Side side entries zero ∷ looks) k l a b answer w =
    walk_sides by place first looks (walk.closed_keeper by place entries k) l (walk.closed_core by place k w.0) b answer w.2
    ∙ behind_sides (removal_at k place).stage (removal_at k place).slot (walk.entry_without k (removal_at k place).slot by) w.0
    ∙ ap (λ (c : Core). option_map sides_of c.told) w.1.looks.after
walk_sides by place first (look.Side side entries (suc n) ∷ looks) k l a b answer w = ap (λ (c : Core). option_map sides_of c.told) w.0.looks.after
walk_sides by place first (look.Depth slot zero ∷ looks) k l a b answer w =
    let f = w.4 in
    ap (λ (c : Core). option_map sides_of c.told) f.core ∙ sides_kept _ w.0.told (λ m. refl) ∙ ap (λ (c : Core). option_map sides_of c.told) w.2.looks.after
walk_sides by place first (look.Depth slot (suc n) ∷ looks) k l a b answer w =
    walk_sides by (place + 1) _ looks k l w.0 b answer w.2 ∙ ap (λ (c : Core). option_map sides_of c.told) w.1.looks.after

pub desk_reap : (w : Means) (p q : Stand) (before : List ℕ) (m : Memory) (x : Beside) → SitsAt p before m x → KeepsIn p m x → Reaping w p q → KeeperLed (reaped (place_at w p) (state_in m x)) (reap) p q before m x
desk_reap w p q before m x h k s =
    let kept = s.reaps.kept in
    let step : IsKeeperStep (reaped (place_at w p) (state_in m x)) (with_room s.room p.keeper) q.keeper p.core q.core x (walk.entries_of s.answer) (event.At w.line (reaped_said s.answer) ∷ []) =
    reap_step (place_at w p) (with_room s.room p.keeper) q.keeper p.core q.core s.answer m x s.reaps h.at h.nobody (room_stands s.room p m x k) (room_agrees s.room p m x k) in
    let pass : Passed p.core q.core = record { alone = kept.alone; role = kept.role; sides = walk_sides (maker_at w p) 0 None s.reaps.looks (with_room s.room p.keeper) q.keeper p.core q.core s.answer s.reaps.walk } in
    (keeper_leads _ s.room p q before m x _ _ h (reap ∷ []) (λ lanes. lanes.0) pass step s.reaps.stands s.desk refl, step.left)
