-- Each kind of step keeps the rule.
use Rattle.std.proofs.Common.{◌≡◌, ◌≢◌, ℕ, zero, suc, ◌+◌, ◌-◌, ◌<◌, ◌≤◌, ◌==◌, max, eq-eqb, ne_eqb, cond, ◌&&◌, get_or, Bool, true, false, true≢false, List, [], ◌∷◌, ◌++◌, length, set, inl, inr, ⊎_elim, sym, refl, ap, ◌∙◌, subst, arith, Option, None, Some, if◌then◌else◌}
use mathlib.Core.Option.{some}
use mathlib.Core.Logic.{dite}
use native.Mathlib.Decide.{ℕ_discrete}
use lib.ListN.{get_elem?}
use Rattle.std.specs.List.{All}
use Rattle.std.proofs.lemmas.List.{length-append}
use Rattle.atomic_table.proofs.Lists.{set_else}
use Rattle.mp_words.specs.declared.row.Row.{Row}
use Rattle.mp_words.specs.declared.op.Op.{Op}
use Rattle.mp_words.specs.declared.op.Op.TheVariants as op
use Rattle.mp_words.specs.declared.op.Gift.{Gift}
use Rattle.mp_words.specs.declared.op.Maker.{Maker}
use Rattle.mp_words.specs.declared.order.Order.{Order}
use Rattle.mp_words.specs.declared.note.Note.{Note}
use Rattle.mp_words.specs.declared.flight.Flight.{Flight}
use Rattle.mp_words.specs.declared.entry.RowEntry.{RowEntry}
use Rattle.mp_words.specs.declared.entry.OrderEntry.{OrderEntry}
use Rattle.mp_words.specs.Row.{is_given, is_enabled, is_usable}
use Rattle.mp_words.specs.Facts.{IsRow, IsOrder}
use Rattle.mp_words.specs.Effect.{row_after, unless_slot}
use Rattle.mp_core.specs.declared.view.Section.{Section}
use Rattle.mp_core.specs.declared.view.Seen.{Seen}
use Rattle.mp_core.specs.declared.view.Role.{Role}
use Rattle.mp_core.specs.declared.view.Role.TheVariants as role
use Rattle.mp_core.specs.declared.view.Event.{Event}
use Rattle.mp_core.specs.declared.view.Event.TheVariants.{Gives, Marks, Scans, Clears, Orders, Zeros, Frees}
use Rattle.mp_core.specs.declared.view.Keeping.{Keeping}
use Rattle.mp_core.specs.declared.view.Start.{Start}
use Rattle.mp_core.specs.declared.view.View.{View}
use Rattle.mp_core.specs.Memory.{Memory, side_at, row_at, depth_at, current_at, entered_in, left_in, flipped_in, row_in, order_in, sent_in, landed_in, current_in, cleared_in}
use Rattle.mp_core.specs.Notes.{order_noted, row_noted, flight_noted, depth_noted, current_noted, row_of, with_note, HasRow, Lists, HasUsable, HasEnabled, ReadsNothing, ReadsAlone}
use Rattle.mp_core.specs.Unpacked.{start_order, first_status}
use Rattle.mp_core.specs.Status.{Status, unused, listed, bare, lists, status, is_used, MayOrder}
use Rattle.mp_core.specs.Views as view
use Rattle.mp_core.specs.Views.{seen_row, opened, entered, finished, noted, flying, has_flight, last_order, last_version}
use Rattle.mp_core.specs.Kinds.{IsLaneOp, Changes, entry_of, flight_of, status_at, IsNext}
use Rattle.mp_rule.specs.Sequence.{is_quiet, is_going}
use Rattle.mp_rule.specs.Rule.{Cells, cells_of, Each, keeping, tick, Reaches, Noted, Reads, EntrySpan, first_of, Keeps}
use Rattle.mp_rule.specs.History.{counts, order_at, ViewAt, ViewOrder, RowsAt, LaneEntries}
use Rattle.mp_rule.specs.Sums.{untried, unsent, in_open, in_done, tickets, times, Sums, Lanes}
use Rattle.mp_rule.specs.Holds.{start_row, IsSized, Holds}
use Rattle.mp_rule.proofs.Views.{each_set, each_snoc, keeping-same, keeping-own, keeping-else, keeping-snoc, keeping-event, kept, none_section, noted_enter, noted_end, noted_note, noted_same, all_none, all_more, at_here, by_case}
use Rattle.mp_rule.proofs.Notes.{blank_has, order_has, row_has, flight_has, depth_has, current_has, depth_formed, current_formed, none_order}
use Rattle.mp_rule.proofs.Sides.{some_inside}
use Rattle.mp_core.proofs.Flights.{length_less}
use Rattle.mp_rule.proofs.Slots.{put, not_quiet}
use Rattle.mp_rule.proofs.Ops.{lane_later, lane_given, lane_lawful, mark_lawful, give_lawful, give_given, free_lawful}
use Rattle.mp_rule.proofs.Rows.{rows_frame, rows_other, rows_change, rows_more, rows_join, view_calm, view_gain, view_held, view_seen, view_other, greatest_over, greatest_below, greatest_at}
use Rattle.mp_rule.proofs.OrderHistory.{orders_same, order_same, order_load, orders_next, orders_more, orders_join}
use Rattle.mp_rule.proofs.Sums.{sums_view, sums_row, sums_order, sums_enter, sums_leave, sums_split, sums_join, sums_as}
use Rattle.mp_rule.proofs.Lanes.{lanes_step, lanes_view, lanes_split, lanes_join}
use Rattle.mp_rule.proofs.Cells.{entered_is, left_is, row_is, row_put, sent_is, landed_is, current_is, entered_sized, left_sized, row_sized, sent_sized, landed_sized, current_sized}
use Rattle.mp_rule.proofs.Graces as graces
use Rattle.mp_rule.proofs.Graces.{current_cells, row_cells}
use Rattle.mp_words.proofs.Places.{cases_lt}
use Rattle.mp_words.specs.Effect.{free_row}

-- one view changes, with the same entries, and the rows and the order stay
pub hold_step : (start : Start) (id : ℕ) (v w : View) (m n : Memory) (views : List View) → Holds start m views → get_elem? views id ≡ some v → IsSized n → w.keeping.start ≡ v.keeping.start → Keeps (first_of start) (cells_of n) (set views id w) → Sums start.units (cells_of n) (set views id w) → Lanes n.index (set views id w) → w.entries ≡ v.entries
    → ((s : ℕ) → ViewAt s (start_row start s) (row_at m s) views w) → ViewOrder (start_order start) m.order (keeping views) id w → ((k : ℕ) → order_at k (start_order start) (keeping (set views id w)) ≡ order_at k (start_order start) (keeping views)) → row_at n ≡ row_at m → n.order ≡ m.order → Holds start n (set views id w)
hold_step start id v w m n views h at sized same kept_graces sums lanes entries seen read events rows order =
    let news : List View = set views id w in record {
      sized = sized;
      starts = each_set (λ _ u. u.keeping.start ≡ start) views id w (λ j u d a. h.starts j u a) (same ∙ h.starts id v at);
      graces = kept_graces;
      sums = sums;
      lanes = lanes;
      rows = λ s. subst (λ (f : ℕ → Row). RowsAt s (start_row start s) (f s) news) (sym rows) (rows_frame s (start_row start s) (row_at m s) views id v w (h.rows s) at (λ P k. subst (All (λ (e : RowEntry). e.slot ≡ s → P e)) (sym entries) (k id v at)) (λ k. ap (counts s k) entries) (seen s));
      orders = subst (λ (o : Order). Each (ViewOrder (start_order start) o (keeping news)) news) (sym order) (orders_same (start_order start) m.order (keeping views) (keeping news) news events (each_set (ViewOrder (start_order start) m.order (keeping views)) views id w (λ j u d a. h.orders j u a) read));
      made = each_set LaneEntries views id w (λ j u d a. h.made j u a) (λ d. subst (All (λ (e : RowEntry). IsLaneOp e.op)) (sym entries) (h.made id v at d));
      lawful = λ s. subst (λ (f : ℕ → Row). IsRow (f s)) (sym rows) (h.lawful s);
      order = subst IsOrder (sym order) h.order;
    }

-- the same, where nothing is read, nothing is seen, and the sequence stays
calm_step : (start : Start) (id : ℕ) (v w : View) (m n : Memory) (views : List View) → Holds start m views → get_elem? views id ≡ some v → IsSized n → w.keeping.start ≡ v.keeping.start → Keeps (first_of start) (cells_of n) (set views id w) → Sums start.units (cells_of n) (set views id w) → Lanes n.index (set views id w) → w.entries ≡ v.entries → w.seen ≡ v.seen → w.keeping.last ≡ None
    → ((s : ℕ) (Q : Row → Type 0) → Noted (Reads Q s) v → Noted (Reads Q s) w) → ((Q : Order → Type 0) → Noted (λ n. (o : Order) → n.order ≡ Some o → Q o) v → Noted (λ n. (o : Order) → n.order ≡ Some o → Q o) w) → ((k : ℕ) → order_at k (start_order start) (keeping (set views id w)) ≡ order_at k (start_order start) (keeping views)) → row_at n ≡ row_at m → n.order ≡ m.order → Holds start n (set views id w)
calm_step start id v w m n views h at sized same kept_graces sums lanes entries seen none reads orders events rows order =
    hold_step start id v w m n views h at sized same kept_graces sums lanes entries
    (λ s. view_calm s (start_row start s) (row_at m s) views v w ((h.rows s).each id v at) (ap (λ (q : Seen). view.greatest s q.rows) seen) entries none (reads s))
    (order_same (start_order start) m.order (keeping views) id v w (h.orders id v at) (ap (λ (q : Seen). q.order) seen) orders)
    events rows order

-- a step of the keeper that its sequence keeps, and that is no order
event_same : (start : Start) (id : ℕ) (v w : View) (e : Event) (m : Memory) (views : List View) → Holds start m views → get_elem? views id ≡ some v → v.role ≡ role.Keeper → w.keeping.events ≡ e ∷ v.keeping.events → ((k : ℕ) (es : List Event) → order_at k (start_order start) (e ∷ es) ≡ order_at k (start_order start) es) → (k : ℕ) → order_at k (start_order start) (keeping (set views id w)) ≡ order_at k (start_order start) (keeping views)
event_same start id v w e m views h at keeper events same k = ap (order_at k (start_order start)) (keeping-event views id v w e (h.graces.keeper id v at keeper) at events) ∙ same k (keeping views)

-- a load of the side index
pub k1 : (start : Start) (id : ℕ) (v : View) (m : Memory) (views : List View) → Holds start m views → get_elem? views id ≡ some v → Holds start m (set views id (view.passed v))
k1 start id v m views h at =
    let w : View = view.passed v in
    calm_step start id v w m m views h at h.sized refl
    (graces.unchanged (first_of start) (cells_of m) views id v w h.graces at refl refl refl refl refl refl refl)
    (sums_view start.units (cells_of m) views id v w h.sums at (omega arith) (omega arith) (omega arith) (λ x t. refl))
    (lanes_view m.index views id v w h.lanes at refl refl refl (λ e. record { left = e.left; inside = e.inside; done = e.done; flights = e.flights; entries = e.entries }))
    refl refl refl (λ s Q o. o) (λ Q o. o) (λ k. ap (order_at k (start_order start)) (keeping-same views id v w at refl)) refl refl

-- what it tells
pub k1_tells : (start : Start) (m : Memory) (views : List View) → Holds start m views → m.index < 2
k1_tells start m views h = h.lanes.range

-- an enter
pub k2 : (start : Start) (id : ℕ) (v : View) (lane side : ℕ) → side < 2 → v.inside ≡ None → 1 ≤ v.left → (m : Memory) (views : List View) → Holds start m views → get_elem? views id ≡ some v → Holds start (entered_in side m) (set views id (entered (opened lane side (side_at m side).entries) v))
k2 start id v lane side low closed some_left m views h at =
    let t : ℕ = (side_at m side).entries in
    let w : View = entered (opened lane side t) v in
    let news : List View = set views id w in
    let is = entered_is m side h.sized low in
    calm_step start id v w m (entered_in side m) views h at (entered_sized m side h.sized) refl
    (subst (λ (c : Cells). Keeps (first_of start) c news) (sym is) (graces.k2 (first_of start) id v lane side t low closed (cells_of m) views refl h.graces at))
    (subst (λ (c : Cells). Sums start.units c news) (sym is) (sums_enter start.units (cells_of m) views id v lane side t refl (h.graces.sides side).below h.sums at closed some_left))
    (lanes_view m.index views id v w h.lanes at refl refl refl (λ e. let z = e.left in absurd (omega arith)))
    refl refl refl
    (λ s Q. noted_enter (Reads Q s) (opened lane side t) v (λ r x. absurd (blank_has lane side t s r x)))
    (λ Q. noted_enter (λ n. (o : Order) → n.order ≡ Some o → Q o) (opened lane side t) v (λ o e. absurd (none_order o e)))
    (λ k. ap (order_at k (start_order start)) (keeping-same views id v w at refl)) refl refl

-- a leave
pub k3 : (start : Start) (id : ℕ) (v : View) (t : Section) → v.inside ≡ Some t → (m : Memory) (views : List View) → Holds start m views → get_elem? views id ≡ some v → Holds start (left_in t.note.side m) (set views id (finished t v))
k3 start id v t is_open m views h at =
    let x : ℕ = t.note.side in
    let w : View = finished t v in
    let news : List View = set views id w in
    let is = left_is m x h.sized (h.graces.formed id v at t is_open).side in
    calm_step start id v w m (left_in x m) views h at (left_sized m x h.sized) refl
    (subst (λ (c : Cells). Keeps (first_of start) c news) (sym is) (graces.k3 (first_of start) id v t is_open (cells_of m) views h.graces at))
    (subst (λ (c : Cells). Sums start.units c news) (sym is) (sums_leave start.units (cells_of m) views id v t (some_inside x _ _ (keeping views) views id v t (h.graces.sides x) at is_open refl) h.sums at is_open))
    (lanes_view m.index views id v w h.lanes at refl refl refl (λ e. absurd (none_section t (sym e.inside ∙ is_open))))
    refl refl refl
    (λ s Q. noted_end (Reads Q s) t v is_open)
    (λ Q. noted_end (λ n. (o : Order) → n.order ≡ Some o → Q o) t v is_open)
    (λ k. ap (order_at k (start_order start)) (keeping-same views id v w at refl)) refl refl

-- a scan
pub k4 : (start : Start) (id : ℕ) (v : View) (side : ℕ) → side < 2 → v.role ≡ role.Keeper → (m : Memory) (views : List View) → Holds start m views → get_elem? views id ≡ some v → Holds start m (set views id (view.scanned side (side_at m side).entries (side_at m side).inside (last_version v) v))
k4 start id v side low keeper m views h at = dite (ℕ_discrete n 0) nobody somebody
  where
    n : ℕ
    n = (side_at m side).inside

    o : ℕ
    o = last_version v

    e : ℕ
    e = (side_at m side).entries

    w : View
    w = view.scanned side e n o v

    other : Keeps (first_of start) (cells_of m) (set views id w) → ((k : ℕ) → order_at k (start_order start) (keeping (set views id w)) ≡ order_at k (start_order start) (keeping views)) → Holds start m (set views id w)
    other g events = calm_step start id v w m m views h at h.sized refl g
        (sums_view start.units (cells_of m) views id v w h.sums at (omega arith) (omega arith) (omega arith) (λ x t. refl))
        (lanes_view m.index views id v w h.lanes at refl refl refl (λ e. record { left = e.left; inside = e.inside; done = e.done; flights = e.flights; entries = e.entries }))
        refl refl refl (λ s Q o. o) (λ Q o. o) events refl refl

    nobody : n ≡ 0 → Holds start m (set views id w)
    nobody z =
        let events : w.keeping.events ≡ Scans side e o ∷ v.keeping.events = ap (λ (b : Bool). if b then Scans side e o ∷ v.keeping.events else v.keeping.events) (eq-eqb n 0 z) in
        other
        (graces.after_event (first_of start) (cells_of m) views id v w (Scans side e o) at refl refl refl refl refl events (λ g s k. k) (graces.k4 (first_of start) id v side o low keeper (cells_of m) views h.graces at z))
        (event_same start id v w (Scans side e o) m views h at keeper events (λ k es. refl))

    somebody : n ≢ 0 → Holds start m (set views id w)
    somebody z =
        let events : w.keeping.events ≡ v.keeping.events = ap (λ (b : Bool). if b then Scans side e o ∷ v.keeping.events else v.keeping.events) (ne_eqb n 0 z) in
        other
        (graces.unchanged (first_of start) (cells_of m) views id v w h.graces at refl refl refl refl refl refl events)
        (λ k. ap (order_at k (start_order start)) (keeping-same views id v w at events))

-- a flip
pub k5 : (start : Start) (id : ℕ) (v : View) → v.role ≡ role.Keeper → (m : Memory) (views : List View) → Holds start m views → get_elem? views id ≡ some v → Holds start (flipped_in m) (set views id (view.flipped v))
k5 start id v keeper m views h at =
    let w : View = view.flipped v in
    let mine = h.graces.keeper id v at keeper in
    let range = h.lanes.range in
    calm_step start id v w m (flipped_in m) views h at record { sides = h.sized.sides; rows = h.sized.rows; depths = h.sized.depths; currents = h.sized.currents } refl
    (graces.unchanged (first_of start) (cells_of m) views id v w h.graces at refl refl refl refl refl refl refl)
    (sums_view start.units (cells_of m) views id v w h.sums at (omega arith) (omega arith) (omega arith) (λ x t. refl))
    (lanes_step m.index (1 - m.index) views id v w h.lanes at refl (λ _. refl) (omega arith) (λ z. ap (λ (i : ℕ). 1 - i) (h.lanes.own id v at z)) (λ j d z. absurd (d (z ∙ sym mine))) (λ e. record { left = e.left; inside = e.inside; done = e.done; flights = e.flights; entries = e.entries }))
    refl refl refl (λ s Q o. o) (λ Q o. o) (λ k. ap (order_at k (start_order start)) (keeping-same views id v w at refl)) refl refl

-- a split
pub k6 : (start : Start) (id : ℕ) (v : View) (lane n : ℕ) → v.role ≡ role.Keeper → n ≤ v.left → times lane v.keeping.out ≡ 0 → (m : Memory) (views : List View) → Holds start m views → get_elem? views id ≡ some v → Holds start m (set views id (view.kept_part lane n v) ++ view.new_part lane n v ∷ [])
k6 start id v lane n keeper enough fresh m views h at =
    let left : View = view.kept_part lane n v in
    let right : View = view.new_part lane n v in
    let mid : List View = set views id left in
    let news : List View = mid ++ right ∷ [] in
    let mine = h.graces.keeper id v at keeper in
    let events : keeping news ≡ keeping views = keeping-snoc mid right refl ∙ keeping-same views id v left at refl in
    let here : get_elem? mid id ≡ some left = graces_at views id v left at in
    let o = h.orders id v at in record {
      sized = h.sized;
      starts = each_snoc (λ _ u. u.keeping.start ≡ start) mid right (each_set (λ _ u. u.keeping.start ≡ start) views id left (λ j u d a. h.starts j u a) (h.starts id v at)) (λ j. h.starts id v at);
      graces = graces.k6 (first_of start) id v left right refl refl refl refl refl refl refl lane_keeper refl refl refl refl refl refl (cells_of m) views h.graces at;
      sums = sums_split start.units (cells_of m) views id v left right n h.sums at (omega arith) refl refl refl refl refl refl refl;
      lanes = lanes_split m.index views id v left right lane h.lanes at mine fresh refl refl refl (λ e. keeper_spent (sym keeper ∙ e)) refl;
      rows = λ s. let k = (h.rows s).each id v at in rows_more s (start_row start s) (row_at m s) mid right
          (rows_frame s (start_row start s) (row_at m s) views id v left (h.rows s) at (λ P y. y id v at) (λ y. refl) (view_calm s (start_row start s) (row_at m s) views v left k refl refl refl (λ Q y. y)))
          refl refl refl refl k.from k.to;
      orders = orders_same (start_order start) m.order (keeping views) (keeping news) news (λ k. ap (order_at k (start_order start)) events)
          (orders_more (start_order start) m.order (keeping views) mid id left right (each_set (ViewOrder (start_order start) m.order (keeping views)) views id left (λ j u d a. h.orders j u a) (order_same (start_order start) m.order (keeping views) id v left o refl (λ Q y. y))) here o.from o.to refl refl);
      made = each_snoc LaneEntries mid right (each_set LaneEntries views id left (λ j u d a. h.made j u a) (h.made id v at)) (λ j d. all_none (λ (e : RowEntry). IsLaneOp e.op));
      lawful = h.lawful;
      order = h.order;
    }
  where
    graces_at : (l : List View) (id : ℕ) (v w : View) → get_elem? l id ≡ some v → get_elem? (set l id w) id ≡ some w
    graces_at l id v w e = at_here l id v w e

    is_keeper : Role → Type 0
    is_keeper role.Keeper = Unit {0}
    is_keeper role.Spent = ⊥
    is_keeper (role.Lane l) = ⊥

    lane_keeper : role.Lane lane ≡ role.Keeper → ⊥
    lane_keeper e = subst is_keeper (sym e) tt

    keeper_spent : role.Keeper ≡ role.Spent → ⊥
    keeper_spent e = subst is_keeper e tt

-- a join: the other has no open section and no flight
pub k7 : (start : Start) (id : ℕ) (v : View) (other : ℕ) (w : View) → v.role ≡ role.Keeper → w.inside ≡ None → w.flights ≡ [] → (m : Memory) (views : List View) → Holds start m views → get_elem? views id ≡ some v → other ≢ id → get_elem? (set views id (view.joined v w)) other ≡ some w → Holds start m (set (set views id (view.joined v w)) other (view.spent w))
k7 start id v other w keeper closed landed m views h at apart there =
    let both : View = view.joined v w in
    let mid : List View = set views id both in
    let gone : View = view.spent w in
    let news : List View = set mid other gone in
    let mine = h.graces.keeper id v at keeper in
    let old : get_elem? views other ≡ some w = sym (set_else views id other both apart) ∙ there in
    let not_keeper : w.role ≡ role.Keeper → ⊥ = λ e. apart (h.graces.keeper other w old e ∙ sym mine) in
    let events : keeping news ≡ keeping views = keeping-else mid other gone (λ z. apart (z ∙ sym mine)) ∙ keeping-same views id v both at refl in record {
      sized = h.sized;
      starts = each_set (λ _ u. u.keeping.start ≡ start) mid other gone (λ j u _ e. each_set (λ _ u. u.keeping.start ≡ start) views id both (λ j u d a. h.starts j u a) (h.starts id v at) j u e) (h.starts other w old);
      graces = graces.k7 (first_of start) id v other w keeper closed landed (cells_of m) views h.graces at apart there;
      sums = sums_join start.units (cells_of m) views id other v w h.sums at there closed landed;
      lanes = lanes_join m.index views id other v w h.lanes at apart there mine not_keeper (λ e. keeper_spent (sym keeper ∙ e));
      rows = λ s. rows_join s (start_row start s) (row_at m s) views id other v w (h.rows s) at apart there;
      orders = orders_same (start_order start) m.order (keeping views) (keeping news) news (λ k. ap (order_at k (start_order start)) events) (orders_join (start_order start) m.order (keeping views) views id other v w h.orders at apart there mine);
      made = each_set LaneEntries mid other gone (λ j u _ e. each_set LaneEntries views id both (λ j u d a. h.made j u a) (λ d. absurd (d mine)) j u e) (λ d. all_none (λ (e : RowEntry). IsLaneOp e.op));
      lawful = h.lawful;
      order = h.order;
    }
  where
    is_keeper : Role → Type 0
    is_keeper role.Keeper = Unit {0}
    is_keeper role.Spent = ⊥
    is_keeper (role.Lane l) = ⊥

    keeper_spent : role.Keeper ≡ role.Spent → ⊥
    keeper_spent e = subst is_keeper e tt

-- the view with this open section, and these seen versions
abbrev pub noting : Section → Seen → View → View
noting u q v = record (noted u v) { seen = q }

-- 1 where it is still to come
abbrev not_yet : Bool → ℕ
not_yet b = cond b 0 1

-- a step of the open section that leaves rows, order and sides
note_hold : (start : Start) (id : ℕ) (v : View) (t u : Section) (q : Seen) → v.inside ≡ Some t → u.note.side ≡ t.note.side → u.note.ticket ≡ t.note.ticket → u.tried ≡ t.tried → u.sent ≡ t.sent → (m n : Memory) (views : List View) → Holds start m views → get_elem? views id ≡ some v
    → IsSized n → (cells_of n).entries ≡ (cells_of m).entries → (cells_of n).inside ≡ (cells_of m).inside → row_at n ≡ row_at m → n.order ≡ m.order → n.index ≡ m.index
    → Keeps (first_of start) (cells_of n) (set views id (noting u q v)) → ((s : ℕ) → ViewAt s (start_row start s) (row_at m s) views (noting u q v)) → ViewOrder (start_order start) m.order (keeping views) id (noting u q v) → Holds start n (set views id (noting u q v))
note_hold start id v t u q is_open side ticket tried sent m n views h at sized entries inside rows order index g seen read =
    let w : View = noting u q v in
    let news : List View = set views id w in
    let same_tickets : (x y : ℕ) → tickets x y w ≡ tickets x y v = λ x y. ap (λ (k : ℕ). k + in_done x y v.done) (ap (λ (p : ℕ × ℕ). cond (p.0 == x) (tick (p.1 == y)) 0) (λ i. (side i, ticket i)) ∙ sym (ap (in_open x y) is_open)) in
    let a : untried w.inside ≡ untried v.inside = ap not_yet tried ∙ sym (ap untried is_open) in
    let b : unsent w.inside ≡ unsent v.inside = ap not_yet sent ∙ sym (ap unsent is_open) in
    hold_step start id v w m n views h at sized refl g
    (sums_as start.units (cells_of m) (cells_of n) news entries inside rows order (sums_view start.units (cells_of m) views id v w h.sums at (omega arith) (omega arith) (omega arith) same_tickets))
    (subst (λ (i : ℕ). Lanes i news) (sym index) (lanes_view m.index views id v w h.lanes at refl refl refl (λ e. absurd (none_section t (sym e.inside ∙ is_open)))))
    refl seen read (λ k. ap (order_at k (start_order start)) (keeping-same views id v w at refl)) rows order

-- the note has the same rows and order
same_hold : (start : Start) (id : ℕ) (v : View) (t u : Section) → v.inside ≡ Some t → u.note.side ≡ t.note.side → u.note.ticket ≡ t.note.ticket → u.note.order ≡ t.note.order → u.tried ≡ t.tried → u.sent ≡ t.sent → ((s : ℕ) (row : Row) → HasRow u.note s row → HasRow t.note s row) → (m n : Memory) (views : List View) → Holds start m views → get_elem? views id ≡ some v
    → IsSized n → (cells_of n).entries ≡ (cells_of m).entries → (cells_of n).inside ≡ (cells_of m).inside → row_at n ≡ row_at m → n.order ≡ m.order → n.index ≡ m.index → Keeps (first_of start) (cells_of n) (set views id (noted u v)) → Holds start n (set views id (noted u v))
same_hold start id v t u is_open side ticket order_same_as tried sent rows_same m n views h at sized entries inside rows order index g =
    let w : View = noted u v in
    note_hold start id v t u v.seen is_open side ticket tried sent m n views h at sized entries inside rows order index g
    (λ s. view_calm s (start_row start s) (row_at m s) views v w ((h.rows s).each id v at) refl refl refl (λ Q o. noted_note (Reads Q s) u v w refl refl (λ r x. o.0 t is_open r (rows_same s r x)) o))
    (order_same (start_order start) m.order (keeping views) id v w (h.orders id v at) refl (λ Q o. noted_note (λ n. (y : Order) → n.order ≡ Some y → Q y) u v w refl refl (λ y e. o.0 t is_open y (sym order_same_as ∙ e)) o))

-- a load of the list
pub k8 : (start : Start) (id : ℕ) (v : View) (t : Section) → v.inside ≡ Some t → ReadsNothing t.note → (m : Memory) (views : List View) → Holds start m views → get_elem? views id ≡ some v → Holds start m (set views id (view.order_read m.order (with_note (order_noted m.order t.note) t) v))
k8 start id v t is_open nothing m views h at =
    let u : Section = with_note (order_noted m.order t.note) t in
    let q : Seen = record (v.seen) { order = m.order.version } in
    let w : View = noting u q v in
    note_hold start id v t u q is_open refl refl refl refl m m views h at h.sized refl refl refl refl refl
    (graces.k8 (first_of start) id v w t is_open nothing.1 (cells_of m) views h.order h.graces at refl refl refl refl refl refl refl)
    (λ s. view_gain s (start_row start s) (row_at m s) views v w t u (h.rows s) ((h.rows s).each id v at) is_open refl refl refl (omega arith) ((h.rows s).each id v at).to refl (λ r x. absurd (order_has m.order t.note s r (h.graces.formed id v at t is_open) nothing.1 x)))
    (order_load (start_order start) m.order (keeping views) id v w t u (h.orders id v at) h.graces.stored refl refl refl refl)

-- a load of a row of a slot of the section's order
pub k9 : (start : Start) (id : ℕ) (v : View) (t : Section) (x : ℕ) → v.inside ≡ Some t → Lists t.note x → Reaches x t.note v → (m : Memory) (views : List View) → Holds start m views → get_elem? views id ≡ some v → Holds start m (set views id (view.row_read x (row_at m x) (with_note (row_noted x (row_at m x) t.note) t) v))
k9 start id v t x is_open lists reach m views h at =
    let r : Row = row_at m x in
    let u : Section = with_note (row_noted x r t.note) t in
    let q : Seen = record (v.seen) { rows = record { slot = x; version = r.version } ∷ v.seen.rows } in
    let w : View = noting u q v in
    note_hold start id v t u q is_open refl refl refl refl m m views h at h.sized refl refl refl refl refl
    (graces.k9 (first_of start) id v w t x is_open lists reach (cells_of m) views h.graces at refl refl refl refl refl refl refl)
    (λ s. view_gain s (start_row start s) (row_at m s) views v w t u (h.rows s) ((h.rows s).each id v at) is_open refl refl refl (greatest_over s x r.version v.seen.rows)
    (greatest_below s x r.version (row_at m s).version v.seen.rows ((h.rows s).each id v at).to (λ e. let z = ap (λ (y : ℕ). (row_at m y).version) e in omega arith)) refl
    (λ row y. ⊎_elim
    (λ (e : (x ≡ s) × (row ≡ r)). inl (e.1 ∙ ap (row_at m) e.0, (let z = ap (λ (y : ℕ). (row_at m y).version) e.0 in let g = greatest_at s x r.version v.seen.rows e.0 in omega arith)))
    (λ (o : HasRow t.note s row). inr o)
    (row_has x r t.note s row (h.graces.formed id v at t is_open) lists y)))
    (order_same (start_order start) m.order (keeping views) id v w (h.orders id v at) refl (λ Q o. noted_note (λ n. (y : Order) → n.order ≡ Some y → Q y) u v w refl refl (o.0 t is_open) o))

-- a load of a row of a flight's slot
pub k9_flight : (start : Start) (id : ℕ) (v : View) (t : Section) (x : ℕ) → v.inside ≡ Some t → ReadsAlone x t.note → 1 ≤ flying x v → (m : Memory) (views : List View) → Holds start m views → get_elem? views id ≡ some v → Holds start m (set views id (view.row_read x (row_at m x) (with_note (flight_noted x (row_at m x) t.note) t) v))
k9_flight start id v t x is_open alone flies m views h at =
    let r : Row = row_at m x in
    let u : Section = with_note (flight_noted x r t.note) t in
    let q : Seen = record (v.seen) { rows = record { slot = x; version = r.version } ∷ v.seen.rows } in
    let w : View = noting u q v in
    note_hold start id v t u q is_open refl refl refl refl m m views h at h.sized refl refl refl refl refl
    (graces.k9_flight (first_of start) id v w t x is_open alone.0 flies (cells_of m) views h.graces at refl refl refl refl refl refl refl)
    (λ s. view_gain s (start_row start s) (row_at m s) views v w t u (h.rows s) ((h.rows s).each id v at) is_open refl refl refl (greatest_over s x r.version v.seen.rows)
    (greatest_below s x r.version (row_at m s).version v.seen.rows ((h.rows s).each id v at).to (λ e. let z = ap (λ (y : ℕ). (row_at m y).version) e in omega arith)) refl
    (λ row y. let e = flight_has x r t.note s row y in inl (e.1 ∙ ap (row_at m) e.0, (let z = ap (λ (y : ℕ). (row_at m y).version) e.0 in let g = greatest_at s x r.version v.seen.rows e.0 in omega arith))))
    (order_same (start_order start) m.order (keeping views) id v w (h.orders id v at) refl (λ Q o. noted_note (λ n. (y : Order) → n.order ≡ Some y → Q y) u v w refl refl (o.0 t is_open) o))

-- a load of a depth, a load of a current word and a store of a current word by a section
pub k12 : (start : Start) (id : ℕ) (v : View) (t : Section) (x d : ℕ) → v.inside ≡ Some t → (m : Memory) (views : List View) → Holds start m views → get_elem? views id ≡ some v → Holds start m (set views id (noted (with_note (depth_noted x d t.note) t) v))
k12 start id v t x d is_open m views h at =
    let u : Section = with_note (depth_noted x d t.note) t in
    let rows : (s : ℕ) (row : Row) → HasRow u.note s row → HasRow t.note s row = λ s row. depth_has x d t.note s row in
    same_hold start id v t u is_open refl refl refl refl refl rows m m views h at h.sized refl refl refl refl refl
    (graces.same_rows (first_of start) id v (noted u v) t u is_open refl refl refl (depth_formed x d t.note) rows (cells_of m) views h.graces at refl refl refl refl refl refl (λ s o. o))

pub k15 : (start : Start) (id : ℕ) (v : View) (t : Section) (c : Option ℕ) → v.inside ≡ Some t → (m : Memory) (views : List View) → Holds start m views → get_elem? views id ≡ some v → Holds start m (set views id (noted (with_note (current_noted c t.note) t) v))
k15 start id v t c is_open m views h at =
    let u : Section = with_note (current_noted c t.note) t in
    let rows : (s : ℕ) (row : Row) → HasRow u.note s row → HasRow t.note s row = λ s row. current_has c t.note s row in
    same_hold start id v t u is_open refl refl refl refl refl rows m m views h at h.sized refl refl refl refl refl
    (graces.same_rows (first_of start) id v (noted u v) t u is_open refl refl refl (current_formed c t.note) rows (cells_of m) views h.graces at refl refl refl refl refl refl (λ s o. o))

same_graces : (start : Start) (id : ℕ) (v : View) (t : Section) → v.inside ≡ Some t → (cells : Cells) (views : List View) → Keeps (first_of start) cells views → get_elem? views id ≡ some v → Keeps (first_of start) cells (set views id (noted t v))
same_graces start id v t is_open cells views h at = graces.unchanged (first_of start) cells views id v (noted t v) h at refl refl (sym is_open) refl refl refl refl

pub k16 : (start : Start) (id : ℕ) (v : View) (t : Section) (x i : ℕ) → i < 8 → v.inside ≡ Some t → HasEnabled t.note x → (m : Memory) (views : List View) → Holds start m views → get_elem? views id ≡ some v → Holds start (current_in i (Some x) m) (set views id (noted t v))
k16 start id v t x i low is_open has m views h at =
    same_hold start id v t t is_open refl refl refl refl refl (λ s row y. y) m (current_in i (Some x) m) views h at (current_sized m i (Some x) h.sized) refl refl refl refl refl
    (same_graces start id v t is_open (cells_of (current_in i (Some x) m)) views
    (subst (λ (c : Cells). Keeps (first_of start) c views) (sym (current_is m i (Some x) h.sized low)) (graces.k16 (first_of start) id v t x i (row_of x t.note) is_open has.0 has.1 (cells_of m) views h.graces at)) at)

pub k16_none : (start : Start) (id : ℕ) (v : View) (t : Section) (i : ℕ) → i < 8 → v.inside ≡ Some t → (m : Memory) (views : List View) → Holds start m views → get_elem? views id ≡ some v → Holds start (current_in i None m) (set views id (noted t v))
k16_none start id v t i low is_open m views h at =
    same_hold start id v t t is_open refl refl refl refl refl (λ s row y. y) m (current_in i None m) views h at (current_sized m i None h.sized) refl refl refl refl refl
    (same_graces start id v t is_open (cells_of (current_in i None m)) views
    (subst (λ (c : Cells). Keeps (first_of start) c views) (sym (current_is m i None h.sized low)) (graces.less_named (first_of start) i None (cells_of m) (keeping views) views h.graces (inl refl))) at)

-- a step that changes currents alone, or nothing
pass_hold : (start : Start) (id : ℕ) (v w : View) (m n : Memory) (views : List View) → Holds start m views → get_elem? views id ≡ some v → IsSized n → (cells_of n).entries ≡ (cells_of m).entries → (cells_of n).inside ≡ (cells_of m).inside → row_at n ≡ row_at m → n.order ≡ m.order → n.index ≡ m.index
    → w.role ≡ v.role → w.left ≡ v.left → w.inside ≡ v.inside → w.done ≡ v.done → w.flights ≡ v.flights → w.entries ≡ v.entries → w.seen ≡ v.seen → w.keeping.start ≡ v.keeping.start → w.keeping.out ≡ v.keeping.out → w.keeping.index ≡ v.keeping.index → w.keeping.last ≡ None
    → Keeps (first_of start) (cells_of n) (set views id w) → ((k : ℕ) → order_at k (start_order start) (keeping (set views id w)) ≡ order_at k (start_order start) (keeping views)) → Holds start n (set views id w)
pass_hold start id v w m n views h at sized entries inside rows order index same left open_same done flights made seen begun outs indexes none g events =
    let l = left in
    let a : untried w.inside ≡ untried v.inside = ap untried open_same in
    let b : unsent w.inside ≡ unsent v.inside = ap unsent open_same in
    let c : length w.flights ≡ length v.flights = ap length flights in
    calm_step start id v w m n views h at sized begun g
    (sums_as start.units (cells_of m) (cells_of n) (set views id w) entries inside rows order (sums_view start.units (cells_of m) views id v w h.sums at (omega arith) (omega arith) (omega arith) (λ x t. ap (λ (p : Option Section × List Note). in_open x t p.0 + in_done x t p.1) (λ i. (open_same i, done i)))))
    (subst (λ (i : ℕ). Lanes i (set views id w)) (sym index) (lanes_view m.index views id v w h.lanes at same outs indexes (λ e. record { left = left ∙ e.left; inside = open_same ∙ e.inside; done = done ∙ e.done; flights = flights ∙ e.flights; entries = made ∙ e.entries })))
    made seen none (λ s Q. noted_same (Reads Q s) v w open_same done) (λ Q. noted_same (λ n. (o : Order) → n.order ≡ Some o → Q o) v w open_same done) events rows order

-- a store of a current word by `keeper_current`, none
pub k16_keeper : (start : Start) (id : ℕ) (v : View) (i : ℕ) → i < 8 → (m : Memory) (views : List View) → Holds start m views → get_elem? views id ≡ some v → Holds start (current_in i None m) (set views id (view.passed v))
k16_keeper start id v i low m views h at =
    let n : Memory = current_in i None m in
    let w : View = view.passed v in
    pass_hold start id v w m n views h at (current_sized m i None h.sized) refl refl refl refl refl refl refl refl refl refl refl refl refl refl refl refl
    (graces.unchanged (first_of start) (cells_of n) views id v w
    (subst (λ (c : Cells). Keeps (first_of start) c views) (sym (current_is m i None h.sized low)) (graces.less_named (first_of start) i None (cells_of m) (keeping views) views h.graces (inl refl)))
    at refl refl refl refl refl refl refl)
    (λ k. ap (order_at k (start_order start)) (keeping-same views id v w at refl))

-- a clear of a current word, by a lane and by the keeper
pub k17 : (start : Start) (id : ℕ) (v : View) (i x : ℕ) → i < 8 → (m : Memory) (views : List View) → Holds start m views → get_elem? views id ≡ some v → Holds start (cleared_in i x m) (set views id (view.cleared i x v))
k17 start id v i x low m views h at = by v.role refl
  where
    c : Option ℕ
    c = unless_slot x (current_at m i)

    n : Memory
    n = current_in i c m

    is : cells_of n ≡ current_cells i c (cells_of m)
    is = current_is m i c h.sized low

    lane : view.clear_by v.role i x v.keeping ≡ view.unheld v.keeping → Holds start n (set views id (view.cleared i x v))
    lane e = subst (λ (k : Keeping). Holds start n (set views id (record v { keeping = k }))) (sym e)
        (let w : View = view.passed v in
        pass_hold start id v w m n views h at (current_sized m i c h.sized) refl refl refl refl refl refl refl refl refl refl refl refl refl refl refl refl
        (graces.unchanged (first_of start) (cells_of n) views id v w
        (subst (λ (c : Cells). Keeps (first_of start) c views) (sym is) (graces.less_named (first_of start) i c (cells_of m) (keeping views) views h.graces (graces.unless_is x (current_at m i))))
        at refl refl refl refl refl refl refl)
        (λ k. ap (order_at k (start_order start)) (keeping-same views id v w at refl)))

    by : (r : Role) → v.role ≡ r → Holds start n (set views id (view.cleared i x v))
    by (role.Lane l) e = lane (ap (λ (r : Role). view.clear_by r i x v.keeping) e)
    by role.Spent e = lane (ap (λ (r : Role). view.clear_by r i x v.keeping) e)
    by role.Keeper e = subst (λ (k : Keeping). Holds start n (set views id (record v { keeping = k }))) (sym (ap (λ (r : Role). view.clear_by r i x v.keeping) e))
        (let w : View = kept (Clears i x) v in
        pass_hold start id v w m n views h at (current_sized m i c h.sized) refl refl refl refl refl refl refl refl refl refl refl refl refl refl refl refl
        (subst (λ (c : Cells). Keeps (first_of start) c (set views id w)) (sym is) (graces.k17_keeper (first_of start) id v x i e (cells_of m) views h.graces at))
        (event_same start id v w (Clears i x) m views h at e refl (λ k es. refl)))

-- a load of a depth by `keeper_depth`
pub k12_keeper : (start : Start) (id : ℕ) (v : View) (x : ℕ) → v.role ≡ role.Keeper → (m : Memory) (views : List View) → Holds start m views → get_elem? views id ≡ some v → Holds start m (set views id (view.depth_looked x (depth_at m x) v))
k12_keeper start id v x keeper m views h at = dite (ℕ_discrete d 0) nothing something
  where
    d : ℕ
    d = depth_at m x

    w : View
    w = view.depth_looked x d v

    other : Keeps (first_of start) (cells_of m) (set views id w) → ((k : ℕ) → order_at k (start_order start) (keeping (set views id w)) ≡ order_at k (start_order start) (keeping views)) → Holds start m (set views id w)
    other = pass_hold start id v w m m views h at h.sized refl refl refl refl refl refl refl refl refl refl refl refl refl refl refl refl

    nothing : d ≡ 0 → Holds start m (set views id w)
    nothing z =
        let events : w.keeping.events ≡ Zeros x ∷ v.keeping.events = ap (λ (b : Bool). if b then Zeros x ∷ v.keeping.events else v.keeping.events) (eq-eqb d 0 z) in
        other
        (graces.after_event (first_of start) (cells_of m) views id v w (Zeros x) at refl refl refl refl refl events (λ g s k. k) (graces.k12 (first_of start) id v x keeper (cells_of m) views h.graces at z))
        (event_same start id v w (Zeros x) m views h at keeper events (λ k es. refl))

    something : d ≢ 0 → Holds start m (set views id w)
    something z =
        let events : w.keeping.events ≡ v.keeping.events = ap (λ (b : Bool). if b then Zeros x ∷ v.keeping.events else v.keeping.events) (ne_eqb d 0 z) in
        other
        (graces.unchanged (first_of start) (cells_of m) views id v w h.graces at refl refl refl refl refl refl events)
        (λ k. ap (order_at k (start_order start)) (keeping-same views id v w at events))

-- a load of a row by `keeper_row`
pub k9_keeper : (start : Start) (id : ℕ) (v : View) (x : ℕ) → v.role ≡ role.Keeper → (m : Memory) (views : List View) → Holds start m views → get_elem? views id ≡ some v → Holds start m (set views id (view.row_held x (row_at m x) v))
k9_keeper start id v x keeper m views h at =
    let r : Row = row_at m x in
    let w : View = view.row_held x r v in
    hold_step start id v w m m views h at h.sized refl
    (graces.k9_keeper (first_of start) id v w x keeper (cells_of m) views h.graces at refl refl refl refl refl refl refl)
    (sums_view start.units (cells_of m) views id v w h.sums at (omega arith) (omega arith) (omega arith) (λ x t. refl))
    (lanes_view m.index views id v w h.lanes at refl refl refl (λ e. record { left = e.left; inside = e.inside; done = e.done; flights = e.flights; entries = e.entries }))
    refl
    (λ s. view_held s (start_row start s) (row_at m s) views v w (record { slot = x; row = r }) (h.rows s) ((h.rows s).each id v at) refl refl refl (greatest_over s x r.version v.seen.rows)
    (greatest_below s x r.version (row_at m s).version v.seen.rows ((h.rows s).each id v at).to (λ e. let z = ap (λ (y : ℕ). (row_at m y).version) e in omega arith)) refl
    (λ e. (ap (row_at m) e, (let z = ap (λ (y : ℕ). (row_at m y).version) e in let g = greatest_at s x r.version v.seen.rows e in omega arith))))
    (order_same (start_order start) m.order (keeping views) id v w (h.orders id v at) refl (λ Q o. o))
    (λ k. ap (order_at k (start_order start)) (keeping-same views id v w at refl)) refl refl

-- a row change that found another row, by a section and by the keeper
pub k10_moved : (start : Start) (id : ℕ) (v : View) (t : Section) (x : ℕ) → v.inside ≡ Some t → (m : Memory) (views : List View) → Holds start m views → get_elem? views id ≡ some v → Holds start m (set views id (view.row_moved x (row_at m x) (record t { tried = true }) v))
k10_moved start id v t x is_open m views h at =
    let r : Row = row_at m x in
    let u : Section = record t { tried = true } in
    let w : View = view.row_moved x r u v in
    let b : unsent w.inside ≡ unsent v.inside = sym (ap unsent is_open) in
    hold_step start id v w m m views h at h.sized refl
    (graces.same_rows (first_of start) id v w t u is_open refl refl refl (λ f. f) (λ s row y. y) (cells_of m) views h.graces at refl refl refl refl refl refl (λ s o. o))
    (sums_view start.units (cells_of m) views id v w h.sums at (omega arith) (omega arith) (omega arith) (λ x y. ap (λ (k : ℕ). k + in_done x y v.done) (sym (ap (in_open x y) is_open))))
    (lanes_view m.index views id v w h.lanes at refl refl refl (λ e. absurd (none_section t (sym e.inside ∙ is_open))))
    refl
    (λ s. view_gain s (start_row start s) (row_at m s) views v w t u (h.rows s) ((h.rows s).each id v at) is_open refl refl refl (greatest_over s x r.version v.seen.rows)
    (greatest_below s x r.version (row_at m s).version v.seen.rows ((h.rows s).each id v at).to (λ e. let z = ap (λ (y : ℕ). (row_at m y).version) e in omega arith)) refl (λ row y. inr y))
    (order_same (start_order start) m.order (keeping views) id v w (h.orders id v at) refl (λ Q o. noted_note (λ n. (y : Order) → n.order ≡ Some y → Q y) u v w refl refl (o.0 t is_open) o))
    (λ k. ap (order_at k (start_order start)) (keeping-same views id v w at refl)) refl refl

pub k10_keep_moved : (start : Start) (id : ℕ) (v : View) (x : ℕ) → (m : Memory) (views : List View) → Holds start m views → get_elem? views id ≡ some v → Holds start m (set views id (view.keep_moved x (row_at m x) v))
k10_keep_moved start id v x m views h at =
    let r : Row = row_at m x in
    let w : View = view.keep_moved x r v in
    hold_step start id v w m m views h at h.sized refl
    (graces.unchanged (first_of start) (cells_of m) views id v w h.graces at refl refl refl refl refl refl refl)
    (sums_view start.units (cells_of m) views id v w h.sums at (omega arith) (omega arith) (omega arith) (λ x t. refl))
    (lanes_view m.index views id v w h.lanes at refl refl refl (λ e. let z = e.left in record { left = omega arith; inside = e.inside; done = e.done; flights = e.flights; entries = e.entries }))
    refl
    (λ s. view_seen s (start_row start s) (row_at m s) views v w ((h.rows s).each id v at) refl (greatest_over s x r.version v.seen.rows)
    (greatest_below s x r.version (row_at m s).version v.seen.rows ((h.rows s).each id v at).to (λ e. let z = ap (λ (y : ℕ). (row_at m y).version) e in omega arith)) refl (λ P o. o))
    (order_same (start_order start) m.order (keeping views) id v w (h.orders id v at) refl (λ Q o. o))
    (λ k. ap (order_at k (start_order start)) (keeping-same views id v w at refl)) refl refl

-- a row change that was made
seen_is : (x n : ℕ) (v : View) → seen_row v x ≤ n → view.greatest x (record { slot = x; version = n } ∷ v.seen.rows) ≡ n
seen_is x n v le = ap (λ (b : Bool). cond b (max n (seen_row v x)) (seen_row v x)) (eq-eqb x x refl) ∙ omega arith

seen_else : (s x n : ℕ) (v : View) → x ≢ s → view.greatest s (record { slot = x; version = n } ∷ v.seen.rows) ≡ seen_row v s
seen_else s x n v d = ap (λ (b : Bool). cond b (max n (seen_row v s)) (seen_row v s)) (ne_eqb x s d)

write_hold : (start : Start) (id : ℕ) (v w : View) (e : RowEntry) (m : Memory) (views : List View) → Holds start m views → get_elem? views id ≡ some v → e.slot < 15 → e.row ≡ row_after (row_at m e.slot) e.op → e.row.version ≡ (row_at m e.slot).version + 1 → w.keeping.start ≡ v.keeping.start → Keeps (first_of start) (cells_of (row_in e.slot e.row m)) (set views id w) → Sums start.units (cells_of (row_in e.slot e.row m)) (set views id w) → Lanes m.index (set views id w)
    → w.entries ≡ v.entries ++ e ∷ [] → w.seen ≡ record (v.seen) { rows = record { slot = e.slot; version = e.row.version } ∷ v.seen.rows } → w.keeping.last ≡ None → ((P : Note → Type 0) → Noted P v → Noted P w) → ((k : ℕ) → order_at k (start_order start) (keeping (set views id w)) ≡ order_at k (start_order start) (keeping views)) → LaneEntries id w → IsRow e.row
    → Holds start (row_in e.slot e.row m) (set views id w)
write_hold start id v w e m views h at low made next same g sums lanes entries seen none notes events lane lawful =
    let x : ℕ = e.slot in
    let news : List View = set views id w in
    let is = row_put m x e.row h.sized low in
    let sees : (s : ℕ) → seen_row w s ≡ view.greatest s (record { slot = x; version = e.row.version } ∷ v.seen.rows) = λ s. ap (λ (q : Seen). view.greatest s q.rows) seen in record {
      sized = row_sized m x e.row h.sized;
      starts = each_set (λ _ u. u.keeping.start ≡ start) views id w (λ j u d a. h.starts j u a) (same ∙ h.starts id v at);
      graces = g;
      sums = sums;
      lanes = lanes;
      rows = λ s. subst (λ (f : ℕ → Row). RowsAt s (start_row start s) (f s) news) (sym is)
          (by_case (λ b. RowsAt s (start_row start s) (cond b e.row (row_at m s)) news) x s
          (λ q. subst (λ (y : ℕ). RowsAt y (start_row start y) e.row news) q
          (rows_change x (start_row start x) (row_at m x) views id v w e refl made next entries (sees x ∙ seen_is x e.row.version v (let z = ((h.rows x).each id v at).to in omega arith)) none notes (h.rows x) at))
          (λ d. rows_other s (start_row start s) (row_at m s) views id v w e d entries (h.rows s) at
          (view_other s (start_row start s) (row_at m s) views v w e d ((h.rows s).each id v at) entries (sees s ∙ seen_else s x e.row.version v d) none notes)));
      orders = orders_same (start_order start) m.order (keeping views) (keeping news) news events (each_set (ViewOrder (start_order start) m.order (keeping views)) views id w (λ j u d a. h.orders j u a)
          (order_same (start_order start) m.order (keeping views) id v w (h.orders id v at) (ap (λ (q : Seen). q.order) seen) (λ Q. notes (λ n. (o : Order) → n.order ≡ Some o → Q o))));
      made = each_set LaneEntries views id w (λ j u d a. h.made j u a) lane;
      lawful = λ s. subst (λ (f : ℕ → Row). IsRow (f s)) (sym is) (by_case (λ b. IsRow (cond b e.row (row_at m s))) x s (λ _. lawful) (λ _. h.lawful s));
      order = h.order;
    }

-- a slot that a section reaches isn't free
used_given : (st : Status) → (is_quiet st ≡ true → ⊥) → is_used st ≡ true
used_given unused q = absurd (q refl)
used_given st q = refl

pub reached_given : (start : Start) (id : ℕ) (v : View) (t : Section) (x : ℕ) → v.inside ≡ Some t → Reaches x t.note v → (m : Memory) (views : List View) → Holds start m views → get_elem? views id ≡ some v → is_given (row_at m x) ≡ true
reached_given start id v t x is_open reach m views h at = let k = h.graces.slots x in k.taken ∙ used_given _ (not_quiet x _ _ _ _ _ views id v t k at is_open reach)

-- a row change with Log, Ctrl, Expire or Pending
pub k10 : (start : Start) (id : ℕ) (v : View) (t : Section) (x : ℕ) (old : Row) (o : Op) (by : Maker) → x < 15 → v.inside ≡ Some t → Reaches x t.note v → IsLaneOp o → Changes old o → t.tried ≡ false → (m : Memory) (views : List View) → Holds start m views → get_elem? views id ≡ some v → row_at m x ≡ old
    → Holds start (row_in x (row_after old o) m) (set views id (view.row_changed (entry_of x old o by) (record t { tried = true }) v))
k10 start id v t x old o by low is_open reach lane changes first_try m views h at is =
    let e : RowEntry = entry_of x old o by in
    let new : Row = row_after old o in
    let u : Section = record t { tried = true } in
    let w : View = view.row_changed e u v in
    let news : List View = set views id w in
    let cells = row_is m x new h.sized low in
    let later = lane_later old o lane changes in
    let given = reached_given start id v t x is_open reach m views h at in
    let version : new.version ≡ (row_at m x).version + 1 = later.version ∙ ap (λ (r : Row). r.version + 1) (sym is) in
    let middle : Keeps (first_of start) (row_cells x new (cells_of m)) views = graces.log_cells (first_of start) id v t x new is_open reach (cells_of m) views
    (lane_given old o lane changes (ap is_given (sym is) ∙ given) ∙ ap is_given (sym is)) (later.marked ∙ ap (λ (r : Row). r.marked) (sym is)) (later.ready ∙ ap (λ (r : Row). r.ready) (sym is)) version h.graces at in
    let a : untried v.inside ≡ 1 = ap untried is_open ∙ ap not_yet first_try in
    let b : unsent w.inside ≡ unsent v.inside = sym (ap unsent is_open) in
    write_hold start id v w e m views h at low (ap (λ (r : Row). row_after r o) (sym is)) version refl
    (subst (λ (c : Cells). Keeps (first_of start) c news) (sym cells)
    (graces.same_rows (first_of start) id v w t u is_open refl refl refl (λ f. f) (λ s row y. y) (row_cells x new (cells_of m)) views middle at refl refl refl refl refl refl
    (λ s k. all_more (EntrySpan (is_going (first_status start s)) s (put (row_at m) x new s).version (keeping views)) v.entries e k (graces.entry_spans (first_of start) (row_cells x new (cells_of m)) (keeping views) views e (graces.put_here (row_at m) x new) middle s))))
    (subst (λ (c : Cells). Sums start.units c news) (sym cells) (sums_row start.units (cells_of m) views id v w x new version h.sums at (omega arith) (omega arith) (omega arith) (λ x y. ap (λ (k : ℕ). k + in_done x y v.done) (sym (ap (in_open x y) is_open)))))
    (lanes_view m.index views id v w h.lanes at refl refl refl (λ e. absurd (none_section t (sym e.inside ∙ is_open))))
    refl refl refl (λ P k. noted_note P u v w refl refl (k.0 t is_open) k)
    (λ k. ap (order_at k (start_order start)) (keeping-same views id v w at refl))
    (λ d. all_more (λ (y : RowEntry). IsLaneOp y.op) v.entries e (h.made id v at d) lane)
    (lane_lawful old o lane changes (ap is_given (sym is) ∙ given) (subst IsRow is (h.lawful x)))

-- a row change by the keeper, with its event
keep_hold : (start : Start) (id : ℕ) (v : View) (x : ℕ) (old : Row) (o : Op) (by : Maker) (ev : Event) → x < 15 → v.role ≡ role.Keeper → 1 ≤ v.left → view.event_of (entry_of x old o by) ≡ ev ∷ [] → ((start_o : Order) (k : ℕ) (es : List Event) → order_at k start_o (ev ∷ es) ≡ order_at k start_o es) → (m : Memory) (views : List View) → Holds start m views → get_elem? views id ≡ some v → row_at m x ≡ old
    → (row_after old o).version ≡ old.version + 1 → IsRow (row_after old o) → Keeps (first_of start) (row_cells x (row_after old o) (cells_of m)) (set views id (kept ev v)) → Holds start (row_in x (row_after old o) m) (set views id (view.row_kept (entry_of x old o by) v))
keep_hold start id v x old o by ev low keeper some_left event other m views h at is next lawful kept_graces =
    let e : RowEntry = entry_of x old o by in
    let new : Row = row_after old o in
    let w : View = view.row_kept e v in
    let news : List View = set views id w in
    let cells = row_is m x new h.sized low in
    let version : new.version ≡ (row_at m x).version + 1 = next ∙ ap (λ (r : Row). r.version + 1) (sym is) in
    let events : w.keeping.events ≡ ev ∷ v.keeping.events = ap (λ (l : List Event). l ++ v.keeping.events) event in
    let l = some_left in
    write_hold start id v w e m views h at low (ap (λ (r : Row). row_after r o) (sym is)) version refl
    (subst (λ (c : Cells). Keeps (first_of start) c news) (sym cells)
    (graces.after_event (first_of start) (row_cells x new (cells_of m)) views id v w ev at refl refl refl refl refl events
    (λ g s k. all_more (EntrySpan (is_going (first_status start s)) s (put (row_at m) x new s).version (keeping (set views id (kept ev v)))) v.entries e k (graces.entry_spans (first_of start) (row_cells x new (cells_of m)) (keeping (set views id (kept ev v))) (set views id (kept ev v)) e (graces.put_here (row_at m) x new) g s))
    kept_graces))
    (subst (λ (c : Cells). Sums start.units c news) (sym cells) (sums_row start.units (cells_of m) views id v w x new version h.sums at (omega arith) (omega arith) (omega arith) (λ x y. refl)))
    (lanes_view m.index views id v w h.lanes at refl refl refl (λ e. let z = e.left in absurd (omega arith)))
    refl refl refl (λ P k. k)
    (event_same start id v w ev m views h at keeper events (λ k es. other (start_order start) k es))
    (λ d. absurd (d (h.graces.keeper id v at keeper)))
    lawful

-- a slot's status in the keeper's own words
pub own_is : (start : Start) (id : ℕ) (v : View) (x : ℕ) (st : Status) (m : Memory) (views : List View) → Holds start m views → get_elem? views id ≡ some v → status_at x v ≡ st → status (first_status start x) x v.keeping.events ≡ st
own_is start id v x st m views h at e = ap (λ (s : Start). status (first_status s x) x v.keeping.events) (sym (h.starts id v at)) ∙ e

pub k10_mark : (start : Start) (id : ℕ) (v : View) (x : ℕ) (old : Row) (by : Maker) → x < 15 → v.role ≡ role.Keeper → 1 ≤ v.left → status_at x v ≡ listed → (m : Memory) (views : List View) → Holds start m views → get_elem? views id ≡ some v → row_at m x ≡ old
    → Holds start (row_in x (row_after old op.Mark) m) (set views id (view.row_kept (entry_of x old op.Mark by) v))
k10_mark start id v x old by low keeper some_left own m views h at is =
    let new : Row = row_after old op.Mark in
    let st = graces.own_status (first_of start) (cells_of m) views id v x listed h.graces at keeper (own_is start id v x listed m views h at own) in
    let given : is_given (row_at m x) ≡ true = (h.graces.slots x).taken ∙ ap is_used st in
    keep_hold start id v x old op.Mark by (Marks x new.version) low keeper some_left refl (λ o k es. refl) m views h at is refl (mark_lawful old (ap is_given (sym is) ∙ given) (subst IsRow is (h.lawful x)))
    (graces.k10_mark (first_of start) id v x new keeper (own_is start id v x listed m views h at own) (cells_of m) views (ap is_given (sym is)) refl refl (ap (λ (r : Row). r.version + 1) (sym is)) h.graces at)

pub k10_give : (start : Start) (id : ℕ) (v : View) (x : ℕ) (old : Row) (gift : Gift) (by : Maker) → x < 15 → v.role ≡ role.Keeper → 1 ≤ v.left → status_at x v ≡ unused → 1 ≤ gift.state → gift.state ≤ 15 → (m : Memory) (views : List View) → Holds start m views → get_elem? views id ≡ some v → row_at m x ≡ old
    → Holds start (row_in x (row_after old (op.Give gift)) m) (set views id (view.row_kept (entry_of x old (op.Give gift) by) v))
k10_give start id v x old gift by low keeper some_left own least most m views h at is =
    let new : Row = row_after old (op.Give gift) in
    keep_hold start id v x old (op.Give gift) by (Gives x new.version) low keeper some_left refl (λ o k es. refl) m views h at is refl (give_lawful old gift least most)
    (graces.k10_give (first_of start) id v x new keeper (own_is start id v x unused m views h at own) (cells_of m) views (give_given old gift least) refl (ap (λ (r : Row). r.version + 1) (sym is)) h.graces at)

pub k10_free : (start : Start) (id : ℕ) (v : View) (x : ℕ) (old : Row) (by : Maker) → x < 15 → v.role ≡ role.Keeper → 1 ≤ v.left → status_at x v ≡ bare → (m : Memory) (views : List View) → Holds start m views → get_elem? views id ≡ some v → row_at m x ≡ old
    → Holds start (row_in x (row_after old op.Free) m) (set views id (view.row_kept (entry_of x old op.Free by) v))
k10_free start id v x old by low keeper some_left own m views h at is =
    let new : Row = row_after old op.Free in
    keep_hold start id v x old op.Free by (Frees x new.version) low keeper some_left refl (λ o k es. refl) m views h at is refl (free_lawful old)
    (graces.k10_free (first_of start) id v x new keeper (own_is start id v x bare m views h at own) (cells_of m) views refl refl (ap (λ (r : Row). r.version + 1) (sym is)) h.graces at)

-- past the rows there is none
pub past_rows : (rows : List Row) (s : ℕ) → length rows ≤ s → get_or rows s (free_row 0) ≡ free_row 0
past_rows [] s l = refl
past_rows (r ∷ rows) zero l = absurd (omega arith)
past_rows (r ∷ rows) (suc s) l = past_rows rows s (omega arith)

-- a usable row is enabled
pub usable_enabled : (r : Row) → is_usable r ≡ true → is_enabled r ≡ true
usable_enabled r h = both (is_enabled r) _ h
  where
    both : (a b : Bool) → a && b ≡ true → a ≡ true
    both true b h = refl
    both false b h = h

-- a store of the list: each listed slot is one of the fifteen
pub k11 : (start : Start) (id : ℕ) (v : View) (e : OrderEntry) → v.role ≡ role.Keeper → 1 ≤ v.left → IsNext v e.order → ((s : ℕ) → 15 ≤ s → lists s e.order ≡ false) → (m : Memory) (views : List View) → Holds start m views → get_elem? views id ≡ some v → Holds start (order_in e.order m) (set views id (view.order_stored e v))
k11 start id v e keeper some_left next range m views h at =
    let n : Memory = order_in e.order m in
    let w : View = view.order_stored e v in
    let news : List View = set views id w in
    let mine = h.graces.keeper id v at keeper in
    let own = keeping-own views id v mine at in
    let begun = h.starts id v at in
    let version : e.order.version ≡ (last_order (start_order start) v.keeping.events).version + 1 = next.version ∙ ap (λ (s : Start). (last_order (start_order s) v.keeping.events).version + 1) begun in
    let later : e.order.version ≡ m.order.version + 1 = version ∙ ap (λ (o : Order). o.version + 1) (sym (h.graces.stored ∙ ap (last_order (start_order start)) own)) in
    let l = some_left in
    let events : keeping news ≡ Orders e ∷ keeping views = keeping-event views id v w (Orders e) mine at refl in record {
      sized = record { sides = h.sized.sides; rows = h.sized.rows; depths = h.sized.depths; currents = h.sized.currents };
      starts = each_set (λ _ u. u.keeping.start ≡ start) views id w (λ j u d a. h.starts j u a) (h.starts id v at);
      graces = graces.after_event (first_of start) (cells_of n) views id v w (Orders e) at refl refl refl refl refl refl (λ g s k. k)
          (graces.k11 (first_of start) id v e keeper version may (cells_of m) views h.graces at);
      sums = sums_order start.units (cells_of m) views id v w e.order later h.sums at (omega arith) (omega arith) (omega arith) (λ x y. refl);
      lanes = lanes_view m.index views id v w h.lanes at refl refl refl (λ e. let z = e.left in absurd (omega arith));
      rows = λ s. rows_frame s (start_row start s) (row_at m s) views id v w (h.rows s) at (λ P k. k id v at) (λ k. refl) (view_calm s (start_row start s) (row_at m s) views v w ((h.rows s).each id v at) refl refl refl (λ Q o. o));
      orders = subst (λ (es : List Event). Each (ViewOrder (start_order start) e.order es) news) (sym events) (orders_next (start_order start) m.order (keeping views) views id v w e h.orders at mine later refl refl refl (λ P o. o));
      made = each_set LaneEntries views id w (λ j u d a. h.made j u a) (h.made id v at);
      lawful = h.lawful;
      order = next.lawful;
    }
  where
    far : (s : ℕ) (st : Status) → lists s e.order ≡ false → is_used st ≡ false → MayOrder (lists s e.order) st
    far s unused l u = subst (λ (b : Bool). MayOrder b unused) (sym l) tt
    far s st l u = absurd (true≢false u)

    unpaid : (s : ℕ) → 15 ≤ s → is_given (row_at m s) ≡ false
    unpaid s l = ap is_given (past_rows m.rows s (let k = h.sized.rows in omega arith))

    may : (s : ℕ) → MayOrder (lists s e.order) (status (first_status start s) s v.keeping.events)
    may s = ⊎_elim
        (λ (l : s < 15). subst (λ (b : Start). MayOrder (lists s e.order) (status (first_status b s) s v.keeping.events)) (h.starts id v at) (next.slots s l))
        (λ (l : 15 ≤ s). far s _ (range s l) (ap (λ (es : List Event). is_used (status (first_status start s) s es)) (sym (keeping-own views id v (h.graces.keeper id v at keeper) at)) ∙ sym (h.graces.slots s).taken ∙ unpaid s l))
        (cases_lt s 15)

-- a send
pub k13 : (start : Start) (id : ℕ) (v : View) (t : Section) (lane x req : ℕ) → x < 15 → v.inside ≡ Some t → HasUsable t.note x → t.sent ≡ false → (m : Memory) (views : List View) → Holds start m views → get_elem? views id ≡ some v
    → Holds start (sent_in x m) (set views id (view.flown (flight_of lane t x req) (record t { sent = true }) v))
k13 start id v t lane x req low is_open has unsent_yet m views h at =
    let f : Flight = flight_of lane t x req in
    let u : Section = record t { sent = true } in
    let w : View = view.flown f u v in
    let news : List View = set views id w in
    let is = sent_is m x h.sized low in
    let n : Memory = sent_in x m in
    let a : untried w.inside ≡ untried v.inside = sym (ap untried is_open) in
    let b : unsent v.inside ≡ 1 = ap unsent is_open ∙ ap not_yet unsent_yet in
    let c : length w.flights ≡ length v.flights + 1 = length-append v.flights (f ∷ []) in
    calm_step start id v w m n views h at (sent_sized m x h.sized) refl
    (subst (λ (c : Cells). Keeps (first_of start) c news) (sym is) (graces.k13 (first_of start) id v t f (row_of x t.note) is_open has.0 (usable_enabled (row_of x t.note) has.1) refl (cells_of m) views h.graces at))
    (sums_as start.units (cells_of m) (cells_of n) news refl refl refl refl (sums_view start.units (cells_of m) views id v w h.sums at (omega arith) (omega arith) (omega arith) (λ x y. ap (λ (k : ℕ). k + in_done x y v.done) (sym (ap (in_open x y) is_open)))))
    (lanes_view m.index views id v w h.lanes at refl refl refl (λ e. absurd (none_section t (sym e.inside ∙ is_open))))
    refl refl refl
    (λ s Q o. noted_note (Reads Q s) u v w refl refl (o.0 t is_open) o)
    (λ Q o. noted_note (λ n. (y : Order) → n.order ≡ Some y → Q y) u v w refl refl (o.0 t is_open) o)
    (λ k. ap (order_at k (start_order start)) (keeping-same views id v w at refl)) refl refl

-- an end
pub k14 : (start : Start) (id : ℕ) (v : View) (f : Flight) → f.slot < 15 → has_flight f v ≡ true → (m : Memory) (views : List View) → Holds start m views → get_elem? views id ≡ some v → Holds start (landed_in f.slot m) (set views id (view.landed f v))
k14 start id v f low has m views h at =
    let w : View = view.landed f v in
    let news : List View = set views id w in
    let n : Memory = landed_in f.slot m in
    let is = landed_is m f.slot h.sized low in
    let c : length v.flights ≡ length w.flights + 1 = length_less f v.flights has in
    calm_step start id v w m n views h at (landed_sized m f.slot h.sized) refl
    (subst (λ (c : Cells). Keeps (first_of start) c news) (sym is) (graces.k14 (first_of start) id v f has (cells_of m) views h.graces at))
    (sums_as start.units (cells_of m) (cells_of n) news refl refl refl refl (sums_view start.units (cells_of m) views id v w h.sums at (omega arith) (omega arith) (omega arith) (λ x y. refl)))
    (lanes_view m.index views id v w h.lanes at refl refl refl (λ e. let z : length v.flights ≡ 0 = ap length e.flights in absurd (omega arith)))
    refl refl refl (λ s Q o. o) (λ Q o. o)
    (λ k. ap (order_at k (start_order start)) (keeping-same views id v w at refl)) refl refl
