-- Each kind of step keeps what ties the keeper's sequence to the words and to all views.
use Rattle.std.proofs.Common.{◌≡◌, ◌≢◌, ◌⊎◌, ℕ, ◌+◌, ◌-◌, ◌<◌, ◌≤◌, max, eq-eqb, cond, Bool, true, false, List, [], ◌∷◌, ◌++◌, set, inl, inr, ⊎_elim, sym, refl, ap, ◌∙◌, subst, arith, Option, None, Some, if◌then◌else◌}
use mathlib.Core.Option.{some}
use lib.ListN.{get_elem?}
use Rattle.std.specs.List.{All}
use Rattle.std.proofs.lemmas.List.Elements.{All-append}
use Rattle.atomic_table.proofs.Lists.{set_else}
use Rattle.mp_words.specs.declared.row.Row.{Row}
use Rattle.mp_words.specs.declared.order.Order.{Order}
use Rattle.mp_words.specs.declared.note.Note.{Note}
use Rattle.mp_words.specs.declared.flight.Flight.{Flight}
use Rattle.mp_words.specs.declared.entry.RowEntry.{RowEntry}
use Rattle.mp_words.specs.declared.entry.OrderEntry.{OrderEntry}
use Rattle.mp_words.specs.Row.{is_given, is_enabled}
use Rattle.mp_words.specs.Facts.{IsOrder}
use Rattle.mp_words.specs.Effect.{unless_slot}
use Rattle.mp_core.specs.declared.view.Section.{Section}
use Rattle.mp_core.specs.declared.view.Role.{Role}
use Rattle.mp_core.specs.declared.view.Role.TheVariants as role
use Rattle.mp_core.specs.declared.view.Event.{Event}
use Rattle.mp_core.specs.declared.view.Event.TheVariants.{Gives, Marks, Scans, Clears, Orders, Zeros, Frees}
use Rattle.mp_core.specs.declared.view.Held.{Held}
use Rattle.mp_core.specs.declared.view.View.{View}
use Rattle.mp_core.specs.Notes.{order_noted, row_noted, flight_noted, HasRow, Lists}
use Rattle.mp_core.specs.Status.{Status, unused, fresh, listed, leaving, bare, lists, cleared, emptied, status, MayOrder}
use Rattle.mp_core.specs.Views.{on_slot, opened, entered, finished, flying, flown, landed, has_flight, joined, spent, last_order}
use Rattle.mp_rule.specs.Sequence.{is_going, is_quiet, is_hidden, order_floor, span, given}
use Rattle.mp_rule.specs.Rule.{Cells, Each, keeping, on_side, sits, in_order, Reaches, Opened, Noted, IsFormed, Formed, HasLast, First, TicketBelow, TicketPast, SideAt, Bars, Hides, Unnamed, SlotAt, ReadsAbove, MarksAt, OrderAbove, ReadsSpan, EntrySpan, SpanAt, ReadsLife, FlightLife, LifeAt, IsKeeper, Graces, Keeps}
use Rattle.mp_rule.proofs.Views.{each_set, each_snoc, keeping-same, keeping-kept, keeping-own, keeping-else, keeping-snoc, kept, by_case, opened_none, opened_one, opened_same, all_more, all_none, noted_enter, noted_end, noted_note, noted_join, noted_none, noted_same, none_held, the_held, set-twice, at_here}
use Rattle.mp_rule.proofs.Notes.{blank_has, blank_formed, order_has, order_formed, row_has, row_formed, flight_has, flight_formed, none_order}
use Rattle.mp_rule.proofs.Sequence.{quiet-barred, unnamed-barred, scan_flags, order_flags, empty_flags, clear_flags}
use Rattle.mp_rule.proofs.Sides.{side_frame, enter_here, enter_else, leave_here, leave_else, note_side, nobody_inside, scan_side, side_more, side_as}
use Rattle.mp_rule.proofs.Floors.{marks_frame, orders_frame, read_row_marks, read_order_orders, marks_scan, orders_scan, marks_mark, marks_else, marks_later, orders_store, marks_more, orders_more, marks_as, orders_as}
use Rattle.mp_rule.proofs.Spans.{spans_frame, spans_more, spans_later, spans_mark, spans_free, mark_else, free_else, span_row}
use Rattle.mp_core.proofs.Flights.{one_on, on_here, on_else, flying_more, flying_less, all_less}
use Rattle.mp_rule.proofs.Lives.{life_frame, life_more, life_later, life_row, life_give}
use Rattle.mp_rule.proofs.Slots.{NoLast, put, slot_frame, slot_more, not_quiet, hides_order, bars_row, row_unbarred, slot_send, slot_land, slot_currents, store_named, clear_named, none_slot, the_slot, slot_scan, slot_log, slot_mark, slot_give, slot_free, slot_order, slot_empty, slot_clear}

-- the keeper's sequence is the one before
pub held : (first : First) (cells : Cells) (views news : List View) → keeping news ≡ keeping views → Graces first cells (keeping views) news → Keeps first cells news
held first cells views news e r = subst (λ (es : List Event). Graces first cells es news) (sym e) r

-- one view changes, with the same open note, and with finished notes that some view had
pub frame : (first : First) (cells : Cells) (es : List Event) (views : List View) (id : ℕ) (v w : View) → Graces first cells es views → get_elem? views id ≡ some v → (w.role ≡ role.Keeper → v.role ≡ role.Keeper) → ((l : Held) → w.keeping.last ≡ Some l → v.keeping.last ≡ Some l) → ((x : ℕ) → sits x w ≡ sits x v) → ((s : ℕ) → flying s w ≡ flying s v)
    → ((P : Note → Type 0) → Opened P v → Opened P w) → ((P : Note → Type 0) → Each (λ _ u. Noted P u) views → Noted P w) → ((F : Flight → Type 0) → All F v.flights → All F w.flights)
    → ((s : ℕ) → Each (λ _ u. All (EntrySpan (is_going (first.status s)) s (cells.rows s).version es) u.entries) views → All (EntrySpan (is_going (first.status s)) s (cells.rows s).version es) w.entries) → Graces first cells es (set views id w)
frame first cells es views id v w h at keeper lasts sitting flights opened notes flown written = record {
  keeper = each_set IsKeeper views id w (λ j u d a. h.keeper j u a) (λ e. h.keeper id v at (keeper e));
  lasts = each_set HasLast views id w (λ j u d a. h.lasts j u a) (λ l e. h.lasts id v at l (lasts l e));
  stored = h.stored;
  formed = each_set Formed views id w (λ j u d a. h.formed j u a) (opened IsFormed (h.formed id v at));
  sides = λ x. side_frame x _ _ es views id v w (h.sides x) at (sitting x) (λ _. notes (TicketBelow x (cells.entries x)) (h.sides x).below) (opened (TicketPast x es));
  slots = λ s. let k = h.slots s in slot_frame s _ _ _ _ _ views id v w k at (flights s) (opened (Bars s (status (first.status s) s es)) (k.barred id v at)) (opened (Hides s (status (first.status s) s es)) (k.hidden id v at)) (λ l e. k.still id v at l (lasts l e));
  marks = λ s. marks_frame s _ _ es views id v w (h.marks s) (omega arith) at (λ _. notes (ReadsAbove s es) (h.marks s).read);
  orders = orders_frame _ _ es views id v w h.orders (omega arith) at (λ _. notes (OrderAbove es) h.orders.read);
  spans = λ s. spans_frame (is_going (first.status s)) s _ _ es views id v w (h.spans s) at (λ _. notes (ReadsSpan (is_going (first.status s)) s (cells.rows s).version es) (h.spans s).read) (λ _. written s (h.spans s).written);
  lives = λ s. life_frame s _ _ _ views id v w (h.lives s) (omega arith) at (opened (ReadsLife s (given s es))) (flown (FlightLife s (given s es)));
}

-- the same open section, notes and flights, and no row is held
pub same_step : (first : First) (cells : Cells) (es : List Event) (views : List View) (id : ℕ) (v w : View) → Graces first cells es views → get_elem? views id ≡ some v → w.role ≡ v.role → w.keeping.last ≡ None → w.inside ≡ v.inside → w.done ≡ v.done → w.flights ≡ v.flights
    → ((s : ℕ) → All (EntrySpan (is_going (first.status s)) s (cells.rows s).version es) v.entries → All (EntrySpan (is_going (first.status s)) s (cells.rows s).version es) w.entries) → Graces first cells es (set views id w)
same_step first cells es views id v w h at same last inside done flights written =
    frame first cells es views id v w h at (λ e. sym same ∙ e) (λ l s. absurd (none_held w last l s)) (λ x. ap (on_side x) inside) (λ s. ap (on_slot s) flights)
    (λ P. opened_same P v w inside) (λ P o. noted_same P v w inside done (o id v at)) (λ F. subst (All F) (sym flights)) (λ s o. written s (o id v at))

-- a load of the side index, a flip, and a scan, a row change, a load of a depth and a clear of a current word that find another number than they look for: nothing of the rule's changes
pub unchanged : (first : First) (cells : Cells) (views : List View) (id : ℕ) (v w : View) → Keeps first cells views → get_elem? views id ≡ some v → w.role ≡ v.role → w.keeping.last ≡ None → w.inside ≡ v.inside → w.done ≡ v.done → w.flights ≡ v.flights → w.entries ≡ v.entries → w.keeping.events ≡ v.keeping.events
    → Keeps first cells (set views id w)
unchanged first cells views id v w h at same last inside done flights entries events =
    held first cells views (set views id w) (keeping-same views id v w at events)
    (same_step first cells (keeping views) views id v w h at same last inside done flights (λ s. subst (All (EntrySpan (is_going (first.status s)) s (cells.rows s).version (keeping views))) (sym entries)))

-- a step of the keeper that its sequence keeps
pub event_step : (first : First) (cells new : Cells) (views : List View) (id : ℕ) (v : View) (e : Event) → Keeps first cells views → get_elem? views id ≡ some v → v.role ≡ role.Keeper → ((news : List View) → Graces first cells (keeping views) news → NoLast news → Graces first new (e ∷ keeping views) news)
    → Keeps first new (set views id (kept e v))
event_step first cells new views id v e h at keeper next =
    let mine = h.keeper id v at keeper in
    let w : View = kept e v in
    let news : List View = set views id w in
    subst (λ (es : List Event). Graces first new es news) (sym (keeping-kept views id v e mine at))
    (next news (same_step first cells (keeping views) views id v w h at refl refl refl refl refl (λ s o. o))
    (each_set (λ _ u. (l : Held) → u.keeping.last ≡ Some l → ⊥) views id w (λ j u d a l s. d (h.lasts j u a l s ∙ sym mine)) (λ l s. none_held w refl l s)))

-- and what the view gets besides
pub after_event : (first : First) (cells : Cells) (views : List View) (id : ℕ) (v w : View) (e : Event) → get_elem? views id ≡ some v → w.role ≡ v.role → w.keeping.last ≡ None → w.inside ≡ v.inside → w.done ≡ v.done → w.flights ≡ v.flights → w.keeping.events ≡ e ∷ v.keeping.events
    → (Keeps first cells (set views id (kept e v)) → (s : ℕ) → All (EntrySpan (is_going (first.status s)) s (cells.rows s).version (keeping (set views id (kept e v)))) v.entries → All (EntrySpan (is_going (first.status s)) s (cells.rows s).version (keeping (set views id (kept e v)))) w.entries)
    → Keeps first cells (set views id (kept e v)) → Keeps first cells (set views id w)
after_event first cells views id v w e at same last inside done flights events written h =
    let u : View = kept e v in
    let mid : List View = set views id u in
    let there = at_here views id v u at in
    subst (Keeps first cells) (set-twice views id u w)
    (held first cells mid (set mid id w) (keeping-same mid id u w there events)
    (same_step first cells (keeping mid) mid id u w h there same last inside done flights (written h)))

-- what the keeper's view says of a slot is what the sequence says
pub own_status : (first : First) (cells : Cells) (views : List View) (id : ℕ) (v : View) (x : ℕ) (st : Status) → Keeps first cells views → get_elem? views id ≡ some v → v.role ≡ role.Keeper → status (first.status x) x v.keeping.events ≡ st → status (first.status x) x (keeping views) ≡ st
own_status first cells views id v x st h at keeper is = ap (status (first.status x) x) (keeping-own views id v (h.keeper id v at keeper) at) ∙ is

pub put_here : {A : Type 0} → (f : ℕ → A) (x : ℕ) (r : A) → put f x r x ≡ r
put_here f x r = ap (λ (b : Bool). cond b r (f x)) (eq-eqb x x refl)

-- the entry of the row that stands there
pub entry_spans : (first : First) (cells : Cells) (es : List Event) (views : List View) (e : RowEntry) → cells.rows e.slot ≡ e.row → Graces first cells es views → (s : ℕ) → EntrySpan (is_going (first.status s)) s (cells.rows s).version es e
entry_spans first cells es views e is h s at =
    subst (λ (r : Row). (r.version ≤ (cells.rows s).version) × (span (is_going (first.status s)) s r.version es ≡ true → (r.marked ≡ true) × (r.ready ≡ false))) (ap cells.rows (sym at) ∙ is)
    (omega arith, λ z. let g = sym ((h.spans s).now (cells.rows s).version (omega arith)) ∙ z in ((h.slots s).marked ∙ g, (h.slots s).off g))

-- an enter
abbrev pub entered_cells : ℕ → Cells → Cells
entered_cells x cells = record cells { entries = put cells.entries x (cells.entries x + 1); inside = put cells.inside x (cells.inside x + 1) }

pub k2 : (first : First) (id : ℕ) (v : View) (lane x t : ℕ) → x < 2 → v.inside ≡ None → (cells : Cells) (views : List View) → t ≡ cells.entries x → Keeps first cells views → get_elem? views id ≡ some v
    → Keeps first (entered_cells x cells) (set views id (entered (opened lane x t) v))
k2 first id v lane x t low closed cells views ticket h at =
    let es : List Event = keeping views in
    let new : Section = opened lane x t in
    let w : View = entered new v in
    let news : List View = set views id w in held first _ views news (keeping-same views id v w at refl) record {
      keeper = each_set IsKeeper views id w (λ j u d a. h.keeper j u a) (h.keeper id v at);
      lasts = each_set HasLast views id w (λ j u d a. h.lasts j u a) (λ l s. absurd (none_held w refl l s));
      stored = h.stored;
      formed = each_set Formed views id w (λ j u d a. h.formed j u a) (opened_one IsFormed w new refl (blank_formed lane x t low));
      sides = λ y. by_case (λ b. SideAt y (cond b (cells.entries x + 1) (cells.entries y)) (cond b (cells.inside x + 1) (cells.inside y)) es news) x y
          (λ e. subst (λ (z : ℕ). SideAt z (cells.entries x + 1) (cells.inside x + 1) es news) e (enter_here x _ _ es views id v new refl ticket (h.sides x) at closed))
          (λ n. enter_else y _ _ es views id v new n (h.sides y) at closed);
      slots = λ s. slot_frame s _ _ _ _ _ views id v w (h.slots s) at refl (opened_one (Bars s (status (first.status s) s es)) w new refl (λ _ r y. absurd (blank_has lane x t s r y))) (opened_one (Hides s (status (first.status s) s es)) w new refl (λ _. refl)) (λ l e. absurd (none_held w refl l e));
      marks = λ s. marks_frame s _ _ es views id v w (h.marks s) (omega arith) at (noted_enter (ReadsAbove s es) new v (λ r y. absurd (blank_has lane x t s r y)));
      orders = orders_frame _ _ es views id v w h.orders (omega arith) at (noted_enter (OrderAbove es) new v (λ o e. absurd (none_order o e)));
      spans = λ s. spans_frame (is_going (first.status s)) s _ _ es views id v w (h.spans s) at (noted_enter (ReadsSpan (is_going (first.status s)) s (cells.rows s).version es) new v (λ r y. absurd (blank_has lane x t s r y))) (λ o. o);
      lives = λ s. life_frame s _ _ _ views id v w (h.lives s) (omega arith) at (λ _. opened_one (ReadsLife s (given s es)) w new refl (λ r y. absurd (blank_has lane x t s r y))) (λ o. o);
    }

-- a leave
abbrev pub left_cells : ℕ → Cells → Cells
left_cells x cells = record cells { inside = put cells.inside x (cells.inside x - 1) }

pub k3 : (first : First) (id : ℕ) (v : View) (t : Section) → v.inside ≡ Some t → (cells : Cells) (views : List View) → Keeps first cells views → get_elem? views id ≡ some v
    → Keeps first (left_cells t.note.side cells) (set views id (finished t v))
k3 first id v t is_open cells views h at =
    let es : List Event = keeping views in
    let x : ℕ = t.note.side in
    let w : View = finished t v in
    let news : List View = set views id w in held first _ views news (keeping-same views id v w at refl) record {
      keeper = each_set IsKeeper views id w (λ j u d a. h.keeper j u a) (h.keeper id v at);
      lasts = each_set HasLast views id w (λ j u d a. h.lasts j u a) (λ l s. absurd (none_held w refl l s));
      stored = h.stored;
      formed = each_set Formed views id w (λ j u d a. h.formed j u a) (opened_none IsFormed w refl);
      sides = λ y. by_case (λ b. SideAt y (cells.entries y) (cond b (cells.inside x - 1) (cells.inside y)) es news) x y
          (λ e. subst (λ (z : ℕ). SideAt z (cells.entries z) (cells.inside x - 1) es news) e (leave_here x _ _ es views id v t (h.sides x) at is_open refl))
          (λ d. leave_else y _ _ es views id v t d (h.sides y) at is_open);
      slots = λ s. slot_frame s _ _ _ _ _ views id v w (h.slots s) at refl (opened_none (Bars s (status (first.status s) s es)) w refl) (opened_none (Hides s (status (first.status s) s es)) w refl) (λ l e. absurd (none_held w refl l e));
      marks = λ s. marks_frame s _ _ es views id v w (h.marks s) (omega arith) at (noted_end (ReadsAbove s es) t v is_open);
      orders = orders_frame _ _ es views id v w h.orders (omega arith) at (noted_end (OrderAbove es) t v is_open);
      spans = λ s. spans_frame (is_going (first.status s)) s _ _ es views id v w (h.spans s) at (noted_end (ReadsSpan (is_going (first.status s)) s (cells.rows s).version es) t v is_open) (λ o. o);
      lives = λ s. life_frame s _ _ _ views id v w (h.lives s) (omega arith) at (λ _. opened_none (ReadsLife s (given s es)) w refl) (λ o. o);
    }

-- a scan that found nobody, before the look
pub k4 : (first : First) (id : ℕ) (v : View) (x o : ℕ) → x < 2 → v.role ≡ role.Keeper → (cells : Cells) (views : List View) → Keeps first cells views → get_elem? views id ≡ some v → cells.inside x ≡ 0
    → Keeps first cells (set views id (kept (Scans x (cells.entries x) o) v))
k4 first id v x o low keeper cells views h at nobody =
    let es : List Event = keeping views in
    event_step first cells cells views id v (Scans x (cells.entries x) o) h at keeper (λ news r none. record {
      keeper = r.keeper;
      lasts = r.lasts;
      stored = r.stored;
      formed = r.formed;
      sides = λ y. scan_side y x _ _ _ o es news (r.sides y) (λ e. (ap cells.entries e, ap cells.inside (sym e) ∙ nobody));
      slots = λ s. slot_scan s x _ _ _ _ _ news low (r.slots s) (λ j u a n is. ((r.formed j u a n is).side, nobody_inside x _ _ es news (r.sides x) nobody j u a n is));
      marks = λ s. marks_scan s _ x _ o es news (r.marks s) (r.sides x).below;
      orders = orders_scan _ x _ o es news r.orders (r.sides x).below;
      spans = λ s. subst (λ (b : Bool). SpanAt (is_going (first.status s)) s (cells.rows s).version b (Scans x (cells.entries x) o ∷ es) news) (sym (scan_flags x (status (first.status s) s es)).1) (spans_later (is_going (first.status s)) s _ _ _ es (Scans x (cells.entries x) o ∷ es) news (omega arith) (λ n. refl) (r.spans s));
      lives = r.lives;
    })

-- a split: the view that is left, and the new one
pub k6 : (first : First) (id : ℕ) (v left right : View) → left.role ≡ v.role → left.keeping.last ≡ None → left.inside ≡ v.inside → left.done ≡ v.done → left.flights ≡ v.flights → left.entries ≡ v.entries → left.keeping.events ≡ v.keeping.events
    → (right.role ≡ role.Keeper → ⊥) → right.inside ≡ None → right.done ≡ [] → right.flights ≡ [] → right.entries ≡ [] → right.keeping.events ≡ [] → right.keeping.last ≡ None
    → (cells : Cells) (views : List View) → Keeps first cells views → get_elem? views id ≡ some v → Keeps first cells (set views id left ++ right ∷ [])
k6 first id v left right same last inside done flights entries events keeper closed blank landed_all unwritten silent none cells views h at =
    let es : List Event = keeping views in
    let l : List View = set views id left in
    let r = same_step first cells es views id v left h at same last inside done flights (λ s. subst (All (EntrySpan (is_going (first.status s)) s (cells.rows s).version es)) (sym entries)) in
    held first cells views (l ++ right ∷ []) (keeping-snoc l right silent ∙ keeping-same views id v left at events) record {
      keeper = each_snoc IsKeeper l right r.keeper (λ j e. absurd (keeper e));
      lasts = each_snoc HasLast l right r.lasts (λ j k e. absurd (none_held right none k e));
      stored = r.stored;
      formed = each_snoc Formed l right r.formed (λ j. opened_none IsFormed right closed);
      sides = λ x. side_more x _ _ es l right (r.sides x) closed blank;
      slots = λ s. slot_more s _ _ _ _ _ l right (r.slots s) closed landed_all none;
      marks = λ s. marks_more s _ es l right (r.marks s) closed blank;
      orders = orders_more _ es l right r.orders closed blank;
      spans = λ s. spans_more (is_going (first.status s)) s _ _ es l right (r.spans s) closed blank unwritten;
      lives = λ s. life_more s _ _ l right (r.lives s) closed landed_all;
    }

-- a join: the other has no open section and no flight
pub k7 : (first : First) (id : ℕ) (v : View) (other : ℕ) (w : View) → v.role ≡ role.Keeper → w.inside ≡ None → w.flights ≡ [] → (cells : Cells) (views : List View) → Keeps first cells views → get_elem? views id ≡ some v → other ≢ id
    → get_elem? (set views id (joined v w)) other ≡ some w → Keeps first cells (set (set views id (joined v w)) other (spent w))
k7 first id v other w keeper closed landed cells views h at apart there =
    let es : List Event = keeping views in
    let both : View = joined v w in
    let l : List View = set views id both in
    let mine = h.keeper id v at keeper in
    let old : get_elem? views other ≡ some w = sym (set_else views id other both apart) ∙ there in
    let r = frame first cells es views id v both h at (λ k. k) (λ l s. absurd (none_held both refl l s)) (λ x. refl) (λ s. refl) (λ P o. o) (λ P o. noted_join P v w (o id v at) (o other w old)) (λ F o. o) (λ s o. All-append (EntrySpan (is_going (first.status s)) s (cells.rows s).version es) v.entries w.entries (o id v at) (o other w old)) in
    let gone : View = spent w in
    held first cells views (set l other gone) (keeping-else l other gone (λ z. apart (z ∙ sym mine)) ∙ keeping-same views id v both at refl)
    (frame first cells es l other w gone r there (λ e. absurd (not_keeper e)) (λ l s. s) (λ x. sym (ap (on_side x) closed)) (λ s. sym (ap (on_slot s) landed)) (λ P _. opened_none P gone refl) (λ P _. noted_none P gone refl refl) (λ F _. all_none F) (λ s o. all_none (EntrySpan (is_going (first.status s)) s (cells.rows s).version es)))
  where
    is_spent : Role → Type 0
    is_spent role.Spent = Unit {0}
    is_spent role.Keeper = ⊥
    is_spent (role.Lane l) = Unit {0}

    not_keeper : role.Spent ≡ role.Keeper → ⊥
    not_keeper e = subst is_spent e tt

-- the open section's note becomes another, and depths may change
pub rule_note : (first : First) (cells : Cells) (d : ℕ → ℕ) (es : List Event) (views : List View) (id : ℕ) (v w : View) (t u : Section) → Graces first cells es views → get_elem? views id ≡ some v → v.inside ≡ Some t → w.inside ≡ Some u → w.done ≡ v.done → u.note.side ≡ t.note.side → u.note.ticket ≡ t.note.ticket
    → w.role ≡ v.role → w.keeping.last ≡ None → IsFormed u.note → ((s : ℕ) → SlotAt s (status (first.status s) s es) (cells.rows s) cells.order (d s) cells.currents (set views id w)) → ((s : ℕ) → ReadsAbove s es u.note) → OrderAbove es u.note → ((s : ℕ) → ReadsSpan (is_going (first.status s)) s (cells.rows s).version es u.note) → ((s : ℕ) → ReadsLife s (given s es) u.note) → ((s : ℕ) → All (FlightLife s (given s es)) v.flights → All (FlightLife s (given s es)) w.flights) → ((s : ℕ) → All (EntrySpan (is_going (first.status s)) s (cells.rows s).version es) v.entries → All (EntrySpan (is_going (first.status s)) s (cells.rows s).version es) w.entries) → Graces first (record cells { depths = d }) es (set views id w)
rule_note first cells d es views id v w t u h at was now done side ticket same last formed slots reads order spanned lived flown written = record {
  keeper = each_set IsKeeper views id w (λ j u d a. h.keeper j u a) (λ e. h.keeper id v at (sym same ∙ e));
  lasts = each_set HasLast views id w (λ j u d a. h.lasts j u a) (λ l s. absurd (none_held w last l s));
  stored = h.stored;
  formed = each_set Formed views id w (λ j u d a. h.formed j u a) (opened_one IsFormed w u now formed);
  sides = λ x. note_side x _ _ es views id v w t u (h.sides x) at was now done side ticket;
  slots = slots;
  marks = λ s. marks_frame s _ _ es views id v w (h.marks s) (omega arith) at (noted_note (ReadsAbove s es) u v w now done (reads s));
  orders = orders_frame _ _ es views id v w h.orders (omega arith) at (noted_note (OrderAbove es) u v w now done order);
  spans = λ s. spans_frame (is_going (first.status s)) s _ _ es views id v w (h.spans s) at (noted_note (ReadsSpan (is_going (first.status s)) s (cells.rows s).version es) u v w now done (spanned s)) (written s);
  lives = λ s. life_frame s _ _ _ views id v w (h.lives s) (omega arith) at (λ _. opened_one (ReadsLife s (given s es)) w u now (lived s)) (flown s);
}

-- the note's side, ticket and order stay, and each row that it has is the word's or was there
record Adds (cells : Cells) (v : View) (n m : Note) : Type 0 where
  side : m.side ≡ n.side
  ticket : m.ticket ≡ n.ticket
  order : m.order ≡ n.order
  formed : IsFormed m
  rows : (s : ℕ) (row : Row) → HasRow m s row → ((row ≡ cells.rows s) × Reaches s n v) ⊎ HasRow n s row

-- one of these, without the reach
less_reach : (cells : Cells) (v : View) (n m : Note) → Adds cells v n m → (s : ℕ) (row : Row) → HasRow m s row → (row ≡ cells.rows s) ⊎ HasRow n s row
less_reach cells v n m a s row x = ⊎_elim (λ (e : (row ≡ cells.rows s) × Reaches s n v). inl e.0) (λ (o : HasRow n s row). inr o) (a.rows s row x)

note_step : (first : First) (id : ℕ) (v : View) (t u : Section) → v.inside ≡ Some t → (cells : Cells) (views : List View) → Adds cells v t.note u.note → Keeps first cells views → get_elem? views id ≡ some v
    → (w : View) → w.role ≡ v.role → w.keeping.last ≡ None → w.inside ≡ Some u → w.done ≡ v.done → w.flights ≡ v.flights → w.keeping.events ≡ v.keeping.events → ((s : ℕ) → All (EntrySpan (is_going (first.status s)) s (cells.rows s).version (keeping views)) v.entries → All (EntrySpan (is_going (first.status s)) s (cells.rows s).version (keeping views)) w.entries) → Keeps first cells (set views id w)
note_step first id v t u is_open cells views adds h at w same last now done flights events written =
    let es : List Event = keeping views in held first cells views (set views id w) (keeping-same views id v w at events)
    (rule_note first cells cells.depths es views id v w t u h at is_open now done adds.side adds.ticket same last adds.formed
    (λ s. let k = h.slots s in slot_frame s _ _ _ _ _ views id v w k at (ap (on_slot s) flights)
    (opened_one (Bars s (status (first.status s) s es)) w u now (bars_row s _ _ _ _ _ views id v t u.note k at is_open adds.side (adds.rows s)))
    (opened_one (Hides s (status (first.status s) s es)) w u now (subst (λ (p : ℕ × Option Order). Hid s (status (first.status s) s es) p.0 p.1) (λ i. (sym adds.side i, sym adds.order i)) (k.hidden id v at t is_open)))
    (λ l e. absurd (none_held w last l e)))
    (λ s. read_row_marks s (cells.rows s) es t.note u.note (h.marks s).known adds.side adds.ticket (less_reach cells v t.note u.note adds s) (((h.marks s).read id v at).0 t is_open))
    (λ o e. subst (λ (p : ℕ × ℕ). order_floor p.0 p.1 es ≤ o.version) (λ i. (sym adds.side i, sym adds.ticket i)) ((h.orders.read id v at).0 t is_open o (sym adds.order ∙ e)))
    (λ s. span_row (is_going (first.status s)) s (cells.rows s) _ es views t.note u.note (h.spans s) (λ g. (h.slots s).off g) (less_reach cells v t.note u.note adds s) (((h.spans s).read id v at).0 t is_open))
    (λ s. life_row s (given s es) (cells.rows s) t.note u.note (h.lives s).known (less_reach cells v t.note u.note adds s) ((h.lives s).read id v at t is_open))
    (λ s. subst (All (FlightLife s (given s es))) (sym flights))
    written)
  where
    Hid : ℕ → Status → ℕ → Option Order → Type 0
    Hid s st x o = is_hidden x st ≡ true → in_order s o ≡ false

-- a load of the list: the section has read nothing
pub k8 : (first : First) (id : ℕ) (v w : View) (t : Section) → v.inside ≡ Some t → t.note.reading.len ≡ 0 → (cells : Cells) (views : List View) → IsOrder cells.order → Keeps first cells views → get_elem? views id ≡ some v
    → w.role ≡ v.role → w.keeping.last ≡ None → w.inside ≡ Some (record t { note = order_noted cells.order t.note }) → w.done ≡ v.done → w.flights ≡ v.flights → w.keeping.events ≡ v.keeping.events → w.entries ≡ v.entries → Keeps first cells (set views id w)
k8 first id v w t is_open none cells views lawful h at same last now done flights events entries =
    let es : List Event = keeping views in
    let u : Section = record t { note = order_noted cells.order t.note } in
    let formed = h.formed id v at t is_open in held first cells views (set views id w) (keeping-same views id v w at events)
    (rule_note first cells cells.depths es views id v w t u h at is_open now done refl refl same last (order_formed cells.order t.note formed none lawful)
    (λ s. let k = h.slots s in slot_frame s _ _ _ _ _ views id v w k at (ap (on_slot s) flights)
    (opened_one (Bars s (status (first.status s) s es)) w u now (λ _ r y. absurd (order_has cells.order t.note s r formed none y)))
    (opened_one (Hides s (status (first.status s) s es)) w u now (hides_order s _ _ _ _ _ views t.note k)) (λ l e. absurd (none_held w last l e)))
    (λ s r y. absurd (order_has cells.order t.note s r formed none y))
    (read_order_orders cells.order es t.note h.orders.known)
    (λ s r y. absurd (order_has cells.order t.note s r formed none y))
    (λ s r y. absurd (order_has cells.order t.note s r formed none y))
    (λ s. subst (All (FlightLife s (given s es))) (sym flights))
    (λ s. subst (All (EntrySpan (is_going (first.status s)) s (cells.rows s).version es)) (sym entries)))

-- a load of a row: the slot is listed in the reading, and reached
pub k9 : (first : First) (id : ℕ) (v w : View) (t : Section) (x : ℕ) → v.inside ≡ Some t → Lists t.note x → Reaches x t.note v → (cells : Cells) (views : List View) → Keeps first cells views → get_elem? views id ≡ some v
    → w.role ≡ v.role → w.keeping.last ≡ None → w.inside ≡ Some (record t { note = row_noted x (cells.rows x) t.note }) → w.done ≡ v.done → w.flights ≡ v.flights → w.keeping.events ≡ v.keeping.events → w.entries ≡ v.entries → Keeps first cells (set views id w)
k9 first id v w t x is_open lists reach cells views h at same last now done flights events entries =
    let formed = h.formed id v at t is_open in
    note_step first id v t (record t { note = row_noted x (cells.rows x) t.note }) is_open cells views record {
      side = refl;
      ticket = refl;
      order = refl;
      formed = row_formed x (cells.rows x) t.note formed lists;
      rows = λ s row y. ⊎_elim (λ (e : (x ≡ s) × (row ≡ cells.rows x)). inl (e.1 ∙ ap cells.rows e.0, subst (λ (z : ℕ). Reaches z t.note v) e.0 reach)) (λ (o : HasRow t.note s row). inr o) (row_has x (cells.rows x) t.note s row formed lists y);
    } h at w same last now done flights events (λ s. subst (All (EntrySpan (is_going (first.status s)) s (cells.rows s).version (keeping views))) (sym entries))

-- a load of a row of the slot of a flight of the view
pub k9_flight : (first : First) (id : ℕ) (v w : View) (t : Section) (x : ℕ) → v.inside ≡ Some t → t.note.order ≡ None → 1 ≤ flying x v → (cells : Cells) (views : List View) → Keeps first cells views → get_elem? views id ≡ some v
    → w.role ≡ v.role → w.keeping.last ≡ None → w.inside ≡ Some (record t { note = flight_noted x (cells.rows x) t.note }) → w.done ≡ v.done → w.flights ≡ v.flights → w.keeping.events ≡ v.keeping.events → w.entries ≡ v.entries → Keeps first cells (set views id w)
k9_flight first id v w t x is_open none flies cells views h at same last now done flights events entries =
    let formed = h.formed id v at t is_open in
    note_step first id v t (record t { note = flight_noted x (cells.rows x) t.note }) is_open cells views record {
      side = refl;
      ticket = refl;
      order = refl;
      formed = flight_formed x (cells.rows x) t.note formed none;
      rows = λ s row y. let e = flight_has x (cells.rows x) t.note s row y in inl (e.1 ∙ ap cells.rows e.0, subst (λ (z : ℕ). Reaches z t.note v) e.0 (inr flies));
    } h at w same last now done flights events (λ s. subst (All (EntrySpan (is_going (first.status s)) s (cells.rows s).version (keeping views))) (sym entries))

-- a load of a depth, a load of a current word and a store of a current word by a section, and a row change after its word: the note has the same rows
pub same_rows : (first : First) (id : ℕ) (v w : View) (t u : Section) → v.inside ≡ Some t → u.note.side ≡ t.note.side → u.note.ticket ≡ t.note.ticket → u.note.order ≡ t.note.order → (IsFormed t.note → IsFormed u.note) → ((s : ℕ) (row : Row) → HasRow u.note s row → HasRow t.note s row) → (cells : Cells) (views : List View) → Keeps first cells views → get_elem? views id ≡ some v
    → w.role ≡ v.role → w.keeping.last ≡ None → w.inside ≡ Some u → w.done ≡ v.done → w.flights ≡ v.flights → w.keeping.events ≡ v.keeping.events → ((s : ℕ) → All (EntrySpan (is_going (first.status s)) s (cells.rows s).version (keeping views)) v.entries → All (EntrySpan (is_going (first.status s)) s (cells.rows s).version (keeping views)) w.entries) → Keeps first cells (set views id w)
same_rows first id v w t u is_open side ticket order formed rows cells views h at same last now done flights events written =
    note_step first id v t u is_open cells views record { side = side; ticket = ticket; order = order; formed = formed (h.formed id v at t is_open); rows = λ s row y. inr (rows s row y) } h at w same last now done flights events written

-- a load of a row by `keeper_row`
pub k9_keeper : (first : First) (id : ℕ) (v w : View) (x : ℕ) → v.role ≡ role.Keeper → (cells : Cells) (views : List View) → Keeps first cells views → get_elem? views id ≡ some v
    → w.role ≡ v.role → w.keeping.last ≡ Some (record { slot = x; row = cells.rows x }) → w.inside ≡ v.inside → w.done ≡ v.done → w.flights ≡ v.flights → w.entries ≡ v.entries → w.keeping.events ≡ v.keeping.events → Keeps first cells (set views id w)
k9_keeper first id v w x keeper cells views h at same last inside done flights entries events =
    let es : List Event = keeping views in held first cells views (set views id w) (keeping-same views id v w at events) record {
      keeper = each_set IsKeeper views id w (λ j u d a. h.keeper j u a) (λ e. h.keeper id v at (sym same ∙ e));
      lasts = each_set HasLast views id w (λ j u d a. h.lasts j u a) (λ l e. h.keeper id v at keeper);
      stored = h.stored;
      formed = each_set Formed views id w (λ j u d a. h.formed j u a) (opened_same IsFormed v w inside (h.formed id v at));
      sides = λ y. side_frame y _ _ es views id v w (h.sides y) at (ap (on_side y) inside) (noted_same (TicketBelow y (cells.entries y)) v w inside done) (opened_same (TicketPast y es) v w inside);
      slots = λ s. slot_frame s _ _ _ _ _ views id v w (h.slots s) at (ap (on_slot s) flights) (opened_same (Bars s (status (first.status s) s es)) v w inside ((h.slots s).barred id v at)) (opened_same (Hides s (status (first.status s) s es)) v w inside ((h.slots s).hidden id v at))
          (λ l e at_s q. let is = the_held (record { slot = x; row = cells.rows x }) l (sym last ∙ e) in sym (ap (λ (k : Held). k.row) is) ∙ ap cells.rows (ap (λ (k : Held). k.slot) is ∙ at_s));
      marks = λ s. marks_frame s _ _ es views id v w (h.marks s) (omega arith) at (noted_same (ReadsAbove s es) v w inside done);
      orders = orders_frame _ _ es views id v w h.orders (omega arith) at (noted_same (OrderAbove es) v w inside done);
      spans = λ s. spans_frame (is_going (first.status s)) s _ _ es views id v w (h.spans s) at (noted_same (ReadsSpan (is_going (first.status s)) s (cells.rows s).version es) v w inside done) (subst (All (EntrySpan (is_going (first.status s)) s (cells.rows s).version es)) (sym entries));
      lives = λ s. life_frame s _ _ _ views id v w (h.lives s) (omega arith) at (opened_same (ReadsLife s (given s es)) v w inside) (subst (All (FlightLife s (given s es))) (sym flights));
    }

-- a row's word becomes another
abbrev pub row_cells : ℕ → Row → Cells → Cells
row_cells x new cells = record cells { rows = put cells.rows x new }

-- a row change with Log, Ctrl, Expire or Pending, where the word was the old one, before the view: the slot is reached
pub log_cells : (first : First) (id : ℕ) (v : View) (t : Section) (x : ℕ) (new : Row) → v.inside ≡ Some t → Reaches x t.note v → (cells : Cells) (views : List View) → is_given new ≡ is_given (cells.rows x) → new.marked ≡ (cells.rows x).marked → new.ready ≡ (cells.rows x).ready → new.version ≡ (cells.rows x).version + 1 → Keeps first cells views → get_elem? views id ≡ some v
    → Keeps first (row_cells x new cells) views
log_cells first id v t x new is_open reach cells views taken marked ready version h at =
    let es : List Event = keeping views in record {
      keeper = h.keeper;
      lasts = h.lasts;
      stored = h.stored;
      formed = h.formed;
      sides = h.sides;
      slots = λ s. by_case (λ b. SlotAt s (status (first.status s) s es) (cond b new (cells.rows s)) cells.order (cells.depths s) cells.currents views) x s
          (λ e. subst (λ (y : ℕ). SlotAt y (status (first.status y) y es) new cells.order (cells.depths y) cells.currents views) e (slot_log x _ _ new _ _ _ views (not_quiet x _ _ _ _ _ views id v t (h.slots x) at is_open reach) taken marked ready (h.slots x)))
          (λ _. h.slots s);
      marks = λ s. by_case (λ b. MarksAt s (cond b new (cells.rows s)).version es views) x s
          (λ e. subst (λ (y : ℕ). MarksAt y new.version es views) e (marks_later x (cells.rows x).version new.version es views (h.marks x) (omega arith)))
          (λ _. h.marks s);
      orders = h.orders;
      spans = λ s. by_case (λ b. SpanAt (is_going (first.status s)) s (cond b new (cells.rows s)).version (is_going (status (first.status s) s es)) es views) x s
          (λ e. subst (λ (y : ℕ). SpanAt (is_going (first.status y)) y new.version (is_going (status (first.status y) y es)) es views) e (spans_later (is_going (first.status x)) x _ new.version _ es es views (omega arith) (λ n. refl) (h.spans x)))
          (λ _. h.spans s);
      lives = λ s. by_case (λ b. LifeAt s (given s es) (cond b new (cells.rows s)).version views) x s
          (λ e. subst (λ (y : ℕ). LifeAt y (given y es) new.version views) e (life_later x _ _ new.version views (h.lives x) (omega arith)))
          (λ _. h.lives s);
    }

-- a row change with a mark of a listed slot that isn't marked, before the entry
pub k10_mark : (first : First) (id : ℕ) (v : View) (x : ℕ) (new : Row) → v.role ≡ role.Keeper → status (first.status x) x v.keeping.events ≡ listed → (cells : Cells) (views : List View) → is_given new ≡ is_given (cells.rows x) → new.marked ≡ true → new.ready ≡ false → new.version ≡ (cells.rows x).version + 1 → Keeps first cells views → get_elem? views id ≡ some v
    → Keeps first (row_cells x new cells) (set views id (kept (Marks x new.version) v))
k10_mark first id v x new keeper own cells views taken marked ready version h at =
    let is = own_status first cells views id v x listed h at keeper own in
    let es : List Event = keeping views in
    let m : ℕ = new.version in
    event_step first cells (row_cells x new cells) views id v (Marks x m) h at keeper (λ news r none. record {
      keeper = r.keeper;
      lasts = r.lasts;
      stored = r.stored;
      formed = r.formed;
      sides = λ y. side_as y _ _ (keeping views) (Marks x m ∷ keeping views) news refl (r.sides y);
      slots = λ s. by_case (λ b. SlotAt s (cond b (leaving false false) (status (first.status s) s es)) (cond b new (cells.rows s)) cells.order (cells.depths s) cells.currents news) x s
          (λ e. subst (λ (y : ℕ). SlotAt y (leaving false false) new cells.order (cells.depths y) cells.currents news) e (slot_mark x _ _ new _ _ _ news is taken marked ready (r.slots x)))
          (λ _. r.slots s);
      marks = λ s. by_case (λ b. MarksAt s (cond b new (cells.rows s)).version (Marks x m ∷ es) news) x s
          (λ e. subst (λ (y : ℕ). MarksAt y m (Marks x m ∷ es) news) e (marks_mark x x (cells.rows x).version m es news (r.marks x) (omega arith)))
          (λ d. marks_else s x _ m es news (r.marks s) d);
      orders = orders_as _ (keeping views) (Marks x m ∷ keeping views) news refl (λ x t. refl) r.orders;
      spans = λ s. by_case (λ b. SpanAt (is_going (first.status s)) s (cond b new (cells.rows s)).version (is_going (cond b (leaving false false) (status (first.status s) s es))) (Marks x m ∷ es) news) x s
          (λ e. subst (λ (y : ℕ). SpanAt (is_going (first.status y)) y m true (Marks x m ∷ es) news) e (subst (λ (y : ℕ). SpanAt (is_going (first.status x)) x y true (Marks x y ∷ es) news) (sym version) (spans_mark (is_going (first.status x)) x _ _ es news (r.spans x))))
          (λ d. spans_later (is_going (first.status s)) s _ _ _ es (Marks x m ∷ es) news (omega arith) (mark_else (is_going (first.status s)) s x m es d) (r.spans s));
      lives = λ s. by_case (λ b. LifeAt s (given s es) (cond b new (cells.rows s)).version news) x s
          (λ e. subst (λ (y : ℕ). LifeAt y (given y es) new.version news) e (life_later x _ _ new.version news (r.lives x) (omega arith)))
          (λ _. r.lives s);
    })

-- a row change with a give of an unlisted free slot, before the entry
pub k10_give : (first : First) (id : ℕ) (v : View) (x : ℕ) (new : Row) → v.role ≡ role.Keeper → status (first.status x) x v.keeping.events ≡ unused → (cells : Cells) (views : List View) → is_given new ≡ true → new.marked ≡ false → new.version ≡ (cells.rows x).version + 1 → Keeps first cells views → get_elem? views id ≡ some v
    → Keeps first (row_cells x new cells) (set views id (kept (Gives x new.version) v))
k10_give first id v x new keeper own cells views taken marked version h at =
    let is = own_status first cells views id v x unused h at keeper own in
    let es : List Event = keeping views in
    let m : ℕ = new.version in
    event_step first cells (row_cells x new cells) views id v (Gives x m) h at keeper (λ news r none. record {
      keeper = r.keeper;
      lasts = r.lasts;
      stored = r.stored;
      formed = r.formed;
      sides = λ y. side_as y _ _ (keeping views) (Gives x m ∷ keeping views) news refl (r.sides y);
      slots = λ s. by_case (λ b. SlotAt s (cond b fresh (status (first.status s) s es)) (cond b new (cells.rows s)) cells.order (cells.depths s) cells.currents news) x s
          (λ e. subst (λ (y : ℕ). SlotAt y fresh new cells.order (cells.depths y) cells.currents news) e (slot_give x _ _ new _ _ _ news is none taken marked (r.slots x)))
          (λ _. r.slots s);
      marks = λ s. marks_as s _ es (Gives x m ∷ es) news refl (λ x t. refl) (by_case (λ b. MarksAt s (cond b new (cells.rows s)).version es news) x s
          (λ e. subst (λ (y : ℕ). MarksAt y m es news) e (marks_later x (cells.rows x).version m es news (r.marks x) (omega arith)))
          (λ _. r.marks s));
      orders = orders_as _ (keeping views) (Gives x m ∷ keeping views) news refl (λ x t. refl) r.orders;
      spans = λ s. by_case (λ b. SpanAt (is_going (first.status s)) s (cond b new (cells.rows s)).version (is_going (cond b fresh (status (first.status s) s es))) (Gives x m ∷ es) news) x s
          (λ e. subst (λ (y : ℕ). SpanAt (is_going (first.status y)) y m (is_going fresh) (Gives x m ∷ es) news) e (subst (λ (y : Status). is_going y ≡ false → SpanAt (is_going (first.status x)) x m (is_going y) (Gives x m ∷ es) news) is (λ _. spans_later (is_going (first.status x)) x _ m _ es (Gives x m ∷ es) news (omega arith) (λ n. refl) (r.spans x)) refl))
          (λ d. spans_later (is_going (first.status s)) s _ _ _ es (Gives x m ∷ es) news (omega arith) (λ n. refl) (r.spans s));
      lives = λ s. by_case (λ b. LifeAt s (cond b (max m (given s es)) (given s es)) (cond b new (cells.rows s)).version news) x s
          (λ e. subst (λ (y : ℕ). LifeAt y (max m (given y es)) m news) e (life_give x _ m _ _ _ _ _ news (r.slots x) (ap is_quiet is) (r.lives x) (omega arith)))
          (λ _. r.lives s);
    })

-- a row change with a free of a slot past the second grace period and empty, before the entry
pub k10_free : (first : First) (id : ℕ) (v : View) (x : ℕ) (new : Row) → v.role ≡ role.Keeper → status (first.status x) x v.keeping.events ≡ bare → (cells : Cells) (views : List View) → is_given new ≡ false → new.marked ≡ false → new.version ≡ (cells.rows x).version + 1 → Keeps first cells views → get_elem? views id ≡ some v
    → Keeps first (row_cells x new cells) (set views id (kept (Frees x new.version) v))
k10_free first id v x new keeper own cells views taken marked version h at =
    let is = own_status first cells views id v x bare h at keeper own in
    let es : List Event = keeping views in
    let m : ℕ = new.version in
    event_step first cells (row_cells x new cells) views id v (Frees x m) h at keeper (λ news r none. record {
      keeper = r.keeper;
      lasts = r.lasts;
      stored = r.stored;
      formed = r.formed;
      sides = λ y. side_as y _ _ (keeping views) (Frees x m ∷ keeping views) news refl (r.sides y);
      slots = λ s. by_case (λ b. SlotAt s (cond b unused (status (first.status s) s es)) (cond b new (cells.rows s)) cells.order (cells.depths s) cells.currents news) x s
          (λ e. subst (λ (y : ℕ). SlotAt y unused new cells.order (cells.depths y) cells.currents news) e (slot_free x _ _ new _ _ _ news is none taken marked (r.slots x)))
          (λ _. r.slots s);
      marks = λ s. marks_as s _ es (Frees x m ∷ es) news refl (λ x t. refl) (by_case (λ b. MarksAt s (cond b new (cells.rows s)).version es news) x s
          (λ e. subst (λ (y : ℕ). MarksAt y m es news) e (marks_later x (cells.rows x).version m es news (r.marks x) (omega arith)))
          (λ _. r.marks s));
      orders = orders_as _ (keeping views) (Frees x m ∷ keeping views) news refl (λ x t. refl) r.orders;
      spans = λ s. by_case (λ b. SpanAt (is_going (first.status s)) s (cond b new (cells.rows s)).version (is_going (cond b unused (status (first.status s) s es))) (Frees x m ∷ es) news) x s
          (λ e. subst (λ (y : ℕ). SpanAt (is_going (first.status y)) y m false (Frees x m ∷ es) news) e (subst (λ (y : ℕ). SpanAt (is_going (first.status x)) x y false (Frees x y ∷ es) news) (sym version) (spans_free (is_going (first.status x)) x _ _ es news (r.spans x))))
          (λ d. spans_later (is_going (first.status s)) s _ _ _ es (Frees x m ∷ es) news (omega arith) (free_else (is_going (first.status s)) s x m es d) (r.spans s));
      lives = λ s. by_case (λ b. LifeAt s (given s es) (cond b new (cells.rows s)).version news) x s
          (λ e. subst (λ (y : ℕ). LifeAt y (given y es) new.version news) e (life_later x _ _ new.version news (r.lives x) (omega arith)))
          (λ _. r.lives s);
    })

-- a store of the list, before the view
pub k11 : (first : First) (id : ℕ) (v : View) (o : OrderEntry) → v.role ≡ role.Keeper → o.order.version ≡ (last_order first.order v.keeping.events).version + 1 → ((s : ℕ) → MayOrder (lists s o.order) (status (first.status s) s v.keeping.events))
    → (cells : Cells) (views : List View) → Keeps first cells views → get_elem? views id ≡ some v → Keeps first (record cells { order = o.order }) (set views id (kept (Orders o) v))
k11 first id v o keeper next may cells views h at =
    let es : List Event = keeping views in
    let own = keeping-own views id v (h.keeper id v at keeper) at in
    let later : cells.order.version + 1 ≡ o.order.version = ap (λ (p : Order). p.version + 1) (h.stored ∙ ap (last_order first.order) own) ∙ sym next in event_step first cells _ views id v (Orders o) h at keeper (λ news r none. record {
      keeper = r.keeper;
      lasts = r.lasts;
      stored = refl;
      formed = r.formed;
      sides = λ y. side_as y _ _ es (Orders o ∷ es) news refl (r.sides y);
      slots = λ s. slot_order s _ _ _ o.order _ _ news (subst (λ (l : List Event). MayOrder (lists s o.order) (status (first.status s) s l)) (sym own) (may s)) (r.slots s);
      marks = λ s. marks_as s _ es (Orders o ∷ es) news refl (λ x t. refl) (r.marks s);
      orders = orders_store o _ es news r.orders (omega arith);
      spans = λ s. subst (λ (b : Bool). SpanAt (is_going (first.status s)) s (cells.rows s).version b (Orders o ∷ es) news) (sym (order_flags (lists s o.order) (status (first.status s) s es)).1) (spans_later (is_going (first.status s)) s _ _ _ es (Orders o ∷ es) news (omega arith) (λ n. refl) (r.spans s));
      lives = r.lives;
    })

-- a load of a depth by `keeper_depth` that read 0, before the look
pub k12 : (first : First) (id : ℕ) (v : View) (x : ℕ) → v.role ≡ role.Keeper → (cells : Cells) (views : List View) → Keeps first cells views → get_elem? views id ≡ some v → cells.depths x ≡ 0
    → Keeps first cells (set views id (kept (Zeros x) v))
k12 first id v x keeper cells views h at nothing =
    let es : List Event = keeping views in event_step first cells cells views id v (Zeros x) h at keeper (λ news r none. record {
      keeper = r.keeper;
      lasts = r.lasts;
      stored = r.stored;
      formed = r.formed;
      sides = λ y. side_as y _ _ (keeping views) (Zeros x ∷ keeping views) news refl (r.sides y);
      slots = λ s. by_case (λ b. SlotAt s (cond b (emptied (status (first.status s) s es)) (status (first.status s) s es)) (cells.rows s) cells.order (cells.depths s) cells.currents news) x s
          (λ e. slot_empty s _ _ _ _ _ news (ap cells.depths (sym e) ∙ nothing) none (r.slots s))
          (λ _. r.slots s);
      marks = λ s. marks_as s _ (keeping views) (Zeros x ∷ keeping views) news refl (λ x t. refl) (r.marks s);
      orders = orders_as _ (keeping views) (Zeros x ∷ keeping views) news refl (λ x t. refl) r.orders;
      spans = λ s. spans_later (is_going (first.status s)) s _ _ _ es (Zeros x ∷ es) news (omega arith) (λ n. refl) (by_case (λ b. SpanAt (is_going (first.status s)) s (cells.rows s).version (is_going (cond b (emptied (status (first.status s) s es)) (status (first.status s) s es))) es news) x s
          (λ _. subst (λ (b : Bool). SpanAt (is_going (first.status s)) s (cells.rows s).version b es news) (sym (empty_flags (status (first.status s) s es)).1) (r.spans s))
          (λ _. r.spans s));
      lives = r.lives;
    })

-- a send: an enabled row of the slot stands in the note, of the flight's version
abbrev pub depth_cells : ℕ → ℕ → Cells → Cells
depth_cells x d cells = record cells { depths = put cells.depths x d }

pub k13 : (first : First) (id : ℕ) (v : View) (t : Section) (f : Flight) (row : Row) → v.inside ≡ Some t → HasRow t.note f.slot row → is_enabled row ≡ true → f.version ≡ row.version → (cells : Cells) (views : List View) → Keeps first cells views → get_elem? views id ≡ some v
    → Keeps first (depth_cells f.slot (cells.depths f.slot + 1) cells) (set views id (flown f (record t { sent = true }) v))
k13 first id v t f row is_open has on version cells views h at =
    let x : ℕ = f.slot in
    let es : List Event = keeping views in
    let u : Section = record t { sent = true } in
    let w : View = flown f u v in
    let news : List View = set views id w in
    let bars : (s : ℕ) → Opened (Bars s (status (first.status s) s es)) w = λ s. opened_one (Bars s (status (first.status s) s es)) w u refl ((h.slots s).barred id v at t is_open) in
    let hides : (s : ℕ) → Opened (Hides s (status (first.status s) s es)) w = λ s. opened_one (Hides s (status (first.status s) s es)) w u refl ((h.slots s).hidden id v at t is_open) in
    held first _ views news (keeping-same views id v w at refl)
    (rule_note first cells (put cells.depths x (cells.depths x + 1)) es views id v w t u h at is_open refl refl refl refl refl refl (h.formed id v at t is_open)
    (λ s. by_case (λ b. SlotAt s (status (first.status s) s es) (cells.rows s) cells.order (cond b (cells.depths x + 1) (cells.depths s)) cells.currents news) x s
    (λ e. subst (λ (y : ℕ). SlotAt y (status (first.status y) y es) (cells.rows y) cells.order (cells.depths x + 1) cells.currents news) e
    (slot_send x _ _ _ _ _ views id v w (h.slots x) at (flying_more x v.flights f ∙ ap (λ (n : ℕ). flying x v + n) (on_here x f refl))
    (λ q. row_unbarred x _ _ _ _ _ views id v t row (h.slots x) at is_open has on (quiet-barred t.note.side _ q)) (bars x) (hides x) (λ l e. absurd (none_held w refl l e))))
    (λ d. slot_frame s _ _ _ _ _ views id v w (h.slots s) at (flying_more s v.flights f ∙ ap (λ (n : ℕ). flying s v + n) (on_else s f d) ∙ omega arith) (bars s) (hides s) (λ l e. absurd (none_held w refl l e))))
    (λ s. ((h.marks s).read id v at).0 t is_open)
    ((h.orders.read id v at).0 t is_open)
    (λ s. ((h.spans s).read id v at).0 t is_open)
    (λ s. (h.lives s).read id v at t is_open)
    (λ s o. all_more (FlightLife s (given s es)) v.flights f o (λ e. let l = (h.lives s).read id v at t is_open row (subst (λ (y : ℕ). HasRow t.note y row) e has) on in omega arith))
    (λ s o. o))

-- an end
pub k14 : (first : First) (id : ℕ) (v : View) (f : Flight) → has_flight f v ≡ true → (cells : Cells) (views : List View) → Keeps first cells views → get_elem? views id ≡ some v
    → Keeps first (depth_cells f.slot (cells.depths f.slot - 1) cells) (set views id (landed f v))
k14 first id v f has cells views h at =
    let es : List Event = keeping views in
    let x : ℕ = f.slot in
    let w : View = landed f v in
    let news : List View = set views id w in
    let less : (s : ℕ) → flying s v ≡ flying s w + one_on s f = λ s. flying_less s f v.flights has in
    held first _ views news (keeping-same views id v w at refl) record {
      keeper = each_set IsKeeper views id w (λ j u d a. h.keeper j u a) (h.keeper id v at);
      lasts = each_set HasLast views id w (λ j u d a. h.lasts j u a) (λ l s. absurd (none_held w refl l s));
      stored = h.stored;
      formed = each_set Formed views id w (λ j u d a. h.formed j u a) (h.formed id v at);
      sides = λ y. side_frame y _ _ es views id v w (h.sides y) at refl (λ o. o) (λ o. o);
      slots = λ s. by_case (λ b. SlotAt s (status (first.status s) s es) (cells.rows s) cells.order (cond b (cells.depths x - 1) (cells.depths s)) cells.currents news) x s
          (λ e. subst (λ (y : ℕ). SlotAt y (status (first.status y) y es) (cells.rows y) cells.order (cells.depths x - 1) cells.currents news) e
          (slot_land x _ _ _ _ _ views id v w (h.slots x) at (less x ∙ ap (λ (n : ℕ). flying x w + n) (on_here x f refl)) ((h.slots x).barred id v at) ((h.slots x).hidden id v at) (λ l e. absurd (none_held w refl l e))))
          (λ d. slot_frame s _ _ _ _ _ views id v w (h.slots s) at (sym (less s ∙ ap (λ (n : ℕ). flying s w + n) (on_else s f d) ∙ omega arith)) ((h.slots s).barred id v at) ((h.slots s).hidden id v at) (λ l e. absurd (none_held w refl l e)));
      marks = λ s. marks_frame s _ _ es views id v w (h.marks s) (omega arith) at (λ o. o);
      orders = orders_frame _ _ es views id v w h.orders (omega arith) at (λ o. o);
      spans = λ s. spans_frame (is_going (first.status s)) s _ _ es views id v w (h.spans s) at (λ o. o) (λ o. o);
      lives = λ s. life_frame s _ _ _ views id v w (h.lives s) (omega arith) at (λ o. o) (all_less (FlightLife s (given s es)) f v.flights);
    }

-- a step on the current words alone
currents_step : (first : First) (cells : Cells) (news : ℕ → Option ℕ) (es : List Event) (views : List View) → Graces first cells es views → ((s : ℕ) → Unnamed s (status (first.status s) s es) news) → Graces first (record cells { currents = news }) es views
currents_step first cells news es views h named = record {
  keeper = h.keeper;
  lasts = h.lasts;
  stored = h.stored;
  formed = h.formed;
  sides = h.sides;
  slots = λ s. slot_currents s _ _ _ _ _ news views (h.slots s) (named s);
  marks = h.marks;
  orders = h.orders;
  spans = h.spans;
  lives = h.lives;
}

abbrev pub current_cells : ℕ → Option ℕ → Cells → Cells
current_cells i c cells = record cells { currents = put cells.currents i c }

-- a store of a current word of a slot whose enabled row is in the note, before the view
pub k16 : (first : First) (id : ℕ) (v : View) (t : Section) (x i : ℕ) (row : Row) → v.inside ≡ Some t → HasRow t.note x row → is_enabled row ≡ true → (cells : Cells) (views : List View) → Keeps first cells views → get_elem? views id ≡ some v
    → Keeps first (current_cells i (Some x) cells) views
k16 first id v t x i row is_open has on cells views h at =
    currents_step first cells _ (keeping views) views h (λ s. store_named s x i _ cells.currents (h.slots s).unnamed
    (λ e q. row_unbarred s _ _ _ _ _ views id v t row (h.slots s) at is_open (subst (λ (y : ℕ). HasRow t.note y row) e has) on (unnamed-barred i t.note.side _ q)))

-- a store of a current word of none, and a clear of a current word: the word becomes none, or stays
pub less_named : (first : First) (i : ℕ) (c : Option ℕ) → (cells : Cells) (es : List Event) (views : List View) → Graces first cells es views → (c ≡ None) ⊎ (c ≡ cells.currents i) → Graces first (current_cells i c cells) es views
less_named first i c cells es views h is = currents_step first cells _ es views h (λ s. clear_named s i c _ cells.currents (h.slots s).unnamed is)

pub unless_is : (x : ℕ) (c : Option ℕ) → (unless_slot x c ≡ None) ⊎ (unless_slot x c ≡ c)
unless_is x None = inl refl
unless_is x (Some y) = by_case (λ b. ((if b then None else Some y) ≡ None) ⊎ ((if b then None else Some y) ≡ Some y)) y x (λ _. inl refl) (λ _. inr refl)

pub unless_not : (x : ℕ) (c : Option ℕ) → unless_slot x c ≡ Some x → ⊥
unless_not x None e = none_slot x e
unless_not x (Some y) e = by_case (λ b. (if b then None else Some y) ≡ Some x → ⊥) y x (λ _ f. none_slot x f) (λ d f. d (the_slot y x f)) e

-- a clear of a current word by the keeper
pub k17_keeper : (first : First) (id : ℕ) (v : View) (x i : ℕ) → v.role ≡ role.Keeper → (cells : Cells) (views : List View) → Keeps first cells views → get_elem? views id ≡ some v
    → Keeps first (current_cells i (unless_slot x (cells.currents i)) cells) (set views id (kept (Clears i x) v))
k17_keeper first id v x i keeper cells views h at =
    let es : List Event = keeping views in
    let c : Option ℕ = unless_slot x (cells.currents i) in
    let cleans : ℕ → Option ℕ = put cells.currents i c in
    event_step first cells _ views id v (Clears i x) h at keeper (λ news r none.
    let k = less_named first i c cells es news r (unless_is x (cells.currents i)) in record {
      keeper = k.keeper;
      lasts = k.lasts;
      stored = k.stored;
      formed = k.formed;
      sides = λ y. side_as y _ _ es (Clears i x ∷ es) news refl (k.sides y);
      slots = λ s. by_case (λ b. SlotAt s (cond b (cleared i (status (first.status s) s es)) (status (first.status s) s es)) (cells.rows s) cells.order (cells.depths s) cleans news) x s
          (λ e. slot_clear s i _ _ _ _ cells.currents cleans news (λ n. unless_not x (cells.currents i) (sym (put_here cells.currents i c) ∙ n ∙ ap (λ (y : ℕ). Some y) (sym e))) (k.slots s))
          (λ _. k.slots s);
      marks = λ s. marks_as s _ es (Clears i x ∷ es) news refl (λ x t. refl) (k.marks s);
      orders = orders_as _ es (Clears i x ∷ es) news refl (λ x t. refl) k.orders;
      spans = λ s. spans_later (is_going (first.status s)) s _ _ _ es (Clears i x ∷ es) news (omega arith) (λ n. refl) (by_case (λ b. SpanAt (is_going (first.status s)) s (cells.rows s).version (is_going (cond b (cleared i (status (first.status s) s es)) (status (first.status s) s es))) es news) x s
          (λ _. subst (λ (b : Bool). SpanAt (is_going (first.status s)) s (cells.rows s).version b es news) (sym (clear_flags i (status (first.status s) s es)).1) (k.spans s))
          (λ _. k.spans s));
      lives = k.lives;
    })
