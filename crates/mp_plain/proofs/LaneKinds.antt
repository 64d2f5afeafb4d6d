-- Each kind of step of a lane, where the words and what all lanes know stand.
use Rattle.std.proofs.Common.{◌≡◌, ◌≢◌, ℕ, suc, ◌+◌, ◌-◌, ◌<◌, ◌≤◌, ◌==◌, Bool, true, false, true≢false, List, [], ◌∷◌, ◌++◌, length, get_or, set, cond, inl, inr, ⊎_elim, sym, refl, ap, ◌∙◌, subst, arith, Option, None, Some}
use Rattle.std.specs.List.{list_any}
use Rattle.mp_words.specs.declared.row.Row.{Row}
use Rattle.mp_words.specs.declared.op.Op.{Op}
use Rattle.mp_words.specs.declared.op.Maker.{Maker}
use Rattle.mp_words.specs.declared.order.Order.{Order}
use Rattle.mp_words.specs.declared.note.Note.{Note}
use Rattle.mp_words.specs.declared.flight.Flight.{Flight}
use Rattle.mp_words.specs.Effect.{row_after}
use Rattle.mp_core.specs.declared.view.Section.{Section}
use Rattle.mp_core.specs.declared.view.Start.{Start}
use Rattle.mp_core.specs.declared.view.View.{View}
use Rattle.mp_core.specs.Memory.{Memory, side_at, row_at, depth_at, current_at, entered_in, left_in, row_in, sent_in, landed_in, current_in}
use Rattle.mp_core.specs.Notes.{order_noted, row_noted, flight_noted, depth_noted, current_noted, with_note, HasRow, HasUsable, MayStore, Lists, ReadsNothing, ReadsAlone}
use Rattle.mp_core.specs.Seats.{view_of}
use Rattle.mp_core.specs.Views as view
use Rattle.mp_core.specs.Views.{opened, is_flight, flights_without, flying, has_flight, greatest, seen_row, on_slot}
use Rattle.mp_core.specs.Kinds.{IsLaneOp, Changes, entry_of, flight_of, MayReach}
use Rattle.mp_core.proofs.Flights.{has_flies}
use Rattle.mp_words.specs.Row.{is_given}
use Rattle.mp_rule.specs.Rule.{IsFormed, Reaches, total}
use Rattle.mp_rule.specs.History.{ReadAt}
use Rattle.mp_rule.specs.Holds.{IsSized, Holds, start_row}
use Rattle.mp_rule.specs.Sequence.{is_listed}
use Rattle.mp_core.specs.Status.{Status, unused, is_used, lists}
use Rattle.mp_words.proofs.Places.{cases_lt}
use Rattle.mp_rule.proofs.Kept.{past_rows}
use Rattle.mp_rule.proofs.Opening.{named_listed}
use Rattle.mp_rule.proofs.Told.{older}
use Rattle.std.proofs.Math.ListN.{get_or-eq_default}
use Rattle.mp_rule.proofs.Kept as kept
use Rattle.mp_rule.proofs.Kept.{reached_given}
use Rattle.mp_rule.proofs.Promises.{entries_low, depth_low, depth_own}
use Rattle.mp_rule.proofs.Sides.{some_inside}
use Rattle.mp_rule.proofs.Cells.{row_put}
use Rattle.mp_rule.proofs.Methods.{reaches}
use Rattle.mp_rule.proofs.Ops.{lane_later}
use Rattle.mp_rule.proofs.Rows.{greatest_below}
use Rattle.mp_rule.proofs.Slots.{put}
use Rattle.mp_rule.proofs.Views.{by_case, le-total}
use Rattle.mp_plain.specs.declared.ledger.Ruled.{Ruled}
use Rattle.mp_plain.specs.Lanes.{part_of, views_of, lane_turn}
use Rattle.mp_plain.specs.Stands.{Mirrors, Stands}
use Rattle.mp_plain.proofs.Lanes.{NotOlder, same_words, part_here, mirror, lane_stands}

-- a load of the side index
pub passed_stands : (m : Memory) (r : Ruled) (lane : ℕ) → lane < 17 → Stands m r → Stands m (lane_turn lane view.passed r)
passed_stands m r lane low h =
    let k = mirror m r lane low h in
    lane_stands m m r lane (view.passed (view_of lane r.seats)) (view.passed (part_of lane r)) h (same_words m m refl refl)
    (kept.k1 r.seats.keeping.start (suc lane) (part_of lane r) m (views_of r) h.holds (part_here m r lane low h))
    record { keeper = k.keeper; keeping = refl; left = k.left; inside = k.inside; flights = k.flights; order = k.order; rows = k.rows }

-- an enter
pub entered_stands : (m : Memory) (r : Ruled) (lane side : ℕ) → lane < 17 → side < 2 → (view_of lane r.seats).inside ≡ None → 1 ≤ (view_of lane r.seats).left → Stands m r → Stands (entered_in side m) (lane_turn lane (view.entered (opened lane side (side_at m side).entries)) r)
entered_stands m r lane side low range closed some_left h =
    let k = mirror m r lane low h in
    let s : Section = opened lane side (side_at m side).entries in
    let l : 1 ≤ (part_of lane r).left = (let a = k.left in let b = some_left in omega arith) in
    lane_stands m (entered_in side m) r lane (view.entered s (view_of lane r.seats)) (view.entered s (part_of lane r)) h (same_words m (entered_in side m) refl refl)
    (kept.k2 r.seats.keeping.start (suc lane) (part_of lane r) lane side range (k.inside ∙ closed) l m (views_of r) h.holds (part_here m r lane low h))
    record { keeper = k.keeper; keeping = refl; left = ap (λ (n : ℕ). n - 1) k.left; inside = refl; flights = k.flights; order = k.order; rows = k.rows }

-- a leave
pub finished_stands : (m : Memory) (r : Ruled) (lane : ℕ) (s : Section) → lane < 17 → (view_of lane r.seats).inside ≡ Some s → Stands m r → Stands (left_in s.note.side m) (lane_turn lane (view.finished s) r)
finished_stands m r lane s low is_open h =
    let k = mirror m r lane low h in
    lane_stands m (left_in s.note.side m) r lane (view.finished s (view_of lane r.seats)) (view.finished s (part_of lane r)) h (same_words m (left_in s.note.side m) refl refl)
    (kept.k3 r.seats.keeping.start (suc lane) (part_of lane r) s (k.inside ∙ is_open) m (views_of r) h.holds (part_here m r lane low h))
    record { keeper = k.keeper; keeping = refl; left = k.left; inside = refl; flights = k.flights; order = k.order; rows = k.rows }

-- a load of the list
pub order_stands : (m : Memory) (r : Ruled) (lane : ℕ) (s : Section) → lane < 17 → (view_of lane r.seats).inside ≡ Some s → ReadsNothing s.note → Stands m r → Stands m (lane_turn lane (view.order_read m.order (with_note (order_noted m.order s.note) s)) r)
order_stands m r lane s low is_open nothing h =
    let k = mirror m r lane low h in
    let t : Section = with_note (order_noted m.order s.note) s in
    lane_stands m m r lane (view.order_read m.order t (view_of lane r.seats)) (view.order_read m.order t (part_of lane r)) h (same_words m m refl refl)
    (kept.k8 r.seats.keeping.start (suc lane) (part_of lane r) s (k.inside ∙ is_open) nothing m (views_of r) h.holds (part_here m r lane low h))
    record { keeper = k.keeper; keeping = refl; left = k.left; inside = refl; flights = k.flights; order = omega arith; rows = k.rows }

-- what a row's version, once seen, leaves
pub seen_below : (m : Memory) (x : ℕ) (v : View) → ((s : ℕ) → seen_row v s ≤ (row_at m s).version) → (s : ℕ) → greatest s (record { slot = x; version = (row_at m x).version } ∷ v.seen.rows) ≤ (row_at m s).version
seen_below m x v olds s = greatest_below s x (row_at m x).version (row_at m s).version v.seen.rows (olds s) (λ e. let z = ap (λ (y : ℕ). (row_at m y).version) e in omega arith)

-- a slot that the section's list of paths has, or on which a flight of the lane is, is reached
pub part_reaches : (m : Memory) (r : Ruled) (lane slot : ℕ) (s : Section) → lane < 17 → (view_of lane r.seats).inside ≡ Some s → Lists s.note slot → MayReach s.note slot (view_of lane r.seats) → Stands m r → Reaches slot s.note (part_of lane r)
part_reaches m r lane slot s low is_open lists flies h =
    let k = mirror m r lane low h in
    reaches s.note slot (part_of lane r) (h.holds.graces.formed (suc lane) (part_of lane r) (part_here m r lane low h) s (k.inside ∙ is_open)) lists
    (λ e. let f = flies e in let same = ap (on_slot slot) k.flights in omega arith)

pub part_flies : (m : Memory) (r : Ruled) (lane : ℕ) (f : Flight) → lane < 17 → has_flight f (view_of lane r.seats) ≡ true → Stands m r → has_flight f (part_of lane r) ≡ true
part_flies m r lane f low has h = ap (list_any (is_flight f)) (mirror m r lane low h).flights ∙ has

-- a load of a row
pub row_stands : (m : Memory) (r : Ruled) (lane slot : ℕ) (s : Section) → lane < 17 → (view_of lane r.seats).inside ≡ Some s → Lists s.note slot → MayReach s.note slot (view_of lane r.seats) → Stands m r → Stands m (lane_turn lane (view.row_read slot (row_at m slot) (with_note (row_noted slot (row_at m slot) s.note) s)) r)
row_stands m r lane slot s low is_open lists flies h =
    let k = mirror m r lane low h in
    let t : Section = with_note (row_noted slot (row_at m slot) s.note) s in
    lane_stands m m r lane (view.row_read slot (row_at m slot) t (view_of lane r.seats)) (view.row_read slot (row_at m slot) t (part_of lane r)) h (same_words m m refl refl)
    (kept.k9 r.seats.keeping.start (suc lane) (part_of lane r) s slot (k.inside ∙ is_open) lists (part_reaches m r lane slot s low is_open lists flies h) m (views_of r) h.holds (part_here m r lane low h))
    record { keeper = k.keeper; keeping = refl; left = k.left; inside = refl; flights = k.flights; order = k.order; rows = seen_below m slot (view_of lane r.seats) k.rows }

-- what a section's note is like
pub formed : (m : Memory) (r : Ruled) (lane : ℕ) (s : Section) → lane < 17 → (view_of lane r.seats).inside ≡ Some s → Stands m r → IsFormed s.note
formed m r lane s low is_open h = h.holds.graces.formed (suc lane) (part_of lane r) (part_here m r lane low h) s ((mirror m r lane low h).inside ∙ is_open)

-- what an entry of a side and the end of a section count
pub entries_fit : (m : Memory) (r : Ruled) (lane side : ℕ) → lane < 17 → 1 ≤ (view_of lane r.seats).left → Stands m r → ((side_at m side).entries + 1 < 1073741824) × ((side_at m side).inside ≤ (side_at m side).entries)
entries_fit m r lane side low some_left h =
    let k = (mirror m r lane low h).left in
    let l = some_left in
    entries_low r.seats.keeping.start (suc lane) (part_of lane r) side m (views_of r) h.holds (part_here m r lane low h) (omega arith)

pub one_inside : (m : Memory) (r : Ruled) (lane : ℕ) (s : Section) → lane < 17 → (view_of lane r.seats).inside ≡ Some s → Stands m r → 1 ≤ (side_at m s.note.side).inside
one_inside m r lane s low is_open h = some_inside s.note.side _ _ _ (views_of r) (suc lane) (part_of lane r) s (h.holds.graces.sides s.note.side) (part_here m r lane low h) ((mirror m r lane low h).inside ∙ is_open) refl

-- what a load of a row that a section reaches tells besides
pub given_here : (m : Memory) (r : Ruled) (lane slot : ℕ) (s : Section) → lane < 17 → (view_of lane r.seats).inside ≡ Some s → Reaches slot s.note (part_of lane r) → Stands m r → is_given (row_at m slot) ≡ true
given_here m r lane slot s low is_open reach h = reached_given r.seats.keeping.start (suc lane) (part_of lane r) s slot ((mirror m r lane low h).inside ∙ is_open) reach m (views_of r) h.holds (part_here m r lane low h)

-- a load of a row of a flight's slot
pub flight_stands : (m : Memory) (r : Ruled) (lane : ℕ) (s : Section) (f : Flight) → lane < 17 → (view_of lane r.seats).inside ≡ Some s → has_flight f (view_of lane r.seats) ≡ true → ReadsAlone f.slot s.note → Stands m r → Stands m (lane_turn lane (view.row_read f.slot (row_at m f.slot) (with_note (flight_noted f.slot (row_at m f.slot) s.note) s)) r)
flight_stands m r lane s f low is_open has alone h =
    let k = mirror m r lane low h in
    let t : Section = with_note (flight_noted f.slot (row_at m f.slot) s.note) s in
    lane_stands m m r lane (view.row_read f.slot (row_at m f.slot) t (view_of lane r.seats)) (view.row_read f.slot (row_at m f.slot) t (part_of lane r)) h (same_words m m refl refl)
    (kept.k9_flight r.seats.keeping.start (suc lane) (part_of lane r) s f.slot (k.inside ∙ is_open) alone (has_flies f (part_of lane r) (part_flies m r lane f low has h)) m (views_of r) h.holds (part_here m r lane low h))
    record { keeper = k.keeper; keeping = refl; left = k.left; inside = refl; flights = k.flights; order = k.order; rows = seen_below m f.slot (view_of lane r.seats) k.rows }

-- a row change that found another row
pub moved_stands : (m : Memory) (r : Ruled) (lane slot : ℕ) (s : Section) → lane < 17 → (view_of lane r.seats).inside ≡ Some s → Stands m r → Stands m (lane_turn lane (view.row_moved slot (row_at m slot) (record s { tried = true })) r)
moved_stands m r lane slot s low is_open h =
    let k = mirror m r lane low h in
    let t : Section = record s { tried = true } in
    lane_stands m m r lane (view.row_moved slot (row_at m slot) t (view_of lane r.seats)) (view.row_moved slot (row_at m slot) t (part_of lane r)) h (same_words m m refl refl)
    (kept.k10_moved r.seats.keeping.start (suc lane) (part_of lane r) s slot (k.inside ∙ is_open) m (views_of r) h.holds (part_here m r lane low h))
    record { keeper = k.keeper; keeping = refl; left = k.left; inside = refl; flights = k.flights; order = k.order; rows = seen_below m slot (view_of lane r.seats) k.rows }

-- a row's next version is stored
pub next_row : (m : Memory) (x : ℕ) (new : Row) → x < 15 → IsSized m → new.version ≡ (row_at m x).version + 1 → NotOlder m (row_in x new m)
next_row m x new low sized next = record {
  order = omega arith;
  rows = λ s. subst (λ (f : ℕ → Row). (row_at m s).version ≤ (f s).version) (sym (row_put m x new sized low)) (by_case (λ b. (row_at m s).version ≤ (cond b new (row_at m s)).version) x s (λ e. let z = ap (λ (y : ℕ). (row_at m y).version) e in omega arith) (λ d. omega arith));
}

pub next_seen : (m : Memory) (x : ℕ) (new : Row) (v : View) → x < 15 → IsSized m → new.version ≡ (row_at m x).version + 1 → ((s : ℕ) → seen_row v s ≤ (row_at m s).version) → (s : ℕ) → greatest s (record { slot = x; version = new.version } ∷ v.seen.rows) ≤ (row_at (row_in x new m) s).version
next_seen m x new v low sized next olds s =
    let later = (next_row m x new low sized next).rows s in
    let old = olds s in
    greatest_below s x new.version (row_at (row_in x new m) s).version v.seen.rows (omega arith)
    (λ e. let here : (row_at (row_in x new m) s).version ≡ new.version = subst (λ (f : ℕ → Row). (f s).version ≡ new.version) (sym (row_put m x new sized low)) (by_case (λ b. (cond b new (row_at m s)).version ≡ new.version) x s (λ _. refl) (λ d. absurd (d e))) in omega arith)

-- a row change with the old row there
pub changed_stands : (m : Memory) (r : Ruled) (lane slot : ℕ) (s : Section) (old : Row) (o : Op) (by : Maker) → lane < 17 → slot < 15 → (view_of lane r.seats).inside ≡ Some s → Reaches slot s.note (part_of lane r) → IsLaneOp o → Changes old o → s.tried ≡ false → row_at m slot ≡ old → Stands m r
    → Stands (row_in slot (row_after old o) m) (lane_turn lane (view.row_changed (entry_of slot old o by) (record s { tried = true })) r)
changed_stands m r lane slot s old o by low range is_open reach lane_op changes once is h =
    let k = mirror m r lane low h in
    let t : Section = record s { tried = true } in
    let e = entry_of slot old o by in
    let next : (row_after old o).version ≡ (row_at m slot).version + 1 = (lane_later old o lane_op changes).version ∙ ap (λ (x : Row). x.version + 1) (sym is) in
    let later = next_row m slot (row_after old o) range h.holds.sized next in
    lane_stands m (row_in slot (row_after old o) m) r lane (view.row_changed e t (view_of lane r.seats)) (view.row_changed e t (part_of lane r)) h later
    (kept.k10 r.seats.keeping.start (suc lane) (part_of lane r) s slot old o by range (k.inside ∙ is_open) reach lane_op changes once m (views_of r) h.holds (part_here m r lane low h) is)
    record { keeper = k.keeper; keeping = refl; left = k.left; inside = refl; flights = k.flights; order = k.order; rows = next_seen m slot (row_after old o) (view_of lane r.seats) range h.holds.sized next k.rows }

-- the row that a section has read of a slot is the word, or is older
pub read_here : (m : Memory) (r : Ruled) (lane slot : ℕ) (s : Section) (old : Row) → lane < 17 → (view_of lane r.seats).inside ≡ Some s → HasRow s.note slot old → Stands m r → ReadAt slot (start_row r.seats.keeping.start slot) (row_at m slot) (seen_row (part_of lane r) slot) (views_of r) old
read_here m r lane slot s old low is_open has h = ((h.holds.rows slot).each (suc lane) (part_of lane r) (part_here m r lane low h)).reads.0 s ((mirror m r lane low h).inside ∙ is_open) old has

pub same_row : (m : Memory) (r : Ruled) (lane slot : ℕ) (s : Section) (old : Row) → lane < 17 → (view_of lane r.seats).inside ≡ Some s → HasRow s.note slot old → old.version ≡ (row_at m slot).version → Stands m r → row_at m slot ≡ old
same_row m r lane slot s old low is_open has same h = sym ((read_here m r lane slot s old low is_open has h).last same)

pub older_row : (m : Memory) (r : Ruled) (lane slot : ℕ) (s : Section) (old : Row) → lane < 17 → (view_of lane r.seats).inside ≡ Some s → HasRow s.note slot old → old.version ≢ (row_at m slot).version → Stands m r → old.version < (row_at m slot).version
older_row m r lane slot s old low is_open has apart h =
    let v = (h.holds.rows slot).each (suc lane) (part_of lane r) (part_here m r lane low h) in
    older r.seats.keeping.start slot _ old m (views_of r) v.to (read_here m r lane slot s old low is_open has h) apart

-- a load of a depth
pub depth_stands : (m : Memory) (r : Ruled) (lane slot : ℕ) (s : Section) → lane < 17 → (view_of lane r.seats).inside ≡ Some s → Stands m r → Stands m (lane_turn lane (view.noted (with_note (depth_noted slot (depth_at m slot) s.note) s)) r)
depth_stands m r lane slot s low is_open h =
    let k = mirror m r lane low h in
    let t : Section = with_note (depth_noted slot (depth_at m slot) s.note) s in
    lane_stands m m r lane (view.noted t (view_of lane r.seats)) (view.noted t (part_of lane r)) h (same_words m m refl refl)
    (kept.k12 r.seats.keeping.start (suc lane) (part_of lane r) s slot (depth_at m slot) (k.inside ∙ is_open) m (views_of r) h.holds (part_here m r lane low h))
    record { keeper = k.keeper; keeping = refl; left = k.left; inside = refl; flights = k.flights; order = k.order; rows = k.rows }

-- a load of a current word
pub current_stands : (m : Memory) (r : Ruled) (lane : ℕ) (s : Section) (c : Option ℕ) → lane < 17 → (view_of lane r.seats).inside ≡ Some s → Stands m r → Stands m (lane_turn lane (view.noted (with_note (current_noted c s.note) s)) r)
current_stands m r lane s c low is_open h =
    let k = mirror m r lane low h in
    let t : Section = with_note (current_noted c s.note) s in
    lane_stands m m r lane (view.noted t (view_of lane r.seats)) (view.noted t (part_of lane r)) h (same_words m m refl refl)
    (kept.k15 r.seats.keeping.start (suc lane) (part_of lane r) s c (k.inside ∙ is_open) m (views_of r) h.holds (part_here m r lane low h))
    record { keeper = k.keeper; keeping = refl; left = k.left; inside = refl; flights = k.flights; order = k.order; rows = k.rows }

-- a store of a current word
pub stored_stands : (m : Memory) (r : Ruled) (lane node : ℕ) (s : Section) (c : Option ℕ) → lane < 17 → node < 8 → (view_of lane r.seats).inside ≡ Some s → MayStore s.note c → Stands m r → Stands (current_in node c m) (lane_turn lane (view.noted s) r)
stored_stands m r lane node s c low range is_open may h =
    let k = mirror m r lane low h in
    lane_stands m (current_in node c m) r lane (view.noted s (view_of lane r.seats)) (view.noted s (part_of lane r)) h (same_words m (current_in node c m) refl refl)
    (by c may)
    record { keeper = k.keeper; keeping = refl; left = k.left; inside = refl; flights = k.flights; order = k.order; rows = k.rows }
  where
    is_part : (part_of lane r).inside ≡ Some s
    is_part = (mirror m r lane low h).inside ∙ is_open

    by : (c : Option ℕ) → MayStore s.note c → Holds r.seats.keeping.start (current_in node c m) (set (views_of r) (suc lane) (view.noted s (part_of lane r)))
    by None may = kept.k16_none r.seats.keeping.start (suc lane) (part_of lane r) s node range is_part m (views_of r) h.holds (part_here m r lane low h)
    by (Some slot) may = kept.k16 r.seats.keeping.start (suc lane) (part_of lane r) s slot node range is_part may m (views_of r) h.holds (part_here m r lane low h)

-- a store of a current word by the keeper
pub emptied_stands : (m : Memory) (r : Ruled) (lane node : ℕ) → lane < 17 → node < 8 → Stands m r → Stands (current_in node None m) (lane_turn lane view.passed r)
emptied_stands m r lane node low range h =
    let k = mirror m r lane low h in
    lane_stands m (current_in node None m) r lane (view.passed (view_of lane r.seats)) (view.passed (part_of lane r)) h (same_words m (current_in node None m) refl refl)
    (kept.k16_keeper r.seats.keeping.start (suc lane) (part_of lane r) node range m (views_of r) h.holds (part_here m r lane low h))
    record { keeper = k.keeper; keeping = refl; left = k.left; inside = k.inside; flights = k.flights; order = k.order; rows = k.rows }

-- a send
pub flown_stands : (m : Memory) (r : Ruled) (lane slot req : ℕ) (s : Section) → lane < 17 → slot < 15 → (view_of lane r.seats).inside ≡ Some s → HasUsable s.note slot → s.sent ≡ false → Stands m r → Stands (sent_in slot m) (lane_turn lane (view.flown (flight_of lane s slot req) (record s { sent = true })) r)
flown_stands m r lane slot req s low range is_open usable once h =
    let k = mirror m r lane low h in
    let f : Flight = flight_of lane s slot req in
    let t : Section = record s { sent = true } in
    lane_stands m (sent_in slot m) r lane (view.flown f t (view_of lane r.seats)) (view.flown f t (part_of lane r)) h (same_words m (sent_in slot m) refl refl)
    (kept.k13 r.seats.keeping.start (suc lane) (part_of lane r) s lane slot req range (k.inside ∙ is_open) usable once m (views_of r) h.holds (part_here m r lane low h))
    record { keeper = k.keeper; keeping = refl; left = k.left; inside = refl; flights = ap (λ (fs : List Flight). fs ++ f ∷ []) k.flights; order = k.order; rows = k.rows }

-- an end
pub landed_stands : (m : Memory) (r : Ruled) (lane : ℕ) (f : Flight) → lane < 17 → f.slot < 15 → has_flight f (view_of lane r.seats) ≡ true → Stands m r → Stands (landed_in f.slot m) (lane_turn lane (view.landed f) r)
landed_stands m r lane f low range has h =
    let k = mirror m r lane low h in
    lane_stands m (landed_in f.slot m) r lane (view.landed f (view_of lane r.seats)) (view.landed f (part_of lane r)) h (same_words m (landed_in f.slot m) refl refl)
    (kept.k14 r.seats.keeping.start (suc lane) (part_of lane r) f range (part_flies m r lane f low has h) m (views_of r) h.holds (part_here m r lane low h))
    record { keeper = k.keeper; keeping = refl; left = k.left; inside = k.inside; flights = ap (flights_without f) k.flights; order = k.order; rows = k.rows }

-- a depth is at least the lane's own flights, and small
pub depth_fits : (m : Memory) (r : Ruled) (lane slot : ℕ) → lane < 17 → Stands m r → (flying slot (view_of lane r.seats) ≤ depth_at m slot) × (depth_at m slot + 1 < 4294967296)
depth_fits m r lane slot low h =
    let k = ap (on_slot slot) (mirror m r lane low h).flights in
    let own = depth_own r.seats.keeping.start (suc lane) (part_of lane r) slot m (views_of r) h.holds (part_here m r lane low h) in
    let most = depth_low r.seats.keeping.start slot m (views_of r) h.holds in
    let room = h.room in
    (omega arith, omega arith)

pub some_flight : (m : Memory) (r : Ruled) (lane : ℕ) (f : Flight) → lane < 17 → has_flight f (view_of lane r.seats) ≡ true → Stands m r → 1 ≤ depth_at m f.slot
some_flight m r lane f low has h =
    let own = (depth_fits m r lane f.slot low h).0 in
    let flies = has_flies f (view_of lane r.seats) has in
    omega arith

-- a slot that a current word names
pub named_low : (m : Memory) (r : Ruled) (node : ℕ) → Stands m r → (s : ℕ) → current_at m node ≡ Some s → s < 15
named_low m r node h s e = ⊎_elim (λ (low : node < 8). listed_low (named_listed r.seats.keeping.start m (views_of r) h.holds node s low e)) (λ (far : 8 ≤ node). absurd (none_at (sym (past m.currents node (let l = h.holds.sized.currents in omega arith)) ∙ e))) (cases_lt node 8)
  where
    past : (cs : List (Option ℕ)) (n : ℕ) → length cs ≤ n → get_or cs n None ≡ None
    past cs n l = get_or-eq_default cs None l

    none_at : None ≡ Some s → ⊥
    none_at e = cc

    used : (st : Status) → is_listed st ≡ true → is_used st ≡ true
    used unused e = absurd (true≢false (sym e))
    used st e = refl

    listed_low : lists s m.order ≡ true → s < 15
    listed_low l = ⊎_elim (λ (low : s < 15). low) (λ (far : 15 ≤ s). absurd (true≢false (sym (let k = h.holds.graces.slots s in k.taken ∙ used _ (sym k.listed ∙ l)) ∙ ap is_given (past_rows m.rows s (let n = h.holds.sized.rows in omega arith))))) (cases_lt s 15)
