-- Each kind of step of a lane, on the table's words.
use Rattle.std.proofs.Common.{◌≡◌, ◌≢◌, ◌⊎◌, inl, ℕ, ◌+◌, ◌-◌, ◌/◌, ◌%◌, ◌^◌, ◌<◌, ◌≤◌, ◌==◌, eq-eqb, ne_eqb, Bool, true, false, List, get_or, set, sym, refl, ap, ◌∙◌, subst, arith, Option, None, Some, ⊎_elim, if◌then◌else◌}
use mathlib.Core.Logic.{dite}
use native.Mathlib.Decide.{ℕ_discrete}
use prog.Atomic.{either}
use Rattle.atomic_table.specs.Seated.{TableId}
use Rattle.mp_words.specs.declared.row.Row.{Row}
use Rattle.mp_words.specs.declared.op.Op.{Op}
use Rattle.mp_words.specs.declared.op.Maker.{Maker}
use Rattle.mp_words.specs.declared.flight.Flight.{Flight}
use Rattle.mp_words.specs.declared.words.Side.{Side}
use Rattle.mp_words.specs.Effect.{row_after, unless_slot}
use Rattle.mp_words.specs.Facts.{IsRow}
use Rattle.mp_words.specs.Row.{is_given}
use Rattle.mp_words.specs.RowWord.{is_no_row, row_in, row_word, row_of_word}
use Rattle.mp_words.specs.SideWord.{side_of_word}
use Rattle.mp_core.specs.declared.view.Section.{Section}
use Rattle.mp_core.specs.declared.view.Start.{Start}
use Rattle.mp_core.specs.declared.view.Role.{Role}
use Rattle.mp_core.specs.declared.view.Role.TheVariants as role
use Rattle.mp_core.specs.declared.view.RowEnd.TheVariants as ends
use Rattle.mp_core.specs.declared.view.Keeping.{Keeping}
use Rattle.mp_core.specs.declared.view.View.{View}
use Rattle.mp_core.specs.Core.{Core, stepped}
use Rattle.mp_core.specs.Memory as memory
use Rattle.mp_core.specs.Memory.{Memory, one_in, one_out, side_at, row_at, depth_at, current_at}
use Rattle.mp_core.specs.Notes.{order_noted, row_noted, flight_noted, depth_noted, current_noted, with_note, HasRow, HasUsable, MayStore, Lists, ReadsNothing, ReadsAlone}
use Rattle.mp_core.specs.Unpacked.{current_in_word}
use Rattle.mp_core.specs.Views as view
use Rattle.mp_core.specs.Views.{opened, has_flight}
use Rattle.mp_core.specs.Kinds.{IsLaneOp, Changes, entry_of, flight_of, MayReach, LoadsRow, LoadsFlight, LoadsDepth, LoadsCurrent, ChangesRow, Enters}
use Rattle.mp_core.proofs.Flights.{has_flies}
use Rattle.mp_rule.specs.Rule.{Reaches}
use Rattle.mp_rule.proofs.Methods as method
use Rattle.mp_rule.proofs.Methods.{reaches}
use Rattle.mp_rule.proofs.Notes.{blank_has, order_has, row_has, flight_has, depth_has, current_has}
use Rattle.mp_rule.proofs.Promises.{entries_low, depth_low, depth_own}
use Rattle.mp_rule.proofs.Sides.{some_inside}
use Rattle.mp_rule.proofs.Views.{none_held, none_section, the_section}
use Rattle.mp_words.proofs.Rows.{packs}
use Rattle.mp_plain.proofs.Words.{is_row}
use Rattle.mp_table.specs.Words.{said}
use Rattle.mp_table.specs.Known.{core_on, alone_by, RowFits, RowsFit, Fits, Stays}
use Rattle.mp_table.specs.Table.{Kept, Keeps}
use Rattle.mp_table.proofs.Words.{side_is, row_is, depth_is, current_is, row_packed}
use Rattle.mp_table.proofs.Tells.{end_of, loads_side, enters, leaves, loads_order, loads_row, loads_flight, changes_row, loads_depth, sends, lands, loads_current, stores_current, clears_current}
use Rattle.mp_table.proofs.Table.{at_step, loaded, put_side, put_row, put_depth, put_current, rows_same, rows_noted, named_low, spelled, cleared_word}

module _ (home : TableId) (lane id : ℕ) (v : View) (fits : Fits v) where
  pub side_loads : Keeps id v 0 (λ n. n) (loads_side home lane v)
  side_loads start words views h at small =
      let x = method.load_side start id (core_on home lane v) (said words) views (at_step home lane start id v words views h at) in
      (view.passed v, loaded start words views (set views id (view.passed v)) 0 h x.1, rows_same v (view.passed v) refl refl fits.rows, (x.0.range, record { role = refl; index = refl; left = refl }, x.0))

  pub side_enters : (side : ℕ) → side < 2 → 1 ≤ v.left → v.inside ≡ None → Keeps id v (1 + side) (λ n. (n + 4294967297) % 2 ^ 64) (enters home lane side v)
  side_enters side low some_left closed start words views h at small =
      let n : ℕ = get_or words (1 + side) 0 in
      let m : Memory = said words in
      let x = method.enter start id (core_on home lane v) side low some_left closed m views (at_step home lane start id v words views h at) in
      let is = side_is words side low in
      let r = entries_low start id v side m views h.rule at some_left in
      let entries : (side_at m side).entries ≡ n / 4294967296 = ap (λ (s : Side). s.entries) is in
      let inside : (side_at m side).inside ≡ n % 4294967296 = ap (λ (s : Side). s.inside) is in
      let a = r.0 in
      let b = r.1 in
      let high : (n + 4294967297) % 2 ^ 64 / 4294967296 ≡ (side_at m side).entries + 1 = omega arith in
      let less : (n + 4294967297) % 2 ^ 64 % 4294967296 ≡ (side_at m side).inside + 1 = omega arith in
      let word : side_of_word ((n + 4294967297) % 2 ^ 64) ≡ one_in (side_at m side) = λ i. record { entries = high i; inside = less i } in
      let t : Section = opened lane side (side_at m side).entries in
      let w : View = view.entered t v in (
        w,
        put_side start words views (set views id w) side ((n + 4294967297) % 2 ^ 64) (one_in (side_at m side)) low word h x.1,
        record { rows = λ u e slot row has. absurd (blank_has lane side (side_at m side).entries slot row (subst (λ (y : Section). HasRow y.note slot row) (the_section u t (sym e)) has)); held = λ l e. absurd (none_held w refl l e) },
        (record { role = refl; index = refl; left = refl }, subst (λ (y : ℕ). Enters (core_on home lane v) (core_on home lane w) side (opened lane side y)) entries x.0),
      )

  pub side_leaves : (s : Section) → v.inside ≡ Some s → s.note.side < 2 → Keeps id v (1 + s.note.side) (λ n. (n + (2 ^ 64 - 1)) % 2 ^ 64) (leaves home lane s v)
  side_leaves s is_open low start words views h at small =
      let side : ℕ = s.note.side in
      let n : ℕ = get_or words (1 + side) 0 in
      let m : Memory = said words in
      let x = method.leave start id (core_on home lane v) s is_open m views (at_step home lane start id v words views h at) in
      let is = side_is words side low in
      let entries : (side_at m side).entries ≡ n / 4294967296 = ap (λ (s : Side). s.entries) is in
      let inside : (side_at m side).inside ≡ n % 4294967296 = ap (λ (s : Side). s.inside) is in
      let some = some_inside side _ _ _ views id v s (h.rule.graces.sides side) at is_open refl in
      let sum : (n + (2 ^ 64 - 1)) % 2 ^ 64 ≡ n - 1 = omega arith in
      let high : (n - 1) / 4294967296 ≡ (side_at m side).entries = omega arith in
      let less : (n - 1) % 4294967296 ≡ (side_at m side).inside - 1 = omega arith in
      let word : side_of_word ((n + (2 ^ 64 - 1)) % 2 ^ 64) ≡ one_out (side_at m side) = ap side_of_word sum ∙ (λ i. record { entries = high i; inside = less i }) in
      let w : View = view.finished s v in (
        w,
        put_side start words views (set views id w) side ((n + (2 ^ 64 - 1)) % 2 ^ 64) (one_out (side_at m side)) low word h x.1,
        record { rows = λ u e. absurd (none_section u e); held = λ l e. absurd (none_held w refl l e) },
        (record { role = refl; index = refl; left = refl }, x.0),
      )

  pub order_loads : (s : Section) → v.inside ≡ Some s → ReadsNothing s.note → Keeps id v 3 (λ n. n) (loads_order home lane s v)
  order_loads s is_open nothing start words views h at small =
      let m : Memory = said words in
      let x = method.load_order start id (core_on home lane v) s is_open nothing m views (at_step home lane start id v words views h at) in
      let t : Section = with_note (order_noted m.order s.note) s in
      let w : View = view.order_read m.order t v in (
        w,
        loaded start words views (set views id w) 3 h x.1,
        rows_noted v w s t is_open refl refl (λ slot row has. absurd (order_has m.order s.note slot row (fits.formed s is_open) nothing.1 has)) fits.rows,
        (h.packed.order, record { role = refl; index = refl; left = refl }, x.0),
      )

  -- a row that was loaded fits
  row_fits : (start : Start) (words : List ℕ) (views : List View) (slot : ℕ) (row : Row) → Kept start words views → row_at (said words) slot ≡ row → is_given row ≡ true → RowFits row
  row_fits start words views slot row h is given = record { stored = subst IsRow is (h.rule.lawful slot); below = (let o = h.rule.sums.rows slot in let e = ap (λ (r : Row). r.version) is in omega arith); given = given }

  -- what a section has once it loaded a row
  rows_more : (w : View) (s t : Section) (slot : ℕ) (r : Row) → v.inside ≡ Some s → w.inside ≡ Some t → w.keeping.last ≡ None → RowFits r → ((x : ℕ) (row : Row) → HasRow t.note x row → ((slot ≡ x) × (row ≡ r)) ⊎ HasRow s.note x row) → RowsFit w
  rows_more w s t slot r is_open now last fit more = record {
    rows = λ u e x row has. ⊎_elim (λ (p : (slot ≡ x) × (row ≡ r)). subst RowFits (sym p.1) fit) (λ (o : HasRow s.note x row). fits.rows.rows s is_open x row o) (more x row (subst (λ (y : Section). HasRow y.note x row) (the_section u t (sym e ∙ now)) has));
    held = λ l e. absurd (none_held w last l e);
  }

  pub row_loads : (s : Section) (slot : ℕ) → slot < 15 → v.inside ≡ Some s → Lists s.note slot → MayReach s.note slot v → Keeps id v (4 + slot) (λ n. n) (loads_row home lane s slot v)
  row_loads s slot low is_open lists may start words views h at small =
      let m : Memory = said words in
      let formed = fits.formed s is_open in
      let x = method.load_row start id (core_on home lane v) s slot is_open lists (reaches s.note slot v formed lists may) m views (at_step home lane start id v words views h at) in
      let r : Row = row_at m slot in
      let t : Section = with_note (row_noted slot r s.note) s in
      let w : View = view.row_read slot r t v in (
        w,
        loaded start words views (set views id w) (4 + slot) h x.1,
        rows_more w s t slot r is_open refl refl (row_fits start words views slot r h refl x.0.given) (λ y row has. row_has slot r s.note y row formed lists has),
        (row_packed words slot low h.packed, record { role = refl; index = refl; left = refl }, subst (λ (y : Row). LoadsRow (core_on home lane v) (core_on home lane w) s (with_note (row_noted slot y s.note) s) slot y) (row_is words slot low) x.0),
      )

  pub flight_loads : (s : Section) (f : Flight) → f.slot < 15 → v.inside ≡ Some s → has_flight f v ≡ true → ReadsAlone f.slot s.note → Keeps id v (4 + f.slot) (λ n. n) (loads_flight home lane s f.slot v)
  flight_loads s f low is_open has alone start words views h at small =
      let m : Memory = said words in
      let x = method.flight_row start id (core_on home lane v) s f is_open has alone m views (at_step home lane start id v words views h at) in
      let r : Row = row_at m f.slot in
      let t : Section = with_note (flight_noted f.slot r s.note) s in
      let w : View = view.row_read f.slot r t v in (
        w,
        loaded start words views (set views id w) (4 + f.slot) h x.1,
        rows_more w s t f.slot r is_open refl refl (row_fits start words views f.slot r h refl x.0.given) (λ y row has. inl (flight_has f.slot r s.note y row has)),
        (row_packed words f.slot low h.packed, record { role = refl; index = refl; left = refl }, subst (λ (y : Row). LoadsFlight (core_on home lane v) (core_on home lane w) s (with_note (flight_noted f.slot y s.note) s) f.slot y) (row_is words f.slot low) x.0),
      )

  pub row_changes : (s : Section) (slot : ℕ) (old : Row) (op : Op) (by : Maker) (to : ℕ) → slot < 15 → v.inside ≡ Some s → HasRow s.note slot old → MayReach s.note slot v → IsLaneOp op → Changes old op → s.tried ≡ false → row_of_word (row_word old) ≡ Some old → row_of_word to ≡ Some (row_after old op)
      → Keeps id v (4 + slot) (λ n. either (n == row_word old) to n) (changes_row home lane s slot old op by v)
  row_changes s slot old op by to low is_open has may lane_op changes once old_is to_is start words views h at small = dite (ℕ_discrete n (row_word old)) (λ e. hit e) (λ d. miss d)
    where
      n : ℕ
      n = get_or words (4 + slot) 0

      m : Memory
      m = said words

      t : Section
      t = record s { tried = true }

      a : Core
      a = core_on home lane v

      reach : Reaches slot s.note v
      reach = reaches s.note slot v (fits.formed s is_open) has.listed may

      Ends : Bool → Type 0
      Ends b = (w : View) × Kept start (set words (4 + slot) (either b to n)) (set views id w) × RowsFit w × ((is_no_row n ≡ false) × Stays v.left v w × ChangesRow a (core_on home lane w) s t slot old op by (if b then ends.Done (entry_of slot old op by) else ends.Moved (row_in n)))

      hit : n ≡ row_word old → Ends (n == row_word old)
      hit e =
          let there : row_at m slot ≡ old = row_is words slot low ∙ ap row_in e ∙ (is_row (row_word old) old old_is).1 in
          let x = method.change_done start id a s slot old op by low is_open reach lane_op changes once m views (at_step home lane start id v words views h at) there in
          let w : View = view.row_changed (entry_of slot old op by) t v in
          let done : Ends true = (
            w,
            put_row start words views (set views id w) slot to (row_after old op) low (is_row to (row_after old op) to_is).0 (is_row to (row_after old op) to_is).1 h x.1,
            rows_noted v w s t is_open refl refl (λ y row has. has) fits.rows,
            (row_packed words slot low h.packed, record { role = refl; index = refl; left = refl }, x.0),
          ) in
          subst Ends (sym (eq-eqb n (row_word old) e)) done

      miss : n ≢ row_word old → Ends (n == row_word old)
      miss d =
          let apart : row_at m slot ≢ old = λ e. d (sym (packs n (row_in n) (spelled n (row_packed words slot low h.packed))) ∙ ap row_word (sym (row_is words slot low) ∙ e)) in
          let x = method.change_moved start id a s slot old op by is_open has reach m views (at_step home lane start id v words views h at) apart in
          let w : View = view.row_moved slot (row_at m slot) t v in
          let moved : Ends false = (
            w,
            loaded start words views (set views id w) (4 + slot) h x.1,
            rows_noted v w s t is_open refl refl (λ y row has. has) fits.rows,
            (row_packed words slot low h.packed, record { role = refl; index = refl; left = refl }, subst (λ (y : Row). ChangesRow a (core_on home lane w) s t slot old op by (ends.Moved y)) (row_is words slot low) x.0),
          ) in
          subst Ends (sym (ne_eqb n (row_word old) d)) moved

  pub depth_loads : (s : Section) (slot : ℕ) → slot < 15 → v.inside ≡ Some s → Keeps id v (19 + slot) (λ n. n) (loads_depth home lane s slot v)
  depth_loads s slot low is_open start words views h at small =
      let m : Memory = said words in
      let d : ℕ = depth_at m slot in
      let x = method.load_depth start id (core_on home lane v) s slot is_open m views (at_step home lane start id v words views h at) in
      let t : Section = with_note (depth_noted slot d s.note) s in
      let w : View = view.noted t v in
      let most = depth_low start slot m views h.rule in
      let units = h.units in
      let is = depth_is words slot low in (
        w,
        loaded start words views (set views id w) (19 + slot) h x.1,
        rows_noted v w s t is_open refl refl (λ y row has. depth_has slot d s.note y row has) fits.rows,
        (omega arith, record { role = refl; index = refl; left = refl }, subst (λ (y : ℕ). LoadsDepth (core_on home lane v) (core_on home lane w) s (with_note (depth_noted slot y s.note) s) slot y) is x.0),
      )

  pub request_sends : (s : Section) (slot req : ℕ) → slot < 15 → v.inside ≡ Some s → HasUsable s.note slot → s.sent ≡ false → Keeps id v (19 + slot) (λ n. (n + 1) % 2 ^ 64) (sends home lane s slot req v)
  request_sends s slot req low is_open usable once start words views h at small =
      let n : ℕ = get_or words (19 + slot) 0 in
      let m : Memory = said words in
      let x = method.send start id (core_on home lane v) s slot req low is_open usable once m views (at_step home lane start id v words views h at) in
      let t : Section = record s { sent = true } in
      let w : View = view.flown (flight_of lane s slot req) t v in
      let most = depth_low start slot m views h.rule in
      let units = h.units in
      let is = depth_is words slot low in
      let word : (n + 1) % 2 ^ 64 ≡ depth_at m slot + 1 = omega arith in (
        w,
        put_depth start words views (set views id w) slot ((n + 1) % 2 ^ 64) (depth_at m slot + 1) low word h x.1,
        rows_noted v w s t is_open refl refl (λ y row has. has) fits.rows,
        (record { role = refl; index = refl; left = refl }, x.0),
      )

  pub flight_ends : (f : Flight) → f.slot < 15 → has_flight f v ≡ true → Keeps id v (19 + f.slot) (λ n. (n + (2 ^ 64 - 1)) % 2 ^ 64) (lands home lane f v)
  flight_ends f low has start words views h at small =
      let n : ℕ = get_or words (19 + f.slot) 0 in
      let m : Memory = said words in
      let x = method.end start id (core_on home lane v) f low has m views (at_step home lane start id v words views h at) in
      let w : View = view.landed f v in
      let own = depth_own start id v f.slot m views h.rule at in
      let flies = has_flies f v has in
      let is = depth_is words f.slot low in
      let word : (n + (2 ^ 64 - 1)) % 2 ^ 64 ≡ depth_at m f.slot - 1 = omega arith in (
        w,
        put_depth start words views (set views id w) f.slot ((n + (2 ^ 64 - 1)) % 2 ^ 64) (depth_at m f.slot - 1) low word h x.1,
        rows_same v w refl refl fits.rows,
        (record { role = refl; index = refl; left = refl }, x.0),
      )

  pub current_loads : (s : Section) (node : ℕ) → node < 8 → v.inside ≡ Some s → Keeps id v (34 + node) (λ n. n) (loads_current home lane s node v)
  current_loads s node low is_open start words views h at small =
      let m : Memory = said words in
      let c : Option ℕ = current_at m node in
      let x = method.load_current start id (core_on home lane v) s node is_open m views (at_step home lane start id v words views h at) in
      let t : Section = with_note (current_noted c s.note) s in
      let w : View = view.noted t v in
      let is = current_is words node low in (
        w,
        loaded start words views (set views id w) (34 + node) h x.1,
        rows_noted v w s t is_open refl refl (λ y row has. current_has c s.note y row has) fits.rows,
        (λ slot e. named_low start words views node slot h low (is ∙ e), record { role = refl; index = refl; left = refl }, subst (λ (y : Option ℕ). LoadsCurrent (core_on home lane v) (core_on home lane w) s (with_note (current_noted y s.note) s) node y) is x.0),
      )

  pub current_stores : (s : Section) (node word : ℕ) (c : Option ℕ) → node < 8 → v.inside ≡ Some s → MayStore s.note c → current_in_word word ≡ c → Keeps id v (34 + node) (λ _. word) (λ _. stores_current home lane s node c v word)
  current_stores s node word c low is_open may is start words views h at small =
      let m : Memory = said words in
      let x = method.store_current start id (core_on home lane v) s node c low is_open may m views (at_step home lane start id v words views h at) in
      let w : View = view.noted s v in (
        w,
        put_current start words views (set views id w) node word c low is h x.1,
        rows_noted v w s s is_open refl refl (λ y row has. has) fits.rows,
        (record { role = refl; index = refl; left = refl }, x.0),
      )

  -- what a clear leaves of the keeper's part
  clear_last : (r : Role) (node slot : ℕ) (k : Keeping) → (view.clear_by r node slot k).last ≡ None
  clear_last role.Keeper node slot k = refl
  clear_last (role.Lane l) node slot k = refl
  clear_last role.Spent node slot k = refl

  clear_index : (r : Role) (node slot : ℕ) (k : Keeping) → (view.clear_by r node slot k).index ≡ k.index
  clear_index role.Keeper node slot k = refl
  clear_index (role.Lane l) node slot k = refl
  clear_index role.Spent node slot k = refl

  clear_out : (r : Role) (node slot : ℕ) (k : Keeping) → (view.clear_by r node slot k).out ≡ k.out
  clear_out role.Keeper node slot k = refl
  clear_out (role.Lane l) node slot k = refl
  clear_out role.Spent node slot k = refl

  pub current_clears : (node slot : ℕ) → node < 8 → Keeps id v (34 + node) (λ n. either (n == slot + 1) 0 n) (clears_current home lane node slot v)
  current_clears node slot low start words views h at small =
      let n : ℕ = get_or words (34 + node) 0 in
      let m : Memory = said words in
      let x = method.clear_current start id (core_on home lane v) node slot low m views (at_step home lane start id v words views h at) in
      let w : View = view.cleared node slot v in
      let is = current_is words node low in
      let word : current_in_word (either (n == slot + 1) 0 n) ≡ unless_slot slot (current_at m node) = cleared_word n slot ∙ ap (unless_slot slot) (sym is) in
      let alone : core_on home lane w ≡ stepped (view.cleared node slot) (memory.cleared_in node slot) (core_on home lane v) = ap (λ (out : List ℕ). record (core_on home lane w) { alone = alone_by v.role out }) (clear_out v.role node slot v.keeping) in (
        w,
        put_current start words views (set views id w) node (either (n == slot + 1) 0 n) (unless_slot slot (current_at m node)) low word h x.1,
        rows_same v w refl (clear_last v.role node slot v.keeping) fits.rows,
        (record { role = refl; index = clear_index v.role node slot v.keeping; left = refl }, record { after = alone }),
      )

-- a compare-and-exchange that found another word
pub end_moved : (slot : ℕ) (old : Row) (op : Op) (by : Maker) (n from : ℕ) (row : Row) → from ≡ row_word old → n ≢ from → row ≡ row_in n → end_of slot old op by n ≡ ends.Moved row
end_moved slot old op by n from row is d spells = (λ i. if ne_eqb n (row_word old) (λ e. d (e ∙ sym is)) i then ends.Done (entry_of slot old op by) else ends.Moved (row_in n)) ∙ ap ends.Moved (sym spells)
