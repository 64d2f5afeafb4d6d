-- Each kind of step of the keeper, on the table's words.
use Rattle.std.proofs.Common.{◌≡◌, ◌≢◌, ℕ, ◌+◌, ◌-◌, ◌<◌, ◌≤◌, ◌==◌, eq-eqb, ne_eqb, Bool, true, false, get_or, set, sym, refl, ap, ◌∙◌, subst, arith, None, Some, if◌then◌else◌}
use mathlib.Core.Logic.{dite}
use native.Mathlib.Decide.{ℕ_discrete}
use prog.Atomic.{either}
use Rattle.atomic_table.specs.Seated.{TableId}
use Rattle.mp_words.specs.declared.row.Row.{Row}
use Rattle.mp_words.specs.declared.op.Op.{Op}
use Rattle.mp_words.specs.declared.op.Op.TheVariants as op
use Rattle.mp_words.specs.declared.op.Maker.{Maker}
use Rattle.mp_words.specs.Facts.{IsRow}
use Rattle.mp_rule.proofs.Ops.{give_lawful, mark_lawful, free_lawful}
use Rattle.mp_words.specs.declared.entry.OrderEntry.{OrderEntry}
use Rattle.mp_words.specs.declared.words.Side.{Side}
use Rattle.mp_words.specs.Effect.{row_after}
use Rattle.mp_words.specs.RowWord.{is_no_row, row_in, row_word, row_of_word}
use Rattle.mp_words.specs.OrderWord.{order_of_word}
use Rattle.mp_core.specs.declared.view.Held.{Held}
use Rattle.mp_core.specs.declared.view.Role.TheVariants as role
use Rattle.mp_core.specs.declared.view.RowEnd.TheVariants as ends
use Rattle.mp_core.specs.declared.view.View.{View}
use Rattle.mp_core.specs.Core.{Core}
use Rattle.mp_core.specs.Memory.{Memory, side_at, row_at, depth_at}
use Rattle.mp_core.specs.Status.{lists, is_used}
use Rattle.mp_core.specs.Views as view
use Rattle.mp_core.specs.Views.{last_version}
use Rattle.mp_core.specs.Kinds.{Changes, entry_of, status_at, MayKeep, IsNext, Looks, LoadsHeld, KeepsRow, LooksDepth}
use Rattle.mp_rule.specs.Holds.{Holds}
use Rattle.mp_rule.proofs.Methods as method
use Rattle.mp_rule.proofs.Promises.{depth_low}
use Rattle.mp_rule.proofs.Views.{the_held}
use Rattle.mp_words.proofs.Rows.{packs}
use Rattle.mp_plain.proofs.Words.{is_row, is_order}
use Rattle.mp_table.specs.Words.{said}
use Rattle.mp_table.specs.Known.{core_on, RowsFit, HeldFits, Fits, Stays}
use Rattle.mp_table.specs.Table.{Kept, Keeps}
use Rattle.mp_table.proofs.Words.{side_is, row_is, depth_is, row_packed}
use Rattle.mp_table.proofs.Tells.{looks, flips, loads_held, keeps_row, stores_order, looks_depth, empties_current}
use Rattle.mp_table.proofs.Table.{at_step, loaded, put_index, put_order, put_row, put_current, rows_same, spelled}

-- what the keeper makes of a row changes it, and may be stored
pub keep_changes : (v : View) (slot : ℕ) (row : Row) (o : Op) → MayKeep o (status_at slot v) → HeldFits v (record { slot = slot; row = row }) → Changes row o × IsRow (row_after row o)
keep_changes v slot row (op.Give gift) may fit = (refl, give_lawful row gift may.1 may.2)
keep_changes v slot row op.Mark may fit = (refl, mark_lawful row (fit.used ∙ ap is_used may) fit.stored)
keep_changes v slot row op.Free may fit = (refl, free_lawful row)
keep_changes v slot row (op.Log x y) may fit = absurd may
keep_changes v slot row (op.Ctrl x) may fit = absurd may
keep_changes v slot row op.Expire may fit = absurd may
keep_changes v slot row op.Pending may fit = absurd may

module _ (home : TableId) (lane id : ℕ) (v : View) (fits : Fits v) where
  pub side_scans : (side : ℕ) → side < 2 → v.role ≡ role.Keeper → Keeps id v (1 + side) (λ n. n) (looks home lane side v)
  side_scans side low keeper start words views h at small =
      let m : Memory = said words in
      let x = method.scan start id (core_on home lane v) side low keeper m views (at_step home lane start id v words views h at) in
      let w : Side → View = λ s. view.scanned side s.entries s.inside (last_version v) v in
      let is = side_is words side low in (
        w (side_at m side),
        loaded start words views (set views id (w (side_at m side))) (1 + side) h x.1,
        rows_same v (w (side_at m side)) refl refl fits.rows,
        (record { role = refl; index = refl; left = refl }, subst (λ (s : Side). Looks (core_on home lane v) (core_on home lane (w (side_at m side))) side s) is x.0),
      )

  pub index_flips : (index : ℕ) → index ≡ 1 - v.keeping.index → v.role ≡ role.Keeper → Keeps id v 0 (λ _. index) (λ _. flips home lane v index)
  index_flips index other keeper start words views h at small =
      let m : Memory = said words in
      let x = method.flip start id (core_on home lane v) keeper m views (at_step home lane start id v words views h at) in
      let w : View = view.flipped v in
      let first : id ≡ 0 = h.rule.graces.keeper id v at keeper in
      let own : v.keeping.index ≡ m.index = h.rule.lanes.own id v at first in
      let is : 1 - m.index ≡ index = ap (λ (k : ℕ). 1 - k) (sym own) ∙ sym other in (
        w,
        put_index start words views (set views id w) index h (subst (λ (k : ℕ). Holds start (record m { index = k }) (set views id w)) is x.1),
        rows_same v w refl refl fits.rows,
        (refl, refl, refl, x.0),
      )

  pub row_holds : (slot : ℕ) → slot < 15 → v.role ≡ role.Keeper → Keeps id v (4 + slot) (λ n. n) (loads_held home lane slot v)
  row_holds slot low keeper start words views h at small =
      let m : Memory = said words in
      let x = method.keeper_row start id (core_on home lane v) slot keeper m views (at_step home lane start id v words views h at) in
      let r : Row = row_at m slot in
      let w : View = view.row_held slot r v in
      let l : Held = record { slot = slot; row = r } in
      let o = h.rule.sums.rows slot in
      let fit : HeldFits w l = record { stored = h.rule.lawful slot; below = omega arith; used = x.0.used } in (
        w,
        loaded start words views (set views id w) (4 + slot) h x.1,
        record { rows = fits.rows.rows; held = λ k e. subst (HeldFits w) (the_held l k e) fit },
        (row_packed words slot low h.packed, record { role = refl; index = refl; left = refl }, subst (λ (y : Row). LoadsHeld (core_on home lane v) (core_on home lane w) slot y) (row_is words slot low) x.0),
      )

  pub row_keeps : (slot : ℕ) (old : Row) (o : Op) (by : Maker) (to : ℕ) → slot < 15 → v.role ≡ role.Keeper → 1 ≤ v.left → v.keeping.last ≡ Some (record { slot = slot; row = old }) → MayKeep o (status_at slot v) → row_of_word (row_word old) ≡ Some old → row_of_word to ≡ Some (row_after old o)
      → Keeps id v (4 + slot) (λ n. either (n == row_word old) to n) (keeps_row home lane slot old o by v)
  row_keeps slot old o by to low keeper some_left last may old_is to_is start words views h at small = dite (ℕ_discrete n (row_word old)) (λ e. hit e) (λ d. miss d)
    where
      n : ℕ
      n = get_or words (4 + slot) 0

      m : Memory
      m = said words

      a : Core
      a = core_on home lane v

      Ends : Bool → Type 0
      Ends b = (w : View) × Kept start (set words (4 + slot) (either b to n)) (set views id w) × RowsFit w × ((is_no_row n ≡ false) × Stays (v.left - 1) v w × KeepsRow a (core_on home lane w) slot old o by (if b then ends.Done (entry_of slot old o by) else ends.Moved (row_in n)))

      hit : n ≡ row_word old → Ends (n == row_word old)
      hit e =
          let there : row_at m slot ≡ old = row_is words slot low ∙ ap row_in e ∙ (is_row (row_word old) old old_is).1 in
          let x = method.keep_row_done start id a slot old o by low keeper some_left may m views (at_step home lane start id v words views h at) there in
          let w : View = view.row_kept (entry_of slot old o by) v in
          let done : Ends true = (
            w,
            put_row start words views (set views id w) slot to (row_after old o) low (is_row to (row_after old o) to_is).0 (is_row to (row_after old o) to_is).1 h x.1,
            rows_same v w refl refl fits.rows,
            (row_packed words slot low h.packed, record { role = refl; index = refl; left = refl }, x.0),
          ) in
          subst Ends (sym (eq-eqb n (row_word old) e)) done

      miss : n ≢ row_word old → Ends (n == row_word old)
      miss d =
          let apart : row_at m slot ≢ old = λ e. d (sym (packs n (row_in n) (spelled n (row_packed words slot low h.packed))) ∙ ap row_word (sym (row_is words slot low) ∙ e)) in
          let x = method.keep_row_moved start id a slot old o by keeper last may m views (at_step home lane start id v words views h at) apart in
          let w : View = view.keep_moved slot (row_at m slot) v in
          let moved : Ends false = (
            w,
            loaded start words views (set views id w) (4 + slot) h x.1,
            rows_same v w refl refl fits.rows,
            (row_packed words slot low h.packed, record { role = refl; index = refl; left = refl }, subst (λ (y : Row). KeepsRow a (core_on home lane w) slot old o by (ends.Moved y)) (row_is words slot low) x.0),
          ) in
          subst Ends (sym (ne_eqb n (row_word old) d)) moved

  pub order_stores : (e : OrderEntry) (to : ℕ) → v.role ≡ role.Keeper → 1 ≤ v.left → IsNext v e.order → order_of_word to ≡ Some e.order → ((s : ℕ) → 15 ≤ s → lists s e.order ≡ false) → Keeps id v 3 (λ _. to) (λ _. stores_order home lane e v to)
  order_stores e to keeper some_left next to_is range start words views h at small =
      let m : Memory = said words in
      let x = method.store_order start id (core_on home lane v) e keeper some_left next range m views (at_step home lane start id v words views h at) in
      let w : View = view.order_stored e v in (
        w,
        put_order start words views (set views id w) to e.order (is_order to e.order to_is).0 (is_order to e.order to_is).1 h x.1,
        rows_same v w refl refl fits.rows,
        (record { role = refl; index = refl; left = refl }, x.0),
      )

  pub depth_looks : (slot : ℕ) → slot < 15 → v.role ≡ role.Keeper → Keeps id v (19 + slot) (λ n. n) (looks_depth home lane slot v)
  depth_looks slot low keeper start words views h at small =
      let m : Memory = said words in
      let d : ℕ = depth_at m slot in
      let x = method.keeper_depth start id (core_on home lane v) slot keeper m views (at_step home lane start id v words views h at) in
      let w : View = view.depth_looked slot d v in
      let most = depth_low start slot m views h.rule in
      let units = h.units in
      let is = depth_is words slot low in (
        w,
        loaded start words views (set views id w) (19 + slot) h x.1,
        rows_same v w refl refl fits.rows,
        (omega arith, record { role = refl; index = refl; left = refl }, subst (λ (y : ℕ). LooksDepth (core_on home lane v) (core_on home lane w) slot y) is x.0),
      )

  pub current_empties : (node : ℕ) → node < 8 → Keeps id v (34 + node) (λ _. 0) (λ _. empties_current home lane node v 0)
  current_empties node low start words views h at small =
      let m : Memory = said words in
      let x = method.keeper_current start id (core_on home lane v) node low m views (at_step home lane start id v words views h at) in
      let w : View = view.passed v in (
        w,
        put_current start words views (set views id w) node 0 None low refl h x.1,
        rows_same v w refl refl fits.rows,
        (record { role = refl; index = refl; left = refl }, x.0),
      )
