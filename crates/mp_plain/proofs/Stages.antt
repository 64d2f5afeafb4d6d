-- How far a removal by hand is, after each of its steps.
use Rattle.std.proofs.Common.{◌≡◌, ℕ, zero, suc, ◌+◌, ◌-◌, ◌<◌, ◌≤◌, ◌==◌, false, List, [], ◌∷◌, ◌++◌, Bool, get_or, ne_eqb, if◌then◌else◌, cond, sym, refl, ap, ◌∙◌, subst, arith}
use Rattle.mp_words.specs.declared.entry.OrderEntry.{OrderEntry}
use Rattle.mp_words.specs.declared.entry.RowEntry.{RowEntry}
use Rattle.mp_words.specs.declared.op.Op.TheVariants as op
use Rattle.mp_words.specs.declared.op.Maker.{Maker}
use Rattle.mp_words.specs.declared.order.Order.{Order}
use Rattle.mp_words.specs.declared.row.Row.{Row}
use Rattle.mp_words.specs.Facts.{IsOrder}
use Rattle.mp_core.specs.declared.view.Event.TheVariants.{Clears}
use Rattle.mp_core.specs.declared.view.Keeping.{Keeping}
use Rattle.mp_core.specs.declared.view.Role.{Role}
use Rattle.mp_core.specs.declared.view.Role.TheVariants as role
use Rattle.mp_core.specs.declared.view.View.{View}
use Rattle.mp_core.specs.Kinds.{IsNext, entry_of, status_at}
use Rattle.mp_core.specs.Status.{Status, unused, listed, begins, leaving, scanned, cleared, emptied, bare, MayOrder, ordered, lists}
use Rattle.mp_core.specs.Views as view
use Rattle.mp_core.specs.Views.{last_version, clear_by, with_event}
use Rattle.atomic_table.specs.Seated.{TableId}
use Rattle.mp_words.specs.declared.words.Words.{Words}
use Rattle.mp_words.specs.Effect.{free_row}
use Rattle.mp_words.specs.Row.{is_given}
use Rattle.mp_core.specs.Core.{Core}
use Rattle.mp_core.specs.Memory.{Memory, row_at}
use Rattle.mp_core.specs.Seats.{turned}
use Rattle.mp_core.specs.Unpacked.{first_status}
use Rattle.mp_plain.specs.Lanes.{begun}
use Rattle.mp_plain.specs.Told.{core_begun}
use Rattle.mp_plain.specs.TwoPaths.{two_path_words}
use Rattle.mp_plain.proofs.Worked.{worked, same, unlisted}
use Rattle.mp_plain.specs.Stages.{Stage, two_listed, one_path, marked_at, closed_at, cleared_at, all_cleared, emptied_at}

pub stage_as : (v w : View) (n o : ℕ) (st : ℕ → Status) → v ≡ w → Stage w n st o → Stage v n st o
stage_as v w n o st e h = subst (λ (x : View). Stage x n st o) (sym e) h

pub ordered_stage : (v : View) (e : OrderEntry) (n o : ℕ) (st : ℕ → Status) → Stage v (n + 1) st o → Stage (view.order_stored e v) n (λ s. ordered (lists s e.order) (st s)) e.order.version
ordered_stage v e n o st h = record {
  keeper = h.keeper;
  left = let l = h.left in omega arith;
  status = λ s. ap (ordered (lists s e.order)) (h.status s);
  last = refl;
}

pub of_fifteen : (P : ℕ → Type 0) → P 0 → P 1 → P 2 → P 3 → P 4 → P 5 → P 6 → P 7 → P 8 → P 9 → P 10 → P 11 → P 12 → P 13 → P 14 → (s : ℕ) → s < 15 → P s
of_fifteen P a b c d e f g h i j k l m n o s low = by s low
  where
    by : (s : ℕ) → s < 15 → P s
    by zero low = a
    by (suc zero) low = b
    by (suc (suc zero)) low = c
    by (suc (suc (suc zero))) low = d
    by (suc (suc (suc (suc zero)))) low = e
    by (suc (suc (suc (suc (suc zero))))) low = f
    by (suc (suc (suc (suc (suc (suc zero)))))) low = g
    by (suc (suc (suc (suc (suc (suc (suc zero))))))) low = h
    by (suc (suc (suc (suc (suc (suc (suc (suc zero)))))))) low = i
    by (suc (suc (suc (suc (suc (suc (suc (suc (suc zero))))))))) low = j
    by (suc (suc (suc (suc (suc (suc (suc (suc (suc (suc zero)))))))))) low = k
    by (suc (suc (suc (suc (suc (suc (suc (suc (suc (suc (suc zero))))))))))) low = l
    by (suc (suc (suc (suc (suc (suc (suc (suc (suc (suc (suc (suc zero)))))))))))) low = m
    by (suc (suc (suc (suc (suc (suc (suc (suc (suc (suc (suc (suc (suc zero))))))))))))) low = n
    by (suc (suc (suc (suc (suc (suc (suc (suc (suc (suc (suc (suc (suc (suc zero)))))))))))))) low = o
    by (suc (suc (suc (suc (suc (suc (suc (suc (suc (suc (suc (suc (suc (suc (suc s))))))))))))))) low = absurd (omega arith)

-- each slot once the first is past its first grace period
abbrev pub past_at : ℕ → ℕ → Status
past_at slot = all_cleared slot (closed_at (marked_at slot two_listed))

-- the list of paths without the first is the next one
pub next_is : (v : View) (slot : ℕ) (order : Order) → slot ≡ 0 → order ≡ one_path → Stage v 2 (past_at slot) 0 → IsNext v order
next_is v slot order is_slot is_order h = subst (IsNext v) (sym is_order) (record {
  lawful = lawful;
  version = ap (λ (n : ℕ). n + 1) (sym h.last);
  slots = λ s low. subst (MayOrder (lists s one_path)) (sym (h.status s ∙ ap (λ (x : ℕ). past_at x s) is_slot)) (of_fifteen (λ s. MayOrder (lists s one_path) (past_at 0 s)) refl tt tt tt tt tt tt tt tt tt tt tt tt tt tt s low);
})
  where
    lawful : IsOrder one_path
    lawful = record { within = omega arith; places = refl; distinct = λ i j a b e. omega arith; past = past }
      where
        past : (i : ℕ) → 1 ≤ i → get_or one_path.slots i 0 ≡ 0
        past zero l = absurd (omega arith)
        past (suc i) l = same 7 i 0

-- each slot once the first may be freed
abbrev pub bare_at : ℕ → Order → ℕ → Status
bare_at slot order = emptied_at slot (closed_at (λ s. ordered (lists s order) (past_at slot s)))

pub bare_is : (v : View) (slot o : ℕ) (order : Order) → slot ≡ 0 → order ≡ one_path → Stage v 1 (bare_at slot order) o → status_at slot v ≡ bare
bare_is v slot o order is_slot is_order h = h.status slot ∙ (λ i. bare_at (is_slot i) (is_order i) (is_slot i))
