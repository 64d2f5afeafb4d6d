-- What each kind of step tells of words that are told follows from the rule.
use Rattle.std.proofs.Common.{◌≡◌, ◌≢◌, ℕ, ◌<◌, ◌≤◌, true, List, sym, refl, ap, ◌∙◌, subst, arith, Option, None, Some}
use mathlib.Core.Option.{some}
use lib.ListN.{get_elem?}
use Rattle.mp_words.specs.declared.row.Row.{Row}
use Rattle.mp_words.specs.Row.{is_given}
use Rattle.mp_core.specs.declared.view.Start.{Start}
use Rattle.mp_core.specs.declared.view.View.{View}
use Rattle.mp_core.specs.Core.{Core, Tells}
use Rattle.mp_core.specs.Memory.{Memory, row_at}
use Rattle.mp_core.specs.Views.{seen_row}
use Rattle.mp_core.specs.Kinds.{IsAlone, OrderTold, RowTold, RowMoved}
use Rattle.mp_rule.specs.History.{ReadAt}
use Rattle.mp_rule.specs.Holds.{Holds, start_row}

abbrev or_memory : Memory → Option Memory → Memory
or_memory m None = m
or_memory m (Some n) = n

abbrev none_told : Option Memory → Type 0
none_told None = Unit {0}
none_told (Some n) = ⊥

-- the words that are told are these
pub told_is : (a : Core) (m : Memory) (P : Memory → Type 0) → a.told ≡ Some m → P m → Tells a P
told_is a m P told p n e = subst P (ap (or_memory m) (sym told ∙ e)) p

-- and where they are, nothing is said of words that aren't
pub not_alone : (a : Core) (m : Memory) → a.told ≡ Some m → IsAlone a → ⊥
not_alone a m told al = subst none_told (sym al.0 ∙ told) tt

-- a load of the list
pub told_order : (start : Start) (a : Core) (m : Memory) (views : List View) → Holds start m views → a.told ≡ Some m → a.view.seen.order ≤ m.order.version → OrderTold a m.order
told_order start a m views h told fresh = record {
  lawful = h.order;
  below = let o = h.sums.order in omega arith;
  fresh = fresh;
  last = λ al. absurd (not_alone a m told al);
  told = told_is a m (λ n. m.order ≡ n.order) told refl;
}

-- a load of a row
pub told_row : (start : Start) (a : Core) (x : ℕ) (m : Memory) (views : List View) → Holds start m views → a.told ≡ Some m → seen_row a.view x ≤ (row_at m x).version → RowTold a x (row_at m x)
told_row start a x m views h told fresh = record {
  lawful = h.lawful x;
  below = let o = h.sums.rows x in omega arith;
  fresh = fresh;
  last = λ al. absurd (not_alone a m told al);
  told = told_is a m (λ n. row_at m x ≡ row_at n x) told refl;
}

-- a row that was read is the word, or is older
pub older : (start : Start) (x most : ℕ) (old : Row) (m : Memory) (views : List View) → most ≤ (row_at m x).version → ReadAt x (start_row start x) (row_at m x) most views old → old.version ≢ (row_at m x).version → old.version < (row_at m x).version
older start x most old m views le read apart = let to = read.to in below old.version (row_at m x).version (omega arith) apart
  where
    below : (a b : ℕ) → a ≤ b → a ≢ b → a < b
    below a b l d = omega arith

-- a row change that found another row
pub told_moved : (start : Start) (a : Core) (x : ℕ) (old : Row) (m : Memory) (views : List View) → Holds start m views → a.told ≡ Some m → old.version < (row_at m x).version → is_given (row_at m x) ≡ true → RowMoved a x old (row_at m x)
told_moved start a x old m views h told less given = record {
  greater = less;
  lawful = h.lawful x;
  below = let o = h.sums.rows x in omega arith;
  given = given;
  out = λ al e. not_alone a m told al;
  told = told_is a m (λ n. row_at n x ≡ row_at m x) told refl;
}
