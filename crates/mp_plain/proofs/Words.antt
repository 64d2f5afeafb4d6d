-- What a word that is stored says.
use Rattle.std.proofs.Common.{◌≡◌, ℕ, zero, suc, ◌+◌, ◌-◌, ◌==◌, ne_eqb, Bool, true, false, true≢false, List, [], ◌∷◌, map, get_or, set, sym, refl, ap, ◌∙◌, subst, arith, Option, None, Some, if◌then◌else◌}
use Rattle.std.proofs.lemmas.List.{map-set}
use Rattle.mp_words.specs.declared.order.Order.{Order}
use Rattle.mp_words.specs.declared.row.Row.{Row}
use Rattle.mp_words.specs.declared.words.Side.{Side}
use Rattle.mp_words.specs.declared.words.Words.{Words}
use Rattle.mp_words.specs.OrderWord.{is_no_order, order_in, order_of_word}
use Rattle.mp_words.specs.RowWord.{is_no_row, row_in, row_of_word}
use Rattle.mp_words.specs.SideWord.{side_of_word}
use Rattle.mp_core.specs.Memory as memory
use Rattle.mp_core.specs.Memory.{Memory}
use Rattle.mp_core.specs.Unpacked.{unpacked, current_in_word}
use Rattle.mp_plain.specs.declared.unpacked.Unpacked.{Unpacked}
use Rattle.mp_plain.specs.Packed.{IsPacked, IsUnpacked}

-- a test that gave something was passed
passed : {X : Type 0} → (b : Bool) (x y : X) → (if b then None else Some x) ≡ Some y → (b ≡ false) × (x ≡ y)
passed true x y e = absurd (cc)
passed false x y e = (refl, cc)

pub is_row : (w : ℕ) (row : Row) → row_of_word w ≡ Some row → (is_no_row w ≡ false) × (row_in w ≡ row)
is_row w row e = passed (is_no_row w) (row_in w) row e

pub is_order : (w : ℕ) (order : Order) → order_of_word w ≡ Some order → (is_no_order w ≡ false) × (order_in w ≡ order)
is_order w order e = passed (is_no_order w) (order_in w) order e

-- a write leaves what holds of each item and of the new one
set_all : (P : ℕ → Type 0) (xs : List ℕ) (i s w : ℕ) → P w → P (get_or xs s 0) → P (get_or (set xs i w) s 0)
set_all P [] i s w new old = old
set_all P (x ∷ xs) zero zero w new old = new
set_all P (x ∷ xs) zero (suc s) w new old = old
set_all P (x ∷ xs) (suc i) zero w new old = old
set_all P (x ∷ xs) (suc i) (suc s) w new old = set_all P xs i s w new old

pub put_side_is : (w : Words) (side word : ℕ) (to : Side) → side_of_word word ≡ to → unpacked (record w { sides = set w.sides side word }) ≡ record (unpacked w) { sides = set (unpacked w).sides side to }
put_side_is w side word to is = λ i. record (unpacked w) { sides = (map-set side_of_word w.sides side word ∙ ap (set (map side_of_word w.sides) side) is) i }

pub put_row_is : (w : Words) (place slot word : ℕ) (row : Row) → place ≡ slot → row_of_word word ≡ Some row → unpacked (record w { rows = set w.rows place word }) ≡ memory.row_in slot row (unpacked w)
put_row_is w place slot word row at is = λ i. record (unpacked w) { rows = (map-set row_in w.rows place word ∙ (λ j. set (map row_in w.rows) (at j) ((is_row word row is).1 j))) i }

pub put_row_packed : (w : Words) (place word : ℕ) (row : Row) → row_of_word word ≡ Some row → IsPacked w → IsPacked (record w { rows = set w.rows place word })
put_row_packed w place word row is p = record { rows = λ s low. set_all (λ x. is_no_row x ≡ false) w.rows place s word (is_row word row is).0 (p.rows s low); order = p.order }

pub put_row_same : (w : Words) (u : Unpacked) (place word : ℕ) (row : Row) → row_of_word word ≡ Some row → IsUnpacked w u → IsUnpacked (record w { rows = set w.rows place word }) (record u { rows = set u.rows place row })
put_row_same w u place word row is s = record {
  same_rows = ap (λ (rs : List Row). set rs place row) s.same_rows ∙ sym (map-set row_in w.rows place word ∙ ap (set (map row_in w.rows) place) (is_row word row is).1);
  same_order = s.same_order;
}

pub put_order_is : (w : Words) (word : ℕ) (order : Order) → order_of_word word ≡ Some order → unpacked (record w { order = word }) ≡ memory.order_in order (unpacked w)
put_order_is w word order is = λ i. record (unpacked w) { order = (is_order word order is).1 i }

pub put_order_packed : (w : Words) (word : ℕ) (order : Order) → order_of_word word ≡ Some order → IsPacked w → IsPacked (record w { order = word })
put_order_packed w word order is p = record { rows = p.rows; order = (is_order word order is).0 }

pub put_order_same : (w : Words) (u : Unpacked) (word : ℕ) (order : Order) → order_of_word word ≡ Some order → IsUnpacked w u → IsUnpacked (record w { order = word }) (record u { order = order })
put_order_same w u word order is s = record { same_rows = s.same_rows; same_order = sym (is_order word order is).1 }

-- a write of neither a row nor the list of paths leaves what these say
pub still_same : (w n : Words) (u : Unpacked) (m : Memory) → unpacked n ≡ m → m.rows ≡ (unpacked w).rows → m.order ≡ (unpacked w).order → IsUnpacked w u → IsUnpacked n u
still_same w n u m is rows order s = record {
  same_rows = s.same_rows ∙ sym rows ∙ ap (λ (x : Memory). x.rows) (sym is);
  same_order = s.same_order ∙ sym order ∙ ap (λ (x : Memory). x.order) (sym is);
}

-- the word of a slot says the slot
pub some_word : (slot word : ℕ) → word ≡ slot + 1 → current_in_word word ≡ Some slot
some_word slot word is = ap current_in_word is ∙ (λ i. if (ne_eqb (slot + 1) 0 (λ e. omega arith)) i then None else Some (slot + 1 - 1)) ∙ ap Some (omega arith)

pub put_current_is : (w : Words) (place node word : ℕ) (current : Option ℕ) → place ≡ node → current_in_word word ≡ current → unpacked (record w { currents = set w.currents place word }) ≡ memory.current_in node current (unpacked w)
put_current_is w place node word current at is = λ i. record (unpacked w) { currents = (map-set current_in_word w.currents place word ∙ (λ j. set (map current_in_word w.currents) (at j) (is j))) i }
