-- One slot at each kind of step: its row, its depth, what open sections hold of it, and the current words.
use Rattle.std.proofs.Common.{◌≡◌, ◌≢◌, ◌⊎◌, ℕ, zero, suc, ◌+◌, ◌-◌, ◌<◌, ◌≤◌, ◌==◌, ◌&&◌, not, cond, Bool, true, false, true≢false, List, [], ◌∷◌, ◌++◌, set, ⊎_elim, sym, refl, ap, ◌∙◌, subst, arith, Option, None, Some}
use mathlib.Core.Logic.{dite}
use mathlib.Core.Option.{some}
use native.Mathlib.Decide.{ℕ_discrete}
use lib.ListN.{get_elem?}
use Rattle.mp_words.specs.declared.row.Row.{Row}
use Rattle.mp_words.specs.declared.order.Order.{Order}
use Rattle.mp_words.specs.declared.note.Note.{Note}
use Rattle.mp_words.specs.Row.{is_given, takes_requests, is_enabled}
use Rattle.mp_core.specs.declared.view.Section.{Section}
use Rattle.mp_core.specs.declared.view.Held.{Held}
use Rattle.mp_core.specs.declared.view.View.{View}
use Rattle.mp_core.specs.Notes.{order_noted, HasRow}
use Rattle.mp_core.specs.Status.{Status, unused, fresh, listed, leaving, past, gone, bare, lists, scanned, cleared, ordered, emptied, MayOrder}
use Rattle.mp_core.specs.Views.{on_slot, flying}
use Rattle.mp_rule.specs.Sequence.{is_listed, is_quiet, pick, is_barred, is_hidden, is_unnamed}
use Rattle.mp_rule.specs.Rule.{Each, in_order, Reaches, Opened, Bars, Barred, Hides, Hidden, Unnamed, Still, SlotAt}
use Rattle.mp_rule.proofs.Views.{total-set, le-total, each_set, each_snoc, total-snoc, by_case, opened_none, none_held}
use Rattle.mp_rule.proofs.Sequence.{never, quiet-hidden, hidden-unlisted, barred-going, scan_flags, scan_barred, scan_hidden, scan_unnamed, order_flags, order_listed, order_quiet, order_barred, order_hidden, order_unnamed, empty_flags, empty_barred, empty_hidden, empty_unnamed, clear_flags, clear_barred, clear_hidden, clear_unnamed}

-- no view's last step read a row for the keeper
abbrev pub NoLast : List View → Type 0
NoLast views = Each (λ j u. (l : Held) → u.keeping.last ≡ Some l → ⊥) views

-- one view changes, with the same flights
pub slot_frame : (s : ℕ) (st : Status) (row : Row) (order : Order) (depth : ℕ) (currents : ℕ → Option ℕ) (views : List View) (id : ℕ) (v w : View) → SlotAt s st row order depth currents views → get_elem? views id ≡ some v → flying s w ≡ flying s v → Opened (Bars s st) w → Opened (Hides s st) w → Still s st row id w
    → SlotAt s st row order depth currents (set views id w)
slot_frame s st row order depth currents views id v w k at same bars hides still =
    let t = total-set (flying s) views id v w at in
    let is = k.counted in
    let f : flying s w ≡ flying s v = same in record {
      taken = k.taken;
      marked = k.marked;
      off = k.off;
      listed = k.listed;
      counted = omega arith;
      idle = k.idle;
      barred = each_set (Barred s st) views id w (λ j u d a. k.barred j u a) bars;
      hidden = each_set (Hidden s st) views id w (λ j u d a. k.hidden j u a) hides;
      unnamed = k.unnamed;
      still = each_set (Still s st row) views id w (λ j u d a. k.still j u a) still;
    }

-- a view with no open section and no flight comes
pub slot_more : (s : ℕ) (st : Status) (row : Row) (order : Order) (depth : ℕ) (currents : ℕ → Option ℕ) (views : List View) (w : View) → SlotAt s st row order depth currents views → w.inside ≡ None → w.flights ≡ [] → w.keeping.last ≡ None → SlotAt s st row order depth currents (views ++ w ∷ [])
slot_more s st row order depth currents views w k closed none_fly none =
    let t = total-snoc (flying s) views w in
    let is = k.counted in
    let f : flying s w ≡ 0 = ap (on_slot s) none_fly in record {
      taken = k.taken;
      marked = k.marked;
      off = k.off;
      listed = k.listed;
      counted = omega arith;
      idle = k.idle;
      barred = each_snoc (Barred s st) views w k.barred (λ j. opened_none (Bars s st) w closed);
      hidden = each_snoc (Hidden s st) views w k.hidden (λ j. opened_none (Hides s st) w closed);
      unnamed = k.unnamed;
      still = each_snoc (Still s st row) views w k.still (λ j l e. absurd (none_held w none l e));
    }

-- a section of this view can reach a slot that is not quiet alone: its order lists it, or a flight of the view is on it
pub not_quiet : (s : ℕ) (st : Status) (row : Row) (order : Order) (depth : ℕ) (currents : ℕ → Option ℕ) (views : List View) (id : ℕ) (v : View) (t : Section) → SlotAt s st row order depth currents views → get_elem? views id ≡ some v → v.inside ≡ Some t
    → Reaches s t.note v → is_quiet st ≡ true → ⊥
not_quiet s st row order depth currents views id v t k at is_open reach q = ⊎_elim
    (λ (l : in_order s t.note.order ≡ true). true≢false (sym l ∙ k.hidden id v at t is_open (quiet-hidden t.note.side st q)))
    (λ (f : 1 ≤ flying s v). let z = k.idle q in let is = k.counted in let le = le-total (flying s) views id v at in absurd (omega arith))
    reach

-- a load of the list
pub hides_order : (s : ℕ) (st : Status) (row : Row) (order : Order) (depth : ℕ) (currents : ℕ → Option ℕ) (views : List View) (n : Note) → SlotAt s st row order depth currents views → Hides s st (order_noted order n)
hides_order s st row order depth currents views n k h = k.listed ∙ hidden-unlisted n.side st h

-- a row that isn't ready isn't enabled
pub enabled_off : (r : Row) → r.ready ≡ false → is_enabled r ≡ false
enabled_off r e = ap (λ (b : Bool). is_given r && takes_requests r.cstate && not r.pending && b) e ∙ none (is_given r) (takes_requests r.cstate) (not r.pending)
  where
    none : (a b c : Bool) → a && b && c && false ≡ false
    none true true true = refl
    none true true false = refl
    none true false c = refl
    none false b c = refl

-- a load of a row of slot s: a row under removal isn't enabled
pub bars_row : (s : ℕ) (st : Status) (row order : _) (depth : ℕ) (currents : ℕ → Option ℕ) (views : List View) (id : ℕ) (v : View) (t : Section) (m : Note) → SlotAt s st row order depth currents views → get_elem? views id ≡ some v → v.inside ≡ Some t
    → m.side ≡ t.note.side → ((r : Row) → HasRow m s r → ((r ≡ row) × Reaches s t.note v) ⊎ HasRow t.note s r) → Bars s st m
bars_row s st row order depth currents views id v t m k at is_open side has h r x =
    let b : is_barred t.note.side st ≡ true = ap (λ (y : ℕ). is_barred y st) (sym side) ∙ h in
    ⊎_elim
    (λ (e : (r ≡ row) × Reaches s t.note v). ap is_enabled e.0 ∙ enabled_off row (k.off (barred-going t.note.side st b (not_quiet s st row order depth currents views id v t k at is_open e.1))))
    (λ (o : HasRow t.note s r). k.barred id v at t is_open b r o)
    (has r x)

-- a slot with an enabled row in an open section's note: it is listed, its depth may rise, and a current word may name it
pub row_unbarred : (s : ℕ) (st : Status) (row : Row) (order : Order) (depth : ℕ) (currents : ℕ → Option ℕ) (views : List View) (id : ℕ) (v : View) (t : Section) (r : Row) → SlotAt s st row order depth currents views → get_elem? views id ≡ some v → v.inside ≡ Some t → HasRow t.note s r → is_enabled r ≡ true → is_barred t.note.side st ≡ true → ⊥
row_unbarred s st row order depth currents views id v t r k at is_open x on b = true≢false (sym on ∙ k.barred id v at t is_open b r x)

pub row_listed : (s : ℕ) (st : Status) (row : Row) (order : Order) (depth : ℕ) (currents : ℕ → Option ℕ) (views : List View) (id : ℕ) (v : View) (t : Section) (r : Row) → SlotAt s st row order depth currents views → get_elem? views id ≡ some v → v.inside ≡ Some t → HasRow t.note s r → is_enabled r ≡ true → lists s order ≡ true
row_listed s st row order depth currents views id v t r k at is_open x on = k.listed ∙ by st (row_unbarred s st row order depth currents views id v t r k at is_open x on)
  where
    by : (st : Status) → (is_barred t.note.side st ≡ true → ⊥) → is_listed st ≡ true
    by unused h = absurd (h refl)
    by fresh h = absurd (h refl)
    by listed h = refl
    by (leaving a b) h = refl
    by (past ns) h = refl
    by (gone a b) h = absurd (h refl)
    by bare h = absurd (h refl)

-- a send: one flight more, on slot x
pub slot_send : (s : ℕ) (st : Status) (row : Row) (order : Order) (depth : ℕ) (currents : ℕ → Option ℕ) (views : List View) (id : ℕ) (v w : View) → SlotAt s st row order depth currents views → get_elem? views id ≡ some v → flying s w ≡ flying s v + 1 → (is_quiet st ≡ true → ⊥) → Opened (Bars s st) w → Opened (Hides s st) w → Still s st row id w
    → SlotAt s st row order (depth + 1) currents (set views id w)
slot_send s st row order depth currents views id v w k at more busy bars hides still =
    let t = total-set (flying s) views id v w at in
    let is = k.counted in
    let f : flying s w ≡ flying s v + 1 = more in record {
      taken = k.taken;
      marked = k.marked;
      off = k.off;
      listed = k.listed;
      counted = omega arith;
      idle = λ q. absurd (busy q);
      barred = each_set (Barred s st) views id w (λ j u d a. k.barred j u a) bars;
      hidden = each_set (Hidden s st) views id w (λ j u d a. k.hidden j u a) hides;
      unnamed = k.unnamed;
      still = each_set (Still s st row) views id w (λ j u d a. k.still j u a) still;
    }

-- an end: one flight less
pub slot_land : (s : ℕ) (st : Status) (row : Row) (order : Order) (depth : ℕ) (currents : ℕ → Option ℕ) (views : List View) (id : ℕ) (v w : View) → SlotAt s st row order depth currents views → get_elem? views id ≡ some v → flying s v ≡ flying s w + 1 → Opened (Bars s st) w → Opened (Hides s st) w → Still s st row id w
    → SlotAt s st row order (depth - 1) currents (set views id w)
slot_land s st row order depth currents views id v w k at less bars hides still =
    let t = total-set (flying s) views id v w at in
    let is = k.counted in
    let f : flying s v ≡ flying s w + 1 = less in record {
      taken = k.taken;
      marked = k.marked;
      off = k.off;
      listed = k.listed;
      counted = omega arith;
      idle = λ q. let z = k.idle q in omega arith;
      barred = each_set (Barred s st) views id w (λ j u d a. k.barred j u a) bars;
      hidden = each_set (Hidden s st) views id w (λ j u d a. k.hidden j u a) hides;
      unnamed = k.unnamed;
      still = each_set (Still s st row) views id w (λ j u d a. k.still j u a) still;
    }

-- a store of a current word and a clear of a current word: the current words become others
pub slot_currents : (s : ℕ) (st : Status) (row : Row) (order : Order) (depth : ℕ) (currents news : ℕ → Option ℕ) (views : List View) → SlotAt s st row order depth currents views → Unnamed s st news → SlotAt s st row order depth news views
slot_currents s st row order depth currents news views k h = record {
  taken = k.taken;
  marked = k.marked;
  off = k.off;
  listed = k.listed;
  counted = k.counted;
  idle = k.idle;
  barred = k.barred;
  hidden = k.hidden;
  unnamed = h;
  still = k.still;
}

abbrev or_slot : ℕ → Option ℕ → ℕ
or_slot d None = d
or_slot d (Some x) = x

abbrev some_slot : Option ℕ → Type 0
some_slot None = ⊥
some_slot (Some x) = Unit {0}

pub the_slot : (x s : ℕ) → Some x ≡ Some s → x ≡ s
the_slot x s e = ap (or_slot x) e

pub none_slot : (s : ℕ) → None ≡ Some s → ⊥
none_slot s e = subst some_slot (sym e) tt

-- one of the words becomes another
abbrev pub put : {A : Type 0} → (ℕ → A) → ℕ → A → ℕ → A
put f i a j = cond (i == j) a (f j)

-- a store of a current word of slot x at node i
pub store_named : (s x i : ℕ) (st : Status) (currents : ℕ → Option ℕ) → Unnamed s st currents → (x ≡ s → is_unnamed i st ≡ true → ⊥) → Unnamed s st (put currents i (Some x))
store_named s x i st currents old here n low h e =
    by_case (λ b. cond b (Some x) (currents n) ≡ Some s → ⊥) i n
    (λ same f. here (the_slot x s f) (subst (λ (j : ℕ). is_unnamed j st ≡ true) (sym same) h))
    (λ _ f. old n low h f)
    e

-- none is stored at node i, or what stands there
pub clear_named : (s i : ℕ) (c : Option ℕ) (st : Status) (currents : ℕ → Option ℕ) → Unnamed s st currents → (c ≡ None) ⊎ (c ≡ currents i) → Unnamed s st (put currents i c)
clear_named s i c st currents old is n low h e =
    by_case (λ b. cond b c (currents n) ≡ Some s → ⊥) i n
    (λ same f. ⊎_elim (λ (z : c ≡ None). none_slot s (sym z ∙ f)) (λ (z : c ≡ currents i). old n low h (sym (ap currents same) ∙ sym z ∙ f)) is)
    (λ _ f. old n low h f)
    e

-- a scan that found nobody
pub slot_scan : (s x : ℕ) (st : Status) (row : Row) (order : Order) (depth : ℕ) (currents : ℕ → Option ℕ) (views : List View) → x < 2 → SlotAt s st row order depth currents views
    → ((j : ℕ) (u : View) → get_elem? views j ≡ some u → (n : Section) → u.inside ≡ Some n → (n.note.side < 2) × (n.note.side ≢ x)) → SlotAt s (scanned x st) row order depth currents views
slot_scan s x st row order depth currents views low k nobody = let f = scan_flags x st in record {
  taken = k.taken ∙ sym f.0;
  marked = k.marked ∙ sym f.1;
  off = λ g. k.off (sym f.1 ∙ g);
  listed = k.listed ∙ sym f.2;
  counted = k.counted;
  idle = λ q. k.idle (sym f.3 ∙ q);
  barred = λ j u a n is h. let o = nobody j u a n is in ⊎_elim (λ (b : is_barred n.note.side st ≡ true). k.barred j u a n is b) (λ (e : n.note.side ≡ x). absurd (o.1 e)) (scan_barred x n.note.side st low o.0 h);
  hidden = λ j u a n is h. let o = nobody j u a n is in ⊎_elim (λ (b : is_hidden n.note.side st ≡ true). k.hidden j u a n is b) (λ (e : n.note.side ≡ x). absurd (o.1 e)) (scan_hidden x n.note.side st low o.0 h);
  unnamed = λ n l h. k.unnamed n l (scan_unnamed n x st h);
  still = λ j u a l e s q. k.still j u a l e s (sym f.3 ∙ q);
}

-- a row change by a lane: a slot that isn't quiet stays given, marked or not, and ready or not
pub slot_log : (s : ℕ) (st : Status) (row new : Row) (order : Order) (depth : ℕ) (currents : ℕ → Option ℕ) (views : List View) → (is_quiet st ≡ true → ⊥) → is_given new ≡ is_given row → new.marked ≡ row.marked → new.ready ≡ row.ready → SlotAt s st row order depth currents views → SlotAt s st new order depth currents views
slot_log s st row new order depth currents views busy taken marked ready k = record {
  taken = taken ∙ k.taken;
  marked = marked ∙ k.marked;
  off = λ g. ready ∙ k.off g;
  listed = k.listed;
  counted = k.counted;
  idle = k.idle;
  barred = k.barred;
  hidden = k.hidden;
  unnamed = k.unnamed;
  still = λ j u a l e s q. absurd (busy q);
}

-- a row change with a mark
pub slot_mark : (s : ℕ) (st : Status) (row new : Row) (order : Order) (depth : ℕ) (currents : ℕ → Option ℕ) (views : List View) → st ≡ listed → is_given new ≡ is_given row → new.marked ≡ true → new.ready ≡ false → SlotAt s st row order depth currents views → SlotAt s (leaving false false) new order depth currents views
slot_mark s st row new order depth currents views is taken marked ready k =
    let l : SlotAt s listed row order depth currents views = subst (λ (y : Status). SlotAt s y row order depth currents views) is k in record {
      taken = taken ∙ l.taken;
      marked = marked;
      off = λ _. ready;
      listed = l.listed;
      counted = l.counted;
      idle = λ q. never q;
      barred = λ j u a n is h. never (sym (picked n.note.side) ∙ h);
      hidden = λ j u a n is h. never h;
      unnamed = λ n l h. never h;
      still = λ j u a l e s q. never q;
    }
  where
    picked : (x : ℕ) → pick x false false ≡ false
    picked zero = refl
    picked (suc x) = refl

-- a row change with a give
pub slot_give : (s : ℕ) (st : Status) (row new : Row) (order : Order) (depth : ℕ) (currents : ℕ → Option ℕ) (views : List View) → st ≡ unused → NoLast views → is_given new ≡ true → new.marked ≡ false → SlotAt s st row order depth currents views → SlotAt s fresh new order depth currents views
slot_give s st row new order depth currents views is none taken marked k =
    let l : SlotAt s unused row order depth currents views = subst (λ (y : Status). SlotAt s y row order depth currents views) is k in record {
      taken = taken;
      marked = marked;
      off = λ g. never g;
      listed = l.listed;
      counted = l.counted;
      idle = l.idle;
      barred = l.barred;
      hidden = l.hidden;
      unnamed = l.unnamed;
      still = λ j u a l e. absurd (none j u a l e);
    }

-- a row change with a free
pub slot_free : (s : ℕ) (st : Status) (row new : Row) (order : Order) (depth : ℕ) (currents : ℕ → Option ℕ) (views : List View) → st ≡ bare → NoLast views → is_given new ≡ false → new.marked ≡ false → SlotAt s st row order depth currents views → SlotAt s unused new order depth currents views
slot_free s st row new order depth currents views is none taken marked k =
    let l : SlotAt s bare row order depth currents views = subst (λ (y : Status). SlotAt s y row order depth currents views) is k in record {
      taken = taken;
      marked = marked;
      off = λ g. never g;
      listed = l.listed;
      counted = l.counted;
      idle = l.idle;
      barred = l.barred;
      hidden = l.hidden;
      unnamed = l.unnamed;
      still = λ j u a l e. absurd (none j u a l e);
    }

-- a store of the list
pub slot_order : (s : ℕ) (st : Status) (row : Row) (order new : Order) (depth : ℕ) (currents : ℕ → Option ℕ) (views : List View) → MayOrder (lists s new) st → SlotAt s st row order depth currents views → SlotAt s (ordered (lists s new) st) row new depth currents views
slot_order s st row order new depth currents views may k =
    let l : Bool = lists s new in
    let f = order_flags l st in record {
      taken = k.taken ∙ sym f.0;
      marked = k.marked ∙ sym f.1;
      off = λ g. k.off (sym f.1 ∙ g);
      listed = order_listed l st may;
      counted = k.counted;
      idle = λ q. k.idle (order_quiet l st q);
      barred = λ j u a n is h. k.barred j u a n is (order_barred l n.note.side st h);
      hidden = λ j u a n is h. k.hidden j u a n is (order_hidden l n.note.side st h);
      unnamed = λ n low h. k.unnamed n low (order_unnamed l n st may low h);
      still = λ j u a p e s q. k.still j u a p e s (order_quiet l st q);
    }

-- a load of a depth by the keeper that read 0
pub slot_empty : (s : ℕ) (st : Status) (row : Row) (order : Order) (depth : ℕ) (currents : ℕ → Option ℕ) (views : List View) → depth ≡ 0 → NoLast views → SlotAt s st row order depth currents views → SlotAt s (emptied st) row order depth currents views
slot_empty s st row order depth currents views none lasts k = let f = empty_flags st in record {
  taken = k.taken ∙ sym f.0;
  marked = k.marked ∙ sym f.1;
  off = λ g. k.off (sym f.1 ∙ g);
  listed = k.listed ∙ sym f.2;
  counted = k.counted;
  idle = λ _. none;
  barred = λ j u a n is h. k.barred j u a n is (empty_barred n.note.side st h);
  hidden = λ j u a n is h. k.hidden j u a n is (empty_hidden n.note.side st h);
  unnamed = λ n low h. k.unnamed n low (empty_unnamed n st h);
  still = λ j u a l e. absurd (lasts j u a l e);
}

-- a clear of a current word by the keeper, at node i
pub slot_clear : (s i : ℕ) (st : Status) (row : Row) (order : Order) (depth : ℕ) (currents news : ℕ → Option ℕ) (views : List View) → (news i ≡ Some s → ⊥) → SlotAt s st row order depth news views → SlotAt s (cleared i st) row order depth news views
slot_clear s i st row order depth currents news views apart k = let f = clear_flags i st in record {
  taken = k.taken ∙ sym f.0;
  marked = k.marked ∙ sym f.1;
  off = λ g. k.off (sym f.1 ∙ g);
  listed = k.listed ∙ sym f.2;
  counted = k.counted;
  idle = λ q. k.idle (sym f.3 ∙ q);
  barred = λ j u a n is h. k.barred j u a n is (sym (clear_barred i n.note.side st) ∙ h);
  hidden = λ j u a n is h. k.hidden j u a n is (sym (clear_hidden i n.note.side st) ∙ h);
  unnamed = λ n low h e. dite (ℕ_discrete i n)
      (λ same. apart (ap news same ∙ e))
      (λ other. k.unnamed n low (clear_unnamed i n st other h) e);
  still = λ j u a l e s q. k.still j u a l e s (sym f.3 ∙ q);
}
