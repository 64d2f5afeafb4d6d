-- What a step of the table asks follows from what a step has to keep.
use Rattle.std.proofs.Common.{[], ◌≡◌, ℕ, zero, suc, ◌+◌, ◌<◌, ◌≤◌, ◌==◌, eq-eqb, ne_eqb, ⊎_elim, true, false, true≢false, List, ◌∷◌, get_or, set, sym, refl, ap, ◌∙◌, subst, arith, None, Some, length-set, if◌then◌else◌}
use mathlib.Core.Logic.{dite}
use Rattle.mp_words.proofs.Places.{cases_lt}
use Rattle.mp_rule.proofs.Kept.{past_rows}
use native.Mathlib.Decide.{ℕ_discrete}
use prog.Atomic.{either}
use Rattle.mp_plain.proofs.Words.{some_word}
use Rattle.mp_words.specs.Effect.{unless_slot}
use Rattle.mp_words.specs.Row.{is_given}
use Rattle.mp_core.specs.Status.{Status, unused, is_used, lists}
use Rattle.mp_rule.specs.Sequence.{is_listed}
use Rattle.mp_rule.proofs.Opening.{named_listed}
use Rattle.mp_core.specs.Memory.{current_at}
use mathlib.Core.Option.{some}
use lib.ListN.{get_elem?}
use Rattle.std.proofs.lemmas.List.{set-get_or}
use Rattle.atomic_table.specs.Seated.{TableId}
use Rattle.atomic_table.specs.Table.{State, Me, keeps, Allows}
use Rattle.mp_words.specs.declared.order.Order.{Order}
use Rattle.mp_words.specs.declared.row.Row.{Row}
use Rattle.mp_words.specs.declared.words.Side.{Side}
use Rattle.mp_words.specs.RowWord.{is_no_row, row_in, row_of_word}
use Rattle.mp_words.specs.OrderWord.{is_no_order, order_in}
use Rattle.mp_words.specs.SideWord.{side_of_word}
use Rattle.mp_core.specs.declared.view.Section.{Section}
use Rattle.mp_core.specs.declared.view.Start.{Start}
use Rattle.mp_core.specs.declared.view.Role.{Role}
use Rattle.mp_core.specs.declared.view.Role.TheVariants as role
use Rattle.mp_core.specs.declared.view.View.{View}
use Rattle.mp_core.specs.Memory as memory
use Rattle.mp_core.specs.Memory.{Memory}
use Rattle.mp_core.specs.Notes.{HasRow}
use Rattle.mp_core.specs.Unpacked.{current_in_word, start_order}
use Rattle.mp_core.specs.Views.{last_order, last_version}
use Rattle.mp_rule.specs.Sums.{room}
use Rattle.mp_rule.specs.Holds.{Holds}
use Rattle.mp_rule.specs.Promises.{IsUntold}
use Rattle.mp_rule.specs.At.{At}
use Rattle.mp_rule.proofs.Views.{at_here, le-total, keeping-own, none_held, the_section}
use Rattle.mp_table.specs.Words.{said}
use Rattle.mp_table.specs.Known.{core_on, alone_by, RowsFit, Fits}
use Rattle.mp_table.specs.Table.{Kept, Keeps}
use Rattle.mp_table.proofs.Words.{said_index, said_side, said_order, said_row, said_depth, said_current, packed_index, packed_side, packed_order, packed_row, packed_depth, packed_current}

-- the versions of the lists of paths that the keeper may still store
lists_fit : (start : Start) (words : List ℕ) (views : List View) (id : ℕ) (w : View) → Kept start words views → get_elem? views id ≡ some w → w.role ≡ role.Keeper → last_version w + w.left < 1073741824
lists_fit start words views id w h at keeper =
    let first : id ≡ 0 = h.rule.graces.keeper id w at keeper in
    let same : (said words).order ≡ last_order (start_order w.keeping.start) w.keeping.events = h.rule.graces.stored ∙ (λ i. last_order (start_order (sym (h.rule.starts id w at) i)) (keeping-own views id w first at i)) in
    let version : (said words).order.version ≡ last_version w = ap (λ (o : Order). o.version) same in
    let most = le-total room views id w at in
    let bound = h.rule.sums.order in
    omega arith

-- what a pass knows fits the words
pub fits_of : (start : Start) (words : List ℕ) (views : List View) (id : ℕ) (w : View) → Kept start words views → get_elem? views id ≡ some w → RowsFit w → Fits w
fits_of start words views id w h at rows = record { rows = rows; formed = h.rule.graces.formed id w at; lists = lists_fit start words views id w h at }

-- a step
pub allows : (start : Start) (slots id i : ℕ) (me : Me (Unit {0}) View) (f : ℕ → ℕ) (tells : ℕ → View → Type 0) → Keeps id me.0 i f tells
    → Allows (λ (s : State (Unit {0}) View). Kept start s.words s.views) slots id me i f (λ n me'. (me'.1 ≡ me.1) × Fits me'.0 × tells n me'.0)
allows start slots id i me f tells k s h len at small =
    let x = k start s.words s.views h at small in
    (x.0, keeps, tt, x.1, (refl, fits_of start (set s.words i (f (get_or s.words i 0))) (set s.views id x.0) id x.0 x.1 (at_here s.views id me.0 x.0 at) x.2, x.3))

-- a pass whose words aren't told
untold : (home : TableId) (lane : ℕ) (v : View) → IsUntold (core_on home lane v)
untold home lane v = record { told = refl; alone = by v.role v.keeping.out }
  where
    by : (r : Role) (out : List ℕ) → alone_by r out ≡ true → (r ≡ role.Keeper) × (out ≡ [])
    by role.Keeper [] e = (refl, refl)
    by role.Keeper (l ∷ ls) e = absurd (true≢false (sym e))
    by (role.Lane l) out e = absurd (true≢false (sym e))
    by role.Spent out e = absurd (true≢false (sym e))

pub at_step : (home : TableId) (lane : ℕ) (start : Start) (id : ℕ) (v : View) (words : List ℕ) (views : List View) → Kept start words views → get_elem? views id ≡ some v → At start id (core_on home lane v) (said words) views
at_step home lane start id v words views h at = record { rule = h.rule; here = at; untold = untold home lane v }

-- what is kept where a word is loaded
pub loaded : (start : Start) (words : List ℕ) (views news : List View) (i : ℕ) → Kept start words views → Holds start (said words) news → Kept start (set words i (get_or words i 0)) news
loaded start words views news i h k = subst (λ (l : List ℕ). Kept start l news) (sym (set-get_or words i 0)) (record { count = h.count; packed = h.packed; units = h.units; rule = k })

-- what is kept where a word is written
pub put_index : (start : Start) (words : List ℕ) (views news : List View) (w : ℕ) → Kept start words views → Holds start (record (said words) { index = w }) news → Kept start (set words 0 w) news
put_index start words views news w h k = record { count = length-set words 0 w ∙ h.count; packed = packed_index words w h.count h.packed; units = h.units; rule = subst (λ (m : Memory). Holds start m news) (sym (said_index words w h.count)) k }

pub put_side : (start : Start) (words : List ℕ) (views news : List View) (x w : ℕ) (to : Side) → x < 2 → side_of_word w ≡ to → Kept start words views → Holds start (record (said words) { sides = set (said words).sides x to }) news → Kept start (set words (1 + x) w) news
put_side start words views news x w to low is h k = record { count = length-set words (1 + x) w ∙ h.count; packed = packed_side words x w low h.count h.packed; units = h.units; rule = subst (λ (m : Memory). Holds start m news) (sym (said_side words x w to low h.count is)) k }

pub put_order : (start : Start) (words : List ℕ) (views news : List View) (w : ℕ) (to : Order) → is_no_order w ≡ false → order_in w ≡ to → Kept start words views → Holds start (memory.order_in to (said words)) news → Kept start (set words 3 w) news
put_order start words views news w to fit is h k = record { count = length-set words 3 w ∙ h.count; packed = packed_order words w h.count fit h.packed; units = h.units; rule = subst (λ (m : Memory). Holds start m news) (sym (said_order words w to h.count is)) k }

pub put_row : (start : Start) (words : List ℕ) (views news : List View) (x w : ℕ) (to : Row) → x < 15 → is_no_row w ≡ false → row_in w ≡ to → Kept start words views → Holds start (memory.row_in x to (said words)) news → Kept start (set words (4 + x) w) news
put_row start words views news x w to low fit is h k = record { count = length-set words (4 + x) w ∙ h.count; packed = packed_row words x w low h.count fit h.packed; units = h.units; rule = subst (λ (m : Memory). Holds start m news) (sym (said_row words x w to low h.count is)) k }

pub put_depth : (start : Start) (words : List ℕ) (views news : List View) (x w to : ℕ) → x < 15 → w ≡ to → Kept start words views → Holds start (record (said words) { depths = set (said words).depths x to }) news → Kept start (set words (19 + x) w) news
put_depth start words views news x w to low is h k = record { count = length-set words (19 + x) w ∙ h.count; packed = packed_depth words x w low h.count h.packed; units = h.units; rule = subst (λ (m : Memory). Holds start m news) (sym (said_depth words x w low h.count ∙ ap (λ (n : ℕ). record (said words) { depths = set (said words).depths x n }) is)) k }

pub put_current : (start : Start) (words : List ℕ) (views news : List View) (x w : ℕ) (to : _) → x < 8 → current_in_word w ≡ to → Kept start words views → Holds start (memory.current_in x to (said words)) news → Kept start (set words (34 + x) w) news
put_current start words views news x w to low is h k = record { count = length-set words (34 + x) w ∙ h.count; packed = packed_current words x w low h.count h.packed; units = h.units; rule = subst (λ (m : Memory). Holds start m news) (sym (said_current words x w to low h.count is)) k }

-- the rows that a pass knows after a step that loads none
pub rows_same : (v w : View) → w.inside ≡ v.inside → w.keeping.last ≡ None → RowsFit v → RowsFit w
rows_same v w inside last r = record { rows = λ t e. r.rows t (sym inside ∙ e); held = λ l e. absurd (none_held w last l e) }

-- the same where the section's note changed, and has no row that it didn't have
pub rows_noted : (v w : View) (s t : Section) → v.inside ≡ Some s → w.inside ≡ Some t → w.keeping.last ≡ None → ((slot : ℕ) (row : Row) → HasRow t.note slot row → HasRow s.note slot row) → RowsFit v → RowsFit w
rows_noted v w s t open_is now last less r = record { rows = λ u e slot row has. r.rows s open_is slot row (less slot row (subst (λ (x : Section). HasRow x.note slot row) (the_section u t (sym e ∙ now)) has)); held = λ l e. absurd (none_held w last l e) }

-- a row's word spells a row
pub spelled : (w : ℕ) → is_no_row w ≡ false → row_of_word w ≡ Some (row_in w)
spelled w e = λ i. if e i then None else Some (row_in w)

-- a current word that was cleared of a slot
pub cleared_word : (n slot : ℕ) → current_in_word (either (n == slot + 1) 0 n) ≡ unless_slot slot (current_in_word n)
cleared_word zero slot = λ i. current_in_word (either (ne_eqb 0 (slot + 1) (λ e. omega arith) i) 0 0)
cleared_word (suc k) slot =
    let is : current_in_word (suc k) ≡ Some k = some_word k (suc k) (omega arith) in
    dite (ℕ_discrete k slot)
    (λ e. (λ i. current_in_word (either (eq-eqb (suc k) (slot + 1) (omega arith) i) 0 (suc k))) ∙ sym (ap (unless_slot slot) is ∙ (λ i. if eq-eqb k slot e i then None else Some k)))
    (λ d. (λ i. current_in_word (either (ne_eqb (suc k) (slot + 1) (λ e. d (omega arith)) i) 0 (suc k))) ∙ is ∙ sym (ap (unless_slot slot) is ∙ (λ i. if ne_eqb k slot d i then None else Some k)))

-- a slot that a current word names
pub named_low : (start : Start) (words : List ℕ) (views : List View) (node slot : ℕ) → Kept start words views → node < 8 → current_at (said words) node ≡ Some slot → slot < 15
named_low start words views node slot h low e = listed_low (named_listed start (said words) views h.rule node slot low e)
  where
    used : (st : Status) → is_listed st ≡ true → is_used st ≡ true
    used unused e = absurd (true≢false (sym e))
    used st e = refl

    listed_low : lists slot (said words).order ≡ true → slot < 15
    listed_low l = ⊎_elim (λ (low : slot < 15). low) (λ (far : 15 ≤ slot). absurd (true≢false (sym (let k = h.rule.graces.slots slot in k.taken ∙ used _ (sym k.listed ∙ l)) ∙ ap is_given (past_rows (said words).rows slot (let n = h.rule.sized.rows in omega arith))))) (cases_lt slot 15)
