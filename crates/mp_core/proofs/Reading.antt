-- What loads add to what was read.
use Rattle.std.proofs.Common.{◌≡◌, ℕ, ◌+◌, ◌<◌, ◌≤◌, ◌==◌, Bool, true, false, List, ◌∷◌, length, take, get_or, set, cond, max, Some, refl, sym, ◌∙◌, ap, subst, arith, ◌⊎◌, inl, inr, get_or-set_same, get_or-set_other}
use Rattle.std.proofs.lemmas.List.{length-take, get_or-take, length-set}
use Rattle.std.proofs.lemmas.Bool.{cases_Bool}
use Rattle.std.proofs.lemmas.Bool.Decides.{nat_tests}
use Rattle.mp_words.specs.declared.row.Row.{Row}
use Rattle.mp_words.specs.declared.note.Note.{Note}
use Rattle.mp_words.specs.Row.{is_given}
use Rattle.mp_words.specs.Effect.{free_row}
use Rattle.mp_words.specs.Places.{place_in}
use Rattle.mp_words.proofs.Places.{place_hit, cases_lt}
use Rattle.mp_core.specs.declared.view.Section.{Section}
use Rattle.mp_core.specs.declared.view.Seen.{Seen}
use Rattle.mp_core.specs.declared.view.SeenRow.{SeenRow}
use Rattle.mp_core.specs.declared.view.View.{View}
use Rattle.mp_core.specs.Core.{Core, looked}
use Rattle.mp_core.specs.Notes.{HasRow}
use Rattle.mp_core.specs.Views.{greatest, row_read}
use Rattle.mp_core.specs.Kinds.{RowTold, LoadsRow}
use Rattle.mp_core.specs.Reads.{Later, RowRead, IsNote, slot_of, row_of_place, is_read, IsOpen, loaded, with_rows, LoadsRows}

grown : (b : Bool) (n g : ℕ) → g ≤ cond b (max n g) g
grown true n g = omega arith
grown false n g = omega arith

pub greatest_more : (slot s n : ℕ) (seen : List SeenRow) → greatest slot seen ≤ greatest slot (record { slot = s; version = n } ∷ seen)
greatest_more slot s n seen = grown (s == slot) n (greatest slot seen)

pub same_is : (n : ℕ) → (n == n) ≡ true
same_is n = grind (arith, nat_tests)

pub greatest_here : (slot n : ℕ) (seen : List SeenRow) → n ≤ greatest slot (record { slot = slot; version = n } ∷ seen)
greatest_here slot n seen = rw (same_is slot) (omega arith)

kept : (b : Bool) (n g : ℕ) → (b ≡ true → n ≡ g) → cond b (max n g) g ≡ g
kept true n g same = let e = same refl in omega arith
kept false n g same = refl

is_same : (a b : ℕ) → (a == b) ≡ true → a ≡ b
is_same a b e = grind (arith, nat_tests)

pub greatest_still : (slot s n : ℕ) (seen : List SeenRow) → n ≡ greatest s seen → greatest slot (record { slot = s; version = n } ∷ seen) ≡ greatest slot seen
greatest_still slot s n seen e = kept (s == slot) n (greatest slot seen) (λ same. e ∙ ap (λ x. greatest x seen) (is_same s slot same))

-- a row that was read, by a core that loads alone lead to
pub row_is_read : (a b : Core) (slot : ℕ) (row : Row) (seen : Seen) → b.told ≡ a.told → b.alone ≡ a.alone → Later a b.view.seen → RowTold b slot row → is_given row ≡ true → row.version ≤ greatest slot seen.rows → RowRead a seen slot row
row_is_read a b slot row seen told alone later t given to = record {
  lawful = t.lawful;
  below = t.below;
  given = given;
  fresh = record {
    from = (let l = later.rows slot in let f = t.fresh in omega arith);
    to = to;
    last = λ al. t.last (told ∙ al.0, alone ∙ al.1) ∙ later.rows_still al slot;
  };
  told = λ m e. t.told m (told ∙ e);
}

pub row_later : (a : Core) (s t : Seen) (slot : ℕ) (row : Row) → greatest slot s.rows ≤ greatest slot t.rows → RowRead a s slot row → RowRead a t slot row
row_later a s t slot row more r = record {
  lawful = r.lawful;
  below = r.below;
  given = r.given;
  fresh = record { from = r.fresh.from; to = (let f = r.fresh.to in omega arith); last = r.fresh.last };
  told = r.told;
}

pub later_row : (a b : Core) (slot : ℕ) (row : Row) (seen : Seen) → b.told ≡ a.told → b.alone ≡ a.alone → Later a b.view.seen → RowTold b slot row
    → seen.order ≡ b.view.seen.order → seen.rows ≡ record { slot = slot; version = row.version } ∷ b.view.seen.rows → Later a seen
later_row a b slot row seen told alone later t order rows = record {
  order = (let l = later.order in omega arith);
  rows = λ x. rw rows (let l = later.rows x in let m = greatest_more x slot row.version b.view.seen.rows in omega arith);
  order_still = λ al. order ∙ later.order_still al;
  rows_still = λ al x. rw rows (greatest_still x slot row.version b.view.seen.rows (t.last (told ∙ al.0, alone ∙ al.1)) ∙ later.rows_still al x);
}

-- the place of a listed slot
pub place_here : (n : Note) (k : ℕ) → IsNote n → k < n.reading.len → place_in (slot_of n.reading k) n.reading ≡ k
place_here n k h below =
    let slots = n.reading.slots in
    let within = h.within in
    let eight = h.slots in
    let len : length (take n.reading.len slots) ≡ n.reading.len = omega (arith, length-take n.reading.len slots) in
    let is : get_or (take n.reading.len slots) k 0 ≡ slot_of n.reading k = get_or-take n.reading.len slots k 0 below in
    place_hit (slot_of n.reading k) (take n.reading.len slots) k (omega arith)
    (λ j l. apart j l (cases_Bool (get_or (take n.reading.len slots) j 0 == slot_of n.reading k)))
    (rw is (same_is (slot_of n.reading k)))
  where
    apart : (j : ℕ) → j < k → (((get_or (take n.reading.len n.reading.slots) j 0 == slot_of n.reading k) ≡ true) ⊎ ((get_or (take n.reading.len n.reading.slots) j 0 == slot_of n.reading k) ≡ false)) → (get_or (take n.reading.len n.reading.slots) j 0 == slot_of n.reading k) ≡ false
    apart j l (inl e) =
        let same = sym (get_or-take n.reading.len n.reading.slots j 0 (omega arith)) ∙ is_same _ _ e in
        let is = h.distinct j k (omega arith) below same in
        absurd (omega arith)
    apart j l (inr e) = e

with_own : (s t : Section) (rows : List Row) (read : List Bool) → t ≡ with_rows rows read s → t ≡ with_rows t.note.reading.rows t.note.read s
with_own s t rows read e = e ∙ ap (λ (x : Section). with_rows x.note.reading.rows x.note.read s) (sym e)

loaded_own : (a b : Core) (t : Section) (seen : Seen) → b ≡ loaded t seen a → b ≡ loaded t b.view.seen a
loaded_own a b t seen e = e ∙ ap (λ (x : Core). loaded t x.view.seen a) (sym e)

-- the row at one more place was loaded
pub rows_more : (k : ℕ) (a b c : Core) (s t u : Section) (slot : ℕ) (row : Row) → LoadsRows k a b s t → slot ≡ slot_of t.note.reading k → k < t.note.reading.len → LoadsRow b c t u slot row → LoadsRows (k + 1) a c s u
rows_more k a b c s t u slot row h is below l =
    let within = h.note.within in
    let place : place_in slot t.note.reading ≡ k = ap (λ x. place_in x t.note.reading) is ∙ place_here t.note k h.note below in
    let noted_at : (p : ℕ) → place_in slot t.note.reading ≡ p → u ≡ with_rows (set t.note.reading.rows p row) (set t.note.read p true) t = λ p e. l.section ∙ ap (λ q. with_rows (set t.note.reading.rows q row) (set t.note.read q true) t) e in
    let note_is = noted_at k place in
    let section : u ≡ with_rows (set t.note.reading.rows k row) (set t.note.read k true) s = note_is ∙ ap (with_rows (set t.note.reading.rows k row) (set t.note.read k true)) h.section in
    let slots : u.note.reading.slots ≡ t.note.reading.slots = ap (λ (x : Section). x.note.reading.slots) note_is in
    let len : u.note.reading.len ≡ t.note.reading.len = ap (λ (x : Section). x.note.reading.len) note_is in
    let rows : u.note.reading.rows ≡ set t.note.reading.rows k row = ap (λ (x : Section). x.note.reading.rows) note_is in
    let read : u.note.read ≡ set t.note.read k true = ap (λ (x : Section). x.note.read) note_is in
    let told : b.told ≡ a.told = ap (λ (x : Core). x.told) h.after in
    let alone : b.alone ≡ a.alone = ap (λ (x : Core). x.alone) h.after in
    let seen_order : c.view.seen.order ≡ b.view.seen.order = ap (λ (x : Core). x.view.seen.order) l.after in
    let seen_rows : c.view.seen.rows ≡ record { slot = slot; version = row.version } ∷ b.view.seen.rows = ap (λ (x : Core). x.view.seen.rows) l.after in
    record {
      section = with_own s u _ _ section;
      after = loaded_own a c u _ (l.after ∙ ap (looked (row_read slot row u)) h.after);
      note = record {
        within = omega arith;
        slots = ap length slots ∙ h.note.slots;
        rows = ap length rows ∙ length-set t.note.reading.rows k row ∙ h.note.rows;
        read = ap length read ∙ length-set t.note.read k true ∙ h.note.read;
        depths = ap (λ (x : Section). length x.note.depths) note_is ∙ h.note.depths;
        distinct = λ i j li lj e. h.note.distinct i j (omega arith) (omega arith) (sym (at_slot i slots) ∙ e ∙ at_slot j slots);
      };
      later = later_row a b slot row c.view.seen told alone h.later l.found seen_order seen_rows;
      read = λ place l. is_now place l (cases_lt place k) read;
      rest = λ place l. ap (λ xs. get_or xs place false) read ∙ get_or-set_other t.note.read k place true false (omega arith) ∙ h.rest place (omega arith);
      rows = λ place l. row_now place l (cases_lt place k) slots rows told alone seen_rows;
    }
  where
    at_slot : (i : ℕ) → u.note.reading.slots ≡ t.note.reading.slots → slot_of u.note.reading i ≡ slot_of t.note.reading i
    at_slot i e = ap (λ xs. get_or xs i 0) e

    is_now : (place : ℕ) → place < k + 1 → (place < k) ⊎ (k ≤ place) → u.note.read ≡ set t.note.read k true → is_read u.note place ≡ true
    is_now place l (inl m) e = ap (λ xs. get_or xs place false) e ∙ get_or-set_other t.note.read k place true false (omega arith) ∙ h.read place m
    is_now place l (inr m) e =
        let same : place ≡ k = omega arith in
        let within = h.note.within in
        ap (λ xs. get_or xs place false) e ∙ ap (λ x. get_or (set t.note.read k true) x false) same ∙ get_or-set_same t.note.read k true false (let n = h.note.read in omega arith)

    more : (slot2 : ℕ) → c.view.seen.rows ≡ record { slot = slot; version = row.version } ∷ b.view.seen.rows → greatest slot2 b.view.seen.rows ≤ greatest slot2 c.view.seen.rows
    more slot2 e = rw e (greatest_more slot2 slot row.version b.view.seen.rows)

    row_now : (place : ℕ) → place < k + 1 → (place < k) ⊎ (k ≤ place) → u.note.reading.slots ≡ t.note.reading.slots → u.note.reading.rows ≡ set t.note.reading.rows k row → b.told ≡ a.told → b.alone ≡ a.alone → c.view.seen.rows ≡ record { slot = slot; version = row.version } ∷ b.view.seen.rows
        → RowRead a c.view.seen (slot_of u.note.reading place) (row_of_place u.note.reading place)
    row_now place lt (inl m) slots rows told alone seen =
        let at : slot_of t.note.reading place ≡ slot_of u.note.reading place = sym (at_slot place slots) in
        let is : row_of_place t.note.reading place ≡ row_of_place u.note.reading place = sym (ap (λ xs. get_or xs place (free_row 0)) rows ∙ get_or-set_other t.note.reading.rows k place row (free_row 0) (omega arith)) in
        subst (λ (p : ℕ × Row). RowRead a c.view.seen p.0 p.1) (λ i. (at i, is i)) (row_later a b.view.seen c.view.seen _ _ (more _ seen) (h.rows place m))
    row_now place lt (inr m) slots rows told alone seen =
        let same : place ≡ k = omega arith in
        let at : slot ≡ slot_of u.note.reading place = is ∙ sym (at_slot k slots) ∙ ap (slot_of u.note.reading) (sym same) in
        let within = h.note.within in
        let has : row ≡ row_of_place u.note.reading place = sym (ap (λ xs. get_or xs place (free_row 0)) rows ∙ ap (λ x. get_or (set t.note.reading.rows k row) x (free_row 0)) same ∙ get_or-set_same t.note.reading.rows k row (free_row 0) (let n = h.note.rows in omega arith)) in
        subst (λ (p : ℕ × Row). RowRead a c.view.seen p.0 p.1) (λ i. (at i, has i)) (row_is_read a b slot row c.view.seen told alone h.later l.found l.given (rw seen (greatest_here slot row.version b.view.seen.rows)))

pub later_same : (a : Core) → Later a a.view.seen
later_same a = record { order = omega arith; rows = λ x. omega arith; order_still = λ al. refl; rows_still = λ al x. refl }

pub rows_none : (a : Core) (s : Section) → IsOpen a s → IsNote s.note → LoadsRows 0 a a s s
rows_none a s is n = record {
  section = refl;
  after = ap (λ (v : View). record a { view = record v { seen = a.view.seen } }) is;
  note = n;
  later = later_same a;
  read = λ place l. absurd (omega arith);
  rest = λ place l. refl;
  rows = λ place l. absurd (omega arith);
}

-- after these loads a section is open
pub loaded_open : (a b : Core) (t : Section) (seen : Seen) → b ≡ loaded t seen a → IsOpen b t
loaded_open a b t seen e = subst (λ (x : Core). IsOpen x t) (sym e) refl

pub open_inside : (a : Core) (s : Section) → IsOpen a s → a.view.inside ≡ Some s
open_inside a s e = ap (λ (v : View). v.inside) e

-- which row was loaded: that at the place, and no other changes
pub rows_where : (k : ℕ) (a b c : Core) (s t u : Section) (slot : ℕ) (row : Row) → LoadsRows k a b s t → slot ≡ slot_of t.note.reading k → k < t.note.reading.len → LoadsRow b c t u slot row
    → (row_of_place u.note.reading k ≡ row) × ((j : ℕ) → j < k → row_of_place u.note.reading j ≡ row_of_place t.note.reading j) × (u.note.reading.slots ≡ t.note.reading.slots)
rows_where k a b c s t u slot row h is below l =
    let within = h.note.within in
    let place : place_in slot t.note.reading ≡ k = ap (λ x. place_in x t.note.reading) is ∙ place_here t.note k h.note below in
    let rows : u.note.reading.rows ≡ set t.note.reading.rows k row = ap (λ (x : Section). x.note.reading.rows) l.section ∙ ap (λ q. set t.note.reading.rows q row) place in
    let eight = h.note.rows in (
      ap (λ xs. get_or xs k (free_row 0)) rows ∙ get_or-set_same t.note.reading.rows k row (free_row 0) (omega arith),
      (λ j lt. ap (λ xs. get_or xs j (free_row 0)) rows ∙ get_or-set_other t.note.reading.rows k j row (free_row 0) (omega arith)),
      ap (λ (x : Section). x.note.reading.slots) l.section,
    )

-- the row at a place of a note of which it was loaded
pub has_row : (n : Note) (k : ℕ) → IsNote n → k < n.reading.len → get_or n.read k false ≡ true → HasRow n (slot_of n.reading k) (row_of_place n.reading k)
has_row n k h below read =
    let place = place_here n k h below in
    record {
      listed = omega arith;
      loaded = ap (λ p. get_or n.read p false) place ∙ read;
      is = ap (λ p. get_or n.reading.rows p (free_row 0)) place;
    }
