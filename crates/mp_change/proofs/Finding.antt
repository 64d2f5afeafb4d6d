-- One more row.
use Rattle.std.proofs.Common.{◌≡◌, ◌∙◌, ℕ, ◌+◌, ◌<◌, ◌≤◌, true, false, Some, sym, ap, arith, inl, inr}
use Rattle.std.specs.Prelude.{◌⊎◌}
use Rattle.mp_words.specs.declared.row.Row.{Row}
use Rattle.mp_words.proofs.Places.{cases_lt}
use Rattle.mp_core.specs.declared.view.Section.{Section}
use Rattle.mp_core.specs.Core.{Core}
use Rattle.mp_core.specs.Kinds.{LoadsRow}
use Rattle.mp_core.specs.Reads.{LoadsRows, slot_of, row_of_place, is_read}
use Rattle.mp_core.proofs.Reading.{rows_more, rows_where}
use Rattle.mp_change.specs.Finds.{NoneUpto, Finds, is_of}

-- a row that was loaded among the first is one before which none is the controller's
pub just_upto : (ctrl k : ℕ) (a b : Core) (s t : Section) → LoadsRows (k + 1) a b s t → NoneUpto ctrl k t.note → (place : ℕ) → is_read s.note place ≡ false → is_read t.note place ≡ true → NoneUpto ctrl place t.note
just_upto ctrl k a b s t h none place off on = by (cases_lt place k)
  where
    unread : is_read t.note place ≡ false → ⊥
    unread e = cc

    by : (place < k) ⊎ (k ≤ place) → NoneUpto ctrl place t.note
    by (inl l) = λ i lt. none i (omega arith)
    by (inr l) = last (cases_lt k place)
      where
        last : (k < place) ⊎ (place ≤ k) → NoneUpto ctrl place t.note
        last (inl m) = absurd (unread (h.rest place (omega arith) ∙ off))
        last (inr m) = λ i lt. none i (omega arith)

pub just_all : (ctrl k : ℕ) (a b : Core) (s t : Section) → LoadsRows k a b s t → NoneUpto ctrl k t.note → (place : ℕ) → is_read s.note place ≡ false → is_read t.note place ≡ true → NoneUpto ctrl place t.note
just_all ctrl k a b s t h none place off on = by (cases_lt place k)
  where
    unread : is_read t.note place ≡ false → ⊥
    unread e = cc

    by : (place < k) ⊎ (k ≤ place) → NoneUpto ctrl place t.note
    by (inl l) = λ i lt. none i (omega arith)
    by (inr l) = absurd (unread (h.rest place l ∙ off))

-- the controller's row was loaded
pub found_here : (ctrl k : ℕ) (a b c : Core) (s t u : Section) (slot : ℕ) (row : Row) → LoadsRows k a b s t → NoneUpto ctrl k t.note → slot ≡ slot_of t.note.reading k → k < t.note.reading.len → LoadsRow b c t u slot row → is_of ctrl row ≡ true
    → Finds ctrl a c s u (Some (record { slot = slot; row = row }))
found_here ctrl k a b c s t u slot row h none is below l on =
    let more = rows_more k a b c s t u slot row h is below l in
    let at = rows_where k a b c s t u slot row h is below l in
    let len : u.note.reading.len ≡ t.note.reading.len = ap (λ (x : Section). x.note.reading.len) l.section in
    let before : NoneUpto ctrl k u.note = λ j lt. (more.read j (omega arith), ap (is_of ctrl) (at.1 j lt) ∙ (none j lt).1) in
    record {
      upto = k + 1;
      loads = more;
      just = just_upto ctrl k a c s u more before;
      found = record {
        place = k;
        listed = omega arith;
        read = more.read k (omega arith);
        before = before;
        slot_is = is ∙ ap (λ xs. slot_of (record (t.note.reading) { slots = xs }) k) (sym at.2);
        row_is = sym at.0;
        own = on;
      };
    }

-- another row was loaded
pub none_more : (ctrl k : ℕ) (a b c : Core) (s t u : Section) (slot : ℕ) (row : Row) → LoadsRows k a b s t → NoneUpto ctrl k t.note → slot ≡ slot_of t.note.reading k → k < t.note.reading.len → LoadsRow b c t u slot row → is_of ctrl row ≡ false
    → LoadsRows (k + 1) a c s u × NoneUpto ctrl (k + 1) u.note
none_more ctrl k a b c s t u slot row h none is below l off =
    let more = rows_more k a b c s t u slot row h is below l in
    let at = rows_where k a b c s t u slot row h is below l in
    (more, λ j lt. (more.read j lt, by j lt (cases_lt j k) at.0 at.1))
  where
    by : (j : ℕ) → j < k + 1 → (j < k) ⊎ (k ≤ j) → row_of_place u.note.reading k ≡ row → ((i : ℕ) → i < k → row_of_place u.note.reading i ≡ row_of_place t.note.reading i) → is_of ctrl (row_of_place u.note.reading j) ≡ false
    by j lt (inl x) here there = ap (is_of ctrl) (there j x) ∙ (none j x).1
    by j lt (inr x) here there =
        let same : j ≡ k = omega arith in
        ap (λ p. is_of ctrl (row_of_place u.note.reading p)) same ∙ ap (is_of ctrl) here ∙ off
