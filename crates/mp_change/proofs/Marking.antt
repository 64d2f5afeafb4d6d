-- Setting pending, and clearing, from their parts.
use Rattle.std.proofs.Common.{◌≡◌, ◌∙◌, ℕ, ◌<◌, Bool, true, false, [], ◌∷◌, ◌++◌, cond, Some, option_map, refl, sym, ap, subst, arith}
use Rattle.mp_words.specs.declared.row.Row.{Row}
use Rattle.mp_words.specs.declared.op.Op.TheVariants as op
use Rattle.mp_words.specs.declared.op.Maker.{Maker}
use Rattle.mp_words.specs.declared.note.Note.{Note}
use Rattle.mp_words.specs.declared.entry.RowEntry.{RowEntry}
use Rattle.mp_words.specs.Effect.{Clears, every_one, the_slots, none, clears_of}
use Rattle.mp_core.specs.declared.view.Section.{Section}
use Rattle.mp_core.specs.declared.view.Seen.{Seen}
use Rattle.mp_core.specs.declared.view.View.{View}
use Rattle.mp_core.specs.Core.{Core, looked, stepped}
use Rattle.mp_core.specs.Memory.{Memory, row_at, entered_in, left_in}
use Rattle.mp_core.specs.Notes.{blank_note, flight_noted}
use Rattle.mp_core.specs.Views.{entered, unheld, finished, row_read, row_changed, seen_row}
use Rattle.mp_core.specs.Kinds.{IsAlone, RowTold, LoadsFlight, Leaves, entry_of}
use Rattle.mp_core.specs.Reads.{Begins, Later, RowRead, with_section, section_in}
use Rattle.mp_core.proofs.Begun.{entered_core}
use Rattle.mp_core.proofs.Reading.{greatest_more, greatest_here, greatest_still}
use Rattle.mp_change.specs.declared.pending.PendingEnd.{PendingEnd}
use Rattle.mp_change.specs.declared.pending.PendingEnd.TheVariants as end
use Rattle.mp_change.specs.Clears.{clears_view, cleared_upto, cleared_upto_in}
use Rattle.mp_change.specs.Changes.{made_in}
use Rattle.mp_change.specs.Pending.{MarksPending, DropsCurrent, Pends, PendTo, PendingBy, HasMoved, pending_view, pending_in, pending_seen, told_pending, dropped}
use Rattle.mp_change.proofs.Clearing.{map_same}
use Rattle.mp_change.proofs.Changing.{map_three}

abbrev loaded_core : Core → Section → Section → ℕ → Row → Core
loaded_core c s t slot row = looked (row_read slot row t) (entered_core c s)

abbrev seen_here : Core → ℕ → Row → Seen
seen_here c slot row = record (c.view.seen) { rows = record { slot = slot; version = row.version } ∷ c.view.seen.rows }

alone_at : (c : Core) (s : Section) → IsAlone c → IsAlone (entered_core c s)
alone_at c s al = (ap (option_map (entered_in s.note.side)) al.0, al.1)

later_here : (c : Core) (s : Section) (slot : ℕ) (row : Row) → RowTold (entered_core c s) slot row → Later c (seen_here c slot row)
later_here c s slot row t = record {
  order = omega arith;
  rows = λ x. greatest_more x slot row.version c.view.seen.rows;
  order_still = λ al. refl;
  rows_still = λ al x. greatest_still x slot row.version c.view.seen.rows (t.last (alone_at c s al));
}

read_here : (c : Core) (s t : Section) (slot : ℕ) (row : Row) → LoadsFlight (entered_core c s) (loaded_core c s t slot row) s t slot row → RowRead c (seen_here c slot row) slot row
read_here c s t slot row l = record {
  lawful = l.found.lawful;
  below = l.found.below;
  given = l.given;
  fresh = record { from = l.found.fresh; to = greatest_here slot row.version c.view.seen.rows; last = λ al. l.found.last (alone_at c s al) };
  told = λ m e. l.found.told (entered_in s.note.side m) (ap (option_map (entered_in s.note.side)) e);
}

made_left : (k : Clears) (e : RowEntry) (s t u : Section) (slot : ℕ) (row : Row) (v : View)
    → finished u (clears_view k e.slot (row_changed e u (row_read slot row t (entered s v)))) ≡ with_section u.note (record (v.seen) { rows = record { slot = e.slot; version = e.row.version } ∷ record { slot = slot; version = row.version } ∷ v.seen.rows }) (clears_view k e.slot (record v { entries = v.entries ++ e ∷ []; keeping = unheld v.keeping }))
made_left every_one e s t u slot row v = refl
made_left the_slots e s t u slot row v = refl
made_left none e s t u slot row v = refl

pending_is : (slot : ℕ) (by : Maker) (r : Row) (b : Bool) → r.ana ≡ b → cond b (end.Set (entry_of slot r op.Pending by)) (end.NoAna r) ≡ cond r.ana (end.Set (entry_of slot r op.Pending by)) (end.NoAna r)
pending_is slot by r b e = ap (λ x. cond x (end.Set (entry_of slot r op.Pending by)) (end.NoAna r)) (sym e)

pub marked : (slot : ℕ) (by : Maker) (c0 c1 c2 c3 : Core) (s1 s2 : Section) (ending : PendingEnd) (n : Note) → Begins c0 c1 s1 → Pends slot by c1 c2 s1 s2 ending → n ≡ s2.note → Leaves c2 c3 s2 → MarksPending slot by c0 c3 ending n
marked slot by c0 c1 c2 c3 s1 s2 ending n b0 p0 note l =
    let p : Pends slot by (entered_core c0 s1) c2 s1 s2 ending = subst (λ (c : Core). Pends slot by c c2 s1 s2 ending) b0.after p0 in
    let row = p.row in
    let loads : LoadsFlight (entered_core c0 s1) (loaded_core c0 s1 p.t slot row) s1 p.t slot row = subst (λ (c : Core). LoadsFlight (entered_core c0 s1) c s1 p.t slot row) p.loads.after p.loads in
    let ends : PendTo (loaded_core c0 s1 p.t slot row) c2 p.t s2 slot by row ending = subst (λ (c : Core). PendTo c c2 p.t s2 slot by row ending) p.loads.after p.ends in
    let note2 : s2.note ≡ p.t.note = ap (λ (x : Section). x.note) p.section in
    let note1 : s2.note ≡ flight_noted slot row s1.note = note2 ∙ ap (λ (x : Section). x.note) loads.section in
    let begun : s1.note ≡ blank_note c0.lane s1.note.side s1.note.ticket = ap (λ (x : Section). x.note) b0.section in
    let side : s2.note.side ≡ s1.note.side = ap (λ (x : Note). x.side) note1 in
    let ticket : s2.note.ticket ≡ s1.note.ticket = ap (λ (x : Note). x.ticket) note1 in
    let told : option_map (left_in s2.note.side) (option_map (pending_in slot ending) (option_map (entered_in s1.note.side) c0.told)) ≡ option_map (section_in s2.note.side (pending_in slot ending)) c0.told =
    map_three (left_in s2.note.side) (pending_in slot ending) (entered_in s1.note.side) (section_in s2.note.side (pending_in slot ending)) c0.told (λ m. ap (λ x. left_in s2.note.side (pending_in slot ending (entered_in x m))) (sym side)) in
    let base : MarksPending slot by c0 c3 ending s2.note = record {
      row = row;
      seen = seen_here c0 slot row;
      view = l.after ∙ the_view p.t row ending ends ∙ (λ i. record c0 { view = with_section s2.note (pending_seen slot ending (seen_here c0 slot row)) (pending_view slot ending c0.view); told = told i });
      note = note1 ∙ ap (flight_noted slot row) (begun ∙ (λ i. blank_note c0.lane (sym side i) (sym ticket i)));
      side = subst (λ (x : ℕ). x < 2) (sym side) b0.range;
      read = read_here c0 s1 p.t slot row loads;
      later = later_here c0 s1 slot row loads.found;
      ends = the_ends p.t row ending ends;
      still = λ al. the_still p.t row ending ends (alone_at c0 s1 al) (loads.found.last (alone_at c0 s1 al));
      told = λ m e. the_told p.t row ending ends (entered_in s1.note.side m) (ap (option_map (entered_in s1.note.side)) e) (loads.found.told (entered_in s1.note.side m) (ap (option_map (entered_in s1.note.side)) e));
      told_ticket = λ m e. (side ∙ (b0.told m e).0, ticket ∙ (b0.told m e).1);
    } in
    subst (λ (x : Note). MarksPending slot by c0 c3 ending x) (sym note) base
  where
    the_view : (t : Section) (row : Row) (x : PendingEnd) → PendTo (loaded_core c0 s1 t slot row) c2 t s2 slot by row x
        → stepped (finished s2) (left_in s2.note.side) c2 ≡ record c0 { view = with_section s2.note (pending_seen slot x (seen_here c0 slot row)) (pending_view slot x c0.view); told = option_map (left_in s2.note.side) (option_map (pending_in slot x) (option_map (entered_in s1.note.side) c0.told)) }
    the_view t row (end.Set e) h = ap (stepped (finished s2) (left_in s2.note.side)) h.2 ∙ (λ i. record c0 { view = made_left (clears_of e.op e.row) e s1 t s2 slot row c0.view i; told = option_map (left_in s2.note.side) (option_map (made_in e) (option_map (entered_in s1.note.side) c0.told)) })
    the_view t row (end.NoAna r) h = ap (stepped (finished s2) (left_in s2.note.side)) h.2
    the_view t row (end.Moved r) h = ap (stepped (finished s2) (left_in s2.note.side)) h.1 ∙ (λ i. record c0 { view = with_section s2.note (pending_seen slot (end.Moved r) (seen_here c0 slot row)) c0.view; told = option_map (left_in s2.note.side) (map_same (option_map (entered_in s1.note.side) c0.told) i) })

    the_ends : (t : Section) (row : Row) (x : PendingEnd) → PendTo (loaded_core c0 s1 t slot row) c2 t s2 slot by row x → PendingBy slot by row x
    the_ends t row (end.Set e) h = (h.0, h.1)
    the_ends t row (end.NoAna r) h = (h.0, h.1)
    the_ends t row (end.Moved r) h = (h.0, h.2.greater)

    the_still : (t : Section) (row : Row) (x : PendingEnd) → PendTo (loaded_core c0 s1 t slot row) c2 t s2 slot by row x → IsAlone (entered_core c0 s1) → row.version ≡ seen_row c0.view slot → HasMoved x → ⊥
    the_still t row (end.Set e) h al last m = m
    the_still t row (end.NoAna r) h al last m = m
    the_still t row (end.Moved r) h al last m = h.2.out al (last ∙ sym (greatest_still slot slot row.version c0.view.seen.rows last))

    the_told : (t : Section) (row : Row) (x : PendingEnd) → PendTo (loaded_core c0 s1 t slot row) c2 t s2 slot by row x → (m : Memory) → (entered_core c0 s1).told ≡ Some m → row ≡ row_at m slot → x ≡ told_pending slot by m
    the_told t row (end.Set e) h m told is = ap end.Set h.1 ∙ pending_is slot by row true h.0 ∙ (λ i. cond (is i).ana (end.Set (entry_of slot (is i) op.Pending by)) (end.NoAna (is i)))
    the_told t row (end.NoAna r) h m told is = ap end.NoAna h.1 ∙ pending_is slot by row false h.0 ∙ (λ i. cond (is i).ana (end.Set (entry_of slot (is i) op.Pending by)) (end.NoAna (is i)))
    the_told t row (end.Moved r) h m told is =
        let same : r ≡ row = sym (h.2.told m told) ∙ sym is in
        let version : r.version ≡ row.version = ap (λ (z : Row). z.version) same in
        let more = h.2.greater in
        absurd (omega arith)

-- clearing, from its parts
pub dropped_all : (slot : ℕ) (c0 c1 c2 c3 : Core) (s1 : Section) (n : Note) → Begins c0 c1 s1 → c2 ≡ stepped (cleared_upto slot 8) (cleared_upto_in slot 8) c1 → n ≡ s1.note → Leaves c2 c3 s1 → DropsCurrent slot c0 c3 n
dropped_all slot c0 c1 c2 c3 s1 n b c note l =
    let begun : s1.note ≡ blank_note c0.lane s1.note.side s1.note.ticket = ap (λ (x : Section). x.note) b.section in
    let told : option_map (left_in s1.note.side) (option_map (cleared_upto_in slot 8) (option_map (entered_in s1.note.side) c0.told)) ≡ option_map (section_in s1.note.side (cleared_upto_in slot 8)) c0.told =
    map_three (left_in s1.note.side) (cleared_upto_in slot 8) (entered_in s1.note.side) (section_in s1.note.side (cleared_upto_in slot 8)) c0.told (λ m. refl) in
    let base : DropsCurrent slot c0 c3 s1.note = record {
      view = l.after ∙ ap (stepped (finished s1) (left_in s1.note.side)) (c ∙ ap (stepped (cleared_upto slot 8) (cleared_upto_in slot 8)) b.after) ∙ (λ i. record c0 { view = with_section s1.note c0.view.seen (dropped slot c0.view); told = told i });
      note = begun;
      side = b.range;
      told_ticket = λ m e. b.told m e;
    } in
    subst (λ (x : Note). DropsCurrent slot c0 c3 x) (sym note) base
