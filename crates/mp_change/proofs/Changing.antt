-- A row change from its parts.
use Rattle.std.proofs.Common.{◌≡◌, ◌∙◌, ℕ, zero, suc, ◌-◌, ◌<◌, ◌≤◌, Bool, true, false, List, [], ◌∷◌, ◌++◌, length, map, take, get_or, find, replicate, Option, Some, None, option_map, refl, sym, ap, subst, arith, inl, inr}
use Rattle.std.specs.Prelude.{◌⊎◌}
use Rattle.std.proofs.lemmas.Bool.{cases_Bool}
use Rattle.std.proofs.lemmas.List.{length-take, get_or-take}
use Rattle.mp_words.specs.declared.row.Row.{Row}
use Rattle.mp_words.specs.declared.op.Op.{Op}
use Rattle.mp_words.specs.declared.op.Maker.{Maker}
use Rattle.mp_words.specs.declared.op.Effect.{Effect}
use Rattle.mp_words.specs.declared.op.Effect.TheVariants as effect
use Rattle.mp_words.specs.declared.note.Note.{Note}
use Rattle.mp_words.specs.declared.order.Order.{Order}
use Rattle.mp_words.specs.declared.entry.RowEntry.{RowEntry}
use Rattle.mp_words.specs.PathTable.{path_with}
use Rattle.mp_words.specs.Order.{slots_of}
use Rattle.mp_words.specs.Effect.{Clears, every_one, the_slots, none, clears_of, effect_of}
use Rattle.mp_words.proofs.Places.{cases_lt}
use Rattle.mp_core.specs.declared.view.Section.{Section}
use Rattle.mp_core.specs.declared.view.Seen.{Seen}
use Rattle.mp_core.specs.declared.view.View.{View}
use Rattle.mp_core.specs.Core.{Core, looked, stepped}
use Rattle.mp_core.specs.Memory.{Memory, row_at, entered_in, left_in}
use Rattle.mp_core.specs.Views.{noted, unheld, finished, order_read, row_changed, row_moved, seen_row}
use Rattle.mp_core.specs.Kinds.{IsAlone, OrderTold, LoadsOrder, Leaves, entry_of}
use Rattle.mp_core.specs.Reads.{Begins, IsNote, OrderRead, with_section, section_in, RowsRead, RowRead, LoadsRows, IsOrdered, slot_of, row_of_place, is_read, loaded, with_rows}
use Rattle.mp_core.proofs.Begun.{entered_core, ordered_core, alone_in, told_in, row_back, order_back, later_back}
use Rattle.mp_change.specs.declared.change.ChangeEnd.{ChangeEnd}
use Rattle.mp_change.specs.declared.change.ChangeEnd.TheVariants as end
use Rattle.mp_change.specs.Clears.{clears_view}
use Rattle.mp_change.specs.Finds.{NoneUpto, IsFirst, ReadsUpto, Finds, is_of}
use Rattle.mp_change.specs.Changes.{ChangesPath, EndsBy, ChangesFound, ChangesOne, FoundTo, EndsOne, IsMoved, one_view, end_view, end_in, end_seen, end_on, end_by, told_end, made_view, made_in}
use Rattle.mp_change.proofs.Clearing.{map_same}

-- the slot of the controller's first path on the words, and how a change of it ends
abbrev told_slot : ℕ → Memory → Option ℕ
told_slot ctrl m = find (λ slot. is_of ctrl (row_at m slot)) (slots_of m.order)

abbrev end_at : Memory → Op → Maker → Option ℕ → ChangeEnd
end_at m op by None = end.NoPath m.order
end_at m op by (Some slot) = end_by slot (row_at m slot) op by (effect_of (row_at m slot) op)

slot_path : (ctrl : ℕ) (op : Op) (by : Maker) (m : Memory) (slots : List ℕ)
    → end_on m.order op by (path_with ctrl (map (λ slot. record { slot = slot; row = row_at m slot }) slots)) ≡ end_at m op by (find (λ slot. is_of ctrl (row_at m slot)) slots)
slot_path ctrl op by m [] = refl
slot_path ctrl op by m (slot ∷ slots) = from (is_of ctrl (row_at m slot)) refl (slot_path ctrl op by m slots)
  where
    from : (b : Bool) → is_of ctrl (row_at m slot) ≡ b
        → end_on m.order op by (path_with ctrl (map (λ s. record { slot = s; row = row_at m s }) slots)) ≡ end_at m op by (find (λ s. is_of ctrl (row_at m s)) slots)
        → end_on m.order op by (path_with ctrl (map (λ s. record { slot = s; row = row_at m s }) (slot ∷ slots))) ≡ end_at m op by (find (λ s. is_of ctrl (row_at m s)) (slot ∷ slots))
    from true is later = rw is refl
    from false is later = rw is later

told_by_slot : (ctrl : ℕ) (op : Op) (by : Maker) (m : Memory) → end_at m op by (told_slot ctrl m) ≡ told_end ctrl op by m
told_by_slot ctrl op by m = sym (slot_path ctrl op by m (slots_of m.order))

no_read : (place : ℕ) → get_or (replicate 8 false) place false ≡ true → ⊥
no_read zero e = cc
no_read (suc zero) e = cc
no_read (suc (suc zero)) e = cc
no_read (suc (suc (suc zero))) e = cc
no_read (suc (suc (suc (suc zero)))) e = cc
no_read (suc (suc (suc (suc (suc zero))))) e = cc
no_read (suc (suc (suc (suc (suc (suc zero)))))) e = cc
no_read (suc (suc (suc (suc (suc (suc (suc zero))))))) e = cc
no_read (suc (suc (suc (suc (suc (suc (suc (suc place)))))))) e = cc

-- of an order alone no row was loaded
not_read : (place : ℕ) (s : Section) (order : Order) → IsOrdered s order → is_read s.note place ≡ false
not_read place s order o = elim (cases_Bool (is_read s.note place)) [
  | inl on ↦ absurd (no_read place (sym (ap (λ (z : Section). get_or z.note.read place false) o.section) ∙ on))
  | inr off ↦ off
]

-- only the rows at the first places were loaded
pub rows_read : (k : ℕ) (a b : Core) (s t : Section) (order : Order) → IsOrdered s order → LoadsRows k a b s t → RowsRead a b.view.seen t.note
rows_read k a b s t order o h = λ place lt on. by place lt on (cases_lt place k)
  where
    by : (place : ℕ) → place < t.note.reading.len → is_read t.note place ≡ true → (place < k) ⊎ (k ≤ place) → RowRead a b.view.seen (slot_of t.note.reading place) (row_of_place t.note.reading place)
    by place lt on (inl x) = h.rows place x
    by place lt on (inr x) = absurd (no_read place (sym (ap (λ (z : Section). get_or z.note.read place false) o.section) ∙ sym (h.rest place x) ∙ on))

-- the first slot that passes
find_first : (test : ℕ → Bool) (xs : List ℕ) (k : ℕ) → k < length xs → ((j : ℕ) → j < k → test (get_or xs j 0) ≡ false) → test (get_or xs k 0) ≡ true → find test xs ≡ Some (get_or xs k 0)
find_first test [] k l before here = absurd (omega arith)
find_first test (x ∷ xs) zero l before here = rw here refl
find_first test (x ∷ xs) (suc k) l before here = rw (before 0 (omega arith)) (find_first test xs k (omega arith) (λ j m. before (suc j) (omega arith)) here)

find_none : (test : ℕ → Bool) (xs : List ℕ) → ((j : ℕ) → j < length xs → test (get_or xs j 0) ≡ false) → find test xs ≡ None
find_none test [] before = refl
find_none test (x ∷ xs) before = rw (before 0 (omega arith)) (find_none test xs (λ j m. before (suc j) (omega arith)))

-- the made change, in the view
made_eq : (c : Clears) (e : RowEntry) (t u : Section) (seen : Seen) (v : View)
    → clears_view c e.slot (row_changed e u (record (noted t v) { seen = seen })) ≡ record (clears_view c e.slot (record (noted u v) { entries = v.entries ++ e ∷ []; keeping = unheld v.keeping })) { seen = record seen { rows = record { slot = e.slot; version = e.row.version } ∷ seen.rows } }
made_eq every_one e t u seen v = refl
made_eq the_slots e t u seen v = refl
made_eq none e t u seen v = refl

-- on the words the slots of a note are those of the order
slots_told : (n : Note) (order : Order) (m : Memory) → n.reading.len ≡ order.len → n.reading.slots ≡ order.slots → order ≡ m.order → take n.reading.len n.reading.slots ≡ take m.order.len m.order.slots
slots_told n order m len slots is = (λ i. take (len i) (slots i)) ∙ ap (λ (o : Order). take o.len o.slots) is

slot_none : (ctrl : ℕ) (a : Core) (seen : Seen) (n : Note) (order : Order) (m : Memory) → IsNote n → RowsRead a seen n → NoneUpto ctrl n.reading.len n → n.reading.len ≡ order.len → n.reading.slots ≡ order.slots → order ≡ m.order → a.told ≡ Some m → told_slot ctrl m ≡ None
slot_none ctrl a seen n order m h rows nobody len slots is e =
    let few = h.within in
    let eight = h.slots in
    let count : length (take n.reading.len n.reading.slots) ≡ n.reading.len = omega (arith, length-take n.reading.len n.reading.slots) in
    ap (find (λ (slot : ℕ). is_of ctrl (row_at m slot))) (sym (slots_told n order m len slots is))
    ∙ find_none (λ (slot : ℕ). is_of ctrl (row_at m slot)) (take n.reading.len n.reading.slots)
    (λ j lt.
    let below : j < n.reading.len = omega arith in
    ap (λ s. is_of ctrl (row_at m s)) (get_or-take n.reading.len n.reading.slots j 0 below) ∙ ap (is_of ctrl) (sym ((rows j below (nobody j below).0).told m e)) ∙ (nobody j below).1)

slot_first : (ctrl : ℕ) (a : Core) (seen : Seen) (n : Note) (order : Order) (m : Memory) (slot : ℕ) (row : Row) → IsNote n → RowsRead a seen n → IsFirst ctrl n slot row → n.reading.len ≡ order.len → n.reading.slots ≡ order.slots → order ≡ m.order → a.told ≡ Some m → told_slot ctrl m ≡ Some slot
slot_first ctrl a seen n order m slot row h rows f len slots is e =
    let few = h.within in
    let eight = h.slots in
    let lt = f.listed in
    let test : ℕ → Bool = λ (s : ℕ). is_of ctrl (row_at m s) in
    let count : length (take n.reading.len n.reading.slots) ≡ n.reading.len = omega (arith, length-take n.reading.len n.reading.slots) in
    let at : get_or (take n.reading.len n.reading.slots) f.place 0 ≡ slot = get_or-take n.reading.len n.reading.slots f.place 0 lt ∙ sym f.slot_is in
    let own : row_at m slot ≡ row = ap (row_at m) f.slot_is ∙ sym ((rows f.place lt f.read).told m e) ∙ sym f.row_is in
    ap (find test) (sym (slots_told n order m len slots is))
    ∙ find_first test (take n.reading.len n.reading.slots) f.place (omega arith)
    (λ j before.
    let below : j < n.reading.len = omega arith in
    ap test (get_or-take n.reading.len n.reading.slots j 0 below) ∙ ap (is_of ctrl) (sym ((rows j below (f.before j before).0).told m e)) ∙ (f.before j before).1)
    (ap test at ∙ ap (is_of ctrl) own ∙ f.own)
    ∙ ap Some at

-- the row that was found, over the core before
pub first_row : (ctrl : ℕ) (a : Core) (seen : Seen) (n : Note) (slot : ℕ) (row : Row) → RowsRead a seen n → IsFirst ctrl n slot row → RowRead a seen slot row
first_row ctrl a seen n slot row rows f = subst (λ (p : ℕ × Row). RowRead a seen p.0 p.1) (λ i. (sym f.slot_is i, sym f.row_is i)) (rows f.place f.listed f.read)

pub changed_none : (ctrl : ℕ) (op : Op) (by : Maker) (order : Order) (a b : Core) (s t : Section) → IsOrdered s order → Finds ctrl a b s t None → ChangesOne ctrl op by order a b s t (end.NoPath order)
changed_none ctrl op by order a b s t o f =
    let h = f.loads in
    let tried : t.tried ≡ s.tried = ap (λ (x : Section). x.tried) h.section in
    let rows = rows_read f.upto a b s t order o h in
    let len : t.note.reading.len ≡ order.len = ap (λ (x : Section). x.note.reading.len) h.section ∙ ap (λ (x : Section). x.note.reading.len) o.section in
    let slots : t.note.reading.slots ≡ order.slots = ap (λ (x : Section). x.note.reading.slots) h.section ∙ ap (λ (x : Section). x.note.reading.slots) o.section in
    record {
      seen = b.view.seen;
      section = h.section ∙ (λ i. record (with_rows t.note.reading.rows t.note.read s) { tried = sym tried i });
      view = h.after ∙ (λ i. record a { view = record (noted t a.view) { seen = b.view.seen }; told = map_same a.told i });
      note = h.note;
      later = h.later;
      rows = rows;
      just = λ place on. f.just place (not_read place s order o) on;
      ends = (refl, f.found);
      still = λ al m. m;
      told = λ m e is. ap end.NoPath is ∙ ap (end_at m op by) (sym (slot_none ctrl a b.view.seen t.note order m h.note rows f.found len slots is e)) ∙ told_by_slot ctrl op by m;
    }

changes_to : (slot : ℕ) (row : Row) (op : Op) (by : Maker) (f : Effect) (e : Effect) → f ≡ e → end_by slot row op by f ≡ end_by slot row op by e
changes_to slot row op by f e is = ap (end_by slot row op by) is

pub changed_some : (ctrl : ℕ) (op : Op) (by : Maker) (order : Order) (a b c : Core) (s t u : Section) (slot : ℕ) (row : Row) (ending : ChangeEnd) → IsOrdered s order → Finds ctrl a b s t (Some (record { slot = slot; row = row })) → ChangesFound b c t u slot row op by ending → ChangesOne ctrl op by order a c s u ending
changed_some ctrl op by order a b c s t u slot row ending o f g =
    let h = f.loads in
    let note : u.note ≡ t.note = ap (λ (x : Section). x.note) g.section in
    let rows = rows_read f.upto a b s t order o h in
    let len : t.note.reading.len ≡ order.len = ap (λ (x : Section). x.note.reading.len) h.section ∙ ap (λ (x : Section). x.note.reading.len) o.section in
    let slots : t.note.reading.slots ≡ order.slots = ap (λ (x : Section). x.note.reading.slots) h.section ∙ ap (λ (x : Section). x.note.reading.slots) o.section in
    let found = first_row ctrl a b.view.seen t.note slot row rows f.found in
    let told : b.told ≡ a.told = ap (λ (x : Core). x.told) h.after in
    let alone : b.alone ≡ a.alone = ap (λ (x : Core). x.alone) h.after in
    let first : IsFirst ctrl u.note slot row = subst (λ (n : Note). IsFirst ctrl n slot row) (sym note) f.found in
    let at_words : (m : Memory) → a.told ≡ Some m → order ≡ m.order → end_at m op by (Some slot) ≡ told_end ctrl op by m = λ m e is. ap (end_at m op by) (sym (slot_first ctrl a b.view.seen t.note order m slot row h.note rows f.found len slots is e)) ∙ told_by_slot ctrl op by m in
    let row_words : (m : Memory) → a.told ≡ Some m → row_at m slot ≡ row = λ m e. sym (found.told m e) in
    record {
      seen = b.view.seen;
      section = g.section ∙ ap (λ (x : Section). record x { tried = u.tried }) h.section ∙ (λ i. record (with_rows (sym note i).reading.rows (sym note i).read s) { tried = u.tried });
      view = the_view ending g.ends h.after;
      note = subst (λ (n : Note). IsNote n) (sym note) h.note;
      later = h.later;
      rows = subst (λ (n : Note). RowsRead a b.view.seen n) (sym note) rows;
      just = subst (λ (n : Note). ReadsUpto ctrl n) (sym note) (λ place on. f.just place (not_read place s order o) on);
      ends = the_ends ending g.ends first;
      still = the_still ending g.ends (λ al. (told ∙ al.0, alone ∙ al.1)) (λ al. found.fresh.last al ∙ sym (h.later.rows_still al slot));
      told = λ m e is. the_told ending g.ends m (told ∙ e) (row_words m e) ∙ at_words m e is;
    }
  where
    the_view : (x : ChangeEnd) → FoundTo b c t u slot row op by x → b ≡ loaded t b.view.seen a → c ≡ record a { view = one_view x u b.view.seen a.view; told = option_map (end_in x) a.told }
    the_view (end.Changed e) h after =
        let F : Core → Core = λ z. record z { view = made_view e u z.view; told = option_map (made_in e) z.told } in
        h.2 ∙ ap F after ∙ (λ i. record a { view = made_eq (clears_of e.op e.row) e t u b.view.seen a.view i; told = option_map (made_in e) a.told })
    the_view (end.Moved at r) h after =
        h.2 ∙ ap (looked (row_moved slot r u)) after ∙ (λ i. record a { view = record (noted u a.view) { seen = record (b.view.seen) { rows = record { slot = sym h.1 i; version = r.version } ∷ b.view.seen.rows } }; told = map_same a.told i })
    the_view (end.Refused at r) h after = h.3 ∙ after ∙ (λ i. record a { view = record (noted (sym h.4 i) a.view) { seen = b.view.seen }; told = map_same a.told i })
    the_view (end.NotArmed at r) h after = h.3 ∙ after ∙ (λ i. record a { view = record (noted (sym h.4 i) a.view) { seen = b.view.seen }; told = map_same a.told i })
    the_view (end.NoPath at) h after = absurd h

    the_ends : (x : ChangeEnd) → FoundTo b c t u slot row op by x → IsFirst ctrl u.note slot row → EndsOne ctrl op by order u.note x
    the_ends (end.Changed e) h first =
        let at : slot ≡ e.slot = ap (λ (z : RowEntry). z.slot) (sym h.1) in
        (row, subst (λ (z : ℕ). IsFirst ctrl u.note z row) at first, h.0, h.1 ∙ ap (λ z. entry_of z row op by) at)
    the_ends (end.Moved at r) h first = (row, subst (λ (z : ℕ). IsFirst ctrl u.note z row) (sym h.1) first, h.0, h.3.greater)
    the_ends (end.Refused at r) h first = (subst (λ (p : ℕ × Row). IsFirst ctrl u.note p.0 p.1) (λ i. (sym h.0 i, sym h.1 i)) first, ap (λ z. effect_of z op) h.1 ∙ h.2 ∙ ap (λ (z : Row). effect.Refused z.cstate) (sym h.1))
    the_ends (end.NotArmed at r) h first = (subst (λ (p : ℕ × Row). IsFirst ctrl u.note p.0 p.1) (λ i. (sym h.0 i, sym h.1 i)) first, ap (λ z. effect_of z op) h.1 ∙ h.2)
    the_ends (end.NoPath at) h first = absurd h

    the_still : (x : ChangeEnd) → FoundTo b c t u slot row op by x → (IsAlone a → IsAlone b) → (IsAlone a → row.version ≡ seen_row b.view slot) → IsAlone a → IsMoved x → ⊥
    the_still (end.Changed e) h on last al m = m
    the_still (end.Moved at r) h on last al m = h.3.out (on al) (last al)
    the_still (end.Refused at r) h on last al m = m
    the_still (end.NotArmed at r) h on last al m = m
    the_still (end.NoPath at) h on last al m = m

    the_told : (x : ChangeEnd) → FoundTo b c t u slot row op by x → (m : Memory) → b.told ≡ Some m → row_at m slot ≡ row → x ≡ end_at m op by (Some slot)
    the_told (end.Changed e) h m told same = ap end.Changed h.1 ∙ ap (end_by slot row op by) (sym h.0) ∙ (λ i. end_by slot (sym same i) op by (effect_of (sym same i) op))
    the_told (end.Moved at r) h m told same =
        let is : r ≡ row = sym (h.3.told m told) ∙ same in
        let version : r.version ≡ row.version = ap (λ (z : Row). z.version) is in
        let more = h.3.greater in
        absurd (omega arith)
    the_told (end.Refused at r) h m told same = (λ i. end.Refused (h.0 i) (h.1 i)) ∙ ap (end_by slot row op by) (sym h.2) ∙ (λ i. end_by slot (sym same i) op by (effect_of (sym same i) op))
    the_told (end.NotArmed at r) h m told same = (λ i. end.NotArmed (h.0 i) (h.1 i)) ∙ ap (end_by slot row op by) (sym h.2) ∙ (λ i. end_by slot (sym same i) op by (effect_of (sym same i) op))
    the_told (end.NoPath at) h m told same = absurd h

pub map_three : (f g h k : Memory → Memory) (t : Option Memory) → ((m : Memory) → f (g (h m)) ≡ k m) → option_map f (option_map g (option_map h t)) ≡ option_map k t
map_three f g h k None e = refl
map_three f g h k (Some m) e = ap Some (e m)

inj_order : (x y : Order) → Some x ≡ Some y → x ≡ y
inj_order x y e = cc

abbrev order_read_view : Section → Seen → View → View
order_read_view s seen v = record v { left = v.left - 1; inside = Some s; seen = seen; keeping = unheld v.keeping }

-- the view of a section that was left
left_view : (x : ChangeEnd) (s u : Section) (seen : Seen) (v : View) (lane : Seen) → finished u (one_view x u seen (order_read_view s lane v)) ≡ with_section u.note (end_seen x seen) (end_view x v)
left_view (end.Changed e) s u seen v lane = by (clears_of e.op e.row)
  where
    by : (c : Clears) → finished u (record (clears_view c e.slot (record (noted u (order_read_view s lane v)) { entries = v.entries ++ e ∷ []; keeping = unheld (unheld v.keeping) })) { seen = record seen { rows = record { slot = e.slot; version = e.row.version } ∷ seen.rows } })
        ≡ with_section u.note (record seen { rows = record { slot = e.slot; version = e.row.version } ∷ seen.rows }) (clears_view c e.slot (record v { entries = v.entries ++ e ∷ []; keeping = unheld v.keeping }))
    by every_one = refl
    by the_slots = refl
    by none = refl
left_view (end.Refused at r) s u seen v lane = refl
left_view (end.NotArmed at r) s u seen v lane = refl
left_view (end.NoPath at) s u seen v lane = refl
left_view (end.Moved at r) s u seen v lane = refl

ends_by : (ctrl : ℕ) (op : Op) (by : Maker) (order : Order) (n : Note) (x : ChangeEnd) → n.order ≡ Some order → EndsOne ctrl op by order n x → EndsBy ctrl op by n x
ends_by ctrl op by order n (end.Changed e) is h = h
ends_by ctrl op by order n (end.Refused at r) is h = h
ends_by ctrl op by order n (end.NotArmed at r) is h = h
ends_by ctrl op by order n (end.NoPath at) is h = (is ∙ ap Some (sym h.0), h.1)
ends_by ctrl op by order n (end.Moved at r) is h = h

-- the change from its parts
pub changed : (ctrl : ℕ) (op : Op) (by : Maker) (c0 c1 c2 c3 c4 : Core) (s1 s2 s3 : Section) (order : Order) (ending : ChangeEnd) (n : Note)
    → Begins c0 c1 s1 → LoadsOrder c1 c2 s1 s2 order → ChangesOne ctrl op by order c2 c3 s2 s3 ending → n ≡ s3.note → Leaves c3 c4 s3
    → (seen : Seen) × ChangesPath ctrl op by c0 c4 ending n seen
changed ctrl op by c0 c1 c2 c3 c4 s1 s2 s3 order ending n b o one0 note l =
    let C2 = ordered_core c0 s1 s2 order in
    let e2 : c2 ≡ C2 = o.after ∙ ap (looked (order_read order s2)) b.after in
    let one : ChangesOne ctrl op by order C2 c3 s2 s3 ending = subst (λ (c : Core). ChangesOne ctrl op by order c c3 s2 s3 ending) e2 one0 in
    let found : OrderTold (entered_core c0 s1) order = subst (λ (c : Core). OrderTold c order) b.after o.found in
    let lane : s3.note.lane ≡ c0.lane = ap (λ (x : Section). x.note.lane) one.section ∙ ap (λ (x : Section). x.note.lane) o.section ∙ ap (λ (x : Section). x.note.lane) b.section in
    let side : s3.note.side ≡ s1.note.side = ap (λ (x : Section). x.note.side) one.section ∙ ap (λ (x : Section). x.note.side) o.section in
    let ticket : s3.note.ticket ≡ s1.note.ticket = ap (λ (x : Section). x.note.ticket) one.section ∙ ap (λ (x : Section). x.note.ticket) o.section in
    let order_is : s3.note.order ≡ Some order = ap (λ (x : Section). x.note.order) one.section ∙ ap (λ (x : Section). x.note.order) o.section in
    let order_told : (m : Memory) → c0.told ≡ Some m → order ≡ m.order = λ m e. found.told (entered_in s1.note.side m) (ap (option_map (entered_in s1.note.side)) e) in
    let told : option_map (left_in s3.note.side) (option_map (end_in ending) (option_map (entered_in s1.note.side) c0.told)) ≡ option_map (section_in s3.note.side (end_in ending)) c0.told =
    map_three (left_in s3.note.side) (end_in ending) (entered_in s1.note.side) (section_in s3.note.side (end_in ending)) c0.told (λ m. ap (λ x. left_in s3.note.side (end_in ending (entered_in x m))) (sym side)) in
    let base : ChangesPath ctrl op by c0 c4 ending s3.note one.seen = record {
      view = l.after ∙ ap (stepped (finished s3) (left_in s3.note.side)) one.view ∙ (λ i. record c0 { view = left_view ending s2 s3 one.seen c0.view (record (c0.view.seen) { order = order.version }) i; told = told i });
      lane = lane;
      side = subst (λ (x : ℕ). x < 2) (sym side) b.range;
      read = record {
        note = one.note;
        later = later_back c0 s1 s2 order one.seen found one.later;
        order = λ x e. subst (λ (y : Order). OrderRead c0 one.seen y) (inj_order order x (sym order_is ∙ e)) (order_back c0 s1 s2 order one.seen found one.later);
        rows = λ place lt r. row_back c0 s1 s2 order one.seen (slot_of s3.note.reading place) (row_of_place s3.note.reading place) (one.rows place lt r);
      };
      ordered = (order, order_is);
      rows = one.just;
      alone = (
        ap (λ (x : Section). x.note.current) one.section ∙ ap (λ (x : Section). x.note.current) o.section ∙ ap (λ (x : Section). x.note.current) b.section,
        ap (λ (x : Section). x.note.depths) one.section ∙ ap (λ (x : Section). x.note.depths) o.section ∙ ap (λ (x : Section). x.note.depths) b.section,
      );
      ends = ends_by ctrl op by order s3.note ending order_is one.ends;
      still = λ al. one.still (alone_in c0 s1 s2 order al);
      told = λ m e. one.told (entered_in s1.note.side m) (told_in c0 s1 s2 order m e) (order_told m e);
      told_ticket = λ m e. (side ∙ (b.told m e).0, ticket ∙ (b.told m e).1);
      told_order = λ m e. order_is ∙ ap Some (order_told m e);
    } in
    (one.seen, subst (λ (x : Note). ChangesPath ctrl op by c0 c4 ending x one.seen) (sym note) base)
