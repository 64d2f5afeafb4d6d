-- A submit from its parts.
use Rattle.std.proofs.Common.{◌≡◌, ◌∙◌, ℕ, suc, ◌+◌, ◌<◌, ◌==◌, Bool, true, false, List, [], ◌∷◌, ◌++◌, length, take, map, get_or, cond, Option, Some, None, option_map, refl, sym, ap, subst, arith}
use Rattle.std.specs.List.{AllByRecursion}
use Rattle.std.proofs.lemmas.Bool.Decides.{nat_tests}
use Rattle.std.proofs.lemmas.List.{length-take, get_or-take}
use Rattle.mp_words.specs.declared.row.Row.{Row}
use Rattle.mp_words.specs.declared.near.Near.{Near}
use Rattle.mp_words.specs.declared.note.Note.{Note}
use Rattle.mp_words.specs.declared.order.Order.{Order}
use Rattle.mp_words.specs.declared.trying.Try.{Try}
use Rattle.mp_words.specs.declared.trying.TryEnd.{TryEnd}
use Rattle.mp_words.specs.declared.trying.TryEnd.TheVariants as end
use Rattle.mp_words.specs.RequestView.{RequestView}
use Rattle.mp_words.specs.Places.{place_of, place_in}
use Rattle.mp_words.specs.declared.path.Path.{Path}
use Rattle.mp_words.specs.PathTable.{paths_of}
use Rattle.mp_policy.specs.Choices.{has_usable}
use Rattle.mp_core.specs.declared.view.Section.{Section}
use Rattle.mp_core.specs.declared.view.Seen.{Seen}
use Rattle.mp_core.specs.Core.{Core, looked}
use Rattle.mp_core.specs.Memory.{Memory, row_at, depth_at, current_at, entered_in, left_in}
use Rattle.mp_core.specs.Notes.{HasUsable, row_of}
use Rattle.mp_core.specs.Views.{order_read}
use Rattle.mp_core.specs.Kinds.{OrderTold, LoadsOrder}
use Rattle.mp_core.specs.Reads.{Begins, IsNote, RowsRead, OrderRead, NoteRead, slot_of, row_of_place, with_section}
use Rattle.mp_core.proofs.Begun.{entered_core, ordered_core, told_in, row_back, order_back, later_back}
use Rattle.mp_submit.specs.declared.submit.Submitted.{Submitted}
use Rattle.mp_submit.specs.Choice.{has_available, end_with, told_choice, paths_at, keeps_choice}
use Rattle.mp_submit.specs.Selects.{Selects, DepthsRead, CurrentTold, DepthsTold}
use Rattle.mp_submit.specs.Submits.{Submits, Dispatches, EndsSo, IsLawfulEnd, end_on, open_try, submitted_in, chosen_in, sent_by, with_flights, flights_of, dispatched, answer_of}
use Rattle.mp_submit.proofs.Selecting.{by_has, paths_told}

-- three steps of the words
map_three : (f g h k : Memory → Memory) (t : Option Memory) → ((m : Memory) → t ≡ Some m → f (g (h m)) ≡ k m) → option_map f (option_map g (option_map h t)) ≡ option_map k t
map_three f g h k None e = refl
map_three f g h k (Some m) e = ap Some (e m refl)

sent_chosen : (keeps : Bool) (node : ℕ) (o : Option Path) (m : Memory) → sent_by keeps node (option_map (λ (p : Path). p.slot) o) m ≡ chosen_in keeps node o m
sent_chosen keeps node None m = refl
sent_chosen keeps node (Some p) m = refl

told_sides : (near : Near) (node side : ℕ) (m : Memory) → told_choice near node (entered_in side m) ≡ told_choice near node m
told_sides near node side m = refl

-- the row of a choice on the words
rows_all : (m : Memory) (slots : List ℕ) → AllByRecursion (λ (p : Path). p.row ≡ row_at m p.slot) (map (λ (s : ℕ). record { slot = s; row = row_at m s }) slots)
rows_all m [] = tt
rows_all m (s ∷ slots) = (refl, rows_all m slots)

at_row : (m : Memory) → AllByRecursion (λ (p : Path). p.row ≡ row_at m p.slot) (paths_at m)
at_row m = rows_all m (take m.order.len m.order.slots)

told_row : (near : Near) (node : ℕ) (m : Memory) (p : Path) → told_choice near node m ≡ Some p → p.row ≡ row_at m p.slot
told_row near node m p e = (by_has (λ (q : Path). q.row ≡ row_at m q.slot) m.order.policy near node (current_at m node) (depth_at m) (paths_at m) p (at_row m) e).0

-- a slot that has a place stands there
at_place : (slot : ℕ) (xs : List ℕ) → place_of slot xs < length xs → get_or xs (place_of slot xs) 0 ≡ slot
at_place slot [] l = absurd (omega arith)
at_place slot (x ∷ xs) l = here (x == slot) refl l (λ m. at_place slot xs m)
  where
    is_same : (x == slot) ≡ true → x ≡ slot
    is_same e = grind (arith, nat_tests)

    next : (k : ℕ) → k + 1 < suc (length xs) → (k < length xs → get_or xs k 0 ≡ slot) → get_or (x ∷ xs) (k + 1) 0 ≡ slot
    next k l h = let e : k + 1 ≡ suc k = omega arith in ap (λ j. get_or (x ∷ xs) j 0) e ∙ h (omega arith)

    here : (b : Bool) → (x == slot) ≡ b → cond b 0 (place_of slot xs + 1) < suc (length xs) → (place_of slot xs < length xs → get_or xs (place_of slot xs) 0 ≡ slot) → get_or (x ∷ xs) (cond b 0 (place_of slot xs + 1)) 0 ≡ slot
    here true e l rest = is_same e
    here false e l rest = next (place_of slot xs) l rest

pub slot_in : (n : Note) (slot : ℕ) → IsNote n → place_in slot n.reading < n.reading.len → slot_of n.reading (place_in slot n.reading) ≡ slot
slot_in n slot h l =
    let within = h.within in
    let eight = h.slots in
    let len : length (take n.reading.len n.reading.slots) ≡ n.reading.len = omega (arith, length-take n.reading.len n.reading.slots) in
    sym (get_or-take n.reading.len n.reading.slots (place_in slot n.reading) 0 l) ∙ at_place slot (take n.reading.len n.reading.slots) (omega arith)

-- a row that was read is that of the words
row_told : (a : Core) (seen : Seen) (n : Note) (slot : ℕ) (m : Memory) → IsNote n → RowsRead a seen n → HasUsable n slot → a.told ≡ Some m → row_of slot n ≡ row_at m slot
row_told a seen n slot m h rows u e =
    let row = u.0 in
    (rows (place_in slot n.reading) row.listed row.loaded).told m e ∙ ap (row_at m) (slot_in n slot h row.listed)

-- how a try ends with a choice
ends_none : (n : Note) (end : TryEnd) → has_usable (paths_of n.reading) ≡ false → end ≡ end_with (paths_of n.reading) None → EndsSo n end None
ends_none n ending unusable e = by (has_available (paths_of n.reading)) refl
  where
    by : (b : Bool) → has_available (paths_of n.reading) ≡ b → EndsSo n ending None
    by true f =
        let is : end_with (paths_of n.reading) None ≡ end.Listed = ap (λ b. cond b end.Listed end.Failed) f in
        subst (λ (x : TryEnd). EndsSo n x None) (sym (e ∙ is)) (refl, unusable, f)
    by false f =
        let is : end_with (paths_of n.reading) None ≡ end.Failed = ap (λ b. cond b end.Listed end.Failed) f in
        subst (λ (x : TryEnd). EndsSo n x None) (sym (e ∙ is)) (refl, unusable, f)

ends_so : (n : Note) (choice : Option ℕ) (end : TryEnd) → end ≡ end_on n choice → ((slot : ℕ) → choice ≡ Some slot → HasUsable n slot) → (choice ≡ None → has_usable (paths_of n.reading) ≡ false) → EndsSo n end choice
ends_so n None ending e us none = ends_none n ending (none refl) e
ends_so n (Some slot) ending e us none = subst (λ (x : TryEnd). EndsSo n x (Some slot)) (sym e) (refl, us slot refl, refl)

-- the end over told words
end_told : (a : Core) (seen : Seen) (n : Note) (m : Memory) (o : Option Path) (choice : Option ℕ) → IsNote n → RowsRead a seen n → ((slot : ℕ) → choice ≡ Some slot → HasUsable n slot) → a.told ≡ Some m
    → ((p : Path) → o ≡ Some p → p.row ≡ row_at m p.slot) → (choice ≡ None → paths_of n.reading ≡ paths_at m) → choice ≡ option_map (λ (p : Path). p.slot) o → end_on n choice ≡ end_with (paths_at m) o
end_told a seen n m None choice h rows us e row none is = ap (end_on n) is ∙ ap (λ ps. end_with ps None) (none is)
end_told a seen n m (Some p) choice h rows us e row none is =
    ap (end_on n) is ∙ ap (λ (r : Row). end.Sent p.slot r.version) (row_told a seen n p.slot m h rows (us p.slot is) e ∙ sym (row p refl))

-- the slot that a request was sent to is the choice
sent_within : (n : Note) (choice : Option ℕ) (slot version : ℕ) → ((s : ℕ) → choice ≡ Some s → s < 15) → end_on n choice ≡ end.Sent slot version → slot < 15
sent_within n None slot version range is = absurd (unsent (has_available (paths_of n.reading)) is)
  where
    unsent : (b : Bool) → cond b end.Listed end.Failed ≡ end.Sent slot version → ⊥
    unsent true e = cc
    unsent false e = cc
sent_within n (Some s) slot version range is = let same : s ≡ slot = cc in subst (λ (k : ℕ). k < 15) same (range s refl)

inj_order : (x y : Order) → Some x ≡ Some y → x ≡ y
inj_order x y e = cc

pub submitted : (near : Near) (c0 c1 c2 c3 c4 : Core) (s1 s2 s3 : Section) (order : Order) (choice : Option ℕ) (keeps : Bool) (end : TryEnd) (answer : Submitted) (n : Note) (before after : RequestView) (made : Try)
    → Begins c0 c1 s1 → LoadsOrder c1 c2 s1 s2 order → Selects near before.node order c2 c3 s2 s3 choice → keeps ≡ keeps_choice order.policy → Dispatches keeps before.node before.id c3 c4 s3 choice end answer n → ((slot : ℕ) → choice ≡ Some slot → slot < 15)
    → made ≡ open_try (length before.tries + 1) end n → after.tries ≡ before.tries ++ made ∷ [] → after.id ≡ before.id → after.node ≡ before.node
    → Submits near c0 c4 before after answer made
submitted near c0 c1 c2 c3 c4 s1 s2 s3 order choice keeps ending answer n before after made b o se0 keeps_is d range made_is tries id node =
    let C2 = ordered_core c0 s1 s2 order in
    let e2 : c2 ≡ C2 = o.after ∙ ap (looked (order_read order s2)) b.after in
    let se : Selects near before.node order C2 c3 s2 s3 choice = subst (λ (c : Core). Selects near before.node order c c3 s2 s3 choice) e2 se0 in
    let found : OrderTold (entered_core c0 s1) order = subst (λ (c : Core). OrderTold c order) b.after o.found in
    let note : n ≡ s3.note = d.note in
    let end_is : made.end ≡ ending = ap (λ (t : Try). t.end) made_is in
    let note_is : made.note ≡ s3.note = ap (λ (t : Try). t.note) made_is ∙ note in
    let seen_is : c4.view.seen ≡ c3.view.seen = ap (λ (c : Core). c.view.seen) d.after in
    let lane : s3.note.lane ≡ c0.lane = ap (λ (x : Section). x.note.lane) se.section ∙ ap (λ (x : Section). x.note.lane) o.section ∙ ap (λ (x : Section). x.note.lane) b.section in
    let side : s3.note.side ≡ s1.note.side = ap (λ (x : Section). x.note.side) se.section ∙ ap (λ (x : Section). x.note.side) o.section in
    let ticket : s3.note.ticket ≡ s1.note.ticket = ap (λ (x : Section). x.note.ticket) se.section ∙ ap (λ (x : Section). x.note.ticket) o.section in
    let order_is : s3.note.order ≡ Some order = ap (λ (x : Section). x.note.order) se.section ∙ ap (λ (x : Section). x.note.order) o.section in
    let len : s3.note.reading.len ≡ order.len = ap (λ (x : Section). x.note.reading.len) se.section ∙ ap (λ (x : Section). x.note.reading.len) o.section in
    let slots : s3.note.reading.slots ≡ order.slots = ap (λ (x : Section). x.note.reading.slots) se.section ∙ ap (λ (x : Section). x.note.reading.slots) o.section in
    let order_told : (m : Memory) → c0.told ≡ Some m → order ≡ m.order = λ m e. found.told (entered_in s1.note.side m) (ap (option_map (entered_in s1.note.side)) e) in
    let note' : made.note ≡ n = ap (λ (t : Try). t.note) made_is in
    let F : Core → Core = λ c. record c { view = dispatched c.lane before.id ending n c.view; told = option_map (left_in n.side) (option_map (sent_by keeps before.node choice) c.told) } in
    let lane3 : c3.lane ≡ c0.lane = ap (λ (c : Core). c.lane) se.after in
    let choice_told : (m : Memory) → c0.told ≡ Some m → choice ≡ option_map (λ (p : Path). p.slot) (told_choice near before.node m) =
    λ m e. se.told (entered_in s1.note.side m) (told_in c0 s1 s2 order m e) (order_told m e) ∙ ap (option_map (λ (p : Path). p.slot)) (told_sides near before.node s1.note.side m) in
    let words : (m : Memory) → c0.told ≡ Some m → left_in n.side (sent_by keeps before.node choice (entered_in s1.note.side m)) ≡ submitted_in near before.node m =
    λ m e.
    let at : s1.note.side ≡ m.index = (b.told m e).0 in
    let n_at : n.side ≡ m.index = ap (λ (x : Note). x.side) note ∙ side ∙ at in
    let keeps_at : keeps ≡ keeps_choice m.order.policy = keeps_is ∙ ap (λ (x : Order). keeps_choice x.policy) (order_told m e) in
    (λ i. left_in (n_at i) (sent_by (keeps_at i) before.node (choice_told m e i) (entered_in (at i) m)))
    ∙ ap (left_in m.index) (sent_chosen (keeps_choice m.order.policy) before.node (told_choice near before.node m) (entered_in m.index m)) in
    let told : option_map (left_in n.side) (option_map (sent_by keeps before.node choice) (option_map (entered_in s1.note.side) c0.told)) ≡ option_map (submitted_in near before.node) c0.told =
    map_three (left_in n.side) (sent_by keeps before.node choice) (entered_in s1.note.side) (submitted_in near before.node) c0.told words in
    let read : NoteRead c0 c3.view.seen s3.note = record {
      note = se.note;
      later = later_back c0 s1 s2 order c3.view.seen found se.later;
      order = λ x e. subst (λ (y : Order). OrderRead c0 c3.view.seen y) (inj_order order x (sym order_is ∙ e)) (order_back c0 s1 s2 order c3.view.seen found se.later);
      rows = λ place l r. row_back c0 s1 s2 order c3.view.seen (slot_of s3.note.reading place) (row_of_place s3.note.reading place) (se.rows place l r);
    } in
    record {
      view = d.after ∙ ap F se.after ∙ (λ i. record c0 { view = with_flights (flights_of c0.lane before.id (sym end_is i)) (with_section (sym note' i) (sym seen_is i) c0.view); told = told i });
      tried = made_is ∙ (λ i. open_try (length before.tries + 1) (sym end_is i) (sym note' i));
      tries = tries;
      id = id;
      node = node;
      answer_is = d.answer_is ∙ (λ i. answer_of (lane3 i) before.id (sym end_is i));
      lane = ap (λ (x : Note). x.lane) note_is ∙ lane;
      side = subst (λ (x : ℕ). x < 2) (sym (ap (λ (x : Note). x.side) note_is ∙ side)) b.range;
      read = subst (λ (p : Seen × Note). NoteRead c0 p.0 p.1) (λ i. (sym seen_is i, sym note_is i)) read;
      own = subst (λ (x : Note). DepthsRead c0 x) (sym note_is) se.own;
      ordered = (order, ap (λ (x : Note). x.order) note_is ∙ order_is);
      lawful = subst (λ (p : Note × TryEnd). IsLawfulEnd near before.node p.0 p.1) (λ i. (sym note_is i, sym end_is i)) (choice, se.lawful, ends_so s3.note choice ending d.ends se.usable se.none);
      within = λ slot version e. sent_within s3.note choice slot version range (sym (end_is ∙ d.ends) ∙ e);
      told = λ m e. end_is ∙ d.ends ∙ end_told (ordered_core c0 s1 s2 order) c3.view.seen s3.note (entered_in s1.note.side m) (told_choice near before.node m) choice se.note se.rows se.usable (told_in c0 s1 s2 order m e) (told_row near before.node m)
          (λ none. paths_told (ordered_core c0 s1 s2 order) c3.view.seen s3.note order (entered_in s1.note.side m) se.note se.lawful.whole se.rows len slots (order_told m e) (told_in c0 s1 s2 order m e)) (choice_told m e);
      told_ticket = λ m e. (ap (λ (x : Note). x.side) note_is ∙ side ∙ (b.told m e).0, ap (λ (x : Note). x.ticket) note_is ∙ ticket ∙ (b.told m e).1);
      told_order = λ m e. ap (λ (x : Note). x.order) note_is ∙ order_is ∙ ap Some (order_told m e);
      listed = λ x e.
          let same : order ≡ x = inj_order order x (sym order_is ∙ sym (ap (λ (y : Note). y.order) note_is) ∙ e) in
          (ap (λ (y : Note). y.reading.len) note_is ∙ len ∙ ap (λ (y : Order). y.len) same, ap (λ (y : Note). y.reading.slots) note_is ∙ slots ∙ ap (λ (y : Order). y.slots) same);
      told_paths = λ m e. ap (λ (y : Note). paths_of y.reading) note_is ∙ paths_told (ordered_core c0 s1 s2 order) c3.view.seen s3.note order (entered_in s1.note.side m) se.note se.lawful.whole se.rows len slots (order_told m e) (told_in c0 s1 s2 order m e);
      told_current = λ m e. subst (CurrentTold before.node m) (sym note_is) (se.told_current (entered_in s1.note.side m) (told_in c0 s1 s2 order m e));
      told_depths = λ m e. subst (DepthsTold m) (sym note_is) (se.told_depths (entered_in s1.note.side m) (told_in c0 s1 s2 order m e));
    }
