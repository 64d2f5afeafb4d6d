-- What a pass gains by the calls of its desk is what was noted.
use Rattle.std.proofs.Common.{◌≡◌, ℕ, zero, suc, ◌+◌, ◌-◌, ◌≤◌, true, false, List, [], ◌∷◌, ◌++◌, length, map, append-nil, append_assoc, Option, None, Some, option_map, refl, sym, ap, ◌∙◌, subst, arith}
use Rattle.std.specs.Prelude.{Result, Ok, Err}
use Rattle.std.specs.List.{last_or, AllByRecursion}
use Rattle.std.proofs.lemmas.List.{length-append}
use Rattle.mp_words.specs.declared.answers.Answer.{Answer}
use Rattle.mp_words.specs.declared.entry.RowEntry.{RowEntry}
use Rattle.mp_words.specs.declared.flight.Flight.{Flight}
use Rattle.mp_words.specs.declared.note.Note.{Note}
use Rattle.mp_words.specs.declared.op.Maker.{Maker}
use Rattle.mp_words.specs.declared.trying.Back.{Back}
use Rattle.mp_words.specs.declared.trying.TryEnd.{TryEnd}
use Rattle.mp_words.specs.declared.trying.TryEnd.TheVariants as end
use Rattle.mp_words.specs.declared.trying.Try.{Try}
use Rattle.mp_words.specs.RequestView.{RequestView}
use Rattle.mp_words.specs.Effect.{Clears, every_one, the_slots, none, clears_of}
use Rattle.mp_record.specs.declared.event.Event.{Event}
use Rattle.mp_record.specs.declared.event.Event.TheVariants as event
use Rattle.mp_record.specs.declared.event.Said.{Said}
use Rattle.mp_status.specs.declared.class.Class.{Class}
use Rattle.mp_status.specs.declared.class.Class.TheVariants as class
use Rattle.mp_core.specs.declared.view.View.{View}
use Rattle.mp_core.specs.Core.{Core}
use Rattle.mp_change.specs.declared.change.ChangeEnd.{ChangeEnd}
use Rattle.mp_change.specs.declared.change.ChangeEnd.TheVariants as ending
use Rattle.mp_change.specs.declared.pending.PendingEnd.{PendingEnd}
use Rattle.mp_change.specs.declared.pending.PendingEnd.TheVariants as pending
use Rattle.mp_change.specs.Changes.{end_view}
use Rattle.mp_change.specs.Clears.{clears_view, cleared_upto}
use Rattle.mp_change.specs.Pending.{pending_view}
use Rattle.mp_submit.specs.declared.finish.Finished.{Finished}
use Rattle.mp_submit.specs.declared.finish.Finished.TheVariants as finished
use Rattle.mp_submit.specs.Finishes.{FinishTo, FailsOver, back_of}
use Rattle.mp_words.specs.Request.{ended_tries, ended_try}
use Rattle.mp_words.specs.declared.op.Gift.{Gift}
use Rattle.mp_record.specs.declared.event.Said.TheVariants as said
use Rattle.mp_core.specs.Views.{order_stored, row_held, row_kept}
use Rattle.mp_keep.specs.declared.added.Added.{Added}
use Rattle.mp_keep.specs.declared.add_error.AddError.{AddError}
use Rattle.mp_keep.specs.declared.remove_error.RemoveError.{RemoveError}
use Rattle.mp_keep.specs.declared.remove_error.RemoveError.TheVariants as refused
use Rattle.mp_keep.specs.Keeper.{KeeperView}
use Rattle.mp_keep.specs.Keeps.{AddTo, RemoveTo}
use Rattle.mp_keep.specs.Walks as walk
use Rattle.mp_desk.specs.declared.flying.Flying.{Flying}
use Rattle.mp_desk.specs.DeskView.{DeskView, noting, entering, placing, landing}
use Rattle.mp_desk.specs.Says.{added_said, back_in, end_event, entries_back, entry_added, entry_in, entry_marked, marked_said, moved_section, reaped_said, section, sections_of, said_of, try_event}
use Rattle.mp_desk.specs.Calls.{After, BreakTo, BreaksTo, CallsTo, ChangeEnds, ChangeStays, DeskCall, DoesNothing, EndsAll, FlightDrops, FlightEnds, FlightFalls, FlightStays, GoesTo, HasLeft, IsLaneCall, IsShort, MakesRoom, Means, RemovalBegins, RemovalStays, Stand, StopTo, StopsTo, Submitting, TakesFlying, change, finish, submit, add, remove, set_policy, reap, at_desk, maker_at, needs, with_room}
use Rattle.mp_desk.specs.Gains.{Gains, UsesSections, sections_in}
use Rattle.mp_desk.proofs.Finishing.{last_changed}

-- ---- what views gain

upto_done : (slot n : ℕ) (v : View) → ((cleared_upto slot n v).done ≡ v.done) × ((cleared_upto slot n v).entries ≡ v.entries) × ((cleared_upto slot n v).left ≡ v.left)
upto_done slot zero v = (refl, refl, refl)
upto_done slot (suc n) v = upto_done slot n v

clears_done : (c : Clears) (slot : ℕ) (v : View) → ((clears_view c slot v).done ≡ v.done) × ((clears_view c slot v).entries ≡ v.entries) × ((clears_view c slot v).left ≡ v.left)
clears_done every_one slot v = (refl, refl, refl)
clears_done the_slots slot v = upto_done slot 8 v
clears_done none slot v = (refl, refl, refl)

end_done : (e : ChangeEnd) (v : View) → ((end_view e v).done ≡ v.done) × ((end_view e v).entries ≡ v.entries ++ entry_in e) × ((end_view e v).left ≡ v.left)
end_done (ending.Changed e) v = clears_done (clears_of e.op e.row) e.slot (record v { entries = v.entries ++ e ∷ []; keeping = record (v.keeping) { last = None } })
end_done (ending.Refused slot row) v = (refl, sym (append-nil v.entries), refl)
end_done (ending.NotArmed slot row) v = (refl, sym (append-nil v.entries), refl)
end_done (ending.NoPath order) v = (refl, sym (append-nil v.entries), refl)
end_done (ending.Moved slot row) v = (refl, sym (append-nil v.entries), refl)

pending_done : (slot : ℕ) (e : PendingEnd) (v : View) → ((pending_view slot e v).done ≡ v.done) × ((pending_view slot e v).entries ≡ v.entries ++ entries_back (back_of e)) × ((pending_view slot e v).left ≡ v.left)
pending_done slot (pending.Set e) v = end_done (ending.Changed e) v
pending_done slot (pending.NoAna row) v = let u = upto_done slot 8 (record v { keeping = record (v.keeping) { last = None } }) in (u.0, u.1 ∙ sym (append-nil v.entries), u.2)
pending_done slot (pending.Moved row) v = (refl, sym (append-nil v.entries), refl)

-- ---- what stands gain

sections-append : (es fs : List Event) → sections_in (es ++ fs) ≡ sections_in es ++ sections_in fs
sections-append [] fs = refl
sections-append (event.Sec n m ∷ es) fs = ap (λ (ns : List Note). n ∷ ns) (sections-append es fs)
sections-append (event.At l s ∷ es) fs = sections-append es fs
sections-append (event.Try r h e ∷ es) fs = sections-append es fs
sections-append (event.Fin r h ss c b ∷ es) fs = sections-append es fs

pub gains_none : (p : Stand) → Gains p p
gains_none p = record { events = []; noted = sym (append-nil p.desk.events); sections = sym (append-nil p.core.view.done); rows = []; kept = sym (append-nil p.desk.rows); made = sym (append-nil p.core.view.entries) }

pub gains_on : (p m q : Stand) → Gains p m → Gains m q → Gains p q
gains_on p m q g h = record {
  events = g.events ++ h.events;
  noted = h.noted ∙ ap (λ es. es ++ h.events) g.noted ∙ append_assoc p.desk.events g.events h.events;
  sections = h.sections ∙ ap (λ ns. ns ++ sections_in h.events) g.sections ∙ append_assoc p.core.view.done (sections_in g.events) (sections_in h.events) ∙ ap (λ ns. p.core.view.done ++ ns) (sym (sections-append g.events h.events));
  rows = g.rows ++ h.rows;
  kept = h.kept ∙ ap (λ rs. rs ++ h.rows) g.kept ∙ append_assoc p.desk.rows g.rows h.rows;
  made = h.made ∙ ap (λ rs. rs ++ h.rows) g.made ∙ append_assoc p.core.view.entries g.rows h.rows;
}

-- the desk has these events and rows more
gains_so : (p q : Stand) (d : DeskView) (es : List Event) (rows : List RowEntry) → q.desk ≡ d → d.events ≡ p.desk.events ++ es → d.rows ≡ p.desk.rows ++ rows → q.core.view.done ≡ p.core.view.done ++ sections_in es → q.core.view.entries ≡ p.core.view.entries ++ rows → Gains p q
gains_so p q d es rows is events made done entries = record { events = es; noted = ap (λ z. z.events) is ∙ events; sections = done; rows = rows; kept = ap (λ z. z.rows) is ∙ made; made = entries }

placing_keeps : (lane : ℕ) (r : RequestView) (e : TryEnd) (d : DeskView) → ((placing lane r e d).events ≡ d.events) × ((placing lane r e d).rows ≡ d.rows)
placing_keeps lane r (end.Sent slot version) d = (refl, refl)
placing_keeps lane r end.Listed d = (refl, refl)
placing_keeps lane r end.Failed d = (refl, refl)

landing_keeps : (r : RequestView) (way : Option Back) (d : DeskView) → ((landing r way d).events ≡ d.events) × ((landing r way d).rows ≡ d.rows)
landing_keeps r None d = (refl, refl)
landing_keeps r (Some way) d = (refl, refl)

no_sections : (line : ℕ) (said : List Said) → sections_in (map (event.At line) said) ≡ []
no_sections line [] = refl
no_sections line (s ∷ said) = no_sections line said

no_end_sections : (after : RequestView) (t : Option Try) → sections_in (end_event after t) ≡ []
no_end_sections after None = refl
no_end_sections after (Some t) = refl

flight_stays : (w : Means) (f : Flying) (p q : Stand) → FlightStays w f p q → Gains p q
flight_stays w f p q s =
    let to = s.finishes.to in
    let u = pending_done f.flight.slot (pending.Moved s.row) p.core.view in
    gains_so p q (noting (moved_section s.note f.flight.slot s.row.version ∷ []) p.desk) (moved_section s.note f.flight.slot s.row.version ∷ []) [] s.desk refl (sym (append-nil p.desk.rows))
    (ap (λ (c : Core). c.view.done) to.2.view ∙ ap (λ ns. ns ++ s.note ∷ []) u.0) (ap (λ (c : Core). c.view.entries) to.2.view ∙ u.1)

change_stays : (w : Means) (ctrl : ℕ) (o : _) (p q : Stand) → ChangeStays w ctrl o p q → Gains p q
change_stays w ctrl o p q s =
    let u = end_done (ending.Moved s.slot s.row) p.core.view in
    gains_so p q (noting (moved_section s.note s.slot s.row.version ∷ []) p.desk) (moved_section s.note s.slot s.row.version ∷ []) [] s.desk refl (sym (append-nil p.desk.rows))
    (ap (λ (c : Core). c.view.done) s.changes.view ∙ ap (λ ns. ns ++ s.note ∷ []) u.0) (ap (λ (c : Core). c.view.entries) s.changes.view ∙ u.1)

change_ends : (w : Means) (ctrl : ℕ) (o : _) (p q : Stand) → ChangeEnds w ctrl o p q → Gains p q
change_ends w ctrl o p q s =
    let u = end_done s.end p.core.view in
    let es : List Event = section s.note ∷ map (event.At w.line) (said_of s.end) in
    gains_so p q (entering (entry_in s.end) (noting es p.desk)) es (entry_in s.end) s.desk refl refl
    (ap (λ (c : Core). c.view.done) s.changes.view ∙ (λ i. u.0 i ++ s.note ∷ sym (no_sections w.line (said_of s.end)) i)) (ap (λ (c : Core). c.view.entries) s.changes.view ∙ u.1)

-- ---- a finish

-- the section of a failover, and the entry that it made
fails_gain : (c : Class) (a b : Core) (f : Flight) (by : Maker) (n : Note) (way : Back) → FailsOver c a b f by n way → (b.view.done ≡ a.view.done ++ n ∷ []) × (b.view.entries ≡ a.view.entries ++ entries_back (Some way))
fails_gain (class.Failover true) a b f by n way h =
    let u = pending_done f.slot h.0 a.view in
    (ap (λ (c : Core). c.view.done) h.1.view ∙ ap (λ ns. ns ++ n ∷ []) u.0, ap (λ (c : Core). c.view.entries) h.1.view ∙ u.1 ∙ ap (λ w. a.view.entries ++ entries_back w) h.2)
fails_gain (class.Failover false) a b f by n way h =
    let u = upto_done f.slot 8 (record (a.view) { keeping = record (a.view.keeping) { last = None } }) in
    (ap (λ (c : Core). c.view.done) h.0.view ∙ ap (λ ns. ns ++ n ∷ []) u.0, ap (λ (c : Core). c.view.entries) h.0.view ∙ u.1 ∙ sym (append-nil a.view.entries) ∙ ap (λ w. a.view.entries ++ entries_back (Some w)) (sym h.1))
fails_gain class.Complete a b f by n way h = absurd h
fails_gain class.Retry a b f by n way h = absurd h

-- how the last try came back that has ended so
last_back : (six : List ℕ) (n : ℕ) (way : Option Back) (tries after : List Try) (made : Try) → after ≡ ended_tries six n way tries → last_or None after ≡ Some made → back_in (last_or None after) ≡ way
last_back six n way tries after made is last = by (last_or None tries) (ap (λ ts. last_or None ts) is ∙ last_changed (ended_try six n way) tries)
  where
    by : (o : Option Try) → last_or None after ≡ option_map (ended_try six n way) o → back_in (last_or None after) ≡ way
    by None none_is = absurd (let h : None ≡ Some made = sym none_is ∙ last in cc)
    by (Some t) some_is = ap back_in some_is

ends_gain : (answers : List Answer) (a b : Core) (f : Flight) (before after : RequestView) (answer : Finished) (made : Try) → FinishTo answers a b f before after answer → HasLeft answer → last_or None after.tries ≡ Some made
    → (b.view.done ≡ a.view.done ++ sections_in (sections_of answer ++ end_event after (last_or None after.tries))) × (b.view.entries ≡ a.view.entries ++ entries_back (back_in (last_or None after.tries)))
ends_gain answers a b f before after (finished.Done status) made to left last = (
  ap (λ (c : Core). c.view.done) to.2.after ∙ sym (append-nil a.view.done) ∙ ap (λ ns. a.view.done ++ ns) (sym (no_end_sections after (last_or None after.tries))),
  ap (λ (c : Core). c.view.entries) to.2.after ∙ sym (append-nil a.view.entries) ∙ ap (λ w. a.view.entries ++ entries_back w) (sym (last_back _ _ None before.tries after.tries made to.3.tries last)),
)
ends_gain answers a b f before after (finished.Back n) made to left last =
    let fails = fails_gain _ a to.0 f _ n to.1 to.2 in (
      ap (λ (c : Core). c.view.done) to.3.after ∙ fails.0 ∙ ap (λ ns. a.view.done ++ n ∷ ns) (sym (no_end_sections after (last_or None after.tries))),
      ap (λ (c : Core). c.view.entries) to.3.after ∙ fails.1 ∙ ap (λ w. a.view.entries ++ entries_back w) (sym (last_back _ _ (Some to.1) before.tries after.tries made to.4.tries last)),
    )
ends_gain answers a b f before after (finished.Moved g row n) made to left last = absurd left

flight_ends : (w : Means) (f : Flying) (p q : Stand) → FlightEnds w f p q → Gains p q
flight_ends w f p q s =
    let way = back_in (last_or None s.after.tries) in
    let es = sections_of s.answer ++ end_event s.after (last_or None s.after.tries) in
    let u = ends_gain w.answers p.core q.core f.flight f.request s.after s.answer s.made.0 s.finishes.to s.left s.made.1 in
    let keeps = landing_keeps s.after way (entering (entries_back way) (noting es p.desk)) in
    gains_so p q (landing s.after way (entering (entries_back way) (noting es p.desk))) es (entries_back way) s.desk keeps.0 keeps.1 u.0 u.1

flight_falls : (f : Flying) (p q : Stand) → FlightFalls f p q → Gains p q
flight_falls f p q s =
    gains_so p q p.desk [] [] s.desk (sym (append-nil p.desk.events)) (sym (append-nil p.desk.rows)) (ap (λ (c : Core). c.view.done) s.lands.after ∙ sym (append-nil p.core.view.done)) (ap (λ (c : Core). c.view.entries) s.lands.after ∙ sym (append-nil p.core.view.entries))

-- ---- the other calls

submitting : (w : Means) (r : RequestView) (p q : Stand) → Submitting w r p q → Gains p q
submitting w r p q s =
    let es : List Event = section s.made.note ∷ try_event s.after s.made ∷ [] in
    let keeps = placing_keeps p.core.lane s.after s.made.end (noting es p.desk) in
    gains_so p q (placing p.core.lane s.after s.made.end (noting es p.desk)) es [] s.desk keeps.0 (keeps.1 ∙ sym (append-nil p.desk.rows)) (ap (λ (c : Core). c.view.done) s.submits.view) (ap (λ (c : Core). c.view.entries) s.submits.view ∙ sym (append-nil p.core.view.entries))

-- a call of the keeper's that noted what it said, and made these entries
keeps_gain : (p q : Stand) (line : ℕ) (said : List Said) (rows : List RowEntry) → q.desk ≡ entering rows (noting (map (event.At line) said) p.desk) → q.core.view.done ≡ p.core.view.done → q.core.view.entries ≡ p.core.view.entries ++ rows → Gains p q
keeps_gain p q line said rows desk done entries =
    gains_so p q (entering rows (noting (map (event.At line) said) p.desk)) (map (event.At line) said) rows desk refl refl (done ∙ sym (append-nil p.core.view.done) ∙ ap (λ ns. p.core.view.done ++ ns) (sym (no_sections line said))) entries

adds_gain : (k l : KeeperView) (a b : Core) (gift : Gift) (by : Maker) (answer : Result Added AddError) → AddTo k l a b gift by answer → (b.view.done ≡ a.view.done) × (b.view.entries ≡ a.view.entries ++ entry_added answer)
adds_gain k l a b gift by (Err e) to = (ap (λ (c : Core). c.view.done) to.1, ap (λ (c : Core). c.view.entries) to.1 ∙ sym (append-nil a.view.entries))
adds_gain k l a b gift by (Ok added) to =
    let h = to.3 in
    let u = clears_done (clears_of added.row.op added.row.row) to.1 (order_stored added.order (row_kept added.row (row_held to.1 h.old a.view))) in
    (ap (λ (c : Core). c.view.done) h.core ∙ u.0, ap (λ (c : Core). c.view.entries) h.core ∙ u.1)

removes_gain : (k l : KeeperView) (a b : Core) (ctrl : ℕ) (by : Maker) (answer : Result RowEntry RemoveError) → RemoveTo k l a b ctrl by answer → (b.view.done ≡ a.view.done) × (b.view.entries ≡ a.view.entries ++ entry_marked answer)
removes_gain k l a b ctrl by (Err (refused.NoPath order)) to = (ap (λ (c : Core). c.view.done) to.2, ap (λ (c : Core). c.view.entries) to.2 ∙ sym (append-nil a.view.entries))
removes_gain k l a b ctrl by (Err (refused.Moved row)) to = let h = to.2 in (ap (λ (c : Core). c.view.done) h.core, ap (λ (c : Core). c.view.entries) h.core ∙ sym (append-nil a.view.entries))
removes_gain k l a b ctrl by (Ok entry) to = let h = to.2 in (ap (λ (c : Core). c.view.done) h.core, ap (λ (c : Core). c.view.entries) h.core)

removal_stays : (w : Means) (ctrl : ℕ) (p q : Stand) → RemovalStays w ctrl p q → Gains p q
removal_stays w ctrl p q s =
    let u = removes_gain (with_room s.room p.keeper) q.keeper p.core q.core ctrl (maker_at w p) (Err (refused.Moved s.row)) s.removes.to in
    gains_so p q p.desk [] [] s.desk (sym (append-nil p.desk.events)) (sym (append-nil p.desk.rows)) (u.0 ∙ sym (append-nil p.core.view.done)) u.1

removal_begins : (w : Means) (ctrl : ℕ) (p q : Stand) → RemovalBegins w ctrl p q → Gains p q
removal_begins w ctrl p q s =
    let u = removes_gain (with_room s.room p.keeper) q.keeper p.core q.core ctrl (maker_at w p) s.answer s.removes.to in
    keeps_gain p q w.line (marked_said s.answer) (entry_marked s.answer) s.desk u.0 u.1

-- ---- calls

after_gain : (Stays Ends : Stand → Stand → Type 0) → ((a b : Stand) → Stays a b → Gains a b) → ((a b : Stand) → Ends a b → Gains a b) → (n : ℕ) (p q : Stand) → After n Stays Ends p q → Gains p q
after_gain Stays Ends stay done zero p q to = done p q to
after_gain Stays Ends stay done (suc n) p q to = gains_on p to.0 q (stay p to.0 to.1) (after_gain Stays Ends stay done n to.0 q to.2)

short_gain : (n : ℕ) (p q : Stand) → IsShort n p q → Gains p q
short_gain n p q h = subst (Gains p) (sym h.1) (gains_none p)

-- taking a flight changes neither notes nor entries
taken_gain : (f : Flying) (p q : Stand) (d : DeskView) → TakesFlying f p.desk d → Gains (at_desk d p) q → Gains p q
taken_gain f p q d t g = record { events = g.events; noted = g.noted ∙ ap (λ (z : DeskView). z.events ++ g.events) t.is; sections = g.sections; rows = g.rows; kept = g.kept ∙ ap (λ (z : DeskView). z.rows ++ g.rows) t.is; made = g.made }

goes_gain : (w : Means) (c : DeskCall) (p q : Stand) → GoesTo w c p q → Gains p q
goes_gain w (submit r) p q to = submitting w r p q to
goes_gain w (finish f) p q to = taken_gain f p q to.1.desk to.1.takes (after_gain (FlightStays w f) (FlightEnds w f) (flight_stays w f) (flight_ends w f) to.0 (at_desk to.1.desk p) q to.1.goes)
goes_gain w (change ctrl o) p q to = after_gain (ChangeStays w ctrl o) (ChangeEnds w ctrl o) (change_stays w ctrl o) (change_ends w ctrl o) to.0 p q to.1
goes_gain w (add gift) p q to =
    let u = adds_gain (with_room to.room p.keeper) q.keeper p.core q.core gift (maker_at w p) to.answer to.adds.to in
    keeps_gain p q w.line (added_said to.answer ∷ []) (entry_added to.answer) to.desk u.0 u.1
goes_gain w (remove ctrl) p q to = after_gain (RemovalStays w ctrl) (RemovalBegins w ctrl) (removal_stays w ctrl) (removal_begins w ctrl) to.0 p q to.1
goes_gain w (set_policy policy) p q to =
    keeps_gain p q w.line (said.Policy to.entry.order.version ∷ []) [] (to.desk ∙ (λ i. record (noting (event.At w.line (said.Policy to.entry.order.version) ∷ []) p.desk) { rows = sym (append-nil p.desk.rows) i })) (ap (λ (c : Core). c.view.done) to.sets.core) (ap (λ (c : Core). c.view.entries) to.sets.core ∙ sym (append-nil p.core.view.entries))
goes_gain w reap p q to = keeps_gain p q w.line (reaped_said to.answer ∷ []) (walk.entries_of to.answer) to.desk to.reaps.kept.done to.reaps.gained

stop_gain : (w : Means) (c : DeskCall) (p q : Stand) → StopTo w c p q → Gains p q
stop_gain w (submit r) p q to = short_gain 1 p q to
stop_gain w (finish f) p q to = taken_gain f p q to.1.desk to.1.takes (after_gain (FlightStays w f) (FlightFalls f) (flight_stays w f) (flight_falls f) to.0 (at_desk to.1.desk p) q to.1.goes)
stop_gain w (change ctrl o) p q to = after_gain (ChangeStays w ctrl o) (IsShort 1) (change_stays w ctrl o) (short_gain 1) to.0 p q to.1
stop_gain w (add gift) p q to = short_gain 2 p q to
stop_gain w (remove ctrl) p q to = after_gain (RemovalStays w ctrl) (IsShort 1) (removal_stays w ctrl) (short_gain 1) to.0 p q to.1
stop_gain w (set_policy policy) p q to = short_gain 1 p q to
stop_gain w reap p q to = short_gain 16 p q to

pub calls_gain : (w : Means) (cs : List DeskCall) (p q : Stand) → CallsTo w cs p q → Gains p q
calls_gain w [] p q is = subst (Gains p) (sym is) (gains_none p)
calls_gain w (c ∷ cs) p q to = gains_on p to.0 q (goes_gain w c p to.0 to.1.goes) (calls_gain w cs to.0 q to.2)

pub stops_gain : (w : Means) (cs : List DeskCall) (p q : Stand) → StopsTo w cs p q → Gains p q
stops_gain w cs p q h = gains_on p h.mid q (calls_gain w h.before p h.mid h.done) (stop_gain w h.stopped h.mid q h.stops)

nothing_gains : (p q : Stand) → DoesNothing p q → Gains p q
nothing_gains p q is = subst (Gains p) (sym is) (gains_none p)

room_gains : (p q : Stand) → MakesRoom p q → Gains p q
room_gains p q h = subst (Gains p) (sym h.same) (let g = gains_none p in record { events = g.events; noted = g.noted; sections = g.sections; rows = g.rows; kept = g.kept; made = g.made })

flight_drops : (f : Flying) (p q : Stand) → FlightDrops f p q → Gains p q
flight_drops f p q s =
    gains_so p q p.desk [] [] s.desk (sym (append-nil p.desk.events)) (sym (append-nil p.desk.rows)) (ap (λ (c : Core). c.view.done) s.lands.after ∙ sym (append-nil p.core.view.done)) (ap (λ (c : Core). c.view.entries) s.lands.after ∙ sym (append-nil p.core.view.entries))

break_gain : (w : Means) (c : DeskCall) (p q : Stand) → BreakTo w c p q → Gains p q
break_gain w (submit r) p q to = nothing_gains p q to
break_gain w (finish f) p q to = taken_gain f p q to.1.desk to.1.takes (after_gain (FlightStays w f) (FlightDrops f) (flight_stays w f) (flight_drops f) to.0 (at_desk to.1.desk p) q to.1.goes)
break_gain w (change ctrl o) p q to = after_gain (ChangeStays w ctrl o) DoesNothing (change_stays w ctrl o) nothing_gains to.0 p q to.1
break_gain w (add gift) p q to = room_gains p q to
break_gain w (remove ctrl) p q to = after_gain (RemovalStays w ctrl) MakesRoom (removal_stays w ctrl) room_gains to.0 p q to.1
break_gain w (set_policy policy) p q to = room_gains p q to
break_gain w reap p q to = room_gains p q to

pub breaks_gain : (w : Means) (cs : List DeskCall) (p q : Stand) → BreaksTo w cs p q → Gains p q
breaks_gain w cs p q h = gains_on p h.mid q (calls_gain w h.before p h.mid h.done) (break_gain w h.broken h.mid q h.breaks)

pub ends_all_gain : (p q : Stand) → EndsAll p.core q.core p.desk q.desk → Gains p q
ends_all_gain p q h =
    gains_so p q (record (p.desk) { flying = [] }) [] [] h.desk (sym (append-nil p.desk.events)) (sym (append-nil p.desk.rows)) (ap (λ (c : Core). c.view.done) h.core ∙ sym (append-nil p.core.view.done)) (ap (λ (c : Core). c.view.entries) h.core ∙ sym (append-nil p.core.view.entries))

-- ---- units

uses_none : (p : Stand) → UsesSections p p
uses_none p = record { events = []; noted = sym (append-nil p.desk.events); used = omega arith }

uses_on : (p m q : Stand) → UsesSections p m → UsesSections m q → UsesSections p q
uses_on p m q g h = record {
  events = g.events ++ h.events;
  noted = h.noted ∙ ap (λ es. es ++ h.events) g.noted ∙ append_assoc p.desk.events g.events h.events;
  used = omega (arith, g.used, h.used, ap length (sections-append g.events h.events) ∙ length-append (sections_in g.events) (sections_in h.events));
}

uses_so : (p q : Stand) (d : DeskView) (es : List Event) → q.desk ≡ d → d.events ≡ p.desk.events ++ es → q.core.view.left + length (sections_in es) ≡ p.core.view.left → UsesSections p q
uses_so p q d es is events used = record { events = es; noted = ap (λ z. z.events) is ∙ events; used = used }

flight_stays_uses : (w : Means) (f : Flying) (p q : Stand) → FlightStays w f p q → UsesSections p q
flight_stays_uses w f p q s =
    let left : q.core.view.left ≡ p.core.view.left - 1 = ap (λ (c : Core). c.view.left) s.finishes.to.2.view in
    uses_so p q (noting (moved_section s.note f.flight.slot s.row.version ∷ []) p.desk) (moved_section s.note f.flight.slot s.row.version ∷ []) s.desk refl (omega (arith, left, s.paid))

change_stays_uses : (w : Means) (ctrl : ℕ) (o : _) (p q : Stand) → ChangeStays w ctrl o p q → UsesSections p q
change_stays_uses w ctrl o p q s =
    let left : q.core.view.left ≡ p.core.view.left - 1 = ap (λ (c : Core). c.view.left) s.changes.view in
    uses_so p q (noting (moved_section s.note s.slot s.row.version ∷ []) p.desk) (moved_section s.note s.slot s.row.version ∷ []) s.desk refl (omega (arith, left, s.paid))

change_ends_uses : (w : Means) (ctrl : ℕ) (o : _) (p q : Stand) → ChangeEnds w ctrl o p q → UsesSections p q
change_ends_uses w ctrl o p q s =
    let left : q.core.view.left ≡ p.core.view.left - 1 = ap (λ (c : Core). c.view.left) s.changes.view ∙ ap (λ n. n - 1) (end_done s.end p.core.view).2 in
    let es : List Event = section s.note ∷ map (event.At w.line) (said_of s.end) in
    uses_so p q (entering (entry_in s.end) (noting es p.desk)) es s.desk refl (omega (arith, left, s.paid, ap length (no_sections w.line (said_of s.end))))

fails_use : (c : Class) (a b : Core) (f : Flight) (by : Maker) (n : Note) (way : Back) → FailsOver c a b f by n way → b.view.left ≡ a.view.left - 1
fails_use (class.Failover true) a b f by n way h = ap (λ (c : Core). c.view.left) h.1.view ∙ ap (λ m. m - 1) (pending_done f.slot h.0 a.view).2
fails_use (class.Failover false) a b f by n way h = ap (λ (c : Core). c.view.left) h.0.view ∙ ap (λ m. m - 1) (upto_done f.slot 8 (record (a.view) { keeping = record (a.view.keeping) { last = None } })).2
fails_use class.Complete a b f by n way h = absurd h
fails_use class.Retry a b f by n way h = absurd h

ends_use : (answers : List Answer) (a b : Core) (f : Flight) (before after : RequestView) (answer : Finished) → FinishTo answers a b f before after answer → HasLeft answer → 1 ≤ a.view.left
    → b.view.left + length (sections_in (sections_of answer ++ end_event after (last_or None after.tries))) ≡ a.view.left
ends_use answers a b f before after (finished.Done status) to left paid =
    let same : b.view.left ≡ a.view.left = ap (λ (c : Core). c.view.left) to.2.after in
    omega (arith, same, ap length (no_end_sections after (last_or None after.tries)))
ends_use answers a b f before after (finished.Back n) to left paid =
    let same : b.view.left ≡ to.0.view.left = ap (λ (c : Core). c.view.left) to.3.after in
    omega (arith, same, fails_use _ a to.0 f _ n to.1 to.2, paid, ap length (no_end_sections after (last_or None after.tries)))
ends_use answers a b f before after (finished.Moved g row n) to left paid = absurd left

flight_ends_uses : (w : Means) (f : Flying) (p q : Stand) → FlightEnds w f p q → UsesSections p q
flight_ends_uses w f p q s =
    let way = back_in (last_or None s.after.tries) in
    let es = sections_of s.answer ++ end_event s.after (last_or None s.after.tries) in
    let keeps = landing_keeps s.after way (entering (entries_back way) (noting es p.desk)) in
    uses_so p q (landing s.after way (entering (entries_back way) (noting es p.desk))) es s.desk keeps.0 (ends_use w.answers p.core q.core f.flight f.request s.after s.answer s.finishes.to s.left s.paid)

flight_falls_uses : (f : Flying) (p q : Stand) → FlightFalls f p q → UsesSections p q
flight_falls_uses f p q s =
    let same : q.core.view.left ≡ p.core.view.left = ap (λ (c : Core). c.view.left) s.lands.after in
    uses_so p q p.desk [] s.desk (sym (append-nil p.desk.events)) (omega (arith, same))

after_uses : (Stays Ends : Stand → Stand → Type 0) → ((a b : Stand) → Stays a b → UsesSections a b) → ((a b : Stand) → Ends a b → UsesSections a b) → (n : ℕ) (p q : Stand) → After n Stays Ends p q → UsesSections p q
after_uses Stays Ends stay done zero p q to = done p q to
after_uses Stays Ends stay done (suc n) p q to = uses_on p to.0 q (stay p to.0 to.1) (after_uses Stays Ends stay done n to.0 q to.2)

short_uses : (n : ℕ) (p q : Stand) → IsShort n p q → UsesSections p q
short_uses n p q h = subst (UsesSections p) (sym h.1) (uses_none p)

taken_uses : (f : Flying) (p q : Stand) (d : DeskView) → TakesFlying f p.desk d → UsesSections (at_desk d p) q → UsesSections p q
taken_uses f p q d t g = record { events = g.events; noted = g.noted ∙ ap (λ (z : DeskView). z.events ++ g.events) t.is; used = g.used }

goes_uses : (w : Means) (c : DeskCall) (p q : Stand) → IsLaneCall c → needs c ≤ p.core.view.left → GoesTo w c p q → UsesSections p q
goes_uses w (submit r) p q lane enough to =
    let left : q.core.view.left ≡ p.core.view.left - 1 = ap (λ (c : Core). c.view.left) to.submits.view in
    let es : List Event = section to.made.note ∷ try_event to.after to.made ∷ [] in
    let keeps = placing_keeps p.core.lane to.after to.made.end (noting es p.desk) in
    uses_so p q (placing p.core.lane to.after to.made.end (noting es p.desk)) es to.desk keeps.0 (omega (arith, left, enough))
goes_uses w (finish f) p q lane enough to = taken_uses f p q to.1.desk to.1.takes (after_uses (FlightStays w f) (FlightEnds w f) (flight_stays_uses w f) (flight_ends_uses w f) to.0 (at_desk to.1.desk p) q to.1.goes)
goes_uses w (change ctrl o) p q lane enough to = after_uses (ChangeStays w ctrl o) (ChangeEnds w ctrl o) (change_stays_uses w ctrl o) (change_ends_uses w ctrl o) to.0 p q to.1
goes_uses w (add gift) p q lane enough to = absurd lane
goes_uses w (remove ctrl) p q lane enough to = absurd lane
goes_uses w (set_policy policy) p q lane enough to = absurd lane
goes_uses w reap p q lane enough to = absurd lane

stop_uses : (w : Means) (c : DeskCall) (p q : Stand) → IsLaneCall c → StopTo w c p q → UsesSections p q
stop_uses w (submit r) p q lane to = short_uses 1 p q to
stop_uses w (finish f) p q lane to = taken_uses f p q to.1.desk to.1.takes (after_uses (FlightStays w f) (FlightFalls f) (flight_stays_uses w f) (flight_falls_uses f) to.0 (at_desk to.1.desk p) q to.1.goes)
stop_uses w (change ctrl o) p q lane to = after_uses (ChangeStays w ctrl o) (IsShort 1) (change_stays_uses w ctrl o) (short_uses 1) to.0 p q to.1
stop_uses w (add gift) p q lane to = absurd lane
stop_uses w (remove ctrl) p q lane to = absurd lane
stop_uses w (set_policy policy) p q lane to = absurd lane
stop_uses w reap p q lane to = absurd lane

pub calls_use : (w : Means) (cs : List DeskCall) (p q : Stand) → AllByRecursion IsLaneCall cs → CallsTo w cs p q → UsesSections p q
calls_use w [] p q lane is = subst (UsesSections p) (sym is) (uses_none p)
calls_use w (c ∷ cs) p q lane to = uses_on p to.0 q (goes_uses w c p to.0 lane.0 to.1.enough to.1.goes) (calls_use w cs to.0 q lane.1 to.2)

all_before : (cs ds : List DeskCall) → AllByRecursion IsLaneCall (cs ++ ds) → AllByRecursion IsLaneCall cs × AllByRecursion IsLaneCall ds
all_before [] ds all = (tt, all)
all_before (c ∷ cs) ds all = let more = all_before cs ds all.1 in ((all.0, more.0), more.1)

pub stops_use : (w : Means) (cs : List DeskCall) (p q : Stand) → AllByRecursion IsLaneCall cs → StopsTo w cs p q → UsesSections p q
stops_use w cs p q lane h =
    let all = all_before h.before (h.stopped ∷ h.behind) (subst (AllByRecursion IsLaneCall) h.split lane) in
    uses_on p h.mid q (calls_use w h.before p h.mid all.0 h.done) (stop_uses w h.stopped h.mid q all.1.0 h.stops)

nothing_uses : (p q : Stand) → DoesNothing p q → UsesSections p q
nothing_uses p q is = subst (UsesSections p) (sym is) (uses_none p)

flight_drops_uses : (f : Flying) (p q : Stand) → FlightDrops f p q → UsesSections p q
flight_drops_uses f p q s =
    let same : q.core.view.left ≡ p.core.view.left = ap (λ (c : Core). c.view.left) s.lands.after in
    uses_so p q p.desk [] s.desk (sym (append-nil p.desk.events)) (omega (arith, same))

break_uses : (w : Means) (c : DeskCall) (p q : Stand) → IsLaneCall c → BreakTo w c p q → UsesSections p q
break_uses w (submit r) p q lane to = nothing_uses p q to
break_uses w (finish f) p q lane to = taken_uses f p q to.1.desk to.1.takes (after_uses (FlightStays w f) (FlightDrops f) (flight_stays_uses w f) (flight_drops_uses f) to.0 (at_desk to.1.desk p) q to.1.goes)
break_uses w (change ctrl o) p q lane to = after_uses (ChangeStays w ctrl o) DoesNothing (change_stays_uses w ctrl o) nothing_uses to.0 p q to.1
break_uses w (add gift) p q lane to = absurd lane
break_uses w (remove ctrl) p q lane to = absurd lane
break_uses w (set_policy policy) p q lane to = absurd lane
break_uses w reap p q lane to = absurd lane

pub breaks_use : (w : Means) (cs : List DeskCall) (p q : Stand) → AllByRecursion IsLaneCall cs → BreaksTo w cs p q → UsesSections p q
breaks_use w cs p q lane h =
    let all = all_before h.before (h.broken ∷ h.behind) (subst (AllByRecursion IsLaneCall) h.split lane) in
    uses_on p h.mid q (calls_use w h.before p h.mid all.0 h.done) (break_uses w h.broken h.mid q all.1.0 h.breaks)
