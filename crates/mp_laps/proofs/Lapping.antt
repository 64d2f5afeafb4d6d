-- A lap from its calls.
use Rattle.std.proofs.Common.{◌≡◌, ◌∙◌, ℕ, ◌+◌, ◌-◌, Bool, true, false, List, [], ◌∷◌, ◌++◌, map, cond, length, Option, Some, None, option_map, refl, sym, ap, arith}
use Rattle.std.specs.List.{last_or, list_any}
use Rattle.mp_words.specs.declared.row.Row.{Row}
use Rattle.mp_words.specs.declared.near.Near.{Near}
use Rattle.mp_words.specs.declared.note.Note.{Note}
use Rattle.mp_words.specs.declared.flight.Flight.{Flight}
use Rattle.mp_words.specs.declared.answers.Answer.{Answer}
use Rattle.mp_words.specs.declared.trying.Try.{Try}
use Rattle.mp_words.specs.declared.trying.TryEnd.{TryEnd}
use Rattle.mp_words.specs.declared.trying.TryEnd.TheVariants as end
use Rattle.mp_words.specs.declared.trying.Outcome.TheVariants as outcome
use Rattle.mp_words.specs.declared.trying.Back.{Back}
use Rattle.mp_words.specs.declared.op.Maker.{Maker}
use Rattle.mp_words.specs.declared.op.Op.TheVariants as op
use Rattle.mp_words.specs.declared.entry.RowEntry.{RowEntry}
use Rattle.mp_words.specs.declared.path.Path.{Path}
use Rattle.mp_words.specs.Effect.{Clears, every_one, the_slots, none, clears_of}
use Rattle.mp_words.specs.Row.{is_available}
use Rattle.mp_words.specs.Request.{Tried, tried_of, outcome_of, asked_of}
use Rattle.mp_words.specs.RequestView.{RequestView}
use Rattle.mp_status.specs.declared.class.Class.{Class}
use Rattle.mp_status.specs.declared.class.Class.TheVariants as class
use Rattle.mp_status.specs.Hop.{class_of_hop}
use Rattle.mp_core.specs.declared.view.View.{View}
use Rattle.mp_core.specs.Core.{Core}
use Rattle.mp_core.specs.Memory.{Memory, row_at, landed_in}
use Rattle.mp_core.specs.Views.{is_flight, has_flight}
use Rattle.mp_core.specs.Kinds.{entry_of, Lands}
use Rattle.mp_change.specs.declared.change.ChangeEnd.{ChangeEnd}
use Rattle.mp_change.specs.declared.change.ChangeEnd.TheVariants as change
use Rattle.mp_change.specs.Changes.{end_view}
use Rattle.mp_change.specs.declared.pending.PendingEnd.{PendingEnd}
use Rattle.mp_change.specs.declared.pending.PendingEnd.TheVariants as pending
use Rattle.mp_change.specs.Clears.{clears_view}
use Rattle.mp_change.specs.Pending.{told_pending, pending_view}
use Rattle.mp_submit.specs.declared.submit.Submitted.{Submitted}
use Rattle.mp_submit.specs.declared.submit.Submitted.TheVariants as submitted
use Rattle.mp_submit.specs.declared.finish.Finished.TheVariants as finished
use Rattle.mp_submit.specs.Choice.{told_choice, end_with, paths_at}
use Rattle.mp_submit.specs.Submits.{Submits, answer_of, flights_of, open_try, submitted_in}
use Rattle.mp_submit.specs.Finishes.{Finishes, FailsOver, statuses_of, hop_of}
use Rattle.mp_plain.proofs.Worked.{sent_flies}
use Rattle.mp_laps.specs.declared.lap.LapEnd.TheVariants as lap
use Rattle.mp_laps.specs.OneLap.{OneLap}

last_map : (tries : List Try) (x : Try) (o : Option Tried) → last_or o (map tried_of (tries ++ x ∷ [])) ≡ Some (tried_of x)
last_map [] x o = refl
last_map (t ∷ ts) x o = last_map ts x (Some (tried_of t))

-- the end of a try whose answer is a flight
sent_end : (lane req : ℕ) (e : TryEnd) (f : Flight) → submitted.Sent f ≡ answer_of lane req e → (e ≡ end.Sent f.slot f.version) × (flights_of lane req e ≡ f ∷ [])
sent_end lane req (end.Sent slot version) f h =
    let is : f ≡ record { slot = slot; version = version; req = req; lane = lane } = inj f _ h in
    ((λ i. end.Sent (ap (λ (g : Flight). g.slot) (sym is) i) (ap (λ (g : Flight). g.version) (sym is) i)), ap (λ (g : Flight). g ∷ []) (sym is))
  where
    inj : (f g : Flight) → submitted.Sent f ≡ submitted.Sent g → f ≡ g
    inj f g e = cc
sent_end lane req end.Listed f h = absurd cc
sent_end lane req end.Failed f h = absurd cc

-- a request that was sent stands so
pub is_sent : (near : Near) (a b : Core) (before after : RequestView) (f : Flight) (made : Try) → Submits near a b before after (submitted.Sent f) made → outcome_of (last_or None (asked_of after).tries) ≡ outcome.Sent
is_sent near a b before after f made s =
    let ended : made.end ≡ end.Sent f.slot f.version = (sent_end a.lane before.id made.end f s.answer_is).0 in
    ap (λ (ts : List Try). outcome_of (last_or None (map tried_of ts))) s.tries ∙ ap outcome_of (last_map before.tries made None)
    ∙ ap (λ (t : Try). outcome_of (Some (tried_of t))) s.tried ∙ ap (λ e. outcome_of (Some (tried_of (open_try (length before.tries + 1) e made.note)))) ended

-- its flight is one more
pub flew_more : (near : Near) (a b : Core) (before after : RequestView) (f : Flight) (made : Try) → Submits near a b before after (submitted.Sent f) made → b.view.flights ≡ a.view.flights ++ f ∷ []
flew_more near a b before after f made s = ap (λ (c : Core). c.view.flights) s.view ∙ ap (λ (fs : List Flight). a.view.flights ++ fs) (sent_end a.lane before.id made.end f s.answer_is).1

-- its flight is on its way
pub flies : (near : Near) (a b : Core) (before after : RequestView) (f : Flight) (made : Try) → Submits near a b before after (submitted.Sent f) made → has_flight f b.view ≡ true
flies near a b before after f made s =
    let more : b.view.flights ≡ a.view.flights ++ f ∷ [] = ap (λ (c : Core). c.view.flights) s.view ∙ ap (λ (fs : List Flight). a.view.flights ++ fs) (sent_end a.lane before.id made.end f s.answer_is).1 in
    ap (list_any (is_flight f)) more ∙ sent_flies f a.view.flights

-- a finish by which nothing came back leaves the flight on its way
pub still_flies : (near : Near) (answers : List Answer) (a b c : Core) (before mid after : RequestView) (f g : Flight) (row : Row) (n : Note) (made : Try) → Submits near a b before mid (submitted.Sent f) made → Finishes answers b c f mid after (finished.Moved g row n) → has_flight g c.view ≡ true
still_flies near answers a b c before mid after f g row n made s h =
    let same : c.view.flights ≡ b.view.flights = ap (λ (x : Core). x.view.flights) h.to.2.view in
    (λ i. list_any (is_flight (h.to.1 i)) (same i)) ∙ flies near a b before mid f made s

-- the choice of a try that was sent
some_choice : (paths : List Path) (o : Option Path) (slot version : ℕ) → end.Sent slot version ≡ end_with paths o → (p : Path) × (o ≡ Some p) × (slot ≡ p.slot)
some_choice paths (Some p) slot version h = (p, refl, inj slot version p.slot p.row.version h)
  where
    inj : (a b c d : ℕ) → end.Sent a b ≡ end.Sent c d → a ≡ c
    inj a b c d e = cc
some_choice paths None slot version h = by (list_any (λ (p : Path). is_available p.row) paths) h
  where
    by : (b : Bool) → end.Sent slot version ≡ cond b end.Listed end.Failed → (p : Path) × (None ≡ Some p) × (slot ≡ p.slot)
    by true e = absurd cc
    by false e = absurd cc

told_after : (near : Near) (a b : Core) (before after : RequestView) (answer : Submitted) (made : Try) → Submits near a b before after answer made → (m : Memory) → a.told ≡ Some m → b.told ≡ Some (submitted_in near before.node m)
told_after near a b before after answer made s m e = ap (λ (c : Core). c.told) s.view ∙ ap (option_map (submitted_in near before.node)) e

-- the units after a submit
left_after : (near : Near) (a b : Core) (before after : RequestView) (answer : Submitted) (made : Try) → Submits near a b before after answer made → b.view.left ≡ a.view.left - 1
left_after near a b before after answer made s = ap (λ (c : Core). c.view.left) s.view

pub lap_done : (near : Near) (answers : List Answer) (a b c : Core) (before mid after : RequestView) (f : Flight) (made : Try) (status : ℕ) → Submits near a b before mid (submitted.Sent f) made → Finishes answers b c f mid after (finished.Done status) → OneLap near before.node a c (lap.Done status)
lap_done near answers a b c before mid after f made status s h =
    let l = h.to.2 in
    let first = left_after near a b before mid (submitted.Sent f) made s in
    let second : c.view.left ≡ b.view.left = ap (λ (x : Core). x.view.left) l.after in
    record {
      closed = ap (λ (x : Core). x.view.inside) l.after ∙ ap (λ (x : Core). x.view.inside) s.view;
      left = omega arith;
      told = λ m e.
          let ended : made.end ≡ end.Sent f.slot f.version = (sent_end a.lane before.id made.end f s.answer_is).0 in
          let p = some_choice (paths_at m) (told_choice near before.node m) f.slot f.version (sym ended ∙ s.told m e) in
          (p.0, p.1, ap (λ (x : Core). x.told) l.after ∙ (λ i. option_map (landed_in (p.2 i)) (told_after near a b before mid (submitted.Sent f) made s m e i)));
    }

pub lap_moved : (near : Near) (answers : List Answer) (a b c d : Core) (before mid after : RequestView) (f g : Flight) (row : Row) (n : Note) (made : Try) → Submits near a b before mid (submitted.Sent f) made → Finishes answers b c f mid after (finished.Moved g row n) → Lands c d g → OneLap near before.node a d lap.Moved
lap_moved near answers a b c d before mid after f g row n made s h l =
    let marks = h.to.2 in
    let first = left_after near a b before mid (submitted.Sent f) made s in
    let second : c.view.left ≡ b.view.left - 1 = ap (λ (x : Core). x.view.left) marks.view in
    let third : d.view.left ≡ c.view.left = ap (λ (x : Core). x.view.left) l.after in
    record {
      closed = ap (λ (x : Core). x.view.inside) l.after ∙ ap (λ (x : Core). x.view.inside) marks.view;
      left = omega arith;
      told = λ m e. never f.slot row (submitted_in near before.node m) (hop_of b.lane mid) (marks.told (submitted_in near before.node m) (told_after near a b before mid (submitted.Sent f) made s m e));
    }
  where
    which : (x : Bool) (found : Row) (entry : RowEntry) (r : Row) → pending.Moved found ≡ cond x (pending.Set entry) (pending.NoAna r) → ⊥
    which true found entry r e = cc
    which false found entry r e = cc

    never : (slot : ℕ) (found : Row) (m : Memory) (by : Maker) → pending.Moved found ≡ told_pending slot by m → ⊥
    never slot found m by e = which (row_at m slot).ana found (entry_of slot (row_at m slot) op.Pending by) (row_at m slot) e

-- clearing takes no unit
clears_left : (k : Clears) (slot : ℕ) (v : View) → (clears_view k slot v).left ≡ v.left
clears_left every_one slot v = refl
clears_left the_slots slot v = refl
clears_left none slot v = refl

pub end_left : (e : ChangeEnd) (v : View) → (end_view e v).left ≡ v.left
end_left (change.Changed e) v = clears_left (clears_of e.op e.row) e.slot _
end_left (change.Refused slot row) v = refl
end_left (change.NotArmed slot row) v = refl
end_left (change.NoPath order) v = refl
end_left (change.Moved slot row) v = refl

pending_left : (slot : ℕ) (e : PendingEnd) (v : View) → (pending_view slot e v).left ≡ v.left
pending_left slot (pending.Set e) v = clears_left (clears_of e.op e.row) e.slot _
pending_left slot (pending.NoAna row) v = refl
pending_left slot (pending.Moved row) v = refl

fails_closed : (k : Class) (b c : Core) (f : Flight) (by : Maker) (n : Note) (way : Back) → FailsOver k b c f by n way → c.view.inside ≡ None
fails_closed (class.Failover true) b c f by n way h = ap (λ (x : Core). x.view.inside) h.1.view
fails_closed (class.Failover false) b c f by n way h = ap (λ (x : Core). x.view.inside) h.0.view
fails_closed class.Complete b c f by n way h = absurd h
fails_closed class.Retry b c f by n way h = absurd h

fails_left : (k : Class) (b c : Core) (f : Flight) (by : Maker) (n : Note) (way : Back) → FailsOver k b c f by n way → c.view.left ≡ b.view.left - 1
fails_left (class.Failover true) b c f by n way h = ap (λ (x : Core). x.view.left) h.1.view ∙ ap (λ (x : ℕ). x - 1) (pending_left f.slot h.0 b.view)
fails_left (class.Failover false) b c f by n way h = ap (λ (x : Core). x.view.left) h.0.view
fails_left class.Complete b c f by n way h = absurd h
fails_left class.Retry b c f by n way h = absurd h

pub lap_back : (near : Near) (answers : List Answer) (a b c : Core) (before mid after : RequestView) (f : Flight) (n : Note) (made : Try) → Submits near a b before mid (submitted.Sent f) made → Finishes answers b c f mid after (finished.Back n) → OneLap near before.node a c lap.Back
lap_back near answers a b c before mid after f n made s h =
    let over = h.to.2 in
    let first = left_after near a b before mid (submitted.Sent f) made s in
    let second = fails_left (class_of_hop (statuses_of answers mid)) b h.to.0 f (hop_of b.lane mid) n h.to.1 over in
    let third : c.view.left ≡ h.to.0.view.left = ap (λ (x : Core). x.view.left) h.to.3.after in
    record {
      closed = ap (λ (x : Core). x.view.inside) h.to.3.after ∙ fails_closed (class_of_hop (statuses_of answers mid)) b h.to.0 f (hop_of b.lane mid) n h.to.1 over;
      left = omega arith;
      told = λ m e. tt;
    }
