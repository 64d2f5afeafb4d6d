-- A finish of a flight is the plain run's.
use Rattle.std.proofs.Common.{◌≡◌, ℕ, ◌+◌, ◌-◌, Bool, true, false, List, [], ◌∷◌, ◌++◌, length, map, get_or, set, Option, Some, None, option_map, refl, sym, ap, ◌∙◌, subst, arith, if◌then◌else◌}
use Rattle.std.specs.List.{last_or, list_any}
use Rattle.std.proofs.lemmas.List.{length-map}
use Rattle.mp_script.specs.Distinct.{IsDistinct}
use Rattle.mp_words.specs.declared.answers.Answer.{Answer}
use Rattle.mp_words.specs.declared.flight.Flight.{Flight}
use Rattle.mp_words.specs.declared.row.Row.{Row}
use Rattle.mp_words.specs.declared.note.Note.{Note}
use Rattle.mp_words.specs.declared.entry.RowEntry.{RowEntry}
use Rattle.mp_words.specs.declared.op.Op.TheVariants as op
use Rattle.mp_words.specs.declared.op.Maker.{Maker}
use Rattle.mp_words.specs.declared.op.Maker.TheVariants.{Hop}
use Rattle.mp_words.specs.declared.trying.Try.{Try}
use Rattle.mp_words.specs.declared.trying.Back.{Back}
use Rattle.mp_words.specs.declared.trying.Back.TheVariants as back
use Rattle.mp_words.specs.declared.trying.Outcome.TheVariants as outcome
use Rattle.mp_words.specs.Answers.{answer_for}
use Rattle.mp_words.specs.Effect.{the_slots, clears_of, cleared}
use Rattle.mp_words.specs.Request.{Tried, Asked, tried_of, asked_of, ended_try, attempts_of, outcome_of}
use Rattle.mp_words.specs.RequestView.{RequestView}
use Rattle.mp_record.specs.declared.event.Event.TheVariants as event
use Rattle.mp_status.specs.declared.class.Class.{Class}
use Rattle.mp_status.specs.declared.class.Class.TheVariants as class
use Rattle.mp_status.specs.Hop.{hop_statuses as statuses_from, class_of_hop}
use Rattle.mp_core.specs.declared.view.Seen.{Seen}
use Rattle.mp_core.specs.Core.{Core, stepped}
use Rattle.mp_core.specs.Memory.{Memory, row_at, entered_in, left_in, landed_in}
use Rattle.mp_core.specs.Views.{is_flight, landed, unheld, has_flight}
use Rattle.mp_core.specs.Reads.{with_section, section_in}
use Rattle.mp_core.specs.Kinds.{entry_of}
use Rattle.mp_change.specs.declared.change.ChangeEnd.TheVariants as end
use Rattle.mp_change.specs.declared.pending.PendingEnd.{PendingEnd}
use Rattle.mp_change.specs.declared.pending.PendingEnd.TheVariants as pending
use Rattle.mp_change.specs.Clears.{cleared_upto_in}
use Rattle.mp_change.specs.Pending.{MarksPending, dropped, pending_seen, pending_view, pending_in}
use Rattle.mp_submit.specs.declared.finish.Finished.{Finished}
use Rattle.mp_submit.specs.declared.finish.Finished.TheVariants as finished
use Rattle.mp_submit.specs.Finishes.{Finishes, FinishTo, FailsOver, Ended, six_of, statuses_of, hop_of, back_of}
use Rattle.mp_legal.specs.PlainFinish as plain
use Rattle.mp_legal.specs.PlainLine.{flights_of}
use Rattle.mp_legal.specs.PlainState.{request_of, with_tries}
use Rattle.mp_legal.specs.Stepped.{Stepped}
use Rattle.mp_legal.specs.ToldCalls.{IsStep, listed_back, back_in, units_of, with_end, end_event}
use Rattle.mp_legal.specs.ToldState.{Beside, IsAt, state_in, lasts_by}
use Rattle.mp_legal.proofs.Cleared.{clears_words, cleared_length, lasts_cleared, clears_start, pending_twice}
use Rattle.mp_legal.proofs.ChangeStep.{after_end, entry_words, entry_at, entry_left, entry_start}
use Rattle.mp_legal.proofs.EndedTries.{six_taken, told_tries, last_changed, length_changed, sent_last}
use Rattle.mp_legal.proofs.Landing.{others, landed_at}

-- what a run has after a flight has ended and its request came back so, or didn't
abbrev with_back : Flight → RequestView → Option Back → Beside → Beside
with_back f after way x = record x {
  flights = set x.flights f.lane (others f.req (get_or x.flights f.lane []));
  waiting = listed_back after.id way x.waiting;
  requests = with_tries after.id (asked_of after).tries x.requests;
}

-- the flight is one of the pass, and no other of its flights is of its request
record Flies (a : Core) (f : Flight) (x : Beside) : Type 0 where
  lane : f.lane ≡ a.lane
  there : list_any (is_flight f) (get_or x.flights f.lane []) ≡ true
  once : IsDistinct (map (λ (g : Flight). g.req) (get_or x.flights f.lane []))

-- what the request tells after its try has ended
record Tells (f : Flight) (after : RequestView) (tries : List Tried) (statuses : List ℕ) (way : Option Back) : Type 0 where
  id : after.id ≡ f.req
  tries_are : (asked_of after).tries ≡ plain.ended_tries statuses way tries
  number : length tries ≡ length after.tries

-- a pass that stands where the section was left, and a flight that ends there
record Stands (units : ℕ) (a c : Core) : Type 0 where
  left : c.view.left ≡ a.view.left - units
  lane : c.lane ≡ a.lane
  home : c.home ≡ a.home
  others_stay : c.others ≡ a.others
  keeping : c.view.keeping.start ≡ a.view.keeping.start

ended_step : (units : ℕ) (a c : Core) (m m1 : Memory) (x : Beside) (f : Flight) (after : RequestView) (tries : List Tried) (statuses : List ℕ) (way : Option Back)
    → IsAt c m1 x → Flies c f x → Tells f after tries statuses way → Stands units a c
    → plain.after_back f way (plain.landed f (plain.ended_tries statuses way tries) (state_in m x)) ≡ state_in (landed_in f.slot m1) (with_back f after way x)
    → IsStep (plain.ended (state_in m x) f tries statuses way) units a (stepped (landed f) (landed_in f.slot) c) (with_back f after way x) (plain.entries_of way) (event.Fin after.id (length after.tries) (six_of statuses) (length statuses) way ∷ [])
ended_step units a c m m1 x f after tries statuses way k fl t st state = record {
  memory = landed_in f.slot m1;
  at = landed_at c m1 x (with_back f after way x) f k fl.lane fl.there fl.once refl;
  state = state;
  rows = refl;
  orders = refl;
  events = λ i. event.Fin (sym t.id i) (t.number i) (six_of statuses) (length statuses) way ∷ [];
  left = st.left;
  lane = st.lane;
  home = st.home;
  others = st.others_stay;
  keeping = st.keeping;
}

-- the last status completes
done_step : (a : Core) (m : Memory) (x : Beside) (f : Flight) (after : RequestView) (tries : List Tried) (statuses : List ℕ) → IsAt a m x → Flies a f x → Tells f after tries statuses None
    → IsStep (plain.ended (state_in m x) f tries statuses None) 0 a (stepped (landed f) (landed_in f.slot) a) (with_back f after None x) [] (event.Fin after.id (length after.tries) (six_of statuses) (length statuses) None ∷ [])
done_step a m x f after tries statuses k fl t =
    ended_step 0 a a m m x f after tries statuses None k fl t (record { left = omega arith; lane = refl; home = refl; others_stay = refl; keeping = refl })
    (λ i. record (state_in (landed_in f.slot m) (with_back f after None x)) { requests = with_tries (sym t.id i) (sym t.tries_are i) x.requests })

-- the words after a clearing of a slot in a section on a side
abbrev drop_words : ℕ → ℕ → Memory → Memory
drop_words side slot m = left_in side (record (entered_in side m) { currents = cleared the_slots slot m.currents })

-- what a pass knows after a clearing of a slot in a section
abbrev after_drop : Note → Seen → ℕ → Core → Core
after_drop n seen slot a = record a { view = with_section n seen (dropped slot a.view); told = option_map (section_in n.side (cleared_upto_in slot 8)) a.told }

drop_at : (a : Core) (m : Memory) (x : Beside) (n : Note) (seen : Seen) (slot : ℕ) → IsAt a m x → IsAt (after_drop n seen slot a) (drop_words n.side slot m) x
drop_at a m x n seen slot k = record {
  told = ap (option_map (section_in n.side (cleared_upto_in slot 8))) k.told ∙ ap (λ (w : Memory). Some (left_in n.side w)) (clears_words the_slots slot (entered_in n.side m) k.currents);
  rows = k.rows;
  depths = k.depths;
  currents = cleared_length the_slots slot m.currents ∙ k.currents;
  lanes = k.lanes;
  lane = k.lane;
  closed = refl;
  flights = k.flights;
  counted = k.counted;
}

-- the request comes back without pending
unset_step : (a : Core) (m : Memory) (x : Beside) (n : Note) (seen : Seen) (f : Flight) (after : RequestView) (tries : List Tried) (statuses : List ℕ) → IsAt a m x → Flies a f x → Tells f after tries statuses (Some back.Unset)
    → IsStep (plain.ended (state_in m x) f tries statuses (Some back.Unset)) 1 a (stepped (landed f) (landed_in f.slot) (after_drop n seen f.slot a)) (with_back f after (Some back.Unset) x) [] (event.Fin after.id (length after.tries) (six_of statuses) (length statuses) (Some back.Unset) ∷ [])
unset_step a m x n seen f after tries statuses k fl t =
    ended_step 1 a (after_drop n seen f.slot a) m (drop_words n.side f.slot m) x f after tries statuses (Some back.Unset) (drop_at a m x n seen f.slot k) (record { lane = fl.lane; there = fl.there; once = fl.once }) t
    (record { left = refl; lane = refl; home = refl; others_stay = refl; keeping = clears_start the_slots f.slot (record (a.view) { keeping = unheld a.view.keeping }) })
    (λ i. record (state_in (landed_in f.slot (drop_words n.side f.slot m)) (with_back f after (Some back.Unset) x)) {
      lasts = lasts_cleared m.order.policy the_slots f.slot m.currents i;
      waiting = x.waiting ++ sym t.id i ∷ [];
      requests = with_tries (sym t.id i) (sym t.tries_are i) x.requests;
    })

-- the request comes back with pending set
set_step : (a : Core) (m : Memory) (x : Beside) (n : Note) (seen : Seen) (f : Flight) (after : RequestView) (tries : List Tried) (statuses : List ℕ) (row : Row) (by : Maker) → IsAt a m x → Flies a f x → Tells f after tries statuses (Some (back.Set (entry_of f.slot row op.Pending by)))
    → IsStep (plain.ended (state_in m x) f tries statuses (Some (back.Set (entry_of f.slot row op.Pending by)))) 1 a (stepped (landed f) (landed_in f.slot) (after_end n seen (end.Changed (entry_of f.slot row op.Pending by)) a)) (with_back f after (Some (back.Set (entry_of f.slot row op.Pending by))) x)
    (entry_of f.slot row op.Pending by ∷ []) (event.Fin after.id (length after.tries) (six_of statuses) (length statuses) (Some (back.Set (entry_of f.slot row op.Pending by))) ∷ [])
set_step a m x n seen f after tries statuses row by k fl t =
    let e : RowEntry = entry_of f.slot row op.Pending by in
    let lasts : cleared the_slots f.slot (cleared (clears_of op.Pending e.row) f.slot (lasts_by m.order.policy m.currents)) ≡ lasts_by m.order.policy (cleared (clears_of op.Pending e.row) f.slot m.currents) =
    pending_twice f.slot e.row (lasts_by m.order.policy m.currents) ∙ lasts_cleared m.order.policy (clears_of op.Pending e.row) f.slot m.currents in
    ended_step 1 a (after_end n seen (end.Changed e) a) m (entry_words n.side e m) x f after tries statuses (Some (back.Set e)) (entry_at a m x n seen e k) (record { lane = fl.lane; there = fl.there; once = fl.once }) t
    (record { left = entry_left e a.view; lane = refl; home = refl; others_stay = refl; keeping = entry_start e a.view })
    (λ i. record (state_in (landed_in f.slot (entry_words n.side e m)) (with_back f after (Some (back.Set e)) x)) {
      lasts = lasts i;
      waiting = x.waiting ++ sym t.id i ∷ [];
      requests = with_tries (sym t.id i) (sym t.tries_are i) x.requests;
    })

-- what the law says, over how the last try stands
abbrev StepBy : Stepped → Core → Core → Flight → RequestView → Beside → Option Try → Type 0
StepBy step a b f after x o = IsStep step (units_of (back_in o)) a b
    (record x {
      flights = set x.flights f.lane (others f.req (get_or x.flights f.lane []));
      waiting = listed_back after.id (back_in o) x.waiting;
      requests = with_tries after.id (asked_of after).tries x.requests;
    })
    (plain.entries_of (back_in o)) (end_event after o)

-- the last try after the finish
last_after : (before after : RequestView) (statuses : List ℕ) (way : Option Back) (t : Try) → Ended before after statuses way → last_or None before.tries ≡ Some t
    → last_or None after.tries ≡ Some (ended_try (six_of statuses) (length statuses) way t)
last_after before after statuses way t e is =
    ap (last_or None) e.tries ∙ last_changed (ended_try (six_of statuses) (length statuses) way) before.tries ∙ ap (option_map (ended_try (six_of statuses) (length statuses) way)) is

tells : (before after : RequestView) (f : Flight) (statuses : List ℕ) (way : Option Back) → Ended before after statuses way → f.req ≡ before.id → Tells f after (asked_of before).tries statuses way
tells before after f statuses way e is = record {
  id = e.id ∙ sym is;
  tries_are = ap (map tried_of) e.tries ∙ told_tries (six_of statuses) (length statuses) statuses way before.tries (six_taken statuses e.few);
  number = length-map before.tries tried_of ∙ sym (length_changed (ended_try (six_of statuses) (length statuses) way) before.tries) ∙ ap length (sym e.tries);
}

-- what the finish is a step of
abbrev step_of : Core → Memory → Beside → Flight → RequestView → List ℕ → Class → Stepped
step_of a m x f before statuses c = plain.ended (state_in m x) f (asked_of before).tries statuses (plain.back_of a.lane (state_in m x) f (length (asked_of before).tries) c)

some_back : (p q : Back) → Some p ≡ Some q → p ≡ q
some_back p q e = cc

conclude : (step want : Stepped) (a b c : Core) (f : Flight) (before after : RequestView) (x : Beside) (statuses : List ℕ) (way : Option Back) (t : Try) → step ≡ want → b ≡ c → Ended before after statuses way → last_or None before.tries ≡ Some t
    → StepBy want a c f after x (Some (ended_try (six_of statuses) (length statuses) way t)) → StepBy step a b f after x (last_or None after.tries)
conclude step want a b c f before after x statuses way t steps lands e last h =
    subst (λ (y : Stepped). StepBy y a b f after x (last_or None after.tries)) (sym steps)
    (subst (λ (y : Core). StepBy want a y f after x (last_or None after.tries)) (sym lands)
    (subst (StepBy want a c f after x) (sym (last_after before after statuses way t e last)) h))

-- what a pass knows after setting pending ended so
abbrev after_pending : Note → Seen → ℕ → PendingEnd → Core → Core
after_pending n seen slot ending a = record a { view = with_section n (pending_seen slot ending seen) (pending_view slot ending a.view); told = option_map (section_in n.side (pending_in slot ending)) a.told }

-- a failover by an ANA status, by the row of the words
by_ana : (a c b : Core) (m : Memory) (x : Beside) (f : Flight) (before after : RequestView) (statuses : List ℕ) (way : Back) (n : Note) (ending : PendingEnd) (t : Try) → IsAt a m x → Flies a f x → f.req ≡ before.id → last_or None before.tries ≡ Some t
    → MarksPending f.slot (hop_of a.lane before) a c ending n → back_of ending ≡ Some way → b ≡ stepped (landed f) (landed_in f.slot) c → Ended before after statuses (Some way)
    → StepBy (step_of a m x f before statuses (class.Failover true)) a b f after x (last_or None after.tries)
by_ana a c b m x f before after statuses way n ending t k fl req last marks came lands e = by (row_at m f.slot).ana refl
  where
    set_or : Bool → PendingEnd
    set_or o = if o then pending.Set (entry_of f.slot (row_at m f.slot) op.Pending (hop_of a.lane before)) else pending.NoAna (row_at m f.slot)

    step_or : Bool → Stepped
    step_or o = plain.ended (state_in m x) f (asked_of before).tries statuses (Some (if o then back.Set (entry_of f.slot (row_at m f.slot) op.Pending (Hop a.lane f.req (length (asked_of before).tries))) else back.Unset))

    by : (o : Bool) → (row_at m f.slot).ana ≡ o → StepBy (step_of a m x f before statuses (class.Failover true)) a b f after x (last_or None after.tries)
    by true on =
        let entry : RowEntry = entry_of f.slot (row_at m f.slot) op.Pending (hop_of a.lane before) in
        let is : ending ≡ pending.Set entry = marks.told m k.told ∙ ap set_or on in
        let way_is : way ≡ back.Set entry = some_back way (back.Set entry) (sym came ∙ ap back_of is) in
        let maker : Hop a.lane f.req (length (asked_of before).tries) ≡ hop_of a.lane before = λ i. Hop a.lane (req i) (length-map before.tries tried_of i) in
        let steps : step_of a m x f before statuses (class.Failover true) ≡ plain.ended (state_in m x) f (asked_of before).tries statuses (Some (back.Set entry)) =
        ap step_or on ∙ ap (λ (k : Maker). plain.ended (state_in m x) f (asked_of before).tries statuses (Some (back.Set (entry_of f.slot (row_at m f.slot) op.Pending k)))) maker in
        let e2 : Ended before after statuses (Some (back.Set entry)) = subst (λ (w : Back). Ended before after statuses (Some w)) way_is e in
        let stands : b ≡ stepped (landed f) (landed_in f.slot) (after_pending n marks.seen f.slot (pending.Set entry) a) =
        lands ∙ ap (stepped (landed f) (landed_in f.slot)) (marks.view ∙ ap (λ (z : PendingEnd). after_pending n marks.seen f.slot z a) is) in
        conclude (step_of a m x f before statuses (class.Failover true)) (plain.ended (state_in m x) f (asked_of before).tries statuses (Some (back.Set entry))) a b (stepped (landed f) (landed_in f.slot) (after_pending n marks.seen f.slot (pending.Set entry) a)) f before after x statuses (Some (back.Set entry)) t steps stands e2 last
        (set_step a m x n marks.seen f after (asked_of before).tries statuses (row_at m f.slot) (hop_of a.lane before) k fl (tells before after f statuses (Some (back.Set entry)) e2 req))
    by false off =
        let is : ending ≡ pending.NoAna (row_at m f.slot) = marks.told m k.told ∙ ap set_or off in
        let way_is : way ≡ back.Unset = some_back way back.Unset (sym came ∙ ap back_of is) in
        let steps : step_of a m x f before statuses (class.Failover true) ≡ plain.ended (state_in m x) f (asked_of before).tries statuses (Some back.Unset) = ap step_or off in
        let e2 : Ended before after statuses (Some back.Unset) = subst (λ (w : Back). Ended before after statuses (Some w)) way_is e in
        let stands : b ≡ stepped (landed f) (landed_in f.slot) (after_pending n marks.seen f.slot (pending.NoAna (row_at m f.slot)) a) =
        lands ∙ ap (stepped (landed f) (landed_in f.slot)) (marks.view ∙ ap (λ (z : PendingEnd). after_pending n marks.seen f.slot z a) is) in
        conclude (step_of a m x f before statuses (class.Failover true)) (plain.ended (state_in m x) f (asked_of before).tries statuses (Some back.Unset)) a b (stepped (landed f) (landed_in f.slot) (after_drop n marks.seen f.slot a)) f before after x statuses (Some back.Unset) t steps stands e2 last
        (unset_step a m x n marks.seen f after (asked_of before).tries statuses k fl (tells before after f statuses (Some back.Unset) e2 req))

-- a failover, by its class
by_class : (a c b : Core) (m : Memory) (x : Beside) (f : Flight) (before after : RequestView) (statuses : List ℕ) (way : Back) (n : Note) (t : Try) (kind : Class) → IsAt a m x → Flies a f x → f.req ≡ before.id → last_or None before.tries ≡ Some t
    → FailsOver kind a c f (hop_of a.lane before) n way → b ≡ stepped (landed f) (landed_in f.slot) c → Ended before after statuses (Some way)
    → StepBy (step_of a m x f before statuses kind) a b f after x (last_or None after.tries)
by_class a c b m x f before after statuses way n t (class.Failover true) k fl req last fails lands e = by_ana a c b m x f before after statuses way n fails.0 t k fl req last fails.1 fails.2 lands e
by_class a c b m x f before after statuses way n t (class.Failover false) k fl req last fails lands e =
    let e2 : Ended before after statuses (Some back.Unset) = subst (λ (w : Back). Ended before after statuses (Some w)) fails.1 e in
    conclude (step_of a m x f before statuses (class.Failover false)) (plain.ended (state_in m x) f (asked_of before).tries statuses (Some back.Unset)) a b (stepped (landed f) (landed_in f.slot) (after_drop n a.view.seen f.slot a)) f before after x statuses (Some back.Unset) t refl (lands ∙ ap (stepped (landed f) (landed_in f.slot)) fails.0.view) e2 last
    (unset_step a m x n a.view.seen f after (asked_of before).tries statuses k fl (tells before after f statuses (Some back.Unset) e2 req))
by_class a c b m x f before after statuses way n t class.Complete k fl req last fails lands e = absurd fails
by_class a c b m x f before after statuses way n t class.Retry k fl req last fails lands e = absurd fails

not_moved : (o : Bool) (row r : Row) (e : RowEntry) → pending.Moved row ≡ (if o then pending.Set e else pending.NoAna r) → ⊥
not_moved true row r e is = cc
not_moved false row r e is = cc

-- each answer
by_answer : (answers : List Answer) (a b : Core) (m : Memory) (x : Beside) (f : Flight) (before after : RequestView) (answer : Finished) (t : Try) → IsAt a m x → Flies a f x → f.req ≡ before.id → last_or None before.tries ≡ Some t → FinishTo answers a b f before after answer
    → StepBy (step_of a m x f before (statuses_of answers before) (class_of_hop (statuses_of answers before))) a b f after x (last_or None after.tries)
by_answer answers a b m x f before after (finished.Done status) t k fl req last h =
    let statuses : List ℕ = statuses_of answers before in
    conclude (step_of a m x f before statuses (class_of_hop statuses)) (plain.ended (state_in m x) f (asked_of before).tries statuses None) a b (stepped (landed f) (landed_in f.slot) a) f before after x statuses None t (ap (step_of a m x f before statuses) h.0) h.2.after h.3 last
    (done_step a m x f after (asked_of before).tries statuses k fl (tells before after f statuses None h.3 req))
by_answer answers a b m x f before after (finished.Back n) t k fl req last h =
    by_class a h.0 b m x f before after (statuses_of answers before) h.1 n t (class_of_hop (statuses_of answers before)) k fl req last h.2 h.3.after h.4
by_answer answers a b m x f before after (finished.Moved g row n) t k fl req last h =
    absurd (not_moved (row_at m f.slot).ana row (row_at m f.slot) (entry_of f.slot (row_at m f.slot) op.Pending (hop_of a.lane before)) (h.2.told m k.told))

pub finish_step : (answers : List Answer) (a b : Core) (f : Flight) (before after : RequestView) (answer : Finished) (m : Memory) (x : Beside) → Finishes answers a b f before after answer → IsAt a m x → f.req ≡ before.id → f.lane ≡ a.lane → has_flight f a.view ≡ true
    → outcome_of (last_or None (asked_of before).tries) ≡ outcome.Sent → IsDistinct (map (λ (g : Flight). g.req) (flights_of a.lane (state_in m x))) → request_of (state_in m x) before.id ≡ asked_of before
    → IsStep (plain.finished answers a.lane (state_in m x) f) (units_of (back_in (last_or None after.tries))) a b (with_end f after x) (plain.entries_of (back_in (last_or None after.tries))) (end_event after (last_or None after.tries))
finish_step answers a b f before after answer m x h k req lane flies sent once asked =
    let here : a.view.flights ≡ get_or x.flights f.lane [] = k.flights ∙ ap (λ l. get_or x.flights l []) (sym lane) in
    let fl : Flies a f x = record {
      lane = lane;
      there = ap (list_any (is_flight f)) (sym here) ∙ flies;
      once = subst (λ l. IsDistinct (map (λ (g : Flight). g.req) (get_or x.flights l []))) (sym lane) once;
    } in
    let last = sent_last before.tries sent in
    let tries : (request_of (state_in m x) f.req).tries ≡ (asked_of before).tries = ap (λ r. (request_of (state_in m x) r).tries) req ∙ ap (λ (q : Asked). q.tries) asked in
    let steps : plain.finished answers a.lane (state_in m x) f ≡ plain.finished_with a.lane (state_in m x) f (asked_of before).tries (statuses_of answers before) =
    λ i. plain.finished_with a.lane (state_in m x) f (tries i) (statuses_from (answer_for answers (req i)) (attempts_of (tries i) + 1)) in
    subst (λ (y : Stepped). StepBy y a b f after x (last_or None after.tries)) (sym steps) (by_answer answers a b m x f before after answer last.0 k fl req last.1 h.to)
