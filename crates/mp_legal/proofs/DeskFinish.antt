-- A finish of a desk is the plain run's.
use Rattle.std.proofs.Common.{◌≡◌, ℕ, ◌+◌, ◌≤◌, ◌==◌, ◌||◌, not, Bool, true, false, cond, List, [], ◌∷◌, ◌++◌, map, filter, count_by, get_or, set, length, take, option_map, Option, Some, None, refl, sym, ap, ◌∙◌, subst, arith, append_assoc, eq-eqb, get_or-set_same, get_or-set_other, if◌then◌else◌}
use Rattle.std.specs.List.{AllByRecursion, last_or, list_any}
use Rattle.std.proofs.lemmas.Bool.Decides.{nat_tests}
use Rattle.std.proofs.lemmas.List.{map-append}
use Rattle.std.proofs.lemmas.List.Elements.{filter-append}
use Rattle.std.proofs.lemmas.List.Sums.{sum_by-cons}
use Rattle.mp_checks.specs.Marks.{has}
use Rattle.mp_script.specs.Distinct.{IsDistinct}
use Rattle.mp_words.specs.declared.answers.Answer.{Answer}
use Rattle.mp_words.specs.declared.entry.RowEntry.{RowEntry}
use Rattle.mp_words.specs.declared.flight.Flight.{Flight}
use Rattle.mp_words.specs.declared.note.Note.{Note}
use Rattle.mp_words.specs.declared.op.Maker.{Maker}
use Rattle.mp_words.specs.declared.row.Row.{Row}
use Rattle.mp_words.specs.declared.trying.Back.{Back}
use Rattle.mp_words.specs.declared.trying.Back.TheVariants as back
use Rattle.mp_words.specs.declared.trying.Outcome.TheVariants as outcome
use Rattle.mp_words.specs.declared.trying.Try.{Try}
use Rattle.mp_words.specs.declared.trying.TryEnd.{TryEnd}
use Rattle.mp_words.specs.declared.trying.TryEnd.TheVariants as end
use Rattle.mp_words.specs.Request.{tried_of, asked_of, outcome_of, outcome_after, ended_try, map_last}
use Rattle.mp_words.specs.RequestView.{RequestView}
use Rattle.mp_words.proofs.Last.{last_or-map}
use Rattle.mp_record.specs.declared.event.Event.{Event}
use Rattle.mp_record.specs.declared.event.Event.TheVariants as event
use Rattle.mp_record.specs.RunView.{is_plain}
use Rattle.mp_status.specs.declared.class.Class.{Class}
use Rattle.mp_status.specs.declared.class.Class.TheVariants as class
use Rattle.mp_core.specs.declared.view.View.{View}
use Rattle.mp_core.specs.Core.{Core}
use Rattle.mp_core.specs.Kinds.{Lands}
use Rattle.mp_core.specs.Memory.{Memory, row_at, landed_in}
use Rattle.mp_core.specs.Reads.{section_in}
use Rattle.mp_core.specs.Views.{is_flight, unheld}
use Rattle.mp_change.specs.declared.change.ChangeEnd.TheVariants as change
use Rattle.mp_change.specs.declared.pending.PendingEnd.{PendingEnd}
use Rattle.mp_change.specs.declared.pending.PendingEnd.TheVariants as pending
use Rattle.mp_change.specs.Pending.{MarksPending, pending_in, pending_view}
use Rattle.mp_change.specs.Clears.{cleared_upto_in}
use Rattle.mp_submit.specs.declared.finish.Finished.{Finished}
use Rattle.mp_submit.specs.declared.finish.Finished.TheVariants as finished
use Rattle.mp_submit.specs.Finishes.{FinishTo, FailsOver, Ended, hop_of, six_of}
use Rattle.mp_desk.specs.declared.flying.Flying.{Flying}
use Rattle.mp_desk.specs.DeskView.{DeskView, noting, entering, landing}
use Rattle.mp_desk.specs.Says.{back_in, end_event, entries_back, sections_of}
use Rattle.mp_desk.specs.Calls.{finish, Means, Stand, FlightStays, FlightEnds, TakesFlying, HasLeft, IsAloft, IsWaiting, at_desk}
use Rattle.mp_legal.specs.PlainCall.{Inputs}
use Rattle.mp_legal.specs.PlainFinish as plain
use Rattle.mp_legal.specs.ToldCalls.{IsStep, with_end, listed_back, units_of}
use Rattle.mp_legal.specs.ToldDesks.{GoesBy, SitsAt, AreInRun, IsInRun, IsSameIn, told_events, times}
use Rattle.mp_legal.specs.ToldKeeper.{NobodyInside}
use Rattle.mp_legal.specs.ToldState.{Beside, state_in}
use Rattle.mp_legal.specs.TryRead.{TryRead, read_of, notes_of, notes_for}
use Rattle.mp_legal.specs.Units.{came_back}
use Rattle.mp_legal.proofs.DeskChange.{made_sides, cleared_sides, nobody_section, end_role, cleared_role}
use Rattle.mp_legal.proofs.DeskNobody.{nobody_same}
use Rattle.mp_legal.proofs.DeskRequests.{all_append, all_first, all_last, numbered, numbered-append, same_tries, among_tries}
use Rattle.mp_legal.proofs.DeskSubmit.{Placing, not_had, placed_now, stand_placed, placed_times, no_more}
use Rattle.mp_legal.proofs.DeskSteps.{LaneStep}
use Rattle.mp_legal.proofs.EndedTries.{last_changed, sent_last}
use Rattle.mp_legal.proofs.FinishStep.{finish_step}
use Rattle.mp_legal.proofs.KeeperKept.{finish_stands, finished_same, keeps_on}

-- ---- where the words are told no flight stays

by_ana : (ana : Bool) (e : RowEntry) (r row : Row) → pending.Moved row ≡ (if ana then pending.Set e else pending.NoAna r) → ⊥
by_ana true e r row is = cc
by_ana false e r row is = cc

not_moved : (a b : Core) (slot : ℕ) (by : Maker) (row : Row) (n : Note) (m : Memory) → a.told ≡ Some m → MarksPending slot by a b (pending.Moved row) n → ⊥
not_moved a b slot by row n m told p = by_ana (row_at m slot).ana _ _ row (p.told m told)

pub never_stays : (w : Means) (f : Flying) (p q : Stand) (m : Memory) → p.core.told ≡ Some m → FlightStays w f p q → ⊥
never_stays w f p q m told s = not_moved p.core q.core f.flight.slot _ s.row s.note m told s.finishes.to.2

-- ---- the tries

-- a request that was sent waits once it came back
by_end : (ending : TryEnd) (statuses six : List ℕ) (way : Back) (b : Option Back) → outcome_after ending (record { end = ending; statuses = statuses; back = b }) ≡ outcome.Sent → outcome_after ending (record { end = ending; statuses = six; back = Some way }) ≡ outcome.Waiting
by_end (end.Sent slot version) statuses six way b e = refl
by_end end.Listed statuses six way b e = refl
by_end end.Failed statuses six way b e = absurd cc

-- What a finish makes of a request that was sent.
record Turned (before after : RequestView) : Type 0 where
  id : after.id ≡ before.id
  node : after.node ≡ before.node
  notes : notes_of after ≡ notes_of before
  waits : (way : Back) → back_in (last_or None after.tries) ≡ Some way → IsWaiting after

abbrev IsSent : RequestView → Type 0
IsSent r = outcome_of (last_or None (asked_of r).tries) ≡ outcome.Sent

notes_ended : (change : Try → Try) → ((t : Try) → read_of (change t).note ≡ read_of t.note) → (tries : List Try) → map (λ (t : Try). read_of t.note) (map_last change tries) ≡ map (λ (t : Try). read_of t.note) tries
notes_ended change same [] = refl
notes_ended change same (t ∷ []) = ap (λ (n : TryRead). n ∷ []) (same t)
notes_ended change same (t ∷ u ∷ tries) = ap (λ (ns : List TryRead). read_of t.note ∷ ns) (notes_ended change same (u ∷ tries))

turned : (before after : RequestView) (statuses : List ℕ) (way : Option Back) → IsSent before → Ended before after statuses way → Turned before after
turned before after statuses way sent e = record { id = e.id; node = e.node; notes = ap (map (λ (t : Try). read_of t.note)) e.tries ∙ notes_ended (ended_try (six_of statuses) (length statuses) way) (λ t. refl) before.tries; waits = waits }
  where
    waits : (w : Back) → back_in (last_or None after.tries) ≡ Some w → IsWaiting after
    waits w back_is =
        let change : Try → Try = ended_try (six_of statuses) (length statuses) way in
        let l = sent_last before.tries sent in
        let t : Try = l.0 in
        let last : last_or None after.tries ≡ Some (change t) = ap (last_or None) e.tries ∙ last_changed change before.tries ∙ ap (option_map change) l.1 in
        let way_is : way ≡ Some w = sym (ap back_in last) ∙ back_is in
        let was : outcome_after t.end (tried_of t) ≡ outcome.Sent = sym (ap outcome_of (last_or-map tried_of before.tries ∙ ap (option_map tried_of) l.1)) ∙ sent in
        ap outcome_of (last_or-map tried_of after.tries ∙ ap (option_map tried_of) last)
        ∙ ap (λ (b : Option Back). outcome_after t.end (record { end = t.end; statuses = take (length statuses) (six_of statuses); back = b })) way_is
        ∙ by_end t.end (take t.count t.statuses) (take (length statuses) (six_of statuses)) w t.back was

turned_to : (answers : List Answer) (a b : Core) (f : Flight) (before after : RequestView) (answer : Finished) → IsSent before → HasLeft answer → FinishTo answers a b f before after answer → Turned before after
turned_to answers a b f before after (finished.Done status) sent left to = turned before after _ None sent to.3
turned_to answers a b f before after (finished.Back n) sent left to = turned before after _ (Some to.1) sent to.4
turned_to answers a b f before after (finished.Moved g row n) sent left to = absurd left

-- ---- the words and the pass

pending_sides : (slot : ℕ) (ending : PendingEnd) (m : Memory) → (pending_in slot ending m).sides ≡ m.sides
pending_sides slot (pending.Set e) m = made_sides e m
pending_sides slot (pending.NoAna row) m = cleared_sides slot 8 m
pending_sides slot (pending.Moved row) m = refl

pending_role : (slot : ℕ) (ending : PendingEnd) (v : View) → (pending_view slot ending v).role ≡ v.role
pending_role slot (pending.Set e) v = end_role (change.Changed e) v
pending_role slot (pending.NoAna row) v = cleared_role slot 8 (record v { keeping = unheld v.keeping })
pending_role slot (pending.Moved row) v = refl

-- The pass is whose it was, and nobody is inside a side of the words.
record Passes (a b : Core) (m : Memory) : Type 0 where
  alone : b.alone ≡ a.alone
  role : b.view.role ≡ a.view.role
  memory : Memory
  told : b.told ≡ Some memory
  nobody : NobodyInside memory

inj_some : (m n : Memory) → Some m ≡ Some n → m ≡ n
inj_some m n e = cc

section_passes : (at : ℕ) (change : Memory → Memory) (a b : Core) (m : Memory) → b.alone ≡ a.alone → b.view.role ≡ a.view.role → b.told ≡ option_map (section_in at change) a.told → a.told ≡ Some m → ((w : Memory) → (change w).sides ≡ w.sides) → NobodyInside m → Passes a b m
section_passes at change a b m alone role after told kept nobody =
    let is : b.told ≡ Some (section_in at change m) = after ∙ ap (option_map (section_in at change)) told in
    record { alone = alone; role = role; memory = section_in at change m; told = is; nobody = nobody_section at change m (section_in at change m) a.told b.told told after is kept nobody }

fails_passes : (c : Class) (a b : Core) (f : Flight) (by : Maker) (n : Note) (way : Back) (m : Memory) → a.told ≡ Some m → NobodyInside m → FailsOver c a b f by n way → Passes a b m
fails_passes (class.Failover true) a b f by n way m told nobody h =
    let v = h.1.view in
    section_passes n.side (pending_in f.slot h.0) a b m (ap (λ (c : Core). c.alone) v) (ap (λ (c : Core). c.view.role) v ∙ pending_role f.slot h.0 a.view) (ap (λ (c : Core). c.told) v) told (pending_sides f.slot h.0) nobody
fails_passes (class.Failover false) a b f by n way m told nobody h =
    let v = h.0.view in
    section_passes n.side (cleared_upto_in f.slot 8) a b m (ap (λ (c : Core). c.alone) v) (ap (λ (c : Core). c.view.role) v ∙ cleared_role f.slot 8 (record (a.view) { keeping = unheld a.view.keeping })) (ap (λ (c : Core). c.told) v) told (cleared_sides f.slot 8) nobody
fails_passes class.Complete a b f by n way m told nobody h = absurd h
fails_passes class.Retry a b f by n way m told nobody h = absurd h

lands_passes : (a b : Core) (f : Flight) (m : Memory) → a.told ≡ Some m → NobodyInside m → Lands a b f → Passes a b m
lands_passes a b f m told nobody h = record {
  alone = ap (λ (c : Core). c.alone) h.after;
  role = ap (λ (c : Core). c.view.role) h.after;
  memory = landed_in f.slot m;
  told = ap (λ (c : Core). c.told) h.after ∙ ap (option_map (landed_in f.slot)) told;
  nobody = nobody_same m (landed_in f.slot m) refl nobody;
}

passes_to : (answers : List Answer) (a b : Core) (f : Flight) (before after : RequestView) (answer : Finished) (m : Memory) → a.told ≡ Some m → NobodyInside m → HasLeft answer → FinishTo answers a b f before after answer → Passes a b m
passes_to answers a b f before after (finished.Done status) m told nobody left to = lands_passes a b f m told nobody to.2
passes_to answers a b f before after (finished.Back n) m told nobody left to =
    let one = fails_passes _ a to.0 f (hop_of a.lane before) n to.1 m told nobody to.2 in
    let two = lands_passes to.0 b f one.memory one.told one.nobody to.3 in
    record { alone = two.alone ∙ one.alone; role = two.role ∙ one.role; memory = two.memory; told = two.told; nobody = two.nobody }
passes_to answers a b f before after (finished.Moved g row n) m told nobody left to = absurd left

-- ---- the flights

abbrev pub flight_of : Flying → Flight
flight_of f = f.flight

abbrev pub request_in : Flying → RequestView
request_in f = f.request

same_flight : (f : Flight) → is_flight f f ≡ true
same_flight f = rw (eq-eqb f.slot f.slot refl, eq-eqb f.version f.version refl, eq-eqb f.req f.req refl, eq-eqb f.lane f.lane refl) refl

or_more : (b c : Bool) → c ≡ true → (b || c) ≡ true
or_more true c e = refl
or_more false c e = e

pub flies_middle : (bf : List Flying) (f : Flying) (af : List Flying) → list_any (is_flight f.flight) (map flight_of (bf ++ f ∷ af)) ≡ true
flies_middle [] f af = ap (λ (b : Bool). b || list_any (is_flight f.flight) (map flight_of af)) (same_flight f.flight)
flies_middle (g ∷ bf) f af = or_more (is_flight f.flight g.flight) _ (flies_middle bf f af)

numbered_cons : (req : ℕ) (f : Flying) (fs : List Flying) → numbered request_in req (f ∷ fs) ≡ cond (f.request.id == req) 1 0 + numbered request_in req fs
numbered_cons req f fs = sum_by-cons (λ (g : Flying). cond (g.request.id == req) 1 0) f fs

one_or : (b : Bool) (n : ℕ) → cond b 1 0 + n ≡ 0 → (b ≡ false) × (n ≡ 0)
one_or true n e = absurd (omega arith)
one_or false n e = (refl, omega arith)

-- no flight is of a number that none of the requests has
pub has_none : (req : ℕ) (fs : List Flying) → AllByRecursion IsAloft fs → numbered request_in req fs ≡ 0 → has (map (λ (g : Flight). g.req) (map flight_of fs)) req ≡ false
has_none req [] all none = refl
has_none req (f ∷ fs) all none =
    let parts = one_or (f.request.id == req) (numbered request_in req fs) (sym (numbered_cons req f fs) ∙ none) in
    λ i. (ap (λ n. n == req) (sym all.0.0) ∙ parts.0) i || has_none req fs all.1 parts.1 i

pub filter_none : (req : ℕ) (fs : List Flying) → AllByRecursion IsAloft fs → numbered request_in req fs ≡ 0 → filter (λ (g : Flight). not (g.req == req)) (map flight_of fs) ≡ map flight_of fs
filter_none req [] all none = refl
filter_none req (f ∷ fs) all none =
    let parts = one_or (f.request.id == req) (numbered request_in req fs) (sym (numbered_cons req f fs) ∙ none) in
    let off : (f.flight.req == req) ≡ false = ap (λ n. n == req) (sym all.0.0) ∙ parts.0 in
    rw off (ap (λ (gs : List Flight). f.flight ∷ gs) (filter_none req fs all.1 parts.1))

at_most : (b : Bool) (n : ℕ) → b ≡ true → cond b 1 0 + n ≤ 1 → n ≡ 0
at_most true n e most = omega arith
at_most false n e most = absurd cc

less : (b : Bool) (n : ℕ) → cond b 1 0 + n ≤ 1 → n ≤ 1
less true n most = omega arith
less false n most = omega arith

pub distinct_flights : (fs : List Flying) → AllByRecursion IsAloft fs → ((req : ℕ) → numbered request_in req fs ≤ 1) → IsDistinct (map (λ (g : Flight). g.req) (map flight_of fs))
distinct_flights [] all once = tt
distinct_flights (f ∷ fs) all once =
    let first : (req : ℕ) → cond (f.request.id == req) 1 0 + numbered request_in req fs ≤ 1 = λ req. subst (λ n. n ≤ 1) (numbered_cons req f fs) (once req) in (
      has_none f.flight.req fs all.1 (at_most (f.request.id == f.flight.req) (numbered request_in f.flight.req fs) (eq-eqb f.request.id f.flight.req all.0.0) (first f.flight.req)),
      distinct_flights fs all.1 (λ req. less (f.request.id == req) (numbered request_in req fs) (first req)),
    )

-- the flights of a desk without one
pub without_middle : (bf : List Flying) (f : Flying) (af : List Flying) → AllByRecursion IsAloft bf → AllByRecursion IsAloft af → numbered request_in f.flight.req bf ≡ 0 → numbered request_in f.flight.req af ≡ 0
    → filter (λ (g : Flight). not (g.req == f.flight.req)) (map flight_of (bf ++ f ∷ af)) ≡ map flight_of (bf ++ af)
without_middle bf f af ab aa nb na =
    let off : (f.flight.req == f.flight.req) ≡ true = eq-eqb f.flight.req f.flight.req refl in
    let rest : filter (λ (g : Flight). not (g.req == f.flight.req)) (f.flight ∷ map flight_of af) ≡ map flight_of af = rw off (filter_none f.flight.req af aa na) in
    ap (filter (λ (g : Flight). not (g.req == f.flight.req))) (map-append flight_of bf (f ∷ af))
    ∙ filter-append (λ (g : Flight). not (g.req == f.flight.req)) (map flight_of bf) (f.flight ∷ map flight_of af)
    ∙ (λ i. filter_none f.flight.req bf ab nb i ++ rest i)
    ∙ sym (map-append flight_of bf af)

-- How often the number of a flight in the middle stands elsewhere.
pub record Middle (req : ℕ) (bf af : List Flying) (d : DeskView) : Type 0 where
  pub first : numbered request_in req bf ≡ 0
  pub last : numbered request_in req af ≡ 0
  pub out : numbered (λ (r : RequestView). r) req d.out ≡ 0
  pub ended : numbered (λ (r : RequestView). r) req d.ended ≡ 0

middle_by : (b : Bool) (x y o e n : ℕ) → b ≡ true → n ≡ x + (cond b 1 0 + y) → n + (o + e) ≤ 1 → (x ≡ 0) × (y ≡ 0) × (o ≡ 0) × (e ≡ 0)
middle_by true x y o e n is sum most = (omega arith, omega arith, omega arith, omega arith)
middle_by false x y o e n is sum most = absurd cc

pub numbered_middle : (req : ℕ) (bf : List Flying) (f : Flying) (af : List Flying) → numbered request_in req (bf ++ f ∷ af) ≡ numbered request_in req bf + (cond (f.request.id == req) 1 0 + numbered request_in req af)
numbered_middle req bf f af = numbered-append request_in req bf (f ∷ af) ∙ ap (λ n. numbered request_in req bf + n) (numbered_cons req f af)

pub middle : (bf : List Flying) (f : Flying) (af : List Flying) (d : DeskView) → d.flying ≡ bf ++ f ∷ af → IsAloft f → ((req : ℕ) → times req d ≤ 1) → Middle f.flight.req bf af d
middle bf f af d is aloft once =
    let req : ℕ = f.flight.req in
    let k = middle_by (f.request.id == req) (numbered request_in req bf) (numbered request_in req af) (numbered (λ (r : RequestView). r) req d.out) (numbered (λ (r : RequestView). r) req d.ended) (numbered request_in req d.flying)
    (eq-eqb f.request.id req aloft.0) (ap (numbered request_in req) is ∙ numbered_middle req bf f af) (once req) in
    record { first = k.0; last = k.1; out = k.2; ended = k.3 }

-- ---- the desk

-- the desk without a flight
abbrev pub gone : List Flying → List Flying → DeskView → DeskView
gone bf af d = record d { flying = bf ++ af }

pub gone_times : (req : ℕ) (bf : List Flying) (f : Flying) (af : List Flying) (d : DeskView) → d.flying ≡ bf ++ f ∷ af → times req (gone bf af d) ≤ times req d
gone_times req bf f af d is = by (f.request.id == req) (numbered request_in req d.flying) (numbered request_in req (bf ++ af)) (ap (numbered request_in req) is ∙ numbered_middle req bf f af) (numbered-append request_in req bf af)
  where
    by : (b : Bool) (n k : ℕ) → n ≡ numbered request_in req bf + (cond b 1 0 + numbered request_in req af) → k ≡ numbered request_in req bf + numbered request_in req af
        → k + (numbered (λ (r : RequestView). r) req d.out + numbered (λ (r : RequestView). r) req d.ended) ≤ n + (numbered (λ (r : RequestView). r) req d.out + numbered (λ (r : RequestView). r) req d.ended)
    by true n k e g = omega arith
    by false n k e g = omega arith

pub all_gone : (P : Flying → Type 0) (bf : List Flying) (f : Flying) (af : List Flying) (fs : List Flying) → fs ≡ bf ++ f ∷ af → AllByRecursion P fs → AllByRecursion P (bf ++ af)
all_gone P bf f af fs is all =
    let whole : AllByRecursion P (bf ++ f ∷ af) = subst (AllByRecursion P) is all in
    all_append P bf af (all_first P bf (f ∷ af) whole) (all_last P bf (f ∷ af) whole).1

pub one_gone : (P : Flying → Type 0) (bf : List Flying) (f : Flying) (af : List Flying) (fs : List Flying) → fs ≡ bf ++ f ∷ af → AllByRecursion P fs → P f
one_gone P bf f af fs is all = (all_last P bf (f ∷ af) (subst (AllByRecursion P) is all)).0

pub gone_stand : (x : Beside) (bf : List Flying) (f : Flying) (af : List Flying) (d : DeskView) → d.flying ≡ bf ++ f ∷ af → AreInRun x d → AreInRun x (gone bf af d)
gone_stand x bf f af d is h = record {
  flying = all_gone (λ (g : Flying). IsInRun x g.request) bf f af d.flying is h.flying;
  out = h.out;
  ended = h.ended;
  once = λ req. let most = h.once req in let few = gone_times req bf f af d is in omega arith;
}

landed_stand : (r : RequestView) (way : Option Back) (d : DeskView) (y : Beside) → Placing r d y → AreInRun y (landing r way d)
landed_stand r None d y s = stand_placed 0 r end.Failed d y s
landed_stand r (Some way) d y s = stand_placed 0 r end.Listed d y s

pub landed_times : (r : RequestView) (way : Option Back) (d : DeskView) (req : ℕ) → times req (landing r way d) ≡ times req d + cond (r.id == req) 1 0
landed_times r None d req = placed_times 0 r end.Failed d req
landed_times r (Some way) d req = placed_times 0 r end.Listed d req

landed_waits : (r : RequestView) (way : Option Back) (d : DeskView) → ((w : Back) → way ≡ Some w → IsWaiting r) → AllByRecursion IsWaiting d.out → AllByRecursion IsWaiting (landing r way d).out
landed_waits r None d is all = all
landed_waits r (Some way) d is all = all_append IsWaiting d.out (r ∷ []) all (is way refl, tt)

landed_waiting : (r : RequestView) (way : Option Back) (d : DeskView) (before : List ℕ) (waiting : List ℕ) → waiting ≡ before ++ map (λ (r : RequestView). r.id) d.out → listed_back r.id way waiting ≡ before ++ map (λ (r : RequestView). r.id) (landing r way d).out
landed_waiting r None d before waiting is = is
landed_waiting r (Some way) d before waiting is =
    ap (λ (ns : List ℕ). ns ++ r.id ∷ []) is ∙ append_assoc before (map (λ (r : RequestView). r.id) d.out) (r.id ∷ [])
    ∙ ap (λ (ns : List ℕ). before ++ ns) (sym (map-append (λ (r : RequestView). r.id) d.out (r ∷ [])))

landed_flying : (r : RequestView) (way : Option Back) (d : DeskView) → (landing r way d).flying ≡ d.flying
landed_flying r None d = refl
landed_flying r (Some way) d = refl

landed_rows : (r : RequestView) (way : Option Back) (d : DeskView) → (landing r way d).rows ≡ d.rows
landed_rows r None d = refl
landed_rows r (Some way) d = refl

landed_events : (r : RequestView) (way : Option Back) (d : DeskView) → (landing r way d).events ≡ d.events
landed_events r None d = refl
landed_events r (Some way) d = refl

entries_same : (way : Option Back) → entries_back way ≡ plain.entries_of way
entries_same None = refl
entries_same (Some back.Unset) = refl
entries_same (Some (back.Set e)) = refl

told_end : (r : RequestView) (o : Option Try) → told_events (end_event r o) ≡ end_event r o
told_end r None = refl
told_end r (Some t) = refl

told_sections : (answer : Finished) → HasLeft answer → told_events (sections_of answer) ≡ []
told_sections (finished.Done status) left = refl
told_sections (finished.Back n) left = refl
told_sections (finished.Moved f row n) left = absurd left

events_told : (events sections ends : List Event) → told_events sections ≡ [] → told_events ends ≡ ends → told_events (events ++ (sections ++ ends)) ≡ told_events events ++ ends
events_told events sections ends none all =
    filter-append is_plain events (sections ++ ends) ∙ ap (λ (es : List Event). told_events events ++ es) (filter-append is_plain sections ends ∙ (λ i. none i ++ all i))

-- a finish used a unit just where the request came back
pub units_back : (r : RequestView) (o : Option Try) → units_of (back_in o) ≡ count_by came_back (end_event r o)
units_back r None = refl
units_back r (Some t) = by t.back refl
  where
    by : (way : Option Back) → t.back ≡ way → units_of t.back ≡ count_by came_back (event.Fin r.id (length r.tries) t.statuses t.count t.back ∷ [])
    by None is = ap units_of is ∙ ap (λ (b : Option Back). count_by came_back (event.Fin r.id (length r.tries) t.statuses t.count b ∷ [])) (sym is)
    by (Some w) is = ap units_of is ∙ ap (λ (b : Option Back). count_by came_back (event.Fin r.id (length r.tries) t.statuses t.count b ∷ [])) (sym is)

or_first : (a b : Bool) → (a || b) ≡ false → a ≡ false
or_first false b e = refl
or_first true b e = absurd cc

eq_swap : (a b : ℕ) → (a == b) ≡ false → (b == a) ≡ false
eq_swap a b e = grind (arith, nat_tests)

pub desk_finish : (i : Inputs) (w : Means) (f : Flying) (p q : Stand) (before : List ℕ) (m : Memory) (x : Beside) (d : DeskView) → GoesBy i w → SitsAt p before m x → TakesFlying f p.desk d → (s : FlightEnds w f (at_desk d p) q)
    → LaneStep (plain.finished i.answers p.core.lane (state_in m x) f.flight) (units_of (back_in (last_or None s.after.tries))) (finish f ∷ []) p q before m x (with_end f.flight s.after x)
    (plain.entries_of (back_in (last_or None s.after.tries))) (end_event s.after (last_or None s.after.tries))
desk_finish i w f p q before m x d by h t s =
    let lane : ℕ = p.core.lane in
    let bf : List Flying = t.before in
    let af : List Flying = t.after in
    let a : RequestView = s.after in
    let o : Option Try = last_or None a.tries in
    let way : Option Back = back_in o in
    let req : ℕ = f.flight.req in
    let sits = h.sits in
    let aloft : IsAloft f = one_gone IsAloft bf f af p.desk.flying t.was sits.aloft in
    let own : f.flight.lane ≡ lane = one_gone (λ (g : Flying). g.flight.lane ≡ lane) bf f af p.desk.flying t.was h.own in
    let there : IsInRun x f.request = one_gone (λ (g : Flying). IsInRun x g.request) bf f af p.desk.flying t.was h.requests.flying in
    let turn : Turned f.request a = turned_to w.answers p.core q.core f.flight f.request a s.answer aloft.1 s.left s.finishes.to in
    let pass : Passes p.core q.core m = passes_to w.answers p.core q.core f.flight f.request a s.answer m h.at.told h.nobody s.left s.finishes.to in
    let mid : Middle req bf af p.desk = middle bf f af p.desk t.was aloft h.requests.once in
    let flown : p.core.view.flights ≡ map flight_of (bf ++ f ∷ af) = sits.flights ∙ ap (map flight_of) t.was in
    let flights : get_or x.flights lane [] ≡ map flight_of (bf ++ f ∷ af) = sym h.at.flights ∙ flown in
    let all : AllByRecursion IsAloft (bf ++ f ∷ af) = subst (AllByRecursion IsAloft) t.was sits.aloft in
    let once : (n : ℕ) → numbered request_in n (bf ++ f ∷ af) ≤ 1 = λ n. subst (λ (fs : List Flying). numbered request_in n fs ≤ 1) t.was (few n) in
    let step : IsStep (plain.finished w.answers lane (state_in m x) f.flight) (units_of way) p.core q.core (with_end f.flight a x) (plain.entries_of way) (end_event a o) =
    finish_step w.answers p.core q.core f.flight f.request a s.answer m x s.finishes h.at (sym aloft.0) own (ap (list_any (is_flight f.flight)) flown ∙ flies_middle bf f af) aloft.1
    (subst (λ (fs : List Flight). IsDistinct (map (λ (g : Flight). g.req) fs)) (sym flights) (distinct_flights (bf ++ f ∷ af) all once)) there.told in
    let e : DeskView = noting (sections_of s.answer ++ end_event a o) (gone bf af p.desk) in
    let e2 : DeskView = entering (entries_back way) e in
    let desk : q.desk ≡ landing a way e2 = s.desk ∙ ap (λ (z : DeskView). landing a way (entering (entries_back way) (noting (sections_of s.answer ++ end_event a o) z))) t.is in
    let flying : q.desk.flying ≡ bf ++ af = ap (λ (z : DeskView). z.flying) desk ∙ landed_flying a way e2 in
    let id : a.id ≡ req = turn.id ∙ aloft.0 in
    let stand0 : AreInRun x (gone bf af p.desk) = gone_stand x bf f af p.desk t.was h.requests in
    let stand : AreInRun x e2 = record { flying = stand0.flying; out = stand0.out; ended = stand0.ended; once = stand0.once } in
    let none : times a.id e2 ≡ 0 = ap (λ n. times n e2) id ∙ gone_none mid in
    let y : Beside = with_end f.flight a x in
    let same_in : (n : ℕ) → (n == a.id) ≡ false → IsSameIn n x y = λ n apart. same_tries n a.id (asked_of a).tries x y refl refl apart in
    let own_in : IsInRun y a = among_tries f.request a x y refl (turn.notes ∙ there.read ∙ ap (λ n. notes_for n x.reads) (sym turn.id)) turn.id turn.node there in
    let lanes = h.at.lanes in
    let low = h.at.lane in
    record {
      steps = subst (λ (z : List Answer). IsStep (plain.finished z lane (state_in m x) f.flight) (units_of way) p.core q.core (with_end f.flight a x) (plain.entries_of way) (end_event a o)) (sym by.answers) step;
      alone = pass.alone;
      role = pass.role;
      flying = step.at.flights
          ∙ (λ j. get_or (set x.flights (own j) (filter (λ (g : Flight). not (g.req == req)) (get_or x.flights (own j) []))) (step.lane j) [])
          ∙ get_or-set_same x.flights lane (filter (λ (g : Flight). not (g.req == req)) (get_or x.flights lane [])) [] (omega arith)
          ∙ ap (filter (λ (g : Flight). not (g.req == req))) flights
          ∙ without_middle bf f af (all_first IsAloft bf (f ∷ af) all) (all_last IsAloft bf (f ∷ af) all).1 mid.first mid.last
          ∙ ap (map flight_of) (sym flying);
      aloft = subst (AllByRecursion IsAloft) (sym flying) (all_gone IsAloft bf f af p.desk.flying t.was sits.aloft);
      waits = subst (λ (z : DeskView). AllByRecursion IsWaiting z.out) (sym desk) (landed_waits a way e2 turn.waits sits.waiting);
      own = subst (AllByRecursion (λ (g : Flying). g.flight.lane ≡ lane)) (sym flying) (all_gone (λ (g : Flying). g.flight.lane ≡ lane) bf f af p.desk.flying t.was h.own);
      stand = subst (AreInRun y) (sym desk) (landed_stand a way e2 y (placed_now a e2 x y same_in own_in none stand));
      noted = λ n off. not_had n a.id x y (same_in n) h.noted (n == a.id) refl own_in.there off;
      waiting = landed_waiting a way e2 before x.waiting h.waiting ∙ ap (λ (z : DeskView). before ++ map (λ (r : RequestView). r.id) z.out) (sym desk);
      nobody = λ n told. subst NobodyInside (inj_some pass.memory n (sym pass.told ∙ told)) pass.nobody;
      keeper = s.keeper;
      stands = finish_stands w.answers p.core q.core f.flight f.request a s.answer s.finishes;
      agrees = λ k sound old. keeps_on k (state_in m x) _ (finished_same i.answers lane (state_in m x) f.flight) old;
      rows = ap (λ (z : DeskView). z.rows) desk ∙ landed_rows a way e2 ∙ ap (λ (es : List RowEntry). p.desk.rows ++ es) (entries_same way);
      events = ap (λ (z : DeskView). told_events z.events) desk ∙ ap told_events (landed_events a way e2) ∙ events_told p.desk.events (sections_of s.answer) (end_event a o) (told_sections s.answer s.left) (told_end a o);
      desk = λ n apart. let few = gone_times n bf f af p.desk t.was in
          let same = no_more (times n q.desk) (times n e2) (a.id == n) (ap (times n) desk ∙ landed_times a way e2 n) (ap (λ z. z == n) id ∙ or_first (req == n) false apart) in
          omega (arith, few, same);
      requests = λ n apart. same_in n (eq_swap a.id n (ap (λ z. z == n) id ∙ or_first (req == n) false apart));
      flights = λ other apart. get_or-set_other x.flights f.flight.lane other _ [] (λ same. apart (same ∙ own));
    }
  where
    few : (n : ℕ) → numbered request_in n p.desk.flying ≤ 1
    few n = let most = h.requests.once n in omega arith

    gone_none : Middle f.flight.req t.before t.after p.desk → times f.flight.req (gone t.before t.after p.desk) ≡ 0
    gone_none k =
        let n1 = k.first in
        let n2 = k.last in
        let n3 = k.out in
        let n4 = k.ended in
        let sum = numbered-append request_in f.flight.req t.before t.after in
        omega (arith, n1, n2, n3, n4, sum)
