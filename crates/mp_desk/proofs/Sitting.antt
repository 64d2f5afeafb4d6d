-- How a pass sits at its desk after a call.
use Rattle.std.proofs.Common.{◌≡◌, ℕ, zero, suc, Bool, true, false, ◌==◌, ◌&&◌, ◌+◌, ◌≤◌, List, [], ◌∷◌, ◌++◌, arith, map, append-nil, Some, None, option_map, inl, inr, refl, sym, ap, ◌∙◌, subst, eq-eqb}
use Rattle.std.specs.List.{last_or, list_any, AllByRecursion}
use Rattle.std.specs.Prelude.{OnOk, Result, Ok, Err}
use Rattle.std.specs.Result.{is_err}
use Rattle.std.proofs.lemmas.Bool.{cases_Bool}
use Rattle.std.proofs.lemmas.List.{length-append}
use Rattle.mp_words.specs.declared.flight.Flight.{Flight}
use Rattle.mp_words.specs.declared.near.Near.{Near}
use Rattle.mp_words.specs.declared.note.Note.{Note}
use Rattle.mp_words.specs.declared.op.Maker.{Maker}
use Rattle.mp_words.specs.declared.op.Op.{Op}
use Rattle.mp_words.specs.declared.trying.Back.{Back}
use Rattle.mp_words.specs.declared.trying.Try.{Try}
use Rattle.mp_words.specs.declared.trying.TryEnd.{TryEnd}
use Rattle.mp_words.specs.declared.trying.TryEnd.TheVariants as end
use Rattle.mp_words.specs.Effect.{Clears, every_one, the_slots, none, clears_of}
use Rattle.mp_words.specs.Request.{asked_of, tried_of, outcome_of}
use Rattle.mp_words.specs.RequestView.{RequestView}
use Rattle.mp_words.proofs.Last.{last_or-map}
use Rattle.mp_status.specs.declared.class.Class.{Class}
use Rattle.mp_status.specs.declared.class.Class.TheVariants as class
use Rattle.mp_core.specs.declared.view.Keeping.{Keeping}
use Rattle.mp_core.specs.declared.view.Role.{Role}
use Rattle.mp_core.specs.declared.view.Role.TheVariants as role
use Rattle.mp_core.specs.declared.view.Seen.{Seen}
use Rattle.mp_core.specs.declared.view.View.{View}
use Rattle.mp_core.specs.Core.{Core}
use Rattle.mp_core.specs.Kinds.{Lands}
use Rattle.mp_core.specs.Views.{is_flight, flights_without, clear_by}
use Rattle.mp_change.specs.declared.change.ChangeEnd.{ChangeEnd}
use Rattle.mp_change.specs.declared.change.ChangeEnd.TheVariants as ending
use Rattle.mp_change.specs.declared.pending.PendingEnd.{PendingEnd}
use Rattle.mp_change.specs.declared.pending.PendingEnd.TheVariants as pending
use Rattle.mp_change.specs.Changes.{ChangesPath, end_view}
use Rattle.mp_change.specs.Clears.{clears_view, cleared_upto}
use Rattle.mp_change.specs.Pending.{MarksPending, DropsCurrent, dropped, pending_view}
use Rattle.mp_submit.specs.declared.submit.Submitted.{Submitted}
use Rattle.mp_submit.specs.declared.submit.Submitted.TheVariants as submitted
use Rattle.mp_submit.specs.Finishes.{FailsOver}
use Rattle.mp_submit.specs.Submits.{Submits, answer_of, flights_of}
use Rattle.mp_record.specs.declared.event.Event.{Event}
use Rattle.mp_desk.specs.declared.flying.Flying.{Flying}
use Rattle.mp_desk.specs.DeskView.{DeskView, noting, placing, flying_with, unended}
use Rattle.mp_desk.specs.Calls.{Sits, KeepsPass, IsAloft, IsWaiting}
use Rattle.mp_desk.specs.Desks.{Leaves, placed}
use Rattle.mp_desk.proofs.LastTry.{last_added}

-- ---- what a view keeps

-- A view has the same lane, start, flights and open section.
pub record Same (v w : View) : Type 0 where
  pub role : w.role ≡ v.role
  pub start : w.keeping.start ≡ v.keeping.start
  pub flights : w.flights ≡ v.flights
  pub inside : w.inside ≡ v.inside

start_by : (r : Role) (node slot : ℕ) (k : Keeping) → (clear_by r node slot k).start ≡ k.start
start_by role.Keeper node slot k = refl
start_by (role.Lane lane) node slot k = refl
start_by role.Spent node slot k = refl

upto_same : (slot n : ℕ) (v : View) → Same v (cleared_upto slot n v)
upto_same slot zero v = record { role = refl; start = refl; flights = refl; inside = refl }
upto_same slot (suc n) v =
    let s = upto_same slot n v in
    let w = cleared_upto slot n v in
    record { role = s.role; start = start_by w.role n slot w.keeping ∙ s.start; flights = s.flights; inside = s.inside }

dropped_same : (slot : ℕ) (v : View) → Same v (dropped slot v)
dropped_same slot v = let s = upto_same slot 8 (record v { keeping = record (v.keeping) { last = None } }) in record { role = s.role; start = s.start; flights = s.flights; inside = s.inside }

pub clears_same : (c : Clears) (slot : ℕ) (v : View) → Same v (clears_view c slot v)
clears_same every_one slot v = record { role = refl; start = refl; flights = refl; inside = refl }
clears_same the_slots slot v = upto_same slot 8 v
clears_same none slot v = record { role = refl; start = refl; flights = refl; inside = refl }

end_same : (e : ChangeEnd) (v : View) → Same v (end_view e v)
end_same (ending.Changed e) v = let s = clears_same (clears_of e.op e.row) e.slot (record v { entries = v.entries ++ e ∷ []; keeping = record (v.keeping) { last = None } }) in record { role = s.role; start = s.start; flights = s.flights; inside = s.inside }
end_same (ending.Refused slot row) v = record { role = refl; start = refl; flights = refl; inside = refl }
end_same (ending.NotArmed slot row) v = record { role = refl; start = refl; flights = refl; inside = refl }
end_same (ending.NoPath order) v = record { role = refl; start = refl; flights = refl; inside = refl }
end_same (ending.Moved slot row) v = record { role = refl; start = refl; flights = refl; inside = refl }

pending_same : (slot : ℕ) (e : PendingEnd) (v : View) → Same v (pending_view slot e v)
pending_same slot (pending.Set e) v = end_same (ending.Changed e) v
pending_same slot (pending.NoAna row) v = dropped_same slot v
pending_same slot (pending.Moved row) v = record { role = refl; start = refl; flights = refl; inside = refl }

-- A pass is the same after a call, with these flights, and no section is open.
pub record Stays (flights : List Flight) (a b : Core) : Type 0 where
  pub kept : KeepsPass a b
  pub flights_are : b.view.flights ≡ flights
  pub closed : b.view.inside ≡ None

pub change_stays : (ctrl : ℕ) (o : Op) (by : Maker) (a b : Core) (e : ChangeEnd) (n : Note) (seen : Seen) → ChangesPath ctrl o by a b e n seen → Stays a.view.flights a b
change_stays ctrl o by a b e n seen h =
    let s = end_same e a.view in
    record {
      kept = record { home = ap (λ c. c.home) h.view; lane = ap (λ c. c.lane) h.view; alone = ap (λ c. c.alone) h.view; others = ap (λ c. c.others) h.view; role = ap (λ c. c.view.role) h.view ∙ s.role; start = ap (λ c. c.view.keeping.start) h.view ∙ s.start };
      flights_are = ap (λ c. c.view.flights) h.view ∙ s.flights;
      closed = ap (λ c. c.view.inside) h.view;
    }

pub marks_stays : (slot : ℕ) (by : Maker) (a b : Core) (e : PendingEnd) (n : Note) → MarksPending slot by a b e n → Stays a.view.flights a b
marks_stays slot by a b e n h =
    let s = pending_same slot e a.view in
    record {
      kept = record { home = ap (λ c. c.home) h.view; lane = ap (λ c. c.lane) h.view; alone = ap (λ c. c.alone) h.view; others = ap (λ c. c.others) h.view; role = ap (λ c. c.view.role) h.view ∙ s.role; start = ap (λ c. c.view.keeping.start) h.view ∙ s.start };
      flights_are = ap (λ c. c.view.flights) h.view ∙ s.flights;
      closed = ap (λ c. c.view.inside) h.view;
    }

drops_stays : (slot : ℕ) (a b : Core) (n : Note) → DropsCurrent slot a b n → Stays a.view.flights a b
drops_stays slot a b n h =
    let s = dropped_same slot a.view in
    record {
      kept = record { home = ap (λ c. c.home) h.view; lane = ap (λ c. c.lane) h.view; alone = ap (λ c. c.alone) h.view; others = ap (λ c. c.others) h.view; role = ap (λ c. c.view.role) h.view ∙ s.role; start = ap (λ c. c.view.keeping.start) h.view ∙ s.start };
      flights_are = ap (λ c. c.view.flights) h.view ∙ s.flights;
      closed = ap (λ c. c.view.inside) h.view;
    }

pub fails_stays : (c : Class) (a b : Core) (f : Flight) (by : Maker) (n : Note) (way : Back) → FailsOver c a b f by n way → Stays a.view.flights a b
fails_stays (class.Failover true) a b f by n way h = marks_stays f.slot by a b h.0 n h.1
fails_stays (class.Failover false) a b f by n way h = drops_stays f.slot a b n h.0
fails_stays class.Complete a b f by n way h = absurd h
fails_stays class.Retry a b f by n way h = absurd h

pub lands_stays : (a b : Core) (f : Flight) → Lands a b f → a.view.inside ≡ None → Stays (flights_without f a.view.flights) a b
lands_stays a b f h closed = record {
  kept = record { home = ap (λ c. c.home) h.after; lane = ap (λ c. c.lane) h.after; alone = ap (λ c. c.alone) h.after; others = ap (λ c. c.others) h.after; role = ap (λ c. c.view.role) h.after; start = ap (λ c. c.view.keeping.start) h.after };
  flights_are = ap (λ c. c.view.flights) h.after;
  closed = ap (λ c. c.view.inside) h.after ∙ closed;
}

pub kept_on : (a b c : Core) → KeepsPass a b → KeepsPass b c → KeepsPass a c
kept_on a b c h k = record { home = k.home ∙ h.home; lane = k.lane ∙ h.lane; alone = k.alone ∙ h.alone; others = k.others ∙ h.others; role = k.role ∙ h.role; start = k.start ∙ h.start }

pub kept_same : (a : Core) → KeepsPass a a
kept_same a = record { home = refl; lane = refl; alone = refl; others = refl; role = refl; start = refl }

-- ---- flights

pub same_flight : (f : Flight) → is_flight f f ≡ true
same_flight f = rw (eq-eqb f.slot f.slot refl, eq-eqb f.version f.version refl, eq-eqb f.req f.req refl, eq-eqb f.lane f.lane refl) refl

and_third : (a b c d : Bool) → c ≡ false → (a && b && c && d) ≡ false
and_third true true c d e = rw e refl
and_third true false c d e = refl
and_third false b c d e = refl

-- a flight of another number is another
other_flight : (f g : Flight) → (g.req == f.req) ≡ false → is_flight f g ≡ false
other_flight f g e = and_third (g.slot == f.slot) (g.version == f.version) (g.req == f.req) (g.lane == f.lane) e

-- the first of its number is taken away
pub first_gone : (f : Flying) (before after : List Flying) → flying_with f.flight.req before ≡ [] → flights_without f.flight (map (λ g. g.flight) (before ++ f ∷ after)) ≡ map (λ g. g.flight) (before ++ after)
first_gone f [] after hasnt = rw (same_flight f.flight) refl
first_gone f (g ∷ before) after hasnt =
    elim (cases_Bool (g.flight.req == f.flight.req)) [
      | inl same_one ↦ let e = rw same_one at hasnt in absurd cc
      | inr other_one ↦ rw (other_flight f.flight g.flight other_one) (ap (λ (fs : List Flight). g.flight ∷ fs) (first_gone f before after (rw other_one at hasnt)))
    ]

-- it flies
pub flies : (f : Flying) (before after : List Flying) → list_any (is_flight f.flight) (map (λ g. g.flight) (before ++ f ∷ after)) ≡ true
flies f [] after = rw (same_flight f.flight) refl
flies f (g ∷ before) after =
    elim (cases_Bool (is_flight f.flight g.flight)) [
      | inl same_one ↦ rw same_one refl
      | inr other_one ↦ rw other_one (flies f before after)
    ]

-- ---- all of a list

pub all_append : {X : Type 0} (P : X → Type 0) (xs ys : List X) → AllByRecursion P xs → AllByRecursion P ys → AllByRecursion P (xs ++ ys)
all_append P [] ys h k = k
all_append P (x ∷ xs) ys h k = (h.0, all_append P xs ys h.1 k)

pub all_without : {X : Type 0} (P : X → Type 0) (xs : List X) (y : X) (ys : List X) → AllByRecursion P (xs ++ y ∷ ys) → P y × AllByRecursion P (xs ++ ys)
all_without P [] y ys h = (h.0, h.1)
all_without P (x ∷ xs) y ys h = let k = all_without P xs y ys h.1 in (k.0, (h.0, k.1))

pub map-append : (xs ys : List Flying) → map (λ g. g.flight) (xs ++ ys) ≡ map (λ g. g.flight) xs ++ map (λ g. g.flight) ys
map-append [] ys = refl
map-append (x ∷ xs) ys = ap (λ (fs : List Flight). x.flight ∷ fs) (map-append xs ys)

-- ---- a submit

-- how a request stands once it was tried so
pub tried_so : (near : Near) (a b : Core) (before after : RequestView) (answer : Submitted) (made : Try) → Submits near a b before after answer made
    → last_or None (asked_of after).tries ≡ Some (record { end = made.end; statuses = []; back = None })
tried_so near a b before after answer made h =
    ap (λ (ts : List Try). last_or None (map tried_of ts)) h.tries ∙ last_or-map tried_of (before.tries ++ made ∷ []) ∙ ap (option_map tried_of) (last_added None before.tries made) ∙ ap (λ (t : Try). Some (tried_of t)) h.tried

pub last_made : (near : Near) (a b : Core) (before after : RequestView) (answer : Submitted) (made : Try) → Submits near a b before after answer made → last_or None after.tries ≡ Some made
last_made near a b before after answer made h = ap (λ (ts : List Try). last_or None ts) h.tries ∙ last_added None before.tries made

pub placed_so : (lane id : ℕ) (r : RequestView) (e : TryEnd) (d : DeskView) → id ≡ r.id → placed (answer_of lane id e) r d ≡ placing lane r e d
placed_so lane id r (end.Sent slot version) d same = λ i. record d { flying = d.flying ++ record { flight = record { slot = slot; version = version; req = same i; lane = lane }; request = r } ∷ [] }
placed_so lane id r end.Listed d same = refl
placed_so lane id r end.Failed d same = refl

-- The desk has these flights, whose requests were sent, and what is to be listed waits.
pub record AtDesk (flights : List Flight) (d : DeskView) : Type 0 where
  pub flights_are : flights ≡ map (λ f. f.flight) d.flying
  pub aloft : AllByRecursion IsAloft d.flying
  pub waiting : AllByRecursion IsWaiting d.out

pub sits_so : (flights : List Flight) (a b : Core) (d : DeskView) → Stays flights a b → AtDesk flights d → Leaves a b d
sits_so flights a b d s h = record {
  sits = record { closed = s.closed; flights = s.flights_are ∙ h.flights_are; aloft = h.aloft; waiting = h.waiting };
  kept = s.kept;
}

place_at : (lane id : ℕ) (r : RequestView) (e : TryEnd) (events : _) (v : List Flight) (d : DeskView) → id ≡ r.id → last_or None (asked_of r).tries ≡ Some (record { end = e; statuses = []; back = None }) → AtDesk v d
    → AtDesk (v ++ flights_of lane id e) (placing lane r e (noting events d))
place_at lane id r (end.Sent slot version) events v d same last h = record {
  flights_are = (λ i. h.flights_are i ++ record { slot = slot; version = version; req = same i; lane = lane } ∷ []) ∙ sym (map-append d.flying (record { flight = record { slot = slot; version = version; req = r.id; lane = lane }; request = r } ∷ []));
  aloft = all_append IsAloft d.flying (record { flight = record { slot = slot; version = version; req = r.id; lane = lane }; request = r } ∷ []) h.aloft ((refl, ap outcome_of last), tt);
  waiting = h.waiting;
}
place_at lane id r end.Listed events v d same last h = record {
  flights_are = append-nil v ∙ h.flights_are;
  aloft = h.aloft;
  waiting = all_append IsWaiting d.out (r ∷ []) h.waiting (ap outcome_of last, tt);
}
place_at lane id r end.Failed events v d same last h = record { flights_are = append-nil v ∙ h.flights_are; aloft = h.aloft; waiting = h.waiting }

pub at_desk_of : (a : Core) (d : DeskView) → Sits a d → AtDesk a.view.flights d
at_desk_of a d s = record { flights_are = s.flights; aloft = s.aloft; waiting = s.waiting }

pub submit_stays : (near : Near) (a b : Core) (before after : RequestView) (answer : Submitted) (made : Try) → Submits near a b before after answer made → Stays (a.view.flights ++ flights_of a.lane before.id made.end) a b
submit_stays near a b before after answer made h = record {
  kept = record { home = ap (λ c. c.home) h.view; lane = ap (λ c. c.lane) h.view; alone = ap (λ c. c.alone) h.view; others = ap (λ c. c.others) h.view; role = ap (λ c. c.view.role) h.view; start = ap (λ c. c.view.keeping.start) h.view };
  flights_are = ap (λ c. c.view.flights) h.view;
  closed = ap (λ c. c.view.inside) h.view;
}

pub submit_leaves : (near : Near) (a b : Core) (before after : RequestView) (answer : Submitted) (made : Try) (events : List Event) (d e : DeskView) → Submits near a b before after answer made → Sits a d
    → e ≡ placing a.lane after made.end (noting events d) → Leaves a b e
submit_leaves near a b before after answer made events d e h s is =
    subst (Leaves a b) (sym is) (sits_so (a.view.flights ++ flights_of a.lane before.id made.end) a b _ (submit_stays near a b before after answer made h) (place_at a.lane before.id after made.end events a.view.flights d (sym h.id) (tried_so near a b before after answer made h) (at_desk_of a d s)))

-- the desk after its room was made, the try noted and the request put where it was sent
pub submit_puts : (lane : ℕ) (before after : RequestView) (answer : Submitted) (made : Try) (told : List Event) (d r n e : DeskView) → r ≡ d → n ≡ noting told r → e ≡ placed answer after n → answer ≡ answer_of lane before.id made.end → after.id ≡ before.id
    → e ≡ placing lane after made.end (noting told d)
submit_puts lane before after answer made told d r n e room noted puts answers same =
    puts ∙ (λ i. placed (answers i) after (noted i)) ∙ placed_so lane before.id after made.end (noting told r) (sym same) ∙ ap (λ (z : DeskView). placing lane after made.end (noting told z)) room

-- a request that was put somewhere is at most one more
pub placed_weighs : (answer : Submitted) (after : RequestView) (d r : DeskView) (events : List Event) (keeps : Bool) (e : DeskView) → r ≡ d → e ≡ placed answer after (record r { events = events; keeps = keeps }) → unended e ≤ unended d + 1
placed_weighs answer after d r events keeps e room is = let same : unended e ≡ unended (placed answer after (record r { events = events; keeps = keeps })) = ap unended is in let even : unended r ≡ unended d = ap unended room in let more = one_more answer in omega (arith, same, even, more)
  where
    one_more : (answer : Submitted) → unended (placed answer after (record r { events = events; keeps = keeps })) ≤ unended r + 1
    one_more (submitted.Sent f) = omega (arith, length-append r.flying (record { flight = f; request = after } ∷ []))
    one_more submitted.Listed = omega (arith, length-append r.out (after ∷ []))
    one_more submitted.Failed = omega arith

-- what holds where all went well holds where nothing failed
pub ok_so : {T E X : Type 0} (r : Result T E) (b : Bool) → b ≡ is_err r → b ≡ false → OnOk r X → X
ok_so (Ok x) b value not_err h = h
ok_so (Err e) b value not_err h = absurd (let bad : true ≡ false = sym value ∙ not_err in cc)
