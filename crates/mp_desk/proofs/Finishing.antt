-- The finish of a flight that was taken from a desk.
use Rattle.std.proofs.Common.{◌≡◌, ℕ, suc, ◌+◌, ◌-◌, ◌<◌, ◌≤◌, true, List, [], ◌∷◌, ◌++◌, length, map, Option, Some, None, option_map, refl, sym, ap, ◌∙◌, subst, arith}
use Rattle.std.specs.List.{last_or, list_any, AllByRecursion}
use Rattle.std.proofs.lemmas.List.{length-append}
use Rattle.mp_words.specs.declared.answers.Answer.{Answer}
use Rattle.mp_words.specs.declared.flight.Flight.{Flight}
use Rattle.mp_words.specs.declared.near.Near.{Near}
use Rattle.mp_words.specs.declared.note.Note.{Note}
use Rattle.mp_words.specs.declared.row.Row.{Row}
use Rattle.mp_words.specs.declared.trying.Back.{Back}
use Rattle.mp_words.specs.declared.trying.Outcome.TheVariants as outcome
use Rattle.mp_words.specs.declared.trying.Try.{Try}
use Rattle.mp_words.specs.declared.trying.TryEnd.{TryEnd}
use Rattle.mp_words.specs.declared.trying.TryEnd.TheVariants as end
use Rattle.mp_words.specs.Request.{asked_of, tried_of, outcome_of, ended_try, map_last}
use Rattle.mp_words.specs.RequestView.{RequestView}
use Rattle.mp_words.proofs.Last.{last_or-map}
use Rattle.mp_record.specs.declared.event.Event.{Event}
use Rattle.mp_core.specs.Core.{Core}
use Rattle.mp_core.specs.Kinds.{Lands}
use Rattle.mp_core.specs.Views.{flights_without, has_flight, is_flight}
use Rattle.mp_submit.specs.declared.finish.Finished.{Finished}
use Rattle.mp_submit.specs.declared.finish.Finished.TheVariants as finished
use Rattle.mp_submit.specs.Finishes.{Finishes, FinishTo, Ended, six_of}
use Rattle.mp_keep.specs.Keeper.{KeeperView}
use Rattle.mp_desk.specs.declared.flying.Flying.{Flying}
use Rattle.mp_desk.specs.DeskView.{DeskView, noting, entering, landing, unended}
use Rattle.mp_desk.specs.Calls.{Means, FlightStays, FlightEnds, FlightFalls, FlightDrops, After, HasLeft, KeepsPass, IsAloft, IsWaiting}
use Rattle.mp_desk.specs.Desks.{IsTaken, KeepsStand, Leaves, stand}
use Rattle.mp_desk.specs.Says.{back_in, end_event, entries_back, moved_section, sections_of}
use Rattle.mp_desk.proofs.Again.{Again, after_again}
use Rattle.mp_desk.proofs.KeeperStands.{finish_stands, lands_stand}
use Rattle.mp_desk.proofs.Sitting.{AtDesk, Stays, all_without, all_append, fails_stays, first_gone, flies, kept_on, lands_stays, marks_stays, sits_so}

-- by what a finish goes
abbrev pub means : Near → List Answer → ℕ → Means
means near answers line = record { near = near; answers = answers; line = line }

-- A finish goes on from here: it has met other changes of the row so far, each for a unit.
pub record GoesOn (answers : List Answer) (f : Flying) (a c : Core) (d e : DeskView) (r : RequestView) (n most : ℕ) : Type 0 where
  pub taken : IsTaken f c e
  pub kept : KeepsPass a c
  pub left : c.view.left + n ≡ most
  pub all : most ≡ a.view.left
  pub same : r ≡ f.request
  pub stands : KeepsStand a c
  pub weight : unended e ≤ unended d
  pub again : (near : Near) (line : ℕ) (k : KeeperView) → (m : ℕ) × Again m (FlightStays (means near answers line) f) (stand a d k) (stand c e k)

-- ---- the last try

-- the try was sent
abbrev WasSent : TryEnd → Type 0
WasSent (end.Sent slot version) = Unit {0}
WasSent end.Listed = ⊥
WasSent end.Failed = ⊥

-- a request that was sent has a last try
sent_by : (t : Try) (e : TryEnd) → t.end ≡ e → outcome_of (Some (tried_of t)) ≡ outcome.Sent → WasSent e
sent_by t (end.Sent slot version) is sent = tt
sent_by t end.Listed is sent = absurd (let h = rw is at sent in cc)
sent_by t end.Failed is sent = absurd (let h = rw is at sent in cc)

sent_last : (tries : List Try) → outcome_of (last_or None (map tried_of tries)) ≡ outcome.Sent → (t : Try) × (last_or None tries ≡ Some t) × WasSent t.end
sent_last tries sent = by (last_or None tries) refl
  where
    by : (o : Option Try) → last_or None tries ≡ o → (t : Try) × (last_or None tries ≡ Some t) × WasSent t.end
    by None is = absurd (let h : outcome_of None ≡ outcome.Sent = ap (λ (o : Option Try). outcome_of (option_map tried_of o)) (sym is) ∙ ap outcome_of (sym (last_or-map tried_of tries)) ∙ sent in cc)
    by (Some t) is = (t, is, sent_by t t.end refl (ap (λ (o : Option Try). outcome_of (option_map tried_of o)) (sym is) ∙ ap outcome_of (sym (last_or-map tried_of tries)) ∙ sent))

pub last_changed : (f : Try → Try) (tries : List Try) → last_or None (map_last f tries) ≡ option_map f (last_or None tries)
last_changed f [] = refl
last_changed f (t ∷ []) = refl
last_changed f (t ∷ u ∷ []) = refl
last_changed f (t ∷ u ∷ v ∷ tries) = last_changed f (u ∷ v ∷ tries)

waits_by : (t : Try) (e : TryEnd) (way : Back) → t.end ≡ e → WasSent e → t.back ≡ Some way → outcome_of (Some (tried_of t)) ≡ outcome.Waiting
waits_by t (end.Sent slot version) way is sent back = rw (is, back) refl
waits_by t end.Listed way is sent back = absurd sent
waits_by t end.Failed way is sent back = absurd sent

-- How the last try of a request stands that was sent, and whose flight has ended.
record LastEnded (after : RequestView) (way : Option Back) : Type 0 where
  made : Try
  last : last_or None after.tries ≡ Some made
  back : made.back ≡ way
  waits : (w : Back) → way ≡ Some w → IsWaiting after

last_ended : (before after : RequestView) (statuses : List ℕ) (way : Option Back) → (outcome_of (last_or None (asked_of before).tries) ≡ outcome.Sent) → Ended before after statuses way → LastEnded after way
last_ended before after statuses way sent h =
    let was = sent_last before.tries sent in
    let made : Try = ended_try (six_of statuses) (length statuses) way was.0 in
    let last : last_or None after.tries ≡ Some made = ap (λ (ts : List Try). last_or None ts) h.tries ∙ last_changed (ended_try (six_of statuses) (length statuses) way) before.tries ∙ ap (option_map (ended_try (six_of statuses) (length statuses) way)) was.1 in
    record {
      made = made;
      last = last;
      back = refl;
      waits = λ w is. ap outcome_of (last_or-map tried_of after.tries ∙ ap (option_map tried_of) last) ∙ waits_by made made.end w refl was.2 is;
    }

-- ---- what a finish leaves

-- A flight has ended, and its request stands so.
record EndsSo (c b : Core) (f : Flight) (after : RequestView) : Type 0 where
  way : Option Back
  stays : Stays (flights_without f c.view.flights) c b
  last : LastEnded after way

ends_to : (answers : List Answer) (c b : Core) (f : Flight) (before after : RequestView) (answer : Finished) → FinishTo answers c b f before after answer → HasLeft answer → (outcome_of (last_or None (asked_of before).tries) ≡ outcome.Sent) → c.view.inside ≡ None → EndsSo c b f after
ends_to answers c b f before after (finished.Done status) to left sent closed = record { way = None; stays = lands_stays c b f to.2 closed; last = last_ended before after _ None sent to.3 }
ends_to answers c b f before after (finished.Back n) to left sent closed =
    let fails = fails_stays _ c to.0 f _ n to.1 to.2 in
    let lands = lands_stays to.0 b f to.3 fails.closed in
    record {
      way = Some to.1;
      stays = record { kept = kept_on c to.0 b fails.kept lands.kept; flights_are = lands.flights_are ∙ ap (flights_without f) fails.flights_are; closed = lands.closed };
      last = last_ended before after _ (Some to.1) sent to.4;
    }
ends_to answers c b f before after (finished.Moved g row n) to left sent closed = absurd left

-- the flight that was taken flies, and its request was sent
pub taken_flies : (f : Flying) (c : Core) (e : DeskView) → IsTaken f c e → has_flight f.flight c.view ≡ true
taken_flies f c e h = ap (λ fs. list_any (is_flight f.flight) fs) (h.sits.flights ∙ ap (map (λ g. g.flight)) h.takes.was) ∙ flies f h.takes.before h.takes.after

pub taken_aloft : (f : Flying) (c : Core) (e : DeskView) → IsTaken f c e → IsAloft f
taken_aloft f c e h = (all_without IsAloft h.takes.before f h.takes.after (subst (AllByRecursion IsAloft) h.takes.was h.sits.aloft)).0

-- the flights of the pass without it are those of the desk
rest_at : (f : Flying) (c : Core) (e : DeskView) → IsTaken f c e → AtDesk (flights_without f.flight c.view.flights) e
rest_at f c e h = subst (AtDesk (flights_without f.flight c.view.flights)) (sym h.takes.is) (record {
  flights_are = ap (flights_without f.flight) (h.sits.flights ∙ ap (map (λ g. g.flight)) h.takes.was) ∙ first_gone f h.takes.before h.takes.after h.takes.none;
  aloft = (all_without IsAloft h.takes.before f h.takes.after (subst (AllByRecursion IsAloft) h.takes.was h.sits.aloft)).1;
  waiting = h.sits.waiting;
})

-- the flight falls
pub falls_leaves : (f : Flying) (a c b : Core) (e : DeskView) → IsTaken f c e → KeepsPass a c → Lands c b f.flight → Leaves a b e
falls_leaves f a c b e h kept lands =
    let s = lands_stays c b f.flight lands h.sits.closed in
    let l = sits_so (flights_without f.flight c.view.flights) c b e s (rest_at f c e h) in
    record { sits = l.sits; kept = kept_on a c b kept l.kept }

-- it has ended
landed_at : (v : List Flight) (r : RequestView) (way : Option Back) (events : List Event) (e : DeskView) → AtDesk v e → ((w : Back) → way ≡ Some w → IsWaiting r) → AtDesk v (landing r way (entering (entries_back way) (noting events e)))
landed_at v r None events e h waits = record { flights_are = h.flights_are; aloft = h.aloft; waiting = h.waiting }
landed_at v r (Some way) events e h waits = record { flights_are = h.flights_are; aloft = h.aloft; waiting = all_append IsWaiting e.out (r ∷ []) h.waiting (waits way refl, tt) }

-- One finish that left, and what was noted of it.
pub record Notes (answers : List Answer) (f : Flying) (c b : Core) (e g r : DeskView) (before after : RequestView) (answer : Finished) : Type 0 where
  pub finishes : Finishes answers c b f.flight before after answer
  pub same : before ≡ f.request
  pub left : HasLeft answer
  pub room : r ≡ e
  pub desk : g ≡ landing after (back_in (last_or None after.tries)) (entering (entries_back (back_in (last_or None after.tries))) (noting (sections_of answer ++ end_event after (last_or None after.tries)) r))

desk_so : (answers : List Answer) (f : Flying) (c b : Core) (e g r : DeskView) (before after : RequestView) (answer : Finished) → Notes answers f c b e g r before after answer
    → g ≡ landing after (back_in (last_or None after.tries)) (entering (entries_back (back_in (last_or None after.tries))) (noting (sections_of answer ++ end_event after (last_or None after.tries)) e))
desk_so answers f c b e g r before after answer h = h.desk ∙ ap (λ (z : DeskView). landing after (back_in (last_or None after.tries)) (entering (entries_back (back_in (last_or None after.tries))) (noting (sections_of answer ++ end_event after (last_or None after.tries)) z))) h.room

finishes_so : (answers : List Answer) (f : Flying) (c b : Core) (e g r : DeskView) (before after : RequestView) (answer : Finished) → Notes answers f c b e g r before after answer → Finishes answers c b f.flight f.request after answer
finishes_so answers f c b e g r before after answer h = subst (λ (z : RequestView). Finishes answers c b f.flight z after answer) h.same h.finishes

ends_so : (answers : List Answer) (f : Flying) (c b : Core) (e : DeskView) (after : RequestView) (answer : Finished) → IsTaken f c e → Finishes answers c b f.flight f.request after answer → HasLeft answer → EndsSo c b f.flight after
ends_so answers f c b e after answer h fin left = ends_to answers c b f.flight f.request after answer fin.to left (taken_aloft f c e h).1 h.sits.closed

-- it has a last try then
pub has_last : (answers : List Answer) (f : Flying) (c b : Core) (e : DeskView) (before after : RequestView) (answer : Finished) → IsTaken f c e → Finishes answers c b f.flight before after answer → before ≡ f.request → HasLeft answer → (made : Try) × (last_or None after.tries ≡ Some made)
has_last answers f c b e before after answer h fin same left =
    let s = ends_so answers f c b e after answer h (subst (λ (z : RequestView). Finishes answers c b f.flight z after answer) same fin) left in
    (s.last.made, s.last.last)

pub leaves : (answers : List Answer) (f : Flying) (a c b : Core) (d e g r : DeskView) (before after : RequestView) (answer : Finished) (m most : ℕ) → GoesOn answers f a c d e before m most → Notes answers f c b e g r before after answer → Leaves a b g
leaves answers f a c b d e g r before after answer m most on h =
    let s = ends_so answers f c b e after answer on.taken (finishes_so answers f c b e g r before after answer h) h.left in
    let way : back_in (last_or None after.tries) ≡ s.way = ap back_in s.last.last ∙ s.last.back in
    let at = landed_at (flights_without f.flight c.view.flights) after (back_in (last_or None after.tries)) (sections_of answer ++ end_event after (last_or None after.tries)) e (rest_at f c e on.taken) (λ w is. s.last.waits w (sym way ∙ is)) in
    let l = sits_so (flights_without f.flight c.view.flights) c b g s.stays (subst (AtDesk (flights_without f.flight c.view.flights)) (sym (desk_so answers f c b e g r before after answer h)) at) in
    record { sits = l.sits; kept = kept_on a c b on.kept l.kept }

-- a keeper stands as before then, and the request is one more
pub stands : (answers : List Answer) (f : Flying) (a c b : Core) (d e g r : DeskView) (before after : RequestView) (answer : Finished) (m most : ℕ) → GoesOn answers f a c d e before m most → Notes answers f c b e g r before after answer → KeepsStand a b
stands answers f a c b d e g r before after answer m most on h k s = finish_stands answers c b f.flight before after answer h.finishes k (on.stands k s)

landing_weighs : (r : RequestView) (way : Option Back) (e : DeskView) → unended (landing r way e) ≤ unended e + 1
landing_weighs r None e = omega arith
landing_weighs r (Some way) e = omega (arith, length-append e.out (r ∷ []))

pub weighs : (answers : List Answer) (f : Flying) (a c b : Core) (d e g r : DeskView) (before after : RequestView) (answer : Finished) (m most : ℕ) → GoesOn answers f a c d e before m most → Notes answers f c b e g r before after answer → unended g ≤ unended d + 1
weighs answers f a c b d e g r before after answer m most on h =
    let way = back_in (last_or None after.tries) in
    let z : DeskView = entering (entries_back way) (noting (sections_of answer ++ end_event after (last_or None after.tries)) e) in
    let is : unended g ≡ unended (landing after way z) = ap unended (desk_so answers f c b e g r before after answer h) in
    let more : unended (landing after way z) ≤ unended e + 1 = landing_weighs after way z in
    omega (arith, is, more, on.weight)

-- and so it does where the flight falls
pub falls_stands : (f : Flying) (a c b : Core) → KeepsStand a c → Lands c b f.flight → KeepsStand a b
falls_stands f a c b stands lands k s = lands_stand c b f.flight lands k (stands k s)

-- and then it is done
pub does : (answers : List Answer) (f : Flying) (a c b : Core) (d e g r : DeskView) (before after : RequestView) (answer : Finished) (m most : ℕ) → GoesOn answers f a c d e before m most → Notes answers f c b e g r before after answer → m < most
    → (near : Near) (line : ℕ) (k : KeeperView) → (1 ≤ a.view.left) × (j : ℕ) × After j (FlightStays (means near answers line) f) (FlightEnds (means near answers line) f) (stand a d k) (stand b g k)
does answers f a c b d e g r before after answer m most on h below near line k =
    let again = on.again near line k in
    let w = means near answers line in
    let ends : FlightEnds w f (stand c e k) (stand b g k) = record {
      paid = omega (arith, on.left, below);
      after = after;
      answer = answer;
      finishes = finishes_so answers f c b e g r before after answer h;
      left = h.left;
      made = has_last answers f c b e before after answer on.taken h.finishes h.same h.left;
      desk = desk_so answers f c b e g r before after answer h;
      keeper = refl;
    } in
    let all = after_again again.0 0 (FlightStays w f) (FlightEnds w f) (stand a d k) (stand c e k) (stand b g k) again.1 ends in
    (omega (arith, on.all, below), all.0, all.1)

-- it falls for want of units
pub stops : (answers : List Answer) (f : Flying) (a c b : Core) (d e : DeskView) (r : RequestView) (m most : ℕ) → GoesOn answers f a c d e r m most → most ≤ m → Lands c b f.flight
    → (near : Near) (line : ℕ) (k : KeeperView) → (j : ℕ) × After j (FlightStays (means near answers line) f) (FlightFalls f) (stand a d k) (stand b e k)
stops answers f a c b d e r m most on all lands near line k =
    let again = on.again near line k in
    let w = means near answers line in
    let short : c.view.left < 1 = omega (arith, on.left, all) in
    let falls : FlightFalls f (stand c e k) (stand b e k) = record { short = short; lands = lands; desk = refl; keeper = refl } in
    after_again again.0 0 (FlightStays w f) (FlightFalls f) (stand a d k) (stand c e k) (stand b e k) again.1 falls

-- it met another change of the row, and goes on
pub goes_on : (answers : List Answer) (f : Flying) (a c b : Core) (d e g r : DeskView) (before after : RequestView) (again : Flight) (row : Row) (n : Note) (m most : ℕ) → GoesOn answers f a c d e before m most
    → Finishes answers c b f.flight before after (finished.Moved again row n) → r ≡ e → g ≡ noting (moved_section n again.slot row.version ∷ []) r → m < most → GoesOn answers f a b d g after (m + 1) most
goes_on answers f a c b d e g r before after again row n m most on fin room desk below =
    let to : FinishTo answers c b f.flight before after (finished.Moved again row n) = fin.to in
    let event = moved_section n f.flight.slot row.version in
    let is : g ≡ noting (event ∷ []) e = desk ∙ (λ i. noting (moved_section n (to.1 i).slot row.version ∷ []) (room i)) in
    let s = marks_stays f.flight.slot _ c b _ n to.2 in
    let used : b.view.left ≡ c.view.left - 1 = ap (λ (z : Core). z.view.left) to.2.view in
    let own : Finishes answers c b f.flight f.request f.request (finished.Moved f.flight row n) =
    subst (λ (z : RequestView). Finishes answers c b f.flight z z (finished.Moved f.flight row n)) on.same
    (subst (λ (z : RequestView). Finishes answers c b f.flight before z (finished.Moved f.flight row n)) to.3 (subst (λ (z : Flight). Finishes answers c b f.flight before after (finished.Moved z row n)) to.1 fin)) in
    let t = on.taken in
    record {
      taken = record {
        whole = noting (event ∷ []) t.whole;
        sits = record { closed = s.closed; flights = s.flights_are ∙ t.sits.flights; aloft = t.sits.aloft; waiting = t.sits.waiting };
        takes = record { before = t.takes.before; after = t.takes.after; was = t.takes.was; none = t.takes.none; is = is ∙ ap (noting (event ∷ [])) t.takes.is };
      };
      kept = kept_on a c b on.kept s.kept;
      left = omega (arith, used, on.left, below);
      all = on.all;
      same = to.3 ∙ on.same;
      stands = λ k s. finish_stands answers c b f.flight before after (finished.Moved again row n) fin k (on.stands k s);
      weight = let even : unended g ≡ unended e = ap unended is in omega (arith, even, on.weight);
      again = λ near line k.
          let more = on.again near line k in
          (suc more.0, (stand c e k, more.1, record { paid = omega (arith, on.left, below); row = row; note = n; finishes = own; desk = is; keeper = refl }));
    }

-- it falls for want of memory
pub breaks : (answers : List Answer) (f : Flying) (a c b : Core) (d e g : DeskView) (r : RequestView) (m most : ℕ) → GoesOn answers f a c d e r m most → g ≡ e → Lands c b f.flight
    → (near : Near) (line : ℕ) (k : KeeperView) → (j : ℕ) × After j (FlightStays (means near answers line) f) (FlightDrops f) (stand a d k) (stand b g k)
breaks answers f a c b d e g r m most on room lands near line k =
    let again = on.again near line k in
    let drops : FlightDrops f (stand c e k) (stand b g k) = record { lands = lands; desk = room; keeper = refl } in
    after_again again.0 0 (FlightStays (means near answers line) f) (FlightDrops f) (stand a d k) (stand c e k) (stand b g k) again.1 drops
