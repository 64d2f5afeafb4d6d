-- What turns leave of flights and of requests.
use Rattle.std.proofs.Common.{[], ◌≡◌, ◌≢◌, ℕ, ◌<◌, true, false, ◌==◌, List, ◌∷◌, ◌++◌, inl, inr, map, length, get_or, Option, Some, None, refl, sym, ap, ◌∙◌, subst, eq-eqb, nat_lt, arith}
use Rattle.std.specs.Prelude.{Result, Ok, Err}
use Rattle.std.proofs.lemmas.Bool.{cases_Bool}
use Rattle.std.proofs.lemmas.Bool.Decides.{nat_tests}
use Rattle.mp_checks.specs.Marks.{has}
use Rattle.mp_words.specs.declared.flight.Flight.{Flight}
use Rattle.mp_page.specs.declared.page.Page.{Page}
use Rattle.mp_page.specs.declared.page.PageError.{PageError}
use Rattle.mp_page.specs.Gifts.{page_at, gift_of}
use Rattle.mp_script.specs.declared.script.Line.{Line}
use Rattle.mp_script.specs.declared.script.Line.TheVariants as line
use Rattle.mp_script.specs.declared.script.Numbered1.{Numbered1}
use Rattle.mp_script.specs.Facts.{submit_of}
use Rattle.mp_legal.specs.PlainState.{State}
use Rattle.mp_legal.specs.PlainCall.{Inputs, Call, finish, add, call}
use Rattle.mp_legal.specs.PlainLine.{Start, start_of, turn_start, place_of, turn_step, flights_of, flights_with, by_page, adds, reads_log}
use Rattle.mp_legal.specs.Stepped.{Place, each}
use Rattle.mp_legal.specs.Units.{Paid, paid_then, each_paid, pay_call, pay_line, pay_turn, settled, needs}
use Rattle.mp_legal.specs.Numbers.{has_flight, standing}
use Rattle.mp_script.specs.Distinct.{IsDistinct}
use Rattle.mp_run.specs.Sound.{AreOf, AreAloft}
use Rattle.mp_run.specs.LaneTurns.{submit_in}
use Rattle.mp_run.proofs.Changes.{of-filter, flight-filter, not_true}
use Rattle.mp_run.proofs.ByNumber.{or_false}
use Rattle.mp_run.proofs.Distinct.{has-append}
use Rattle.mp_run.proofs.OnTurns.{numbers}
use Rattle.mp_run.proofs.PutNumbers.{distinct_put, numbers-new, put_all}
use Rattle.mp_run.proofs.WithNew.{sent_before}
use Rattle.mp_run.proofs.KeptCalls.{AreHome, Keeps, keeps_each, AreCallsOf, calls_of, calls_submit, numbers-call, gone_finished, keeps_call}

-- ---- how lines start

-- What a start leaves: the numbers with those that it adds, the flights, that each request that was sent flies, and
-- calls of the lane.
record Starts (lane : ℕ) (s : State) (mine : List ℕ) (start : Start) : Type 0 where
  numbers : numbers start.state.requests ≡ put_all (numbers s.requests) mine
  flights : start.state.flights ≡ s.flights
  aloft : AreAloft s → AreAloft start.state
  calls : AreHome s → AreCallsOf lane start.calls

-- nothing but calls
starts_with : (lane : ℕ) (s : State) (start : Start) → start.state.requests ≡ s.requests → start.state.flights ≡ s.flights → (AreHome s → AreCallsOf lane start.calls) → Starts lane s [] start
starts_with lane s start requests flights of = record {
  numbers = ap numbers requests;
  flights = flights;
  aloft = λ aloft req sent. let it = aloft req (ap (standing req) (sym requests) ∙ sent) in (it.0, ap (λ (fs : List (List Flight)). has_flight req (get_or fs it.0 [])) flights ∙ it.1);
  calls = of;
}

starts_page : (lane : ℕ) (s : State) (read : Result Page PageError) (made : Page → Call) → ((page : Page) → AreCallsOf lane (made page ∷ [])) → Starts lane s [] (by_page s read made)
starts_page lane s (Ok page) made of = starts_with lane s _ refl refl (λ home. of page)
starts_page lane s (Err error) made of = starts_with lane s _ refl refl (λ home. tt)

starts_adds : (i : Inputs) (lane : ℕ) (s : State) (ctrl : ℕ) (box : Option ℕ) → Starts lane s [] (adds i s ctrl box)
starts_adds i lane s ctrl None = starts_with lane s _ refl refl (λ home. (tt, tt))
starts_adds i lane s ctrl (Some box) = starts_page lane s (page_at i.pages box) (λ page. add (gift_of i.topology.nsid ctrl (Some page))) (λ page. (tt, tt))

starts_line : (i : Inputs) (lane : ℕ) (s : State) (l : Line) → Starts lane s (submit_of l) (start_of i lane s l)
starts_line i lane s (line.Submit req node) = record {
  numbers = numbers-new (record { req = req; node = node; tries = [] }) s.requests;
  flights = refl;
  aloft = λ aloft r e. aloft r (sent_before s.requests req node r e);
  calls = λ home. (tt, tt);
}
starts_line i lane s (line.Finish req) = starts_with lane s _ refl refl (λ home. calls_of lane (flights_with req (flights_of lane s)) (of-filter lane (λ f. f.req == req) (flights_of lane s) (home lane)))
starts_line i lane s line.FinishAll = starts_with lane s _ refl refl (λ home. calls_of lane (flights_of lane s) (home lane))
starts_line i lane s line.Requeue = starts_with lane s _ refl refl (λ home. calls_submit lane s.waiting)
starts_line i lane s (line.Log ctrl box) = starts_page lane s (page_at i.pages box) (reads_log i.topology.nsid ctrl) (λ page. (tt, tt))
starts_line i lane s (line.Ctrl ctrl cstate) = starts_with lane s _ refl refl (λ home. (tt, tt))
starts_line i lane s (line.Anatt ctrl) = starts_with lane s _ refl refl (λ home. (tt, tt))
starts_line i lane s (line.Add ctrl box) = starts_adds i lane s ctrl box
starts_line i lane s (line.Remove ctrl) = starts_with lane s _ refl refl (λ home. (tt, tt))
starts_line i lane s line.Reap = starts_with lane s _ refl refl (λ home. (tt, tt))
starts_line i lane s (line.Policy policy) = starts_with lane s _ refl refl (λ home. (tt, tt))

starts_turn : (i : Inputs) (lane : ℕ) (s : State) (turn : Option Numbered1) → Starts lane s (submit_in turn) (turn_start i lane s turn)
starts_turn i lane s None = starts_with lane s _ refl refl (λ home. calls_of lane (flights_of lane s) (home lane))
starts_turn i lane s (Some l) = starts_line i lane s l.line

-- ---- a turn without units

-- What a turn leaves.
pub record Turned (lane : ℕ) (mine : List ℕ) (s t : State) : Type 0 where
  pub numbers : numbers t.requests ≡ put_all (numbers s.requests) mine
  pub lanes : length t.flights ≡ length s.flights
  pub aloft : lane < length s.flights → AreAloft s → AreAloft t
  pub home : AreHome s → AreHome t
  pub other : AreHome s → (l : ℕ) → l ≢ lane → flights_of l t ≡ flights_of l s

home_start : (lane : ℕ) (s : State) (mine : List ℕ) (start : Start) → Starts lane s mine start → AreHome s → AreHome start.state
home_start lane s mine start starts home l = subst (λ (fs : List (List Flight)). AreOf l (get_or fs l [])) (sym starts.flights) (home l)

turned : (i : Inputs) (at : Place) (s : State) (mine : List ℕ) (start : Start) → Starts at.lane s mine start → AreHome s → Turned at.lane mine s (each (call i at) start.state start.calls).state
turned i at s mine start starts home =
    let keeps : Keeps at.lane start.state (each (call i at) start.state start.calls).state = keeps_each i at start.state start.calls (starts.calls home) in
    record {
      numbers = keeps.numbers ∙ starts.numbers;
      lanes = keeps.lanes ∙ ap length starts.flights;
      aloft = λ lt aloft. keeps.aloft (omega (arith, lt, ap length starts.flights)) (starts.aloft aloft);
      home = λ home. keeps.home (home_start at.lane s mine start starts home);
      other = λ home l apart. keeps.other l apart ∙ ap (λ (fs : List (List Flight)). get_or fs l []) starts.flights;
    }

pub turn_keeps : (i : Inputs) (lane : ℕ) (s : State) (turn : Option Numbered1) → AreHome s → Turned lane (submit_in turn) s (turn_step i lane s turn).state
turn_keeps i lane s None home = turned i (place_of lane None) s [] (turn_start i lane s None) (starts_turn i lane s None) home
turn_keeps i lane s (Some l) home = turned i (place_of lane (Some l)) s (submit_of l.line) (turn_start i lane s (Some l)) (starts_turn i lane s (Some l)) home

-- ---- a lane whose flights all end is quiet

none_fly : (fs : List Flight) → ((r : ℕ) → has_flight r fs ≡ false) → fs ≡ []
none_fly [] none = refl
none_fly (f ∷ fs) none = let off = none f.req in let on : has_flight f.req (f ∷ fs) ≡ true = rw (eq-eqb f.req f.req refl) refl in absurd cc

swapped : (a b : ℕ) → (a == b) ≡ false → (b == a) ≡ false
swapped a b e = grind (arith, nat_tests)

-- what flies after these flights ended flew before and is none of them
each_gone : (i : Inputs) (at : Place) (s : State) (fs : List Flight) → at.lane < length s.flights → AreOf at.lane fs → (r : ℕ) → has_flight r (flights_of at.lane (each (call i at) s (map finish fs)).state) ≡ true
    → (has_flight r (flights_of at.lane s) ≡ true) × (has_flight r fs ≡ false)
each_gone i at s [] lt of r e = (e, refl)
each_gone i at s (f ∷ fs) lt of r e =
    let t : State = (call i at s (finish f)).state in
    let keeps : Keeps at.lane s t = keeps_call i at s (finish f) of.0 in
    let after = each_gone i at t fs (omega (arith, lt, keeps.lanes)) of.1 r e in
    let before = flight-filter (flights_of at.lane s) f.req r (ap (has_flight r) (sym (gone_finished i.answers at.lane at.lane s f of.0 lt)) ∙ after.0) in
    (before.0, rw (swapped r f.req before.1, after.1) refl)

pub all_end : (i : Inputs) (at : Place) (s : State) → at.lane < length s.flights → AreHome s → flights_of at.lane (each (call i at) s (map finish (flights_of at.lane s))).state ≡ []
all_end i at s lt home =
    let after : List Flight = flights_of at.lane (each (call i at) s (map finish (flights_of at.lane s))).state in
    none_fly after (λ r. not_true (has_flight r after) (λ e. let it = each_gone i at s (flights_of at.lane s) lt (home at.lane) r e in let on = it.0 in let off = it.1 in cc))

pub end_quiet : (i : Inputs) (lane : ℕ) (s : State) → lane < length s.flights → AreHome s → flights_of lane (turn_step i lane s None).state ≡ []
end_quiet i lane s lt home = all_end i (place_of lane None) s lt home

-- ---- a turn with units

numbers-then : (p : Paid) (next : State → ℕ → Paid) (left : Option ℕ) (ns : List ℕ) → p.left ≡ left → numbers p.step.state.requests ≡ ns → ((s : State) (rest : ℕ) → numbers s.requests ≡ ns → numbers (next s rest).step.state.requests ≡ ns)
    → numbers (paid_then p next).step.state.requests ≡ ns
numbers-then p next None ns is first more = rw is first
numbers-then p next (Some rest) ns is first more = rw is (more p.step.state rest first)

numbers-paid_call : (i : Inputs) (at : Place) (s : State) (left : ℕ) (c : Call) → numbers (pay_call i at s left c).step.state.requests ≡ numbers s.requests
numbers-paid_call i at s left c =
    elim (cases_Bool (nat_lt left (needs c))) [
      | inl short ↦ rw short refl
      | inr enough ↦ rw enough (numbers-call i at s c)
    ]

numbers-each_paid : (i : Inputs) (at : Place) (s : State) (left : ℕ) (cs : List Call) (ns : List ℕ) → numbers s.requests ≡ ns → numbers (each_paid (pay_call i at) s left cs).step.state.requests ≡ ns
numbers-each_paid i at s left [] ns is = is
numbers-each_paid i at s left (c ∷ cs) ns is =
    let p : Paid = pay_call i at s left c in
    numbers-then p (λ t rest. each_paid (pay_call i at) t rest cs) p.left ns refl (numbers-paid_call i at s left c ∙ is) (λ t rest e. numbers-each_paid i at t rest cs ns e)

numbers-settled : (lane : ℕ) (p : Paid) (left : Option ℕ) → p.left ≡ left → numbers (settled lane p).step.state.requests ≡ numbers p.step.state.requests
numbers-settled lane p None is = rw is refl
numbers-settled lane p (Some rest) is = rw is refl

-- a turn that is taken adds what it submits
pub numbers-paid : (i : Inputs) (lane : ℕ) (s : State) (turn : Option Numbered1) (left : ℕ) → numbers (pay_turn i lane s turn (Some left)).step.state.requests ≡ put_all (numbers s.requests) (submit_in turn)
numbers-paid i lane s turn left =
    let start : Start = turn_start i lane s turn in
    let p : Paid = pay_line i (place_of lane turn) left start in
    numbers-settled lane p p.left refl
    ∙ numbers-each_paid i (place_of lane turn) start.state left start.calls (put_all (numbers s.requests) (submit_in turn)) (starts_turn i lane s turn).numbers

-- what is distinct stays so without a part
distinct_behind : (ys zs : List ℕ) → IsDistinct (ys ++ zs) → IsDistinct zs
distinct_behind [] zs d = d
distinct_behind (y ∷ ys) zs d = distinct_behind ys zs d.1

distinct_skip : (xs ys zs : List ℕ) → IsDistinct (xs ++ (ys ++ zs)) → IsDistinct (xs ++ zs)
distinct_skip [] ys zs d = distinct_behind ys zs d
distinct_skip (x ∷ xs) ys zs d =
    let parts = or_false (has xs x) (has (ys ++ zs) x) (sym (has-append xs (ys ++ zs) x) ∙ d.0) in
    let rest = or_false (has ys x) (has zs x) (sym (has-append ys zs x) ∙ parts.1) in
    (has-append xs zs x ∙ rw (parts.0, rest.1) refl, distinct_skip xs ys zs d.1)

-- what the turns that are left submit is still new
pub fresh_next : (i : Inputs) (lane : ℕ) (s : State) (turn : Option Numbered1) (left : Option ℕ) (after : State) (rest : List ℕ) → after ≡ (pay_turn i lane s turn left).step.state
    → IsDistinct (numbers s.requests ++ (submit_in turn ++ rest)) → IsDistinct (numbers after.requests ++ rest)
fresh_next i lane s turn None after rest is d = rw is (distinct_skip (numbers s.requests) (submit_in turn) rest d)
fresh_next i lane s turn (Some left) after rest is d =
    let now : numbers after.requests ≡ put_all (numbers s.requests) (submit_in turn) = ap (λ (u : State). numbers u.requests) is ∙ numbers-paid i lane s turn left in
    subst (λ (ns : List ℕ). IsDistinct (ns ++ rest)) (sym now) (distinct_put (numbers s.requests) (submit_in turn) rest d)
