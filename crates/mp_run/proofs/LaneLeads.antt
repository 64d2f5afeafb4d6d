-- The calls of a lane's turn lead it on as the plain run's turn does.
use Rattle.std.proofs.Common.{[], ◌≡◌, ℕ, List, ◌∷◌, ◌++◌, map, Option, None, Some, inl, inr, refl, sym, ap, ◌∙◌, subst, append_assoc}
use Rattle.std.specs.List.{AllByRecursion}
use Rattle.std.proofs.lemmas.Bool.{cases_Bool}
use Rattle.mp_record.specs.declared.event.Event.{Event}
use Rattle.mp_record.specs.declared.event.Event.TheVariants.{At}
use Rattle.mp_record.specs.declared.event.Said.{Said}
use Rattle.mp_record.specs.RunView.{is_plain}
use Rattle.mp_core.specs.Memory.{Memory}
use Rattle.mp_desk.specs.DeskView.{noting}
use Rattle.mp_desk.specs.Calls.{DeskCall, Means, Stand, CallsTo, StopsTo, EndsAll, submit, finish, change, add, remove, set_policy, reap}
use Rattle.mp_lane.specs.Lines.{LineStart, Reads, means_of}
use Rattle.mp_legal.specs.PlainCall.{Inputs, call}
use Rattle.mp_legal.specs.PlainLine.{Start, opens}
use Rattle.mp_legal.specs.PlainState.{State}
use Rattle.mp_legal.specs.Stepped.{Stepped, Place, each, joined, tells}
use Rattle.mp_legal.specs.ToldDesks.{SitsAt, KeepsIn, MayCall, MayCalls, Leads, GoesBy, plain_of, told_events}
use Rattle.mp_legal.specs.ToldState.{Beside, state_in}
use Rattle.mp_legal.specs.Units.{Paid, each_paid, pay_call, pay_line, settled}
use Rattle.mp_run.specs.DeskLaws.{DeskLaws}

-- where a lane stands once it has said something
abbrev pub said_at : List Event → Stand → Stand
said_at es p = record p { desk = noting es p.desk }

pub said_sits : (es : List Event) (p : Stand) (before : List ℕ) (m : Memory) (x : Beside) → SitsAt p before m x → SitsAt (said_at es p) before m x
said_sits es p before m x h = record {
  at = h.at;
  sits = record { closed = h.sits.closed; flights = h.sits.flights; aloft = h.sits.aloft; waiting = h.sits.waiting };
  own = h.own;
  requests = record { flying = h.requests.flying; out = h.requests.out; ended = h.requests.ended; once = h.requests.once };
  waiting = h.waiting;
  nobody = h.nobody;
  noted = h.noted;
}

said_keeps : (es : List Event) (p : Stand) (m : Memory) (x : Beside) → KeepsIn p m x → KeepsIn (said_at es p) m x
said_keeps es p m x k = record { stands = k.stands; agrees = k.agrees }

said_may_call : (es : List Event) (c : DeskCall) (p : Stand) (m : Memory) (x : Beside) → MayCall c p m x → MayCall c (said_at es p) m x
said_may_call es (submit r) p m x may = record { stands = may.stands; elsewhere = may.elsewhere }
said_may_call es (finish f) p m x may = tt
said_may_call es (change ctrl o) p m x may = may
said_may_call es (add gift) p m x may = (said_keeps es p m x may.0, may.1)
said_may_call es (remove ctrl) p m x may = said_keeps es p m x may
said_may_call es (set_policy policy) p m x may = said_keeps es p m x may
said_may_call es reap p m x may = said_keeps es p m x may

said_each : (es : List Event) (cs : List DeskCall) (p : Stand) (m : Memory) (x : Beside) → AllByRecursion (λ c. MayCall c p m x) cs → AllByRecursion (λ c. MayCall c (said_at es p) m x) cs
said_each es [] p m x may = tt
said_each es (c ∷ cs) p m x may = (said_may_call es c p m x may.0, said_each es cs p m x may.1)

pub said_may : (es : List Event) (cs : List DeskCall) (p : Stand) (m : Memory) (x : Beside) → MayCalls cs p m x → MayCalls cs (said_at es p) m x
said_may es cs p m x may = record { each = said_each es cs p m x may.each; once = may.once }

-- what is told of these and of those
pub told_append : (xs ys : List Event) → told_events (xs ++ ys) ≡ told_events xs ++ told_events ys
told_append [] ys = refl
told_append (x ∷ xs) ys =
    elim (cases_Bool (is_plain x)) [
      | inl on ↦ rw on (ap (λ (es : List Event). x ∷ es) (told_append xs ys))
      | inr off ↦ rw off (told_append xs ys)
    ]

-- what lines say is told
pub told_said : (line : ℕ) (said : List Said) → told_events (map (At line) said) ≡ map (At line) said
told_said line [] = refl
told_said line (s ∷ said) = ap (λ (es : List Event). At line s ∷ es) (told_said line said)

-- what is said before the calls comes before what they tell
pub said_leads : (line : ℕ) (said : List Said) (step : Stepped) (s : State) (cs : List DeskCall) (p q : Stand) (before : List ℕ) (m : Memory) (x : Beside)
    → Leads step cs (said_at (map (At line) said) p) q before m x → Leads (joined (tells s (map (At line) said)) step) cs p q before m x
said_leads line said step s cs p q before m x l =
    let es : List Event = map (At line) said in
    record {
      memory = l.memory;
      beside = l.beside;
      sits = l.sits;
      state = l.state;
      rows = l.rows;
      orders = l.orders;
      events = l.events ∙ ap (λ (ts : List Event). ts ++ step.events) (told_append p.desk.events es ∙ ap (λ (ts : List Event). told_events p.desk.events ++ ts) (told_said line said)) ∙ append_assoc (told_events p.desk.events) es step.events;
      pass = record { home = l.pass.home; lane = l.pass.lane; alone = l.pass.alone; others = l.pass.others; role = l.pass.role; start = l.pass.start };
      keeper = λ k. l.keeper (said_keeps es p m x k);
      desk = l.desk;
      requests = l.requests;
      flights = l.flights;
      agrees = l.agrees;
    }

-- A turn that was paid for leads a lane on.
pub record Goes (paid : Paid) (left : Option ℕ) (cs : List DeskCall) (p q : Stand) (before : List ℕ) (m : Memory) (x : Beside) : Type 0 where
  pub leads : Leads paid.step cs p q before m x
  pub left_is : paid.left ≡ left

-- ---- all calls could be paid

-- a line whose calls could all be paid
paid_all : (i : Inputs) (at : Place) (left : ℕ) (start : Start) (rest : Paid) (more : ℕ) → each_paid (pay_call i at) start.state left start.calls ≡ record { step = rest.step; left = Some more }
    → settled at.lane (pay_line i at left start) ≡ record { step = joined (opens at start) rest.step; left = Some more }
paid_all i at left start rest more is = rw is refl

pub turn_runs : (laws : DeskLaws) (i : Inputs) (rd : Reads) (b : LineStart) (line : ℕ) (p q : Stand) (before : List ℕ) (m : Memory) (y : Beside) → GoesBy i (means_of rd line) → SitsAt p before m y → MayCalls b.calls p m y
    → CallsTo (means_of rd line) b.calls (said_at (map (At line) b.said) p) q
    → Goes (settled p.core.lane (pay_line i (record { lane = p.core.lane; line = line }) p.core.view.left (record { state = state_in m y; said = b.said; calls = map plain_of b.calls }))) (Some q.core.view.left) b.calls p q before m y
turn_runs laws i rd b line p q before m y by sits may to =
    let w : Means = means_of rd line in
    let es : List Event = map (At line) b.said in
    let at : Place = record { lane = p.core.lane; line = line } in
    let start : Start = record { state = state_in m y; said = b.said; calls = map plain_of b.calls } in
    let told = laws.calls_are i w b.calls (said_at es p) q before m y by (said_sits es p before m y sits) (said_may es b.calls p m y may) to in
    let step : Stepped = each (call i at) (state_in m y) (map plain_of b.calls) in
    let paid : settled at.lane (pay_line i at p.core.view.left start) ≡ record { step = joined (opens at start) step; left = Some q.core.view.left } = paid_all i at p.core.view.left start (record { step = step; left = None }) q.core.view.left told.1 in
    subst (λ (z : Paid). Goes z (Some q.core.view.left) b.calls p q before m y) (sym paid)
    (record { leads = said_leads line b.said step (state_in m y) b.calls p q before m y told.0; left_is = refl })

-- ---- one call couldn't be paid

none_left : (i : Inputs) (at : Place) (left : ℕ) (start : Start) → (each_paid (pay_call i at) start.state left start.calls).left ≡ None
    → settled at.lane (pay_line i at left start) ≡ record { step = joined (opens at start) (settled at.lane (each_paid (pay_call i at) start.state left start.calls)).step; left = None }
none_left i at left start none = rw none refl

pub turn_stops : (laws : DeskLaws) (i : Inputs) (rd : Reads) (b : LineStart) (line : ℕ) (p mid q : Stand) (before : List ℕ) (m : Memory) (y : Beside) → GoesBy i (means_of rd line) → SitsAt p before m y → MayCalls b.calls p m y
    → StopsTo (means_of rd line) b.calls (said_at (map (At line) b.said) p) mid → EndsAll mid.core q.core mid.desk q.desk → q.keeper ≡ mid.keeper
    → Goes (settled p.core.lane (pay_line i (record { lane = p.core.lane; line = line }) p.core.view.left (record { state = state_in m y; said = b.said; calls = map plain_of b.calls }))) None b.calls p q before m y
turn_stops laws i rd b line p mid q before m y by sits may stops ends keeper =
    let w : Means = means_of rd line in
    let es : List Event = map (At line) b.said in
    let at : Place = record { lane = p.core.lane; line = line } in
    let start : Start = record { state = state_in m y; said = b.said; calls = map plain_of b.calls } in
    let rest : Paid = each_paid (pay_call i at) (state_in m y) p.core.view.left (map plain_of b.calls) in
    let stopped = laws.stopped_are i w b.calls (said_at es p) mid before m y by (said_sits es p before m y sits) (said_may es b.calls p m y may) stops in
    let led = laws.spent_settled i w b.calls (said_at es p) mid q.core q.desk before m y by (said_sits es p before m y sits) (said_may es b.calls p m y may) stops ends in
    let paid : settled at.lane (pay_line i at p.core.view.left start) ≡ record { step = joined (opens at start) (settled at.lane rest).step; left = None } = none_left i at p.core.view.left start stopped.spent in
    let same : Leads (settled at.lane rest).step b.calls (said_at es p) q before m y =
    subst (λ k. Leads (settled at.lane rest).step b.calls (said_at es p) (record { core = q.core; desk = q.desk; keeper = k }) before m y) (sym keeper) led in
    subst (λ (z : Paid). Goes z None b.calls p q before m y) (sym paid)
    (record { leads = said_leads line b.said (settled at.lane rest).step (state_in m y) b.calls p q before m y same; left_is = refl })
