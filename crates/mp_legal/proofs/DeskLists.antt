-- Calls of a desk in a row are the plain run's calls in a row.
use Rattle.std.proofs.Common.{◌≡◌, ℕ, ◌+◌, ◌-◌, ◌<◌, ◌≤◌, ◌==◌, ◌||◌, Bool, true, false, nat_lt, List, [], ◌∷◌, ◌++◌, map, Option, Some, None, refl, sym, ap, ◌∙◌, subst, arith, append-nil, append_assoc, eqb-true, eq-eqb, cond, if◌then◌else◌}
use Rattle.std.specs.List.{AllByRecursion, flat_map}
use Rattle.std.proofs.lemmas.Bool.Decides.{nat_tests}
use Rattle.mp_checks.specs.Marks.{has}
use Rattle.mp_script.specs.Distinct.{IsDistinct}
use Rattle.mp_words.specs.declared.entry.OrderEntry.{OrderEntry}
use Rattle.mp_words.specs.declared.entry.RowEntry.{RowEntry}
use Rattle.mp_record.specs.declared.event.Event.{Event}
use Rattle.mp_core.specs.Memory.{Memory}
use Rattle.mp_words.specs.RequestView.{RequestView}
use Rattle.mp_desk.specs.Calls.{DeskCall, submit, finish, change, add, remove, set_policy, reap, Means, Stand, CallTo, CallsTo, StopsTo, needs, IsAloft}
use Rattle.mp_legal.specs.PlainCall.{Call, Inputs, call}
use Rattle.mp_legal.specs.PlainState.{State}
use Rattle.mp_legal.specs.Stepped.{Stepped, Place, tells, joined, each}
use Rattle.mp_legal.specs.ToldDesks.{GoesBy, SitsAt, MayCall, MayCalls, IsLaneCall, Leads, Stops, FallsBy, plain_of, place_at, number_of, submitted_by, told_events, times}
use Rattle.mp_legal.specs.ToldKeeper.{orders_in}
use Rattle.mp_legal.specs.ToldState.{Beside, state_in}
use Rattle.mp_legal.specs.Units as unit
use Rattle.mp_legal.specs.Units.{Paid, each_paid, pay_call, paid_if, paid_then, uses}
use Rattle.mp_legal.proofs.DeskCalls.{desk_call, desk_stop}
use Rattle.mp_legal.proofs.DeskFinish.{one_gone, numbered_middle, request_in}
use Rattle.mp_legal.proofs.DeskRequests.{among_same, all_first, numbered}

-- nothing is done
pub leads_none : (p : Stand) (before : List ℕ) (m : Memory) (x : Beside) → SitsAt p before m x → Leads (tells (state_in m x) []) [] p p before m x
leads_none p before m x h = record {
  memory = m;
  beside = x;
  sits = h;
  state = refl;
  rows = sym (append-nil p.desk.rows);
  orders = sym (append-nil (orders_in p.keeper.entries));
  events = sym (append-nil (told_events p.desk.events));
  pass = record { home = refl; lane = refl; alone = refl; others = refl; role = refl; start = refl };
  desk = λ req apart. omega arith;
  requests = λ req apart. record { there = refl; told = refl; read = refl };
  flights = λ lane apart. refl;
  keeper = λ old. old;
  agrees = λ lanes k sound old. old;
}

or_false : (a b : Bool) → (a || b) ≡ false → (a ≡ false) × (b ≡ false)
or_false true b e = absurd cc
or_false false b e = (refl, e)

has_parts : (xs ys : List ℕ) (n : ℕ) → has (xs ++ ys) n ≡ false → (has xs n ≡ false) × (has ys n ≡ false)
has_parts [] ys n e = (refl, e)
has_parts (x ∷ xs) ys n e =
    let parts = or_false (x == n) (has (xs ++ ys) n) e in
    let rest = has_parts xs ys n parts.1 in
    (rw parts.0 rest.0, rest.1)

call_parts : (c : DeskCall) (cs : List DeskCall) (n : ℕ) → has (flat_map number_of (c ∷ cs)) n ≡ false → (has (flat_map number_of (c ∷ [])) n ≡ false) × (has (flat_map number_of cs) n ≡ false)
call_parts c cs n e =
    let parts = has_parts (number_of c) (flat_map number_of cs) n e in
    (ap (λ (ns : List ℕ). has ns n) (append-nil (number_of c)) ∙ parts.0, parts.1)

-- a step, and then another from where it leads
pub leads_then : (first next : Stepped) (c : DeskCall) (cs : List DeskCall) (p r q : Stand) (before : List ℕ) (m : Memory) (x : Beside) → (one : Leads first (c ∷ []) p r before m x) → Leads next cs r q before one.memory one.beside
    → Leads (joined first next) (c ∷ cs) p q before m x
leads_then first next c cs p r q before m x one two =
    let a = one.pass in
    let b = two.pass in
    record {
      memory = two.memory;
      beside = two.beside;
      sits = two.sits;
      state = two.state;
      rows = two.rows ∙ ap (λ (es : List RowEntry). es ++ next.rows) one.rows ∙ append_assoc p.desk.rows first.rows next.rows;
      orders = two.orders ∙ ap (λ (es : List OrderEntry). es ++ next.orders) one.orders ∙ append_assoc (orders_in p.keeper.entries) first.orders next.orders;
      events = two.events ∙ ap (λ (es : List Event). es ++ next.events) one.events ∙ append_assoc (told_events p.desk.events) first.events next.events;
      pass = record { home = b.home ∙ a.home; lane = b.lane ∙ a.lane; alone = b.alone ∙ a.alone; others = b.others ∙ a.others; role = b.role ∙ a.role; start = b.start ∙ a.start };
      desk = λ req apart. let parts = call_parts c cs req apart in let e = one.desk req parts.0 in let f = two.desk req parts.1 in omega arith;
      requests = λ req apart. let parts = call_parts c cs req apart in
          record { there = (two.requests req parts.1).there ∙ (one.requests req parts.0).there; told = (two.requests req parts.1).told ∙ (one.requests req parts.0).told; read = (two.requests req parts.1).read ∙ (one.requests req parts.0).read };
      flights = λ lane apart. two.flights lane (λ is. apart (is ∙ a.lane)) ∙ one.flights lane apart;
      keeper = λ old. two.keeper (one.keeper old);
      agrees = λ lanes k sound old. two.agrees lanes.1 k sound (one.agrees (lanes.0, tt) k sound old);
    }

-- ---- what calls may still do behind another

-- a request that is submitted later isn't the one of this call
later_apart : (c : DeskCall) (w : Means) (r : RequestView) (p q : Stand) (before : List ℕ) (m : Memory) (x : Beside) → SitsAt p before m x → CallTo w c p q → has (submitted_by c) r.id ≡ false → times r.id p.desk ≡ 0 → has (flat_map number_of (c ∷ [])) r.id ≡ false
later_apart (submit request) w r p q before m x h to apart none = apart
later_apart (finish f) w r p q before m x h to apart none =
    let t = to.goes.1.takes in
    let aloft = one_gone IsAloft t.before f t.after p.desk.flying t.was h.sits.aloft in
    by (f.request.id == r.id) refl (sym (ap (numbered request_in r.id) t.was ∙ numbered_middle r.id t.before f t.after)) aloft.0
  where
    by : (b : Bool) → (f.request.id == r.id) ≡ b → numbered request_in r.id to.goes.1.takes.before + (cond b 1 0 + numbered request_in r.id to.goes.1.takes.after) ≡ numbered request_in r.id p.desk.flying → f.request.id ≡ f.flight.req → has (f.flight.req ∷ []) r.id ≡ false
    by true is sum id = absurd (omega (arith, none, sum))
    by false is sum id = ap (λ (b : Bool). b || false) (ap (λ n. n == r.id) (sym id) ∙ is)
later_apart (change ctrl o) w r p q before m x h to apart none = refl
later_apart (add gift) w r p q before m x h to apart none = refl
later_apart (remove ctrl) w r p q before m x h to apart none = refl
later_apart (set_policy policy) w r p q before m x h to apart none = refl
later_apart reap w r p q before m x h to apart none = refl

-- what one call may do it may do behind another
may_later : (c d : DeskCall) (w : Means) (p q : Stand) (before : List ℕ) (m : Memory) (x : Beside) (step : Stepped) → SitsAt p before m x → CallTo w c p q → (l : Leads step (c ∷ []) p q before m x)
    → ((n : ℕ) → has (submitted_by c) n ≡ true → has (submitted_by d) n ≡ true → ⊥) → MayCall d p m x → MayCall d q l.memory l.beside
may_later c (submit r) w p q before m x step h to l apart may =
    let off : has (flat_map number_of (c ∷ [])) r.id ≡ false = later_apart c w r p q before m x h to (none (has (submitted_by c) r.id) refl) may.elsewhere in
    record { stands = among_same r x l.beside (l.requests r.id off) may.stands; elsewhere = zero_of (l.desk r.id off) may.elsewhere }
  where
    own : has (r.id ∷ []) r.id ≡ true
    own = rw (eq-eqb r.id r.id refl) refl

    none : (b : Bool) → has (submitted_by c) r.id ≡ b → has (submitted_by c) r.id ≡ false
    none true is = absurd (apart r.id is own)
    none false is = is

    zero_of : times r.id q.desk ≤ times r.id p.desk → times r.id p.desk ≡ 0 → times r.id q.desk ≡ 0
    zero_of le e = omega (arith, le, e)
may_later c (finish f) w p q before m x step h to l apart may = tt
may_later c (change ctrl o) w p q before m x step h to l apart may = may
may_later c (add gift) w p q before m x step h to l apart may = (l.keeper may.0, may.1)
may_later c (remove ctrl) w p q before m x step h to l apart may = l.keeper may
may_later c (set_policy policy) w p q before m x step h to l apart may = l.keeper may
may_later c reap w p q before m x step h to l apart may = l.keeper may

distinct_parts : (xs ys : List ℕ) → IsDistinct (xs ++ ys) → IsDistinct ys
distinct_parts [] ys d = d
distinct_parts (x ∷ xs) ys d = distinct_parts xs ys d.1

both : {A : Type 0} (b : Bool) → b ≡ true → b ≡ false → A
both true e f = absurd cc
both false e f = absurd cc

has_more : (xs ys : List ℕ) (n : ℕ) → has ys n ≡ true → has (xs ++ ys) n ≡ true
has_more [] ys n e = e
has_more (x ∷ xs) ys n e = by (x == n) (has_more xs ys n e)
  where
    by : (b : Bool) → has (xs ++ ys) n ≡ true → (b || has (xs ++ ys) n) ≡ true
    by true e = refl
    by false e = e

has_front : (xs ys : List ℕ) (n : ℕ) → has xs n ≡ true → has (xs ++ ys) n ≡ true
has_front [] ys n e = absurd cc
has_front (x ∷ xs) ys n e = by (x == n) e (has_front xs ys n)
  where
    by : (b : Bool) → (b || has xs n) ≡ true → (has xs n ≡ true → has (xs ++ ys) n ≡ true) → (b || has (xs ++ ys) n) ≡ true
    by true e f = refl
    by false e f = f e

-- of distinct numbers none stands in both parts
distinct_apart : (xs ys : List ℕ) (n : ℕ) → IsDistinct (xs ++ ys) → has xs n ≡ true → has ys n ≡ true → ⊥
distinct_apart [] ys n d e f = absurd cc
distinct_apart (x ∷ xs) ys n d e f = by (x == n) refl e (λ there. distinct_apart xs ys n d.1 there f)
  where
    by : (b : Bool) → (x == n) ≡ b → (b || has xs n) ≡ true → (has xs n ≡ true → ⊥) → ⊥
    by true is e later = both (has (xs ++ ys) n) (has_more xs ys n f) (ap (has (xs ++ ys)) (sym (eqb-true x n is)) ∙ d.0)
    by false is e later = later e

may_all : (c : DeskCall) (w : Means) (p q : Stand) (before : List ℕ) (m : Memory) (x : Beside) (step : Stepped) → SitsAt p before m x → CallTo w c p q → (l : Leads step (c ∷ []) p q before m x)
    → (cs : List DeskCall) → ((n : ℕ) → has (submitted_by c) n ≡ true → has (flat_map submitted_by cs) n ≡ true → ⊥) → AllByRecursion (λ d. MayCall d p m x) cs → AllByRecursion (λ d. MayCall d q l.memory l.beside) cs
may_all c w p q before m x step h to l [] apart all = tt
may_all c w p q before m x step h to l (d ∷ cs) apart all = (
  may_later c d w p q before m x step h to l (λ n e f. apart n e (has_front (submitted_by d) (flat_map submitted_by cs) n f)) all.0,
  may_all c w p q before m x step h to l cs (λ n e f. apart n e (has_more (submitted_by d) (flat_map submitted_by cs) n f)) all.1,
)

pub may_rest : (c : DeskCall) (w : Means) (p q : Stand) (before : List ℕ) (m : Memory) (x : Beside) (step : Stepped) → SitsAt p before m x → CallTo w c p q → (l : Leads step (c ∷ []) p q before m x)
    → (cs : List DeskCall) → MayCalls (c ∷ cs) p m x → MayCalls cs q l.memory l.beside
may_rest c w p q before m x step h to l cs may = record {
  each = may_all c w p q before m x step h to l cs (λ n e f. distinct_apart (submitted_by c) (flat_map submitted_by cs) n may.once e f) may.each.1;
  once = distinct_parts (submitted_by c) (flat_map submitted_by cs) may.once;
}

-- ---- what is paid for

same_needs : (c : DeskCall) → unit.needs (plain_of c) ≡ needs c
same_needs (submit request) = refl
same_needs (finish f) = refl
same_needs (change ctrl o) = refl
same_needs (add gift) = refl
same_needs (remove ctrl) = refl
same_needs (set_policy policy) = refl
same_needs reap = refl

-- a call that can be paid
paid_enough : (needed used left : ℕ) (step : Stepped) (s : State) → needed ≤ left → paid_if needed used step s left ≡ record { step = step; left = Some (left - used) }
paid_enough needed used left step s enough = let test : nat_lt left needed ≡ false = grind (arith, nat_tests) in ap (λ (b : Bool). if b then record { step = tells s []; left = None } else record { step = step; left = Some (left - used) }) test

paid_short : (needed used left : ℕ) (step : Stepped) (s : State) → left < needed → paid_if needed used step s left ≡ record { step = tells s []; left = None }
paid_short needed used left step s short = let test : nat_lt left needed ≡ true = grind (arith, nat_tests) in ap (λ (b : Bool). if b then record { step = tells s []; left = None } else record { step = step; left = Some (left - used) }) test

-- one call that could be paid, and one that can't
pub one_paid : (i : Inputs) (w : Means) (c : DeskCall) (p q : Stand) (m : Memory) (x : Beside) → needs c ≤ p.core.view.left → q.core.view.left ≡ p.core.view.left - uses (plain_of c) (call i (place_at w p) (state_in m x) (plain_of c))
    → pay_call i (place_at w p) (state_in m x) p.core.view.left (plain_of c) ≡ record { step = call i (place_at w p) (state_in m x) (plain_of c); left = Some q.core.view.left }
one_paid i w c p q m x enough left =
    let step : Stepped = call i (place_at w p) (state_in m x) (plain_of c) in
    paid_enough (unit.needs (plain_of c)) (uses (plain_of c) step) p.core.view.left step (state_in m x) (subst (λ n. n ≤ p.core.view.left) (sym (same_needs c)) enough) ∙ (λ j. record { step = step; left = Some (sym left j) })

pub one_short : (i : Inputs) (at : Place) (s : State) (left : ℕ) (c : DeskCall) → left < needs c → pay_call i at s left (plain_of c) ≡ record { step = tells s []; left = None }
one_short i at s left c short = paid_short (unit.needs (plain_of c)) (uses (plain_of c) (call i at s (plain_of c))) left (call i at s (plain_of c)) s (subst (λ n. left < n) (sym (same_needs c)) short)

-- the calls behind one that was paid for
abbrev pays_on : Inputs → Place → List Call → State → ℕ → Paid
pays_on i at cs t rest = each_paid (pay_call i at) t rest cs

abbrev joins : Stepped → Paid → Paid
joins first more = record { step = joined first more.step; left = more.left }

pub paid_first : (i : Inputs) (at : Place) (s : State) (left after : ℕ) (c : Call) (cs : List Call) → unit.needs c ≤ left → after ≡ left - uses c (call i at s c)
    → each_paid (pay_call i at) s left (c ∷ cs) ≡ joins (call i at s c) (each_paid (pay_call i at) (call i at s c).state after cs)
paid_first i at s left after c cs enough is =
    ap (λ (p : Paid). paid_then p (pays_on i at cs)) (paid_enough (unit.needs c) (uses c (call i at s c)) left (call i at s c) s enough)
    ∙ ap (λ (n : ℕ). joins (call i at s c) (each_paid (pay_call i at) (call i at s c).state n cs)) (sym is)

pub paid_none : (i : Inputs) (at : Place) (s : State) (left : ℕ) (c : Call) (cs : List Call) → left < unit.needs c → each_paid (pay_call i at) s left (c ∷ cs) ≡ record { step = tells s []; left = None }
paid_none i at s left c cs short = ap (λ (p : Paid). paid_then p (pays_on i at cs)) (paid_short (unit.needs c) (uses c (call i at s c)) left (call i at s c) s short)

-- What calls did in a row, with those behind them: they could all be paid, and so much is left.
abbrev pub LedTo : Inputs → Place → List DeskCall → List DeskCall → Option ℕ → Stand → Stand → List ℕ → Memory → Beside → Type 0
LedTo i at cs rest left p q before m x =
    Leads (each (call i at) (state_in m x) (map plain_of cs)) cs p q before m x
    × (each_paid (pay_call i at) (state_in m x) p.core.view.left (map plain_of (cs ++ rest)) ≡ record { step = each (call i at) (state_in m x) (map plain_of cs); left = left })

-- the line at which a lane stands is the same behind a call
same_place : (w : Means) (p q : Stand) → q.core.lane ≡ p.core.lane → place_at w q ≡ place_at w p
same_place w p q is = λ j. record { lane = is j; line = w.line }

-- the calls behind one call
all_then : (i : Inputs) (w : Means) (c : DeskCall) (cs more : List DeskCall) (o : Option ℕ) (p r q : Stand) (before : List ℕ) (m : Memory) (x : Beside) → needs c ≤ p.core.view.left
    → (one : Leads (call i (place_at w p) (state_in m x) (plain_of c)) (c ∷ []) p r before m x) → r.core.view.left ≡ p.core.view.left - uses (plain_of c) (call i (place_at w p) (state_in m x) (plain_of c))
    → LedTo i (place_at w r) cs more o r q before one.memory one.beside → LedTo i (place_at w p) (c ∷ cs) more o p q before m x
all_then i w c cs more o p r q before m x enough one left rest = (
  leads_then first (each (call i at) first.state (map plain_of cs)) c cs p r q before m x one behind,
  paid_first i at (state_in m x) p.core.view.left r.core.view.left (plain_of c) (map plain_of (cs ++ more)) (subst (λ n. n ≤ p.core.view.left) (sym (same_needs c)) enough) left ∙ ap (joins first) paid,
)
  where
    at : Place
    at = place_at w p

    first : Stepped
    first = call i at (state_in m x) (plain_of c)

    moved : LedTo i at cs more o r q before one.memory one.beside
    moved = subst (λ (z : Place). LedTo i z cs more o r q before one.memory one.beside) (same_place w p r one.pass.lane) rest

    behind : Leads (each (call i at) first.state (map plain_of cs)) cs r q before one.memory one.beside
    behind = subst (λ (s : State). Leads (each (call i at) s (map plain_of cs)) cs r q before one.memory one.beside) (sym one.state) moved.0

    paid : each_paid (pay_call i at) first.state r.core.view.left (map plain_of (cs ++ more)) ≡ record { step = each (call i at) first.state (map plain_of cs); left = o }
    paid = subst (λ (s : State). each_paid (pay_call i at) s r.core.view.left (map plain_of (cs ++ more)) ≡ record { step = each (call i at) s (map plain_of cs); left = o }) (sym one.state) moved.1

led_all : (i : Inputs) (w : Means) (cs : List DeskCall) (p q : Stand) (before : List ℕ) (m : Memory) (x : Beside) → GoesBy i w → SitsAt p before m x → MayCalls cs p m x → CallsTo w cs p q → LedTo i (place_at w p) cs [] (Some q.core.view.left) p q before m x
led_all i w [] p q before m x by h may to =
    subst (λ (z : Stand). LedTo i (place_at w p) [] [] (Some z.core.view.left) p z before m x) (sym to) (leads_none p before m x h, refl)
led_all i w (c ∷ cs) p q before m x by h may to =
    let r : Stand = to.0 in
    let one = desk_call i w c p r before m x by h may.each.0 to.1.goes in
    all_then i w c cs [] (Some q.core.view.left) p r q before m x to.1.enough one.0 one.1 (led_all i w cs r q before one.0.memory one.0.beside by one.0.sits (may_rest c w p r before m x _ h to.1 one.0 cs may) to.2)

-- calls that could all be paid
pub desk_calls : (i : Inputs) (w : Means) (cs : List DeskCall) (p q : Stand) (before : List ℕ) (m : Memory) (x : Beside) → GoesBy i w → SitsAt p before m x → MayCalls cs p m x → CallsTo w cs p q
    → Leads (each (call i (place_at w p)) (state_in m x) (map plain_of cs)) cs p q before m x
    × (each_paid (pay_call i (place_at w p)) (state_in m x) p.core.view.left (map plain_of cs) ≡ record { step = each (call i (place_at w p)) (state_in m x) (map plain_of cs); left = Some q.core.view.left })
desk_calls i w cs p q before m x by h may to =
    let led = led_all i w cs p q before m x by h may to in
    (led.0, ap (λ (ds : List DeskCall). each_paid (pay_call i (place_at w p)) (state_in m x) p.core.view.left (map plain_of ds)) (sym (append-nil cs)) ∙ led.1)

-- calls up to one that stops
led_stop : (i : Inputs) (w : Means) (cs : List DeskCall) (c : DeskCall) (more : List DeskCall) (p q : Stand) (before : List ℕ) (m : Memory) (x : Beside) → GoesBy i w → SitsAt p before m x → MayCalls cs p m x → CallsTo w cs p q → q.core.view.left < needs c
    → LedTo i (place_at w p) cs (c ∷ more) None p q before m x
led_stop i w [] c more p q before m x by h may to short =
    subst (λ (z : Stand). LedTo i (place_at w p) [] (c ∷ more) None p z before m x) (sym to)
    (leads_none p before m x h, paid_none i (place_at w p) (state_in m x) p.core.view.left (plain_of c) (map plain_of more) (subst (λ n. p.core.view.left < n) (sym (same_needs c)) (subst (λ (z : Stand). z.core.view.left < needs c) to short)))
led_stop i w (d ∷ cs) c more p q before m x by h may to short =
    let r : Stand = to.0 in
    let one = desk_call i w d p r before m x by h may.each.0 to.1.goes in
    all_then i w d cs (c ∷ more) None p r q before m x to.1.enough one.0 one.1 (led_stop i w cs c more r q before one.0.memory one.0.beside by one.0.sits (may_rest d w p r before m x _ h to.1 one.0 cs may) to.2 short)

front_apart : (f : DeskCall → List ℕ) (cs ds : List DeskCall) (n : ℕ) → has (flat_map f (cs ++ ds)) n ≡ false → has (flat_map f cs) n ≡ false
front_apart f [] ds n e = refl
front_apart f (c ∷ cs) ds n e =
    let parts = has_parts (f c) (flat_map f (cs ++ ds)) n e in
    join (f c) (flat_map f cs) parts.0 (front_apart f cs ds n parts.1)
  where
    join : (xs ys : List ℕ) → has xs n ≡ false → has ys n ≡ false → has (xs ++ ys) n ≡ false
    join [] ys a b = b
    join (x ∷ xs) ys a b = let parts = or_false (x == n) (has xs n) a in rw parts.0 (join xs ys parts.1 b)

-- a step by some calls is one by these and more
leads_more : (step : Stepped) (cs ds : List DeskCall) (p q : Stand) (before : List ℕ) (m : Memory) (x : Beside) → Leads step cs p q before m x → Leads step (cs ++ ds) p q before m x
leads_more step cs ds p q before m x l = record {
  memory = l.memory;
  beside = l.beside;
  sits = l.sits;
  state = l.state;
  rows = l.rows;
  orders = l.orders;
  events = l.events;
  pass = l.pass;
  keeper = l.keeper;
  desk = λ n apart. l.desk n (front_apart number_of cs ds n apart);
  requests = λ n apart. l.requests n (front_apart number_of cs ds n apart);
  flights = l.flights;
  agrees = λ lanes. l.agrees (all_first IsLaneCall cs ds lanes);
}

distinct_front : (xs ys : List ℕ) → IsDistinct (xs ++ ys) → IsDistinct xs
distinct_front [] ys d = tt
distinct_front (x ∷ xs) ys d = ((has_parts xs ys x d.0).0, distinct_front xs ys d.1)

flat_front : (f : DeskCall → List ℕ) (cs ds : List DeskCall) → IsDistinct (flat_map f (cs ++ ds)) → IsDistinct (flat_map f cs)
flat_front f cs ds d = distinct_front (flat_map f cs) (flat_map f ds) (subst IsDistinct (flat cs) d)
  where
    flat : (cs : List DeskCall) → flat_map f (cs ++ ds) ≡ flat_map f cs ++ flat_map f ds
    flat [] = refl
    flat (c ∷ cs) = ap (λ (ns : List ℕ). f c ++ ns) (flat cs) ∙ sym (append_assoc (f c) (flat_map f cs) (flat_map f ds))

may_front : (cs ds : List DeskCall) (p : Stand) (m : Memory) (x : Beside) → MayCalls (cs ++ ds) p m x → MayCalls cs p m x
may_front cs ds p m x may = record { each = all_first (λ d. MayCall d p m x) cs ds may.each; once = flat_front submitted_by cs ds may.once }

-- What calls did of which one stopped.
pub record Stopped (i : Inputs) (at : Place) (cs : List DeskCall) (p q : Stand) (before : List ℕ) (m : Memory) (x : Beside) : Type 0 where
  pub mid : Stand
  pub stopped : DeskCall
  pub step : Stepped
  pub leads : Leads step cs p mid before m x
  pub paid : each_paid (pay_call i at) (state_in m x) p.core.view.left (map plain_of cs) ≡ record { step = step; left = None }
  pub short : mid.core.view.left < needs stopped
  pub falls : FallsBy stopped mid q

pub desk_stopped : (i : Inputs) (w : Means) (cs : List DeskCall) (p q : Stand) (before : List ℕ) (m : Memory) (x : Beside) → GoesBy i w → SitsAt p before m x → MayCalls cs p m x → StopsTo w cs p q → Stopped i (place_at w p) cs p q before m x
desk_stopped i w cs p q before m x by h may to =
    let all : List DeskCall = to.before ++ to.stopped ∷ to.behind in
    let front : MayCalls to.before p m x = may_front to.before (to.stopped ∷ to.behind) p m x (subst (λ (z : List DeskCall). MayCalls z p m x) to.split may) in
    let done = led_all i w to.before p to.mid before m x by h front to.done in
    let stop = desk_stop w to.stopped to.mid q before done.0.memory done.0.beside done.0.sits to.stops in
    let led = led_stop i w to.before to.stopped to.behind p to.mid before m x by h front to.done stop.0 in
    record {
      mid = to.mid;
      stopped = to.stopped;
      step = each (call i (place_at w p)) (state_in m x) (map plain_of to.before);
      leads = subst (λ (z : List DeskCall). Leads (each (call i (place_at w p)) (state_in m x) (map plain_of to.before)) z p to.mid before m x) (sym to.split)
          (leads_more (each (call i (place_at w p)) (state_in m x) (map plain_of to.before)) to.before (to.stopped ∷ to.behind) p to.mid before m x led.0);
      paid = ap (λ (z : List DeskCall). each_paid (pay_call i (place_at w p)) (state_in m x) p.core.view.left (map plain_of z)) to.split ∙ led.1;
      short = stop.0;
      falls = stop.1;
    }

-- what was paid for of calls of which one stopped
pub desk_stops : (i : Inputs) (w : Means) (cs : List DeskCall) (p q : Stand) (before : List ℕ) (m : Memory) (x : Beside) → GoesBy i w → SitsAt p before m x → MayCalls cs p m x → StopsTo w cs p q
    → Stops (each_paid (pay_call i (place_at w p)) (state_in m x) p.core.view.left (map plain_of cs)) cs p q before m x
desk_stops i w cs p q before m x by h may to =
    let s = desk_stopped i w cs p q before m x by h may to in
    subst (λ (z : Paid). Stops z cs p q before m x) (sym s.paid) (record { mid = s.mid; stopped = s.stopped; leads = s.leads; spent = refl; short = s.short; falls = s.falls })
