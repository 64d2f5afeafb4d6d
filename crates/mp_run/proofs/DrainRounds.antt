-- The rounds of the drain are those of the plain run.
use Rattle.std.proofs.Common.{[], ◌≡◌, ℕ, zero, suc, ◌+◌, ◌≤◌, ◌==◌, ◌||◌, Bool, true, false, cond, List, ◌∷◌, ◌++◌, map, length, append_assoc, None, Some, inl, inr, refl, sym, ap, ◌∙◌, subst, arith}
use Rattle.std.specs.List.{AllByRecursion, list_any}
use Rattle.std.proofs.lemmas.Bool.{cases_Bool}
use Rattle.std.proofs.lemmas.List.{length-map}
use Rattle.std.proofs.lemmas.List.Folds.{list_any-append}
use Rattle.std.proofs.lemmas.List.Sums.{sum_by-cons}
use Rattle.mp_checks.specs.Marks.{has}
use Rattle.mp_words.specs.declared.entry.RowEntry.{RowEntry}
use Rattle.mp_words.specs.declared.entry.OrderEntry.{OrderEntry}
use Rattle.mp_script.specs.Distinct.{IsDistinct}
use Rattle.mp_words.specs.RequestView.{RequestView}
use Rattle.mp_record.specs.declared.event.Event.{Event}
use Rattle.mp_record.specs.declared.event.Event.TheVariants.{At}
use Rattle.mp_record.specs.declared.event.Said.TheVariants as said
use Rattle.mp_core.specs.Memory.{Memory}
use Rattle.mp_desk.specs.DeskView.{DeskView}
use Rattle.mp_desk.specs.Calls.{Means, Stand}
use Rattle.mp_legal.specs.Drain.{drain_place, is_sent}
use Rattle.mp_legal.specs.PlainCall.{Inputs}
use Rattle.mp_legal.specs.PlainState.{State}
use Rattle.mp_legal.specs.Stepped.{joined, says, tells}
use Rattle.mp_legal.specs.ToldDesks.{GoesBy, IsInRun, IsSameIn, KeepsIn, MaySubmit, SitsAt, times, told_events, with_waiting}
use Rattle.mp_legal.specs.ToldKeeper.{orders_in}
use Rattle.mp_legal.specs.ToldState.{Beside, state_in}
use Rattle.mp_legal.specs.Units.{Paid, each_paid, paid_then, pay_request, pay_round, pay_rounds}
use Rattle.mp_run.specs.DeskLaws.{DeskLaws}
use Rattle.mp_run.specs.Draining.{EachStops, RoundTo, RoundsStop, RoundsTo, round_said}
use Rattle.mp_run.proofs.DrainLeads.{Drained, EachGoes, each_goes, each_short, then_none, then_paid}
use Rattle.mp_run.proofs.LaneLeads.{said_sits, told_append}
use Rattle.mp_run.proofs.LaneParts.{distinct_among, each_by}
use Rattle.mp_run.proofs.LaneStarts.{among, often}

-- Between two rounds the drain sits at its desk: nothing flies and nothing is to be listed, and the list has the
-- requests that wait, none of which is at the desk or twice in the list.
pub record AtRound (p : Stand) (l : List RequestView) (m : Memory) (x : Beside) : Type 0 where
  pub lane : p.core.lane ≡ 16
  pub sits : SitsAt p x.waiting m x
  pub flying : p.desk.flying ≡ []
  pub out : p.desk.out ≡ []
  pub keeper : KeepsIn p m x
  pub waiting : x.waiting ≡ map (λ r. r.id) l
  pub listed : AllByRecursion (IsInRun x) l
  pub once : (req : ℕ) → among req l + times req p.desk ≤ 1

-- What a round led to, and what it leaves.
pub record RoundGoes (paid : Paid) (any : Bool) (l after : List RequestView) (p q : Stand) (m : Memory) (x : Beside) : Type 0 where
  pub memory : Memory
  pub beside : Beside
  pub at : AtRound q after memory beside
  pub state : paid.step.state ≡ state_in memory beside
  pub rows : q.desk.rows ≡ p.desk.rows ++ paid.step.rows
  pub orders : orders_in q.keeper.entries ≡ orders_in p.keeper.entries ++ paid.step.orders
  pub events : told_events q.desk.events ≡ told_events p.desk.events ++ paid.step.events
  pub left : paid.left ≡ Some q.core.view.left
  pub sent_is : any ≡ list_any is_sent paid.step.events
  pub others : (req : ℕ) → among req l + times req p.desk ≡ 0 → IsSameIn req x beside
  pub all : (req : ℕ) → among req after + times req q.desk ≡ among req l + times req p.desk

-- ---- numbers

often_among : (req : ℕ) (rs : List RequestView) → often req (map (λ r. r.id) rs) ≡ among req rs
often_among req [] = refl
often_among req (r ∷ rs) =
    let one = sum_by-cons (λ (n : ℕ). cond (n == req) 1 0) r.id (map (λ (q : RequestView). q.id) rs) in
    let two = sum_by-cons (λ (q : RequestView). cond (q.id == req) 1 0) r rs in
    let more = often_among req rs in
    omega (arith, one, two, more)

none_has : (req : ℕ) (rs : List RequestView) → among req rs ≡ 0 → has (map (λ r. r.id) rs) req ≡ false
none_has req [] none = refl
none_has req (r ∷ rs) none = by (r.id == req) refl (sym (sum_by-cons (λ (q : RequestView). cond (q.id == req) 1 0) r rs) ∙ none) (λ e. none_has req rs e)
  where
    by : (b : Bool) → (r.id == req) ≡ b → cond b 1 0 + among req rs ≡ 0 → (among req rs ≡ 0 → has (map (λ q. q.id) rs) req ≡ false) → has (map (λ q. q.id) (r ∷ rs)) req ≡ false
    by true is sum rest = absurd (omega (arith, sum))
    by false is sum rest = rw is (rest (omega (arith, sum)))

no_first : (a b : ℕ) → a + b ≡ 0 → a ≡ 0
no_first a b e = omega (arith, e)

out_times : (req : ℕ) (d : DeskView) → times req (record d { out = [] }) + among req d.out ≡ times req d
out_times req d = omega arith

-- ---- one round

each_may : (p : Stand) (x : Beside) (rs : List RequestView) → AllByRecursion (IsInRun x) rs → AllByRecursion (λ r. times r.id p.desk ≡ 0) rs → AllByRecursion (λ r. MaySubmit r p (with_waiting [] x)) rs
each_may p x [] there none = tt
each_may p x (r ∷ rs) there none = (record { stands = record { there = there.0.there; told = there.0.told; read = there.0.read }; elsewhere = none.0 }, each_may p x rs there.1 none.1)

-- where a round begins
record Begun (p : Stand) (l : List RequestView) (m : Memory) (x : Beside) : Type 0 where
  sits : SitsAt (round_said l p) [] m (with_waiting [] x)
  may : AllByRecursion (λ r. MaySubmit r (round_said l p) (with_waiting [] x)) l
  distinct : IsDistinct (map (λ r. r.id) l)
  keeper : KeepsIn (round_said l p) m (with_waiting [] x)

begins : (laws : DeskLaws) (p : Stand) (l : List RequestView) (m : Memory) (x : Beside) → AtRound p l m x → Begun p l m x
begins laws p l m x h = record {
  sits = said_sits (At 0 (said.Requeue (length l)) ∷ []) p [] m (with_waiting [] x) (laws.list_taken p x.waiting m x [] h.sits h.out);
  may = each_may (round_said l p) x l h.listed (each_by (λ n. times n p.desk ≡ 0) l (λ n some. let most = h.once n in omega (arith, most, some)));
  distinct = distinct_among l (λ n. let most = h.once n in omega (arith, most));
  keeper = record { stands = h.keeper.stands; agrees = laws.keeper_still p.keeper m x (with_waiting [] x) h.keeper.agrees refl refl };
}

-- the round as it is paid for, with the list
round_paid : (i : Inputs) (m : Memory) (x : Beside) (left : ℕ) (l : List RequestView) → x.waiting ≡ map (λ r. r.id) l
    → pay_round i (state_in m x) left
    ≡ record { step = joined (tells (state_in m (with_waiting [] x)) (At 0 (said.Requeue (length l)) ∷ [])) (each_paid (pay_request i) (state_in m (with_waiting [] x)) left (map (λ r. r.id) l)).step; left = (each_paid (pay_request i) (state_in m (with_waiting [] x)) left (map (λ r. r.id) l)).left }
round_paid i m x left l is =
    let ids : List ℕ = map (λ (r : RequestView). r.id) l in
    let y : Beside = with_waiting [] x in
    let rest : Paid = each_paid (pay_request i) (state_in m y) left ids in
    ap (λ (ws : List ℕ). paid_then (record { step = says drain_place (state_in m y) (said.Requeue (length ws)); left = Some left }) (λ t more. each_paid (pay_request i) t more ws)) is
    ∙ ap (λ (n : ℕ). record { step = joined (tells (state_in m y) (At 0 (said.Requeue n) ∷ [])) rest.step; left = rest.left }) (length-map l (λ (r : RequestView). r.id))

pub round_goes : (laws : DeskLaws) (i : Inputs) (w : Means) (any : Bool) (l after : List RequestView) (p q : Stand) (m : Memory) (x : Beside) → GoesBy i w → w.line ≡ 0 → AtRound p l m x → RoundTo w any l after p q
    → RoundGoes (pay_round i (state_in m x) p.core.view.left) any l after p q m x
round_goes laws i w any l after p q m x by line h to =
    subst (λ (z : Paid). RoundGoes z any l after p q m x) (sym (round_paid i m x p.core.view.left l h.waiting)) (subst (λ (z : Stand). RoundGoes paid any l after p z m x) (sym to.stand_is) (record {
      memory = d.memory;
      beside = d.beside;
      at = record {
        lane = d.lane ∙ h.lane;
        sits = laws.list_given mid [] d.memory d.beside d.sits;
        flying = each.empty;
        out = refl;
        keeper = let k = d.keeper b.keeper in record { stands = k.stands; agrees = k.agrees };
        waiting = d.sits.waiting ∙ ap (map (λ (r : RequestView). r.id)) (sym to.list_is);
        listed = subst (λ (rs : List RequestView). AllByRecursion (IsInRun d.beside) rs) (sym to.list_is) d.sits.requests.out;
        once = λ req. let most = d.sits.requests.once req in let sum = out_times req mid.desk in let same = ap (among req) to.list_is in omega (arith, most, sum, same);
      };
      state = d.state;
      rows = d.rows;
      orders = d.orders;
      events = d.events ∙ ap (λ (es : List Event). es ++ rest.step.events) (told_append p.desk.events said_so) ∙ append_assoc (told_events p.desk.events) said_so rest.step.events;
      left = each.left;
      sent_is = each.sent_is;
      others = λ req none. let same = d.requests req (none_has req l (no_first (among req l) (times req p.desk) none)) in record { there = same.there; told = same.told; read = same.read };
      all = λ req. let sum = out_times req mid.desk in let same = ap (among req) to.list_is in let more = d.desk req in let often_is = often_among req l in omega (arith, sum, same, more, often_is);
    }))
  where
    said_so : List Event
    said_so = At 0 (said.Requeue (length l)) ∷ []

    y : Beside
    y = with_waiting [] x

    mid : Stand
    mid = to.mid

    b : Begun p l m x
    b = begins laws p l m x h

    rest : Paid
    rest = each_paid (pay_request i) (state_in m y) p.core.view.left (map (λ r. r.id) l)

    paid : Paid
    paid = record { step = joined (tells (state_in m y) said_so) rest.step; left = rest.left }

    each : EachGoes rest any (map (λ r. r.id) l) (round_said l p) mid [] m y
    each = each_goes laws i w l any (round_said l p) mid [] m y by line h.lane b.sits b.may b.distinct h.flying to.each

    d : Drained rest.step (map (λ r. r.id) l) (map (λ r. r.id) l) (round_said l p) mid [] m y
    d = each.drained

pub round_short : (laws : DeskLaws) (i : Inputs) (w : Means) (l : List RequestView) (p q : Stand) (m : Memory) (x : Beside) → GoesBy i w → w.line ≡ 0 → AtRound p l m x → EachStops w l (round_said l p) q
    → (pay_round i (state_in m x) p.core.view.left).left ≡ None
round_short laws i w l p q m x by line h to =
    let b = begins laws p l m x h in
    ap (λ (z : Paid). z.left) (round_paid i m x p.core.view.left l h.waiting) ∙ each_short laws i w l (round_said l p) q [] m (with_waiting [] x) by line h.lane b.sits b.may b.distinct h.flying to

-- ---- rounds, one after the other

-- what was done, and then more
pub goes_then : (first more : Paid) (any also : Bool) (l mid after : List RequestView) (p r q : Stand) (m : Memory) (x : Beside) (one : RoundGoes first any l mid p r m x) → RoundGoes more also mid after r q one.memory one.beside
    → RoundGoes (record { step = joined first.step more.step; left = more.left }) (any || also) l after p q m x
goes_then first more any also l mid after p r q m x one two = record {
  memory = two.memory;
  beside = two.beside;
  at = two.at;
  state = two.state;
  rows = two.rows ∙ ap (λ (es : List RowEntry). es ++ more.step.rows) one.rows ∙ append_assoc p.desk.rows first.step.rows more.step.rows;
  orders = two.orders ∙ ap (λ (es : List OrderEntry). es ++ more.step.orders) one.orders ∙ append_assoc (orders_in p.keeper.entries) first.step.orders more.step.orders;
  events = two.events ∙ ap (λ (es : List Event). es ++ more.step.events) one.events ∙ append_assoc (told_events p.desk.events) first.step.events more.step.events;
  left = two.left;
  sent_is = (λ j. one.sent_is j || two.sent_is j) ∙ sym (list_any-append is_sent first.step.events more.step.events);
  others = λ req none.
      let a = one.others req none in
      let sum = one.all req in
      let b = two.others req (sum ∙ none) in
      record { there = b.there ∙ a.there; told = b.told ∙ a.told; read = b.read ∙ a.read };
  all = λ req. two.all req ∙ one.all req;
}

rounds_on : (i : Inputs) (n left : ℕ) (first : Paid) (more : Paid) → list_any is_sent first.step.events ≡ true → first.left ≡ Some left → pay_rounds i n (pay_round i first.step.state left) ≡ more
    → pay_rounds i (suc n) first ≡ record { step = joined first.step more.step; left = more.left }
rounds_on i n left first more sent is so = rw sent (then_paid first (λ s left. pay_rounds i n (pay_round i s left)) left more is so)

rounds_off : (i : Inputs) (n : ℕ) (first : Paid) → list_any is_sent first.step.events ≡ false → pay_rounds i n first ≡ first
rounds_off i zero first off = refl
rounds_off i (suc n) first off = rw off refl

-- whatever was sent
any_sent : (paid : Paid) (any also : Bool) (l after : List RequestView) (p q : Stand) (m : Memory) (x : Beside) → also ≡ list_any is_sent paid.step.events → RoundGoes paid any l after p q m x → RoundGoes paid also l after p q m x
any_sent paid any also l after p q m x is g = record { memory = g.memory; beside = g.beside; at = g.at; state = g.state; rows = g.rows; orders = g.orders; events = g.events; left = g.left; sent_is = is; others = g.others; all = g.all }

pub rounds_go : (laws : DeskLaws) (i : Inputs) (w : Means) (n : ℕ) (any : Bool) (first : Paid) (l now after : List RequestView) (p r q : Stand) (m : Memory) (x : Beside) → GoesBy i w → w.line ≡ 0 → RoundGoes first any l now p r m x → RoundsTo w n any now after r q
    → RoundGoes (pay_rounds i n first) (list_any is_sent (pay_rounds i n first).step.events) l after p q m x
rounds_go laws i w n false first l now after p r q m x by line g to =
    let last : RoundGoes first (list_any is_sent first.step.events) l now p r m x = any_sent first false (list_any is_sent first.step.events) l now p r m x refl g in
    subst (λ (z : Paid). RoundGoes z (list_any is_sent z.step.events) l after p q m x) (sym (rounds_off i n first (sym g.sent_is)))
    (subst (λ (z : Stand). RoundGoes first (list_any is_sent first.step.events) l after p z m x) (sym to.1) (subst (λ (rs : List RequestView). RoundGoes first (list_any is_sent first.step.events) l rs p r m x) (sym to.0) last))
rounds_go laws i w zero true first l now after p r q m x by line g to =
    let last : RoundGoes first (list_any is_sent first.step.events) l now p r m x = any_sent first true (list_any is_sent first.step.events) l now p r m x refl g in
    subst (λ (z : Stand). RoundGoes first (list_any is_sent first.step.events) l after p z m x) (sym to.1) (subst (λ (rs : List RequestView). RoundGoes first (list_any is_sent first.step.events) l rs p r m x) (sym to.0) last)
rounds_go laws i w (suc n) true first l now after p r q m x by line g to =
    let mid : Stand = to.0 in
    let second : Paid = pay_round i (state_in g.memory g.beside) r.core.view.left in
    let one : RoundGoes second to.1 now to.2 r mid g.memory g.beside = round_goes laws i w to.1 now to.2 r mid g.memory g.beside by line g.at to.3 in
    let more : Paid = pay_rounds i n second in
    let rest : RoundGoes more (list_any is_sent more.step.events) now after r q g.memory g.beside = rounds_go laws i w n to.1 second now to.2 after r mid q g.memory g.beside by line one to.4 in
    let whole : Paid = record { step = joined first.step more.step; left = more.left } in
    let is : pay_rounds i (suc n) first ≡ whole = rounds_on i n r.core.view.left first more (sym g.sent_is) g.left (ap (λ (s : State). pay_rounds i n (pay_round i s r.core.view.left)) g.state) in
    subst (λ (z : Paid). RoundGoes z (list_any is_sent z.step.events) l after p q m x) (sym is)
    (any_sent whole (true || list_any is_sent more.step.events) (list_any is_sent whole.step.events) l after p q m x refl (goes_then first more true (list_any is_sent more.step.events) l now after p r q m x g rest))

-- ---- units that are short

pub rounds_none : (i : Inputs) (n : ℕ) (first : Paid) → first.left ≡ None → (pay_rounds i n first).left ≡ None
rounds_none i zero first is = is
rounds_none i (suc n) first is =
    elim (cases_Bool (list_any is_sent first.step.events)) [
      | inl on ↦ rw on (then_none first (λ s left. pay_rounds i n (pay_round i s left)) is)
      | inr off ↦ rw off is
    ]

pub rounds_short : (laws : DeskLaws) (i : Inputs) (w : Means) (n : ℕ) (any : Bool) (first : Paid) (l now : List RequestView) (p r q : Stand) (m : Memory) (x : Beside) → GoesBy i w → w.line ≡ 0 → RoundGoes first any l now p r m x → RoundsStop w n any now r q
    → (pay_rounds i n first).left ≡ None
rounds_short laws i w n false first l now p r q m x by line g to = absurd to
rounds_short laws i w zero true first l now p r q m x by line g to = absurd to
rounds_short laws i w (suc n) true first l now p r q m x by line g (inl stop) =
    let second : Paid = pay_round i (state_in g.memory g.beside) r.core.view.left in
    let none : second.left ≡ None = round_short laws i w now r q g.memory g.beside by line g.at stop in
    let is : pay_rounds i (suc n) first ≡ record { step = joined first.step (pay_rounds i n second).step; left = (pay_rounds i n second).left } =
    rounds_on i n r.core.view.left first (pay_rounds i n second) (sym g.sent_is) g.left (ap (λ (s : State). pay_rounds i n (pay_round i s r.core.view.left)) g.state) in
    ap (λ (z : Paid). z.left) is ∙ rounds_none i n second none
rounds_short laws i w (suc n) true first l now p r q m x by line g (inr to) =
    let second : Paid = pay_round i (state_in g.memory g.beside) r.core.view.left in
    let one : RoundGoes second to.1 now to.2 r to.0 g.memory g.beside = round_goes laws i w to.1 now to.2 r to.0 g.memory g.beside by line g.at to.3 in
    let none : (pay_rounds i n second).left ≡ None = rounds_short laws i w n to.1 second now to.2 r to.0 q g.memory g.beside by line one to.4 in
    let is : pay_rounds i (suc n) first ≡ record { step = joined first.step (pay_rounds i n second).step; left = (pay_rounds i n second).left } =
    rounds_on i n r.core.view.left first (pay_rounds i n second) (sym g.sent_is) g.left (ap (λ (s : State). pay_rounds i n (pay_round i s r.core.view.left)) g.state) in
    ap (λ (z : Paid). z.left) is ∙ none
