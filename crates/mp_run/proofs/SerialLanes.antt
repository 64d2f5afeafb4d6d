-- The run with units, as the lanes and the drain give it.
use Rattle.std.proofs.Common.{[], ◌≡◌, ℕ, ◌<◌, ◌≤◌, false, List, ◌∷◌, ◌++◌, map, length, replicate, Option, Some, None, refl, sym, ap, ◌∙◌, arith, get_or}
use Rattle.std.specs.Prelude.{position, is_none, Ok, Err}
use Rattle.std.specs.List.{flat_map, range_with_len}
use Rattle.std.proofs.lemmas.List.{ext_get_or, get_or-replicate, length-replicate}
use Rattle.mp_words.specs.declared.entry.RowEntry.{RowEntry}
use Rattle.mp_words.specs.declared.entry.OrderEntry.{OrderEntry}
use Rattle.mp_record.specs.RunView.{RunView}
use Rattle.mp_script.specs.declared.script.LanePlan.{LanePlan}
use Rattle.mp_desk.specs.declared.flying.Flying.{Flying}
use Rattle.mp_desk.specs.DeskView.{DeskView}
use Rattle.mp_desk.specs.Desks.{desk_of}
use Rattle.mp_lane.specs.LaneView.{LaneView}
use Rattle.mp_legal.specs.Drain.{drain}
use Rattle.mp_legal.specs.Opening.{opening}
use Rattle.mp_legal.specs.PlainCall.{Inputs}
use Rattle.mp_legal.specs.PlainRun.{Taken, events_in, run_of, state_after, state_left, taken}
use Rattle.mp_legal.specs.PlainState.{State}
use Rattle.mp_legal.specs.Stepped.{Stepped}
use Rattle.mp_legal.specs.ToldDesks.{told_events}
use Rattle.mp_legal.specs.ToldKeeper.{orders_in}
use Rattle.mp_legal.specs.Turns.{turns_of}
use Rattle.mp_legal.specs.Units.{Paying, pay_drain, pay_turns, run_drained, run_paid, serial_run}
use Rattle.mp_run.specs.declared.runner.Runner.{Runner}
use Rattle.mp_run.specs.Beginning.{empty_desk, first_story}
use Rattle.mp_run.specs.DrainAll.{Drained}
use Rattle.mp_run.specs.Runner.{lane_at, left_if, left_of, state_by, told_by, Story}
use Rattle.mp_run.specs.ToldRun.{told_run}
use Rattle.mp_run.specs.Turning.{all_turns, lefts_or, TakesAll}
use Rattle.mp_run.proofs.KeptRun.{lanes_rest}
use Rattle.mp_run.proofs.Paid.{pays_drain}
use Rattle.mp_run.proofs.SerialRun.{turns_plain}
use Rattle.mp_run.proofs.TurnTaking.{lefts-length, lefts_at}
use Rattle.mp_run.proofs.WholeRun.{none_false}

-- What a run begins with, and what its lanes did.
pub record Ran (allowance : ℕ) (i : Inputs) (plans : List LanePlan) (a b : Runner) (t : Story) : Type 0 where
  pub few : length plans ≤ 16
  pub count : length a.lanes.items ≡ length plans
  pub opened : state_by a first_story ≡ opening i
  pub lefts : (lane : ℕ) → lane < 17 → left_of lane a ≡ allowance
  pub entries : a.keeper.entries ≡ []
  pub desk : desk_of a.drain ≡ empty_desk
  pub takes : TakesAll i plans a b t
  pub enough : position is_none (all_turns i plans a).lefts ≡ None

-- the units of lanes of which none is spent
all_lefts : (allowance n : ℕ) (r : Runner) → n ≤ 16 → ((lane : ℕ) → lane < 17 → left_of lane r ≡ allowance) → lefts_or n (replicate 16 false) r ≡ replicate n (Some allowance)
all_lefts allowance n r few lefts =
    ext_get_or None (lefts_or n (replicate 16 false) r) (replicate n (Some allowance)) (lefts-length n (replicate 16 false) r ∙ sym (length-replicate n (Some allowance)))
    (λ k lt. let low : k < n = omega (arith, lt, lefts-length n (replicate 16 false) r) in
    lefts_at n (replicate 16 false) r k low ∙ ap (λ b. left_if b k r) (none_false k) ∙ ap (λ m. Some m) (lefts k (omega (arith, low, few))) ∙ sym (get_or-replicate n k (Some allowance) None low))

-- the turns from the opening
pub turns_are : (allowance : ℕ) (i : Inputs) (plans : List LanePlan) (r : Runner) → length plans ≤ 16 → length r.lanes.items ≡ length plans → state_by r first_story ≡ opening i → ((lane : ℕ) → lane < 17 → left_of lane r ≡ allowance)
    → all_turns i plans r ≡ pay_turns i (opening i) (replicate (length plans) (Some allowance)) (turns_of plans)
turns_are allowance i plans r few count is lefts =
    ap (λ (s : State). pay_turns i s (lefts_or (length r.lanes.items) (replicate 16 false) r) (turns_of plans)) is
    ∙ ap (λ (ls : List (Option ℕ)). pay_turns i (opening i) ls (turns_of plans)) (ap (λ (n : ℕ). lefts_or n (replicate 16 false) r) count ∙ all_lefts allowance (length plans) r few lefts)

-- a lane is spent
pub lane_spent : (allowance : ℕ) (i : Inputs) (plans : List LanePlan) (a : Runner) (lane : ℕ) → length plans ≤ 16 → length a.lanes.items ≡ length plans → state_by a first_story ≡ opening i → ((l : ℕ) → l < 17 → left_of l a ≡ allowance)
    → position is_none (all_turns i plans a).lefts ≡ Some lane → serial_run allowance i plans ≡ Err lane
lane_spent allowance i plans a lane few count is lefts spent =
    let same = turns_are allowance i plans a few count is lefts in
    let ts : Paying = pay_turns i (opening i) (replicate (length plans) (Some allowance)) (turns_of plans) in
    ap (run_paid allowance i plans ts.taken) (ap (λ (p : Paying). position is_none p.lefts) (sym same) ∙ spent)

-- the turns of lanes of which none is spent are those of the plain run
turns_are_plain : (allowance : ℕ) (i : Inputs) (plans : List LanePlan) (a b : Runner) (t : Story) → Ran allowance i plans a b t → (all_turns i plans a).taken ≡ taken i (opening i) (turns_of plans)
turns_are_plain allowance i plans a b t h =
    let same = turns_are allowance i plans a h.few h.count h.opened h.lefts in
    ap (λ (p : Paying). p.taken) same ∙ turns_plain allowance i plans (ap (λ (p : Paying). position is_none p.lefts) (sym same) ∙ h.enough)

-- the state once the lanes have ended
pub lanes_left : (allowance : ℕ) (i : Inputs) (plans : List LanePlan) (a b : Runner) (t : Story) → Ran allowance i plans a b t → state_by b t ≡ state_after (opening i) (taken i (opening i) (turns_of plans))
lanes_left allowance i plans a b t h =
    h.takes.state ∙ ap (λ (s : State). state_after s (all_turns i plans a).taken) h.opened ∙ ap (λ (ts : List Taken). state_after (opening i) ts) (turns_are_plain allowance i plans a b t h)

-- the drain decides
behind_lanes : (allowance : ℕ) (i : Inputs) (plans : List LanePlan) (a b : Runner) (t : Story) → Ran allowance i plans a b t
    → serial_run allowance i plans ≡ run_drained i plans (all_turns i plans a).taken (pay_drain i (state_by b t) (left_of 16 b)).step (pay_drain i (state_by b t) (left_of 16 b)).left
behind_lanes allowance i plans a b t h =
    let same = turns_are allowance i plans a h.few h.count h.opened h.lefts in
    let ts : Paying = pay_turns i (opening i) (replicate (length plans) (Some allowance)) (turns_of plans) in
    let before : state_by b t ≡ state_after (opening i) ts.taken = h.takes.state ∙ ap (λ (s : State). state_after s (all_turns i plans a).taken) h.opened ∙ ap (λ (p : Paying). state_after (opening i) p.taken) same in
    let left : left_of 16 b ≡ allowance = h.takes.drain ∙ h.lefts 16 (omega arith) in
    ap (run_paid allowance i plans ts.taken) (ap (λ (p : Paying). position is_none p.lefts) (sym same) ∙ h.enough) ∙ drained_from before left same
  where
    drained_from : {x y : State} {m n : ℕ} {p q : Paying} → x ≡ y → m ≡ n → p ≡ q → run_drained i plans q.taken (pay_drain i y n).step (pay_drain i y n).left ≡ run_drained i plans p.taken (pay_drain i x m).step (pay_drain i x m).left
    drained_from e f g = rw (e, f, g) refl

-- the drain is spent
pub drain_spent : (allowance : ℕ) (i : Inputs) (plans : List LanePlan) (a b : Runner) (t : Story) → Ran allowance i plans a b t → (pay_drain i (state_by b t) (left_of 16 b)).left ≡ None → serial_run allowance i plans ≡ Err 16
drain_spent allowance i plans a b t h spent =
    behind_lanes allowance i plans a b t h ∙ ap (run_drained i plans (all_turns i plans a).taken (pay_drain i (state_by b t) (left_of 16 b)).step) spent

-- what the tries read
pub reads_left : (allowance : ℕ) (i : Inputs) (plans : List LanePlan) (a b f : Runner) (t u : Story) (left : ℕ) → Ran allowance i plans a b t → (pay_drain i (state_by b t) (left_of 16 b)).left ≡ Some left → Drained (pay_drain i (state_by b t) (left_of 16 b)) b f t u
    → u.beside.reads ≡ (state_left i plans).reads
reads_left allowance i plans a b f t u left h is d =
    ap (λ (s : State). s.reads) d.state ∙ ap (λ (x : Stepped). x.state.reads) (pays_drain i (state_by b t) (left_of 16 b) left is) ∙ ap (λ (s : State). (drain i s).state.reads) (lanes_left allowance i plans a b t h)

-- the units were enough
pub run_made : (allowance : ℕ) (i : Inputs) (plans : List LanePlan) (a b f : Runner) (t u : Story) (left : ℕ) → Ran allowance i plans a b t → (pay_drain i (state_by b t) (left_of 16 b)).left ≡ Some left → Drained (pay_drain i (state_by b t) (left_of 16 b)) b f t u
    → serial_run allowance i plans ≡ Ok (told_run i plans f u)
run_made allowance i plans a b f t u left h is d =
    let ts : List Taken = (all_turns i plans a).taken in
    let last : Stepped = (pay_drain i (state_by b t) (left_of 16 b)).step in
    let row : u.rows ≡ flat_map (λ (x : Taken). x.step.rows) ts ++ last.rows = d.rows ∙ ap (λ (es : List RowEntry). es ++ last.rows) h.takes.rows in
    let order : orders_in f.keeper.entries ≡ flat_map (λ (x : Taken). x.step.orders) ts ++ last.orders =
    d.orders ∙ ap (λ (es : List OrderEntry). es ++ last.orders) (h.takes.orders ∙ ap (λ es. orders_in es ++ flat_map (λ (x : Taken). x.step.orders) ts) h.entries) in
    let lanes : told_by f ≡ map (events_in ts) (range_with_len 0 (length plans)) = ap (λ (ls : List LaneView). map (λ (v : LaneView). told_events v.desk.events) ls) d.lanes ∙ h.takes.told in
    let told : told_events f.drain.notes.events ≡ last.events = d.told ∙ ap (λ (e : DeskView). told_events e.events ++ last.events) (h.takes.desk ∙ h.desk) in
    let asked : u.beside.requests ≡ last.state.requests = ap (λ (s : State). s.requests) d.state in
    behind_lanes allowance i plans a b t h ∙ ap (run_drained i plans ts last) is ∙ ap (λ (run : RunView). Ok run) (sym (same_run ts last row order lanes told asked))
  where
    same_run : (ts : List Taken) (last : Stepped) → u.rows ≡ flat_map (λ (x : Taken). x.step.rows) ts ++ last.rows → orders_in f.keeper.entries ≡ flat_map (λ (x : Taken). x.step.orders) ts ++ last.orders
        → told_by f ≡ map (events_in ts) (range_with_len 0 (length plans)) → told_events f.drain.notes.events ≡ last.events → u.beside.requests ≡ last.state.requests → told_run i plans f u ≡ run_of i plans ts last
    same_run ts last row order noted said asked = rw (row, order, noted, said, asked) refl

-- ---- where the requests are in the end

none_flies : (fs : List Flying) → map (λ f. f.flight) fs ≡ [] → fs ≡ []
none_flies [] is = refl
none_flies (f ∷ fs) is = absurd cc

-- nothing flies at a lane's desk once the lanes have ended
pub lanes_quiet : (allowance : ℕ) (i : Inputs) (plans : List LanePlan) (a b : Runner) (t : Story) → Ran allowance i plans a b t → (n : ℕ) → n < length b.lanes.items → (lane_at n b).desk.flying ≡ []
lanes_quiet allowance i plans a b t h n low =
    let sits = (h.takes.tied.lanes n low).sits in
    none_flies (lane_at n b).desk.flying
    (sym sits.sits.flights ∙ sits.at.flights ∙ ap (λ (s : State). get_or s.flights n []) (lanes_left allowance i plans a b t h) ∙ (lanes_rest i plans h.few).quiet n)
