-- How many tries are listed for want of a usable path.
use Rattle.std.proofs.Common.{[], ◌≡◌, ℕ, zero, suc, ◌+◌, ◌*◌, ◌≤◌, ◌||◌, ◌&&◌, ◌==◌, not, Bool, true, false, cond, List, ◌∷◌, ◌++◌, inl, inr, map, filter, length, get_or, set, eq-eqb, nat_lt, append-nil, Option, Some, None, Result, Ok, Err, refl, sym, ap, ◌∙◌, subst, arith, if◌then◌else◌}
use Rattle.std.specs.Prelude.{◌↔◌}
use Rattle.std.specs.List.{list_any}
use Rattle.std.proofs.lemmas.Bool.{cases_Bool, eqb-true, both_ways}
use Rattle.std.proofs.lemmas.List.{length-map}
use Rattle.std.proofs.lemmas.List.Folds.{list_any-append}
use Rattle.mp_checks.specs.Marks.{has}
use Rattle.mp_words.specs.declared.near.Near.{Near}
use Rattle.mp_words.specs.declared.flight.Flight.{Flight}
use Rattle.mp_words.specs.declared.path.Path.{Path}
use Rattle.mp_words.specs.declared.row.Row.{Row}
use Rattle.mp_words.specs.declared.row.Policy.{Policy}
use Rattle.mp_words.specs.declared.row.Policy.TheVariants.{Numa, RoundRobin, QueueDepth}
use Rattle.mp_words.specs.declared.op.Op.TheVariants as op
use Rattle.mp_words.specs.declared.op.Maker.TheVariants.{Hop}
use Rattle.mp_words.specs.declared.entry.RowEntry.{RowEntry}
use Rattle.mp_words.specs.declared.trying.Back.{Back}
use Rattle.mp_words.specs.declared.trying.Back.TheVariants as back
use Rattle.mp_words.specs.declared.trying.TryEnd.{TryEnd}
use Rattle.mp_words.specs.declared.trying.TryEnd.TheVariants.{Sent, Listed, Failed}
use Rattle.mp_words.specs.Effect.{free_row}
use Rattle.mp_words.specs.Order.{slots_of}
use Rattle.mp_words.specs.Row.{is_given, takes_requests, is_usable}
use Rattle.mp_words.specs.States.{optimized, non_optimized}
use Rattle.mp_words.specs.Request.{Asked, Tried, attempts_of}
use Rattle.mp_status.specs.declared.class.Class.{Class}
use Rattle.mp_status.specs.declared.class.Class.TheVariants.{Complete, Failover, Retry}
use Rattle.mp_page.specs.declared.page.Page.{Page}
use Rattle.mp_page.specs.declared.page.PageError.{PageError}
use Rattle.mp_page.specs.Gifts.{page_at, gift_of, state_for, changing}
use Rattle.mp_policy.specs.Choices.{numa_choice, round_robin_choice, queue_depth_choice, has_usable}
use Rattle.mp_submit.specs.Choice.{choice_by as choice_on, has_available}
use Rattle.mp_record.specs.declared.event.Event.{Event}
use Rattle.mp_record.specs.declared.event.Event.TheVariants.{Sec, At, Try, Fin}
use Rattle.mp_script.specs.Distinct.{IsDistinct}
use Rattle.mp_script.specs.declared.script.Line.{Line}
use Rattle.mp_script.specs.declared.script.Line.TheVariants as line
use Rattle.mp_script.specs.declared.script.Numbered1.{Numbered1}
use Rattle.mp_legal.specs.Answers.{hop_statuses, class_of_hop}
use Rattle.mp_legal.specs.Enough.{is_listed}
use Rattle.mp_legal.specs.Numbers.{has_req}
use Rattle.mp_legal.specs.PlainState.{State, row_at, request_of, entry_of, paths_of}
use Rattle.mp_legal.specs.PlainCall.{Inputs, Call, submit, finish, change, add, remove, reap, call}
use Rattle.mp_legal.specs.PlainFinish.{ended, back_of}
use Rattle.mp_legal.specs.PlainSubmit.{submitted, tried, end_of, choice_by}
use Rattle.mp_legal.specs.PlainLine.{start_of, turn_step, place_of, flights_of, flights_with, by_page, adds, reads_log}
use Rattle.mp_legal.specs.PlainRun.{taken, state_after}
use Rattle.mp_legal.specs.RunCalls.{Called, calls_made, turn_calls, turns_calls, request_calls, requests_calls, round_calls, rounds_calls, drain_calls}
use Rattle.mp_legal.specs.Stepped.{Stepped, Place, joined, each}
use Rattle.mp_legal.specs.Turns.{Turn}
use Rattle.mp_legal.specs.Drain.{drain_place, is_sent, round, most_rounds, reaps, sends_and_finishes}
use Rattle.mp_run.specs.LaneTurns.{submit_in, turns_submits}
use Rattle.mp_run.proofs.Costs.{Costs, listed_in, listed-append, line_free, line_begun, costs_none, costs_both, turn_costs}
use Rattle.mp_run.proofs.Distinct.{has-reqs}
use Rattle.mp_run.proofs.KeptCalls.{numbers-call}
use Rattle.mp_run.proofs.KeptTurns.{turn_keeps}
use Rattle.mp_run.proofs.OnTurns.{numbers, distinct_apart}
use Rattle.mp_run.proofs.PaidRun.{AreOfLanes}
use Rattle.mp_run.proofs.PutNumbers.{put_number, put_all}
use Rattle.mp_run.proofs.TrailsCalls.{Holds, Says, says_change, says_added, says_removed, says_reap, holds_says}
use Rattle.mp_run.proofs.TrailsRun.{AreNew, turn_leaves, turn_has, has_first, has_second, distinct_rest, numbers_each, round_leaves, says_reaps}
use Rattle.mp_run.proofs.TrailsSeats.{waits}
use Rattle.mp_run.proofs.TrailsTold.{AreSaid}
use Rattle.mp_run.proofs.TurnFacts.{count, count_distinct, has_count}
use Rattle.mp_run.proofs.TurnSums.{turn_sum}
use Rattle.mp_legal.specs.Numbers.{standing}

-- ---- a choice and a usable path

-- Each policy chooses no path exactly where none is usable.
pub record NoneChosen : Type 0 where
  pub numa : (near : Near) (node : ℕ) (paths : List Path)
      → (numa_choice near node paths ≡ None) ↔ (has_usable paths ≡ false)
  pub round_robin : (last : Option ℕ) (paths : List Path)
      → (round_robin_choice last paths ≡ None) ↔ (has_usable paths ≡ false)
  pub queue_depth : (depth : ℕ → ℕ) (paths : List Path)
      → (queue_depth_choice depth paths ≡ None) ↔ (has_usable paths ≡ false)

none_chosen : (policy : Policy) (near : Near) (node : ℕ) (last : Option ℕ) (depth : ℕ → ℕ) (paths : List Path)
    → NoneChosen → (choice_on policy near node last depth paths ≡ None) ↔ (has_usable paths ≡ false)
none_chosen Numa near node last depth paths law = law.numa near node paths
none_chosen RoundRobin near node last depth paths law = law.round_robin last paths
none_chosen QueueDepth near node last depth paths law = law.queue_depth depth paths

-- some listed path is usable
abbrev pub usable : State → Bool
usable s = has_usable (paths_of s)

-- a try that is listed finds no usable path, and one that is sent does
end_lists : (s : State) (req hop : ℕ) (choice : Option Path)
    → list_any is_listed (Try req hop (end_of s choice) ∷ []) ≡ true → choice ≡ None
end_lists s req hop None is = refl
end_lists s req hop (Some path) is = absurd cc

end_sends : (s : State) (req hop : ℕ) (choice : Option Path)
    → list_any is_sent (Try req hop (end_of s choice) ∷ []) ≡ true → choice ≡ None → ⊥
end_sends s req hop (Some path) is none = cc
end_sends s req hop None is none = by (has_available (paths_of s)) is
  where
    by : (b : Bool) → list_any is_sent (Try req hop (if b then Listed else Failed) ∷ []) ≡ true → ⊥
    by true e = cc
    by false e = cc

pub listed_unusable : (law : NoneChosen) (near : Near) (lane : ℕ) (s : State) (req : ℕ)
    → list_any is_listed (submitted near lane s req).events ≡ true → usable s ≡ false
listed_unusable law near lane s req is =
    let a : Asked = request_of s req in
    (none_chosen s.order.policy near a.node _ _ (paths_of s) law).0
    (end_lists s a.req (length a.tries + 1) (choice_by s.order.policy near s a.node) is)

sent_usable : (law : NoneChosen) (near : Near) (lane : ℕ) (s : State) (req : ℕ) → usable s ≡ false
    → list_any is_sent (submitted near lane s req).events ≡ false
sent_usable law near lane s req none = by (list_any is_sent (submitted near lane s req).events) refl
  where
    a : Asked
    a = request_of s req

    by : (b : Bool) → list_any is_sent (submitted near lane s req).events ≡ b → b ≡ false
    by false e = refl
    by true e =
        absurd
        (end_sends s a.req (length a.tries + 1) (choice_by s.order.policy near s a.node) e ((none_chosen s.order.policy near a.node _ _ (paths_of s) law).1 none))

-- ---- usable paths become fewer in the drain

tried_paths : (lane : ℕ) (s : State) (a : Asked) (end : TryEnd) → usable (tried lane s a end).state ≡ usable s
tried_paths lane s a (Sent slot version) = refl
tried_paths lane s a Listed = refl
tried_paths lane s a Failed = refl

submit_paths : (near : Near) (lane : ℕ) (s : State) (req : ℕ) → usable (submitted near lane s req).state ≡ usable s
submit_paths near lane s req =
    tried_paths lane s (request_of s req) (end_of s (choice_by s.order.policy near s (request_of s req).node))

-- a row that is pending isn't usable
pending_out : (given takes ready state : Bool) → (given && takes && not true && ready) && state ≡ false
pending_out true true ready state = refl
pending_out true false ready state = refl
pending_out false takes ready state = refl

pending_unusable : (row : Row) → row.pending ≡ true → is_usable row ≡ false
pending_unusable row pending =
    ap
    (λ b. (is_given row && takes_requests row.cstate && not b && row.ready) && (row.state == optimized || row.state == non_optimized))
    pending
    ∙ pending_out (is_given row) (takes_requests row.cstate) row.ready
    (row.state == optimized || row.state == non_optimized)

usable_set : (rows : List Row) (slot x : ℕ) (new : Row) → is_usable new ≡ false
    → is_usable (get_or (set rows slot new) x (free_row 0)) ≡ true → is_usable (get_or rows x (free_row 0)) ≡ true
usable_set [] slot x new off on = on
usable_set (r ∷ rows) zero zero new off on = absurd (both_ways (is_usable new) off on)
usable_set (r ∷ rows) zero (suc x) new off on = on
usable_set (r ∷ rows) (suc slot) zero new off on = on
usable_set (r ∷ rows) (suc slot) (suc x) new off on = usable_set rows slot x new off on

abbrev path_in : List Row → ℕ → Path
path_in rows slot = record { slot = slot; row = get_or rows slot (free_row 0) }

usable_next : (rows : List Row) (slot x : ℕ) (new : Row) (old after : Bool) → is_usable new ≡ false
    → (after ≡ true → old ≡ true) → (is_usable (get_or (set rows slot new) x (free_row 0)) || after) ≡ true
    → (is_usable (get_or rows x (free_row 0)) || old) ≡ true
usable_next rows slot x new old after off later on = by (is_usable (get_or (set rows slot new) x (free_row 0))) refl on
  where
    more : (a b : Bool) → b ≡ true → (a || b) ≡ true
    more true b e = refl
    more false b e = e

    by : (b : Bool) → is_usable (get_or (set rows slot new) x (free_row 0)) ≡ b → (b || after) ≡ true
        → (is_usable (get_or rows x (free_row 0)) || old) ≡ true
    by true is e = ap (λ b. b || old) (usable_set rows slot x new off is)
    by false is e = more (is_usable (get_or rows x (free_row 0))) old (later e)

usable_list : (rows : List Row) (slot : ℕ) (new : Row) (slots : List ℕ) → is_usable new ≡ false
    → has_usable (map (path_in (set rows slot new)) slots) ≡ true → has_usable (map (path_in rows) slots) ≡ true
usable_list rows slot new [] off on = on
usable_list rows slot new (x ∷ slots) off on =
    usable_next rows slot x new (has_usable (map (path_in rows) slots))
    (has_usable (map (path_in (set rows slot new)) slots)) off (λ e. usable_list rows slot new slots off e) on

ended_paths : (s : State) (f : Flight) (tries : List Tried) (statuses : List ℕ) (way : Option Back)
    → ((entry : RowEntry) → way ≡ Some (back.Set entry) → entry.row.pending ≡ true)
    → usable (ended s f tries statuses way).state ≡ true → usable s ≡ true
ended_paths s f tries statuses None pending on = on
ended_paths s f tries statuses (Some back.Unset) pending on = on
ended_paths s f tries statuses (Some (back.Set entry)) pending on =
    usable_list s.rows entry.slot entry.row (slots_of s.order) (pending_unusable entry.row (pending entry refl)) on

back_sets : (lane : ℕ) (s : State) (f : Flight) (hop : ℕ) (c : Class) (entry : RowEntry)
    → back_of lane s f hop c ≡ Some (back.Set entry) → entry.row.pending ≡ true
back_sets lane s f hop Complete entry is = absurd cc
back_sets lane s f hop Retry entry is = absurd cc
back_sets lane s f hop (Failover ana) entry is = by (ana && (row_at s f.slot).ana) is
  where
    same : (a b : RowEntry) → Some (back.Set a) ≡ Some (back.Set b) → a ≡ b
    same a b e = cc

    by : (b : Bool)
        → Some (if b then back.Set (entry_of s f.slot op.Pending (Hop lane f.req hop)) else back.Unset) ≡ Some (back.Set entry)
        → entry.row.pending ≡ true
    by true e =
        subst (λ (x : RowEntry). x.row.pending ≡ true)
        (same (entry_of s f.slot op.Pending (Hop lane f.req hop)) entry e) refl
    by false e = absurd cc

finish_paths : (i : Inputs) (at : Place) (s : State) (f : Flight) → usable (call i at s (finish f)).state ≡ true
    → usable s ≡ true
finish_paths i at s f on =
    let tries : List Tried = (request_of s f.req).tries in
    let statuses : List ℕ = hop_statuses i.answers f.req (attempts_of tries + 1) in
    ended_paths s f tries statuses (back_of at.lane s f (length tries) (class_of_hop statuses))
    (back_sets at.lane s f (length tries) (class_of_hop statuses)) on

-- ---- how many are listed

-- finishes list nothing and send nothing, and paths become no usable by them
pub record Ends (s t : State) (step : Stepped) (cs : List Called) : Type 0 where
  pub listed : listed_in cs ≡ 0
  pub sent : list_any is_sent step.events ≡ false
  pub paths : usable t ≡ true → usable s ≡ true

pub finishes_end : (i : Inputs) (at : Place) (s : State) (fs : List Flight)
    → Ends s (each (call i at) s (map finish fs)).state (each (call i at) s (map finish fs)) (calls_made i at s (map finish fs))
finishes_end i at s [] = record { listed = refl; sent = refl; paths = λ on. on }
finishes_end i at s (f ∷ fs) =
    let rest = finishes_end i at (call i at s (finish f)).state fs in
    record
    { listed = ap (λ n. 0 + n) rest.listed; sent = rest.sent; paths = λ on. finish_paths i at s f (rest.paths on) }

-- What a part of the drain lists: at most so many, none where a path is usable behind it; and without a usable path it
-- sends nothing.
record Drains (s t : State) (step : Stepped) (cs : List Called) (n : ℕ) : Type 0 where
  most : listed_in cs ≤ n
  none : usable t ≡ true → listed_in cs ≡ 0
  paths : usable t ≡ true → usable s ≡ true
  sends : usable s ≡ false → list_any is_sent step.events ≡ false

or_none : (a b : Bool) → a ≡ false → b ≡ false → (a || b) ≡ false
or_none a b p q = λ j. p j || q j

not_on : (b : Bool) → (b ≡ true → ⊥) → b ≡ false
not_on true no_way = absurd (no_way refl)
not_on false no_way = refl

drains_both : (s t u : State) (f g : Stepped) (xs ys : List Called) (m n : ℕ) → Drains s t f xs m → Drains t u g ys n
    → Drains s u (joined f g) (xs ++ ys) (m + n)
drains_both s t u f g xs ys m n one two = record {
  most = omega (arith, one.most, two.most, listed-append xs ys);
  none = λ on. omega (arith, one.none (two.paths on), two.none on, listed-append xs ys);
  paths = λ on. one.paths (two.paths on);
  sends = λ off. list_any-append is_sent f.events g.events ∙ or_none (list_any is_sent f.events)
      (list_any is_sent g.events) (one.sends off)
      (two.sends (not_on (usable t) (λ on. both_ways (usable s) off (one.paths on))));
}

one_most : (b : Bool) → cond b 1 0 ≤ 1
one_most true = omega arith
one_most false = omega arith

request_drains : (law : NoneChosen) (i : Inputs) (s : State) (req : ℕ)
    → Drains s (sends_and_finishes i s req).state (sends_and_finishes i s req) (request_calls i s req) 1
request_drains law i s req =
    let one : Stepped = call i drain_place s (submit req) in
    let t : State = one.state in
    let same : usable t ≡ usable s = submit_paths i.topology.near 16 s req in
    let rest = finishes_end i drain_place t (flights_of 16 t) in
    let tail : Stepped = each (call i drain_place) t (map finish (flights_of 16 t)) in
    record {
      most = omega (arith, rest.listed, one_most (list_any is_listed one.events));
      none = λ on.
          let here : list_any is_listed one.events ≡ false =
          not_on (list_any is_listed one.events)
          (λ e. both_ways (usable s) (listed_unusable law i.topology.near 16 s req e) (sym same ∙ rest.paths on)) in
          ap (λ b. cond b 1 0 + listed_in (calls_made i drain_place t (map finish (flights_of 16 t)))) here ∙ ap
          (λ n. 0 + n) rest.listed;
      paths = λ on. sym same ∙ rest.paths on;
      sends =
          λ off. list_any-append is_sent one.events tail.events ∙ or_none (list_any is_sent one.events)
          (list_any is_sent tail.events) (sent_usable law i.topology.near 16 s req off) rest.sent;
    }

drains_more : (s t : State) (step : Stepped) (cs : List Called) (m n : ℕ) → m ≤ n → Drains s t step cs m
    → Drains s t step cs n
drains_more s t step cs m n le one = record
    { most = omega (arith, one.most, le); none = one.none; paths = one.paths; sends = one.sends }

requests_drain : (law : NoneChosen) (i : Inputs) (s : State) (reqs : List ℕ)
    → Drains s (each (sends_and_finishes i) s reqs).state (each (sends_and_finishes i) s reqs) (requests_calls i s reqs) (length reqs)
requests_drain law i s [] = record { most = omega arith; none = λ on. refl; paths = λ on. on; sends = λ off. refl }
requests_drain law i s (req ∷ reqs) =
    let one : Stepped = sends_and_finishes i s req in
    let rest : Stepped = each (sends_and_finishes i) one.state reqs in
    drains_more s rest.state (joined one rest) (request_calls i s req ++ requests_calls i one.state reqs)
    (1 + length reqs) (length (req ∷ reqs)) (omega arith)
    (drains_both s one.state rest.state one rest (request_calls i s req) (requests_calls i one.state reqs) 1 (length reqs) (request_drains law i s req) (requests_drain law i one.state reqs))

round_drains : (law : NoneChosen) (i : Inputs) (s : State)
    → Drains s (round i s).state (round i s) (round_calls i s) (length s.waiting)
round_drains law i s =
    let t : State = record s { waiting = [] } in
    let all = requests_drain law i t s.waiting in
    record { most = all.most; none = all.none; paths = all.paths; sends = all.sends }

-- ---- how many wait

drop_length : (n : ℕ) (xs : List ℕ) → has xs n ≡ true → suc (length (filter (λ x. not (x == n)) xs)) ≤ length xs
drop_length n [] there = absurd cc
drop_length n (x ∷ xs) there = by (x == n) there (λ later. drop_length n xs later) (kept_length xs)
  where
    kept_length : (ys : List ℕ) → length (filter (λ x. not (x == n)) ys) ≤ length ys
    kept_length [] = omega arith
    kept_length (y ∷ ys) = let rest = kept_length ys in elim (cases_Bool (y == n))
        [ inl on ↦ rw on (omega (arith, rest)) | inr off ↦ rw off (omega (arith, rest)) ]

    by : (b : Bool) → (b || has xs n) ≡ true
        → (has xs n ≡ true → suc (length (filter (λ x. not (x == n)) xs)) ≤ length xs)
        → length (filter (λ x. not (x == n)) xs) ≤ length xs
        → suc (length (cond (not b) (x ∷ filter (λ x. not (x == n)) xs) (filter (λ x. not (x == n)) xs))) ≤ suc (length xs)
    by true there later kept = omega (arith, kept)
    by false there later kept = omega (arith, later there)

has_kept : (n m : ℕ) (xs : List ℕ) → has xs m ≡ true → (m == n) ≡ false → has (filter (λ x. not (x == n)) xs) m ≡ true
has_kept n m [] there off = absurd cc
has_kept n m (x ∷ xs) there off = by (x == n) refl (x == m) refl there (λ later. has_kept n m xs later off)
  where
    by : (b : Bool) → (x == n) ≡ b → (c : Bool) → (x == m) ≡ c → (c || has xs m) ≡ true
        → (has xs m ≡ true → has (filter (λ x. not (x == n)) xs) m ≡ true)
        → has (cond (not b) (x ∷ filter (λ x. not (x == n)) xs) (filter (λ x. not (x == n)) xs)) m ≡ true
    by true p true q there later = absurd (both_ways (m == n) off (ap (λ k. k == n) (sym (eqb-true x m q)) ∙ p))
    by true p false q there later = later there
    by false p true q there later = ap (λ b. b || has (filter (λ x. not (x == n)) xs) m) q
    by false p false q there later = ap (λ b. b || has (filter (λ x. not (x == n)) xs) m) q ∙ later there

-- different numbers that are all in a list are no more than the list has
few_within : (xs ys : List ℕ) → IsDistinct xs → ((m : ℕ) → has xs m ≡ true → has ys m ≡ true) → length xs ≤ length ys
few_within [] ys d within = omega arith
few_within (x ∷ xs) ys d within =
    let less = drop_length x ys (within x (ap (λ b. b || has xs x) (eq-eqb x x refl))) in
    let rest =
    few_within xs (filter (λ y. not (y == x)) ys) d.1
    (λ m e. has_kept x m ys (within m (more (x == m) (has xs m) e)) (other x m d.0 e)) in
    omega (arith, less, rest)
  where
    more : (a b : Bool) → b ≡ true → (a || b) ≡ true
    more true b e = refl
    more false b e = e

    other : (x m : ℕ) → has xs x ≡ false → has xs m ≡ true → (m == x) ≡ false
    other x m none e = not_on (m == x) (λ same. both_ways (has xs m) (ap (has xs) (eqb-true m x same) ∙ none) e)

pub few_waiting : (i : Inputs) (s : State) (events : List Event) → Holds i.answers s [] events
    → length s.waiting ≤ length s.requests
few_waiting i s events holds =
    let nil : s.waiting ++ [] ≡ s.waiting = append-nil s.waiting in
    let counted : (r : ℕ) → count r s.waiting ≡ cond (waits (standing r s.requests) && has_req r s.requests) 1 0 =
    λ r. ap (count r) (sym nil) ∙ holds.seated.queued r in
    let distinct : IsDistinct s.waiting =
    count_distinct s.waiting
    (λ r. omega (arith, counted r, one_most (waits (standing r s.requests) && has_req r s.requests))) in
    let within : (r : ℕ) → has s.waiting r ≡ true → has (numbers s.requests) r ≡ true =
    λ r e. has-reqs s.requests r ∙ there (waits (standing r s.requests)) (has_req r s.requests)
    (omega (arith, counted r, has_count r s.waiting e)) in
    omega
    (arith, few_within s.waiting (numbers s.requests) distinct within, length-map s.requests (λ (a : Asked). a.req))
  where
    there : (a b : Bool) → 1 ≤ cond (a && b) 1 0 → b ≡ true
    there true true le = refl
    there true false le = absurd (omega (arith, le))
    there false b le = absurd (omega (arith, le))

-- ---- the rounds

same_length : (s t : State) → numbers t.requests ≡ numbers s.requests → length t.requests ≡ length s.requests
same_length s t same =
    sym (length-map t.requests (λ (a : Asked). a.req)) ∙ ap length same ∙ length-map s.requests (λ (a : Asked). a.req)

sends_numbers : (i : Inputs) (s : State) (reqs : List ℕ)
    → numbers (each (sends_and_finishes i) s reqs).state.requests ≡ numbers s.requests
sends_numbers i s [] = refl
sends_numbers i s (req ∷ reqs) =
    let t : State = (call i drain_place s (submit req)).state in
    sends_numbers i (sends_and_finishes i s req).state reqs ∙ numbers_each i drain_place t
    (map finish (flights_of 16 t)) ∙ numbers-call i drain_place s (submit req)

round_numbers : (i : Inputs) (s : State) → length (round i s).state.requests ≡ length s.requests
round_numbers i s = same_length s (round i s).state (sends_numbers i (record s { waiting = [] }) s.waiting)

-- what this round and those after it list, by whether the round sends something, and a path is usable before and behind it
rounds_by : (i : Inputs) (n : ℕ) (s : State) (most : ℕ)
    → Drains s (round i s).state (round i s) (round_calls i s) (length s.waiting) → length s.waiting ≤ most
    → ((c : Bool) → usable (round i s).state ≡ c → listed_in (rounds_calls i n (round i s).state) ≤ most + cond c most 0)
    → (sent : Bool) → list_any is_sent (round i s).events ≡ sent → (b : Bool) → usable s ≡ b → (c : Bool)
    → usable (round i s).state ≡ c
    → listed_in (round_calls i s ++ (if sent then rounds_calls i n (round i s).state else [])) ≤ most + cond b most 0
rounds_by i n s most d few later false e b f c g = let all = listed-append (round_calls i s) [] in let least = d.most in
    omega (arith, least, few, all)
rounds_by i n s most d few later true e false f c g =
    absurd (both_ways (list_any is_sent (round i s).events) (d.sends f) e)
rounds_by i n s most d few later true e true f true g =
    let all = listed-append (round_calls i s) (rounds_calls i n (round i s).state) in
    let none = d.none g in
    let rest = later true g in
    omega (arith, none, rest, all)
rounds_by i n s most d few later true e true f false g =
    let all = listed-append (round_calls i s) (rounds_calls i n (round i s).state) in
    let least = d.most in
    let rest = later false g in
    omega (arith, least, few, rest, all)

-- what the rounds list: at most the requests twice, and once where no path is usable
rounds_list : (law : NoneChosen) (i : Inputs) (n : ℕ) (s : State) (events : List Event) (most : ℕ)
    → Holds i.answers s [] events → length s.requests ≤ most → (b : Bool) → usable s ≡ b
    → listed_in (rounds_calls i n s) ≤ most + cond b most 0
rounds_list law i zero s events most holds le b is =
    let d = round_drains law i s in
    let least = d.most in
    let few = few_waiting i s events holds in
    omega (arith, least, few, le)
rounds_list law i (suc n) s events most holds le b is =
    let t : State = (round i s).state in
    let few = few_waiting i s events holds in
    rounds_by i n s most (round_drains law i s) (omega (arith, few, le))
    (λ c e. rounds_list law i n t (events ++ (round i s).events) most (round_leaves i s events holds) (omega (arith, round_numbers i s, le)) c e)
    (list_any is_sent (round i s).events) refl b is (usable t) refl

said_unlisted : (events : List Event) → AreSaid events → list_any is_listed events ≡ false
said_unlisted [] all = refl
said_unlisted (At line said ∷ events) all = said_unlisted events all.1
said_unlisted (Sec note moved ∷ events) all = absurd all.0
said_unlisted (Try req hop end ∷ events) all = absurd all.0
said_unlisted (Fin req hop statuses count way ∷ events) all = absurd all.0

reaps_unlisted : (i : Inputs) (s : State) (slots : List ℕ)
    → listed_in (calls_made i drain_place s (map (λ slot. reap) slots)) ≡ 0
reaps_unlisted i s [] = refl
reaps_unlisted i s (slot ∷ slots) =
    ap
    (λ b. cond b 1 0 + listed_in (calls_made i drain_place (call i drain_place s reap).state (map (λ slot. reap) slots)))
    (said_unlisted (call i drain_place s reap).events (says_reap drain_place s).said)
    ∙ ap (λ n. 0 + n) (reaps_unlisted i (call i drain_place s reap).state slots)

-- what the drain lists: at most the requests twice
pub drain_lists : (law : NoneChosen) (i : Inputs) (s : State) (events : List Event) (most : ℕ)
    → Holds i.answers s [] events → length s.requests ≤ most → listed_in (drain_calls i s) ≤ 2 * most
drain_lists law i s events most holds le =
    let t : State = (reaps s).state in
    let says : Says s (reaps s) = says_reaps s s.removals in
    let same : length t.requests ≡ length s.requests = ap length says.requests in
    let after = holds_says i.answers s (reaps s) [] events says holds in
    let rest =
    rounds_list law i (most_rounds i t) t (events ++ (reaps s).events) most after (omega (arith, same, le)) (usable t)
    refl in
    let cs : List Called = calls_made i drain_place s (map (λ slot. reap) s.removals) in
    let all = listed-append cs (rounds_calls i (most_rounds i t) t) in
    let none = reaps_unlisted i s s.removals in
    let twice = at_most (usable t) in
    omega (arith, rest, all, none, twice)
  where
    at_most : (b : Bool) → cond b most 0 ≤ most
    at_most true = omega arith
    at_most false = omega arith

-- ---- the turns

-- how many tries a line lists at most, where so many wait
abbrev pub line_lists : ℕ → Option Numbered1 → ℕ
line_lists most None = 0
line_lists most (Some l) = by l.line
  where
    by : Line → ℕ
    by (line.Submit req node) = 1
    by line.Requeue = most
    by (line.Finish req) = 0
    by line.FinishAll = 0
    by (line.Log ctrl box) = 0
    by (line.Ctrl ctrl to) = 0
    by (line.Anatt ctrl) = 0
    by (line.Add ctrl box) = 0
    by (line.Remove ctrl) = 0
    by line.Reap = 0
    by (line.Policy policy) = 0

submits_list : (i : Inputs) (at : Place) (s : State) (reqs : List ℕ)
    → listed_in (calls_made i at s (map submit reqs)) ≤ length reqs
submits_list i at s [] = omega arith
submits_list i at s (req ∷ reqs) =
    let one = one_most (list_any is_listed (call i at s (submit req)).events) in
    let rest = submits_list i at (call i at s (submit req)).state reqs in
    omega (arith, one, rest)

said_lists : (i : Inputs) (at : Place) (s : State) (c : Call) → Says s (call i at s c)
    → listed_in (calls_made i at s (c ∷ [])) ≡ 0
said_lists i at s c says = ap (λ b. cond b 1 0 + 0) (said_unlisted (call i at s c).events says.said)

page_lists : (i : Inputs) (at : Place) (s : State) (read : Result Page PageError) (made : Page → Call)
    → ((page : Page) → Says s (call i at s (made page)))
    → listed_in (calls_made i at (by_page s read made).state (by_page s read made).calls) ≡ 0
page_lists i at s (Ok page) made of = said_lists i at s (made page) (of page)
page_lists i at s (Err error) made of = refl

adds_lists : (i : Inputs) (at : Place) (s : State) (ctrl : ℕ) (box : Option ℕ)
    → listed_in (calls_made i at (adds i s ctrl box).state (adds i s ctrl box).calls) ≡ 0
adds_lists i at s ctrl None =
    said_lists i at s (add (gift_of i.topology.nsid ctrl None)) (says_added at s (gift_of i.topology.nsid ctrl None))
adds_lists i at s ctrl (Some box) =
    page_lists i at s (page_at i.pages box) (λ page. add (gift_of i.topology.nsid ctrl (Some page)))
    (λ page. says_added at s (gift_of i.topology.nsid ctrl (Some page)))

least : (n m : ℕ) → n ≡ 0 → n ≤ m
least n m e = omega arith

line_listed : (i : Inputs) (at : Place) (lane : ℕ) (s : State) (n : ℕ) (l : Line) (most : ℕ) → length s.waiting ≤ most
    → listed_in (calls_made i at (start_of i lane s l).state (start_of i lane s l).calls) ≤ line_lists most (Some (record { number = n; line = l }))
line_listed i at lane s n (line.Submit req node) most le =
    submits_list i at (start_of i lane s (line.Submit req node)).state (req ∷ [])
line_listed i at lane s n (line.Finish req) most le =
    least _ 0 (finishes_end i at s (flights_with req (flights_of lane s))).listed
line_listed i at lane s n line.FinishAll most le = least _ 0 (finishes_end i at s (flights_of lane s)).listed
line_listed i at lane s n line.Requeue most le = let few = submits_list i at (record s { waiting = [] }) s.waiting in
    omega (arith, few, le)
line_listed i at lane s n (line.Log ctrl box) most le =
    least _ 0
    (page_lists i at s (page_at i.pages box) (reads_log i.topology.nsid ctrl) (λ page. says_change at s ctrl (op.Log (state_for page i.topology.nsid) (changing page))))
line_listed i at lane s n (line.Ctrl ctrl to) most le =
    least _ 0 (said_lists i at s (change ctrl (op.Ctrl to)) (says_change at s ctrl (op.Ctrl to)))
line_listed i at lane s n (line.Anatt ctrl) most le =
    least _ 0 (said_lists i at s (change ctrl op.Expire) (says_change at s ctrl op.Expire))
line_listed i at lane s n (line.Add ctrl box) most le = least _ 0 (adds_lists i at s ctrl box)
line_listed i at lane s n (line.Remove ctrl) most le =
    least _ 0 (said_lists i at s (remove ctrl) (says_removed at s ctrl))
line_listed i at lane s n line.Reap most le = least _ 0 (said_lists i at s reap (says_reap at s))
line_listed i at lane s n (line.Policy policy) most le = omega arith

turn_listed : (i : Inputs) (lane : ℕ) (s : State) (turn : Option Numbered1) (most : ℕ) → length s.waiting ≤ most
    → listed_in (turn_calls i lane s turn) ≤ line_lists most turn
turn_listed i lane s None most le = least _ 0 (finishes_end i (place_of lane None) s (flights_of lane s)).listed
turn_listed i lane s (Some l) most le = line_listed i (place_of lane (Some l)) lane s l.number l.line most le

-- how many requests a turn adds
abbrev pub line_news : Option Numbered1 → ℕ
line_news turn = length (submit_in turn)

put_length : (n : ℕ) (ns : List ℕ) → length (put_number n ns) ≡ suc (length ns)
put_length n [] = refl
put_length n (m ∷ ns) =
    elim (cases_Bool (nat_lt n m)) [ inl low ↦ rw low refl | inr high ↦ rw high (ap suc (put_length n ns)) ]

put_all_length : (ns more : List ℕ) → length (put_all ns more) ≡ length ns + length more
put_all_length ns [] = omega arith
put_all_length ns (m ∷ more) = let rest = put_all_length (put_number m ns) more in let one = put_length m ns in omega
    (arith, rest, one)

pub turn_requests : (i : Inputs) (lane : ℕ) (s : State) (turn : Option Numbered1) (events : List Event)
    → Holds i.answers s [] events → length (turn_step i lane s turn).state.requests ≡ length s.requests + line_news turn
turn_requests i lane s turn events holds =
    let t : State = (turn_step i lane s turn).state in
    let whole = ap length (turn_keeps i lane s turn holds.seated.home).numbers in
    let put = put_all_length (numbers s.requests) (submit_in turn) in
    let one = length-map s.requests (λ (a : Asked). a.req) in
    let two = length-map t.requests (λ (a : Asked). a.req) in
    omega (arith, whole, put, one, two)

-- what the turns list
pub turns_listed : (i : Inputs) (s : State) (ts : List Turn) (events : List Event) (most : ℕ) → AreOfLanes 17 ts
    → AreNew (turns_submits ts) s → IsDistinct (turns_submits ts) → Holds i.answers s [] events
    → length s.requests + turn_sum line_news ts ≤ most
    → listed_in (turns_calls i s ts) ≤ turn_sum (line_lists most) ts
turns_listed i s [] events most of new distinct holds le = omega arith
turns_listed i s (t ∷ ts) events most of new distinct holds le =
    let first : Stepped = turn_step i t.lane s t.line in
    let mine : AreNew (submit_in t.line) s = λ r e. new r (has_first (submit_in t.line) (turns_submits ts) r e) in
    let rest : AreNew (turns_submits ts) first.state = λ r e. turn_has i t.lane s t.line r mine
    ∙ ap (λ b. b || has (submit_in t.line) r) (new r (has_second (submit_in t.line) (turns_submits ts) r e))
    ∙ distinct_apart (submit_in t.line) (turns_submits ts) r distinct e in
    let few = few_waiting i s events holds in
    let here = turn_listed i t.lane s t.line most (omega (arith, few, le)) in
    let grown = turn_requests i t.lane s t.line events holds in
    let later =
    turns_listed i first.state ts (events ++ first.events) most of.1 rest
    (distinct_rest (submit_in t.line) (turns_submits ts) distinct)
    (turn_leaves i t.lane s t.line of.0 mine events holds) (omega (arith, grown, le)) in
    omega (arith, here, later, listed-append (turn_calls i t.lane s t.line) (turns_calls i first.state ts))

pub turns_requests : (i : Inputs) (s : State) (ts : List Turn) (events : List Event) → AreOfLanes 17 ts
    → AreNew (turns_submits ts) s → IsDistinct (turns_submits ts) → Holds i.answers s [] events
    → length (state_after s (taken i s ts)).requests ≡ length s.requests + turn_sum line_news ts
turns_requests i s [] events of new distinct holds = omega arith
turns_requests i s (t ∷ ts) events of new distinct holds =
    let first : Stepped = turn_step i t.lane s t.line in
    let mine : AreNew (submit_in t.line) s = λ r e. new r (has_first (submit_in t.line) (turns_submits ts) r e) in
    let rest : AreNew (turns_submits ts) first.state = λ r e. turn_has i t.lane s t.line r mine
    ∙ ap (λ b. b || has (submit_in t.line) r) (new r (has_second (submit_in t.line) (turns_submits ts) r e))
    ∙ distinct_apart (submit_in t.line) (turns_submits ts) r distinct e in
    let grown = turn_requests i t.lane s t.line events holds in
    let later =
    turns_requests i first.state ts (events ++ first.events) of.1 rest
    (distinct_rest (submit_in t.line) (turns_submits ts) distinct)
    (turn_leaves i t.lane s t.line of.0 mine events holds) in
    omega (arith, grown, later)

-- what the turns cost
pub turns_costs : (i : Inputs) (s : State) (ts : List Turn) (events : List Event) → AreOfLanes 17 ts
    → AreNew (turns_submits ts) s → IsDistinct (turns_submits ts) → Holds i.answers s [] events
    → Costs i.answers (turn_sum line_free ts) (turn_sum line_begun ts) s (state_after s (taken i s ts)) (turns_calls i s ts)
turns_costs i s [] events of new distinct holds = costs_none i.answers s
turns_costs i s (t ∷ ts) events of new distinct holds =
    let first : Stepped = turn_step i t.lane s t.line in
    let mine : AreNew (submit_in t.line) s = λ r e. new r (has_first (submit_in t.line) (turns_submits ts) r e) in
    let rest : AreNew (turns_submits ts) first.state = λ r e. turn_has i t.lane s t.line r mine
    ∙ ap (λ b. b || has (submit_in t.line) r) (new r (has_second (submit_in t.line) (turns_submits ts) r e))
    ∙ distinct_apart (submit_in t.line) (turns_submits ts) r distinct e in
    costs_both i.answers (line_free t.line) (turn_sum line_free ts) (line_begun t.line) (turn_sum line_begun ts) s
    first.state (state_after first.state (taken i first.state ts)) (turn_calls i t.lane s t.line)
    (turns_calls i first.state ts)
    (turn_costs i t.lane s t.line events of.0 mine holds)
    (turns_costs i first.state ts (events ++ first.events) of.1 rest (distinct_rest (submit_in t.line) (turns_submits ts) distinct) (turn_leaves i t.lane s t.line of.0 mine events holds))
