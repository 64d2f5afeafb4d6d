-- The run that is gathered from what lanes leave is the run with units.
use Rattle.std.proofs.Common.{◌≡◌, ℕ, ◌<◌, ◌≤◌, ◌==◌, true, cond, List, [], ◌∷◌, ◌++◌, inl, inr, map, length, Some, None, refl, sym, ap, ◌∙◌, subst, arith}
use Rattle.std.specs.Prelude.{position, is_none, Ok, All}
use Rattle.std.specs.List.{flat_map, enumerate_from, AllByRecursion}
use Rattle.std.specs.List.Sorted.{IsPermutation}
use Rattle.std.proofs.lemmas.Bool.{cases_Bool}
use Rattle.std.proofs.lemmas.List.Elements.{All-cons, All-head, All-nil, All-tail}
use Rattle.std.proofs.lemmas.List.Sums.{sum_by-cons}
use Rattle.std.proofs.lemmas.List.Sorted.{All-permutation, sum_by-IsPermutation}
use Rattle.mp_checks.specs.Marks.{has}
use Rattle.mp_words.specs.declared.row.Row.{Row}
use Rattle.mp_run.specs.Beginning.{empty_desk, first_lane, first_story}
use Rattle.mp_words.specs.declared.entry.RowEntry.{RowEntry}
use Rattle.mp_words.specs.Request.{asked_of}
use Rattle.mp_words.specs.RequestView.{RequestView}
use Rattle.mp_record.specs.declared.run.Run.{Run}
use Rattle.mp_record.specs.RunView.{RunView, view_of}
use Rattle.mp_script.specs.declared.script.LanePlan.{LanePlan}
use Rattle.mp_script.specs.Distinct.{IsDistinct}
use Rattle.mp_script.specs.Facts.{submits_in}
use Rattle.mp_desk.specs.Desks.{desk_of}
use Rattle.mp_lane.specs.LaneView.{LaneView}
use Rattle.mp_legal.specs.Fitting.{IsHistory}
use Rattle.mp_legal.specs.Gathering.{history, AreNumbered, AreVersions, HaveSameItems}
use Rattle.mp_legal.specs.Numbers.{has_req}
use Rattle.mp_legal.specs.Opening.{opening, opening_entry}
use Rattle.mp_legal.specs.PlainCall.{Inputs}
use Rattle.mp_legal.specs.PlainRun.{plain_run, rows_in, state_left}
use Rattle.mp_legal.specs.ToldDesks.{IsInRun}
use Rattle.mp_legal.specs.TryRead.{TryRead}
use Rattle.mp_legal.specs.Turns.{turns_of}
use Rattle.mp_legal.specs.Units.{pay_drain, serial_run}
use Rattle.mp_run.specs.declared.runner.Runner.{Runner}
use Rattle.mp_run.specs.Closing.{ended_at, entries_of, requests_of, Gathers}
use Rattle.mp_run.specs.DrainAll.{Drained}
use Rattle.mp_run.specs.LaneTurns.{turns_submits}
use Rattle.mp_run.specs.Notes.{AreNoted}
use Rattle.mp_run.specs.Runner.{left_of, state_by, Story}
use Rattle.mp_run.specs.ToldRun.{told_run}
use Rattle.mp_run.specs.Turning.{all_turns, total_of, TakesAll}
use Rattle.mp_run.proofs.ByRequest.{asked_same, noted_same}
use Rattle.mp_run.proofs.ClosedLanes.{all_both, all_flat, all_left, all_made, each_lane, often_count, IsDone}
use Rattle.mp_run.proofs.KeptRun.{run_asked, run_numbered}
use Rattle.mp_run.proofs.LaneOpening.{lanes_count}
use Rattle.mp_run.proofs.LaneParts.{distinct_among}
use Rattle.mp_run.proofs.LaneStarts.{among}
use Rattle.mp_run.proofs.PaidRun.{paid_is_plain}
use Rattle.mp_run.proofs.SerialLanes.{lanes_quiet, reads_left, run_made, Ran}
use Rattle.mp_run.proofs.TurnFacts.{count, distinct_count, has_count, turns_count}
use Rattle.mp_run.proofs.WholeRun.{rows-length}

-- What is known of entries in any order: those by which histories were made have the versions 1, 2 and on, and make the
-- same histories.
pub record AnyOrder : Type 0 where
  pub versions : (opened : List Row) (rows entries : List RowEntry) → length opened ≡ 15 → AllByRecursion IsHistory (map (rows_in rows) (map opening_entry (enumerate_from 0 opened))) → HaveSameItems entries rows → AreVersions entries
  pub histories : (opened : List Row) (rows entries : List RowEntry) → AllByRecursion IsHistory (map (rows_in rows) (map opening_entry (enumerate_from 0 opened))) → HaveSameItems entries rows → map (history entries) (map opening_entry (enumerate_from 0 opened)) ≡ map (rows_in rows) (map opening_entry (enumerate_from 0 opened))

-- The lanes ran and the drain is done, and the units were enough.
pub record Whole (allowance : ℕ) (i : Inputs) (plans : List LanePlan) (a b f : Runner) (t u : Story) : Type 0 where
  pub ran : Ran allowance i plans a b t
  pub left : ℕ
  pub paid : (pay_drain i (state_by b t) (left_of 16 b)).left ≡ Some left
  pub drained : Drained (pay_drain i (state_by b t) (left_of 16 b)) b f t u
  pub empty : (req : ℕ) → total_of req a ≡ 0
  pub distinct : IsDistinct (submits_in plans)
  pub follow : AllByRecursion IsHistory (plain_run i plans).rows
  pub laws : AnyOrder

-- The same of some stories.
abbrev pub IsWhole : ℕ → Inputs → List LanePlan → Runner → Runner → Runner → Type 0
IsWhole allowance i plans a b f = (t : Story) × (u : Story) × Whole allowance i plans a b f t u

pub ran_of : (allowance : ℕ) (i : Inputs) (plans : List LanePlan) (a b : Runner) → length plans ≤ 16 → a.lanes.items ≡ map first_lane (enumerate_from 0 plans) → state_by a first_story ≡ opening i → ((lane : ℕ) → lane < 17 → left_of lane a ≡ allowance)
    → (a.keeper.entries ≡ []) × (desk_of a.drain ≡ empty_desk) → (runs : (t : Story) × TakesAll i plans a b t) → position is_none (all_turns i plans a).lefts ≡ None → Ran allowance i plans a b runs.0
ran_of allowance i plans a b few lanes opened lefts made runs enough = record {
  few = few;
  count = ap length lanes ∙ lanes_count plans;
  opened = opened;
  lefts = lefts;
  entries = made.0;
  desk = made.1;
  takes = runs.1;
  enough = enough;
}

pub whole_of : (allowance : ℕ) (i : Inputs) (plans : List LanePlan) (a b f : Runner) (t : Story) → Ran allowance i plans a b t
    → ((left : ℕ) × ((pay_drain i (state_by b t) (left_of 16 b)).left ≡ Some left) × ((u : Story) × Drained (pay_drain i (state_by b t) (left_of 16 b)) b f t u))
    → ((req : ℕ) → total_of req a ≡ 0) → IsDistinct (submits_in plans) → AllByRecursion IsHistory (plain_run i plans).rows → AnyOrder → IsWhole allowance i plans a b f
whole_of allowance i plans a b f t ran drains empty distinct follow laws =
    (t, drains.2.0, record { ran = ran; left = drains.0; paid = drains.1; drained = drains.2.1; empty = empty; distinct = distinct; follow = follow; laws = laws })

-- what was told is the plain run
pub told_plain : (allowance : ℕ) (i : Inputs) (plans : List LanePlan) (a b f : Runner) (t u : Story) → Whole allowance i plans a b f t u → told_run i plans f u ≡ plain_run i plans
told_plain allowance i plans a b f t u w = paid_is_plain allowance i plans (told_run i plans f u) (run_made allowance i plans a b f t u w.left w.ran w.paid w.drained)

-- ---- what the lanes leave

pub lanes_over : (allowance : ℕ) (i : Inputs) (plans : List LanePlan) (a b f : Runner) (t u : Story) → Whole allowance i plans a b f t u → AllByRecursion (λ v. v.over ≡ true) f.lanes.items
lanes_over allowance i plans a b f t u w =
    let takes = w.ran.takes in
    subst (λ (vs : List LaneView). AllByRecursion (λ v. v.over ≡ true) vs) (sym w.drained.lanes)
    (each_lane (λ (v : LaneView). v.over ≡ true) b.lanes.items (λ n low. takes.over n (omega (arith, low, takes.count)) w.ran.enough))

lanes_done : (allowance : ℕ) (i : Inputs) (plans : List LanePlan) (a b f : Runner) (t u : Story) → Whole allowance i plans a b f t u → AllByRecursion (λ v. IsDone v.desk) f.lanes.items
lanes_done allowance i plans a b f t u w =
    subst (λ (vs : List LaneView). AllByRecursion (λ v. IsDone v.desk) vs) (sym w.drained.lanes)
    (each_lane (λ (v : LaneView). IsDone v.desk) b.lanes.items (λ n low. record { flying = lanes_quiet allowance i plans a b t w.ran n low; out = (w.ran.takes.tied.lanes n low).out }))

drain_done : (allowance : ℕ) (i : Inputs) (plans : List LanePlan) (a b f : Runner) (t u : Story) → Whole allowance i plans a b f t u → IsDone (desk_of f.drain)
drain_done allowance i plans a b f t u w = record { flying = w.drained.quiet; out = w.drained.out }

-- each request that the script submits is left, and no other
pub requests_left : (allowance : ℕ) (i : Inputs) (plans : List LanePlan) (a b f : Runner) (t u : Story) → Whole allowance i plans a b f t u → (n : ℕ) → among n (requests_of f) ≡ count n (submits_in plans)
requests_left allowance i plans a b f t u w n =
    let left = all_left n f.lanes.items f.list (desk_of f.drain) (lanes_done allowance i plans a b f t u w) (drain_done allowance i plans a b f t u w) in
    let kept = w.drained.all n in
    let took = w.ran.takes.all n w.ran.enough in
    let none = w.empty n in
    let same = often_count n (turns_submits (turns_of plans)) in
    let asked = turns_count n plans in
    omega (arith, left, kept, took, none, same, asked)

pub requests_once : (allowance : ℕ) (i : Inputs) (plans : List LanePlan) (a b f : Runner) (t u : Story) → Whole allowance i plans a b f t u → IsDistinct (map (λ r. r.id) (requests_of f))
requests_once allowance i plans a b f t u w =
    distinct_among (requests_of f) (λ n. let same = requests_left allowance i plans a b f t u w n in let few = distinct_count n (submits_in plans) w.distinct in omega (arith, same, few))

pub requests_told : (allowance : ℕ) (i : Inputs) (plans : List LanePlan) (a b f : Runner) (t u : Story) → Whole allowance i plans a b f t u → AllByRecursion (IsInRun u.beside) (requests_of f)
requests_told allowance i plans a b f t u w =
    let d = w.drained in
    all_both (IsInRun u.beside) (flat_map ended_at f.lanes.items) (f.list ++ (desk_of f.drain).ended)
    (all_flat (IsInRun u.beside) f.lanes.items (each_lane (λ (v : LaneView). AllByRecursion (IsInRun u.beside) v.desk.ended) f.lanes.items (λ n low. (d.elsewhere n low).ended)))
    (all_both (IsInRun u.beside) f.list (desk_of f.drain).ended d.listed d.desk.ended)

-- the entries that were made count as in the story
pub entries_count : (allowance : ℕ) (i : Inputs) (plans : List LanePlan) (a b f : Runner) (t u : Story) → Whole allowance i plans a b f t u → HaveSameItems (entries_of f) u.rows
entries_count allowance i plans a b f t u w of = sym (w.drained.made of ∙ all_made of f.lanes.items (desk_of f.drain))

told_follow : (allowance : ℕ) (i : Inputs) (plans : List LanePlan) (a b f : Runner) (t u : Story) → Whole allowance i plans a b f t u → AllByRecursion IsHistory (map (rows_in u.rows) (map opening_entry (enumerate_from 0 (opening i).rows)))
told_follow allowance i plans a b f t u w = subst (λ (run : RunView). AllByRecursion IsHistory run.rows) (sym (told_plain allowance i plans a b f t u w)) w.follow

pub entries_follow : (allowance : ℕ) (i : Inputs) (plans : List LanePlan) (a b f : Runner) (t u : Story) → Whole allowance i plans a b f t u → AreVersions (entries_of f)
entries_follow allowance i plans a b f t u w =
    w.laws.versions (opening i).rows u.rows (entries_of f) (rows-length i) (told_follow allowance i plans a b f t u w) (entries_count allowance i plans a b f t u w)

-- ---- the run that is gathered

all_of : {X : Type 0} (P : X → Type 0) (xs : List X) → AllByRecursion P xs → All P xs
all_of P [] all = All-nil P
all_of P (x ∷ xs) all = All-cons P x xs all.0 (all_of P xs all.1)

by_recursion : {X : Type 0} (P : X → Type 0) (xs : List X) → All P xs → AllByRecursion P xs
by_recursion P [] all = tt
by_recursion P (x ∷ xs) all = (All-head P x xs all, by_recursion P xs (All-tail P x xs all))

-- what holds of requests holds of them in another order
all_moved : (P : RequestView → Type 0) (rs qs : List RequestView) → IsPermutation rs qs → AllByRecursion P rs → AllByRecursion P qs
all_moved P rs qs moved all = by_recursion P qs (All-permutation P rs qs moved (all_of P rs all))

among_moved : (n : ℕ) (rs qs : List RequestView) → IsPermutation rs qs → among n qs ≡ among n rs
among_moved n rs qs moved = sum_by-IsPermutation (λ (r : RequestView). cond (r.id == n) 1 0) rs qs moved

-- a number that some request has is told
some_there : (n : ℕ) (rs : List RequestView) → 1 ≤ among n rs → has_req n (map asked_of rs) ≡ true
some_there n [] some = absurd (omega (arith, some))
some_there n (r ∷ rs) some =
    let sum = sum_by-cons (λ (q : RequestView). cond (q.id == n) 1 0) r rs in
    elim (cases_Bool (r.id == n)) [
      | inl on ↦ rw on refl
      | inr off ↦ let none : ◌≡◌ {A = ℕ} (cond (r.id == n) 1 0) 0 = rw off refl in rw off (some_there n rs (omega (arith, some, sum, none)))
    ]

-- the requests of the run are those of the story
requests_same : (allowance : ℕ) (i : Inputs) (plans : List LanePlan) (a b f : Runner) (t u : Story) (run : Run) → Whole allowance i plans a b f t u → Gathers i plans f run → map asked_of run.requests ≡ u.beside.requests
requests_same allowance i plans a b f t u run w g =
    let plain = told_plain allowance i plans a b f t u w in
    let numbered : AreNumbered u.beside.requests = subst (λ (r : RunView). AreNumbered r.requests) (sym plain) (run_numbered i plans w.ran.few w.distinct) in
    asked_same u.beside run.requests g.numbered numbered (all_moved (IsInRun u.beside) (requests_of f) run.requests g.same (requests_told allowance i plans a b f t u w))
    (λ n on. let asked : has (submits_in plans) n ≡ true = sym (run_asked i plans w.ran.few n) ∙ ap (λ (r : RunView). has_req n r.requests) (sym plain) ∙ on in
    let one = has_count n (submits_in plans) asked in
    let left = requests_left allowance i plans a b f t u w n in
    let moved = among_moved n (requests_of f) run.requests g.same in
    some_there n run.requests (omega (arith, one, left, moved)))

same_told : (x y : RunView) → x.nsid ≡ y.nsid → x.keeper ≡ y.keeper → x.rows ≡ y.rows → x.keeping ≡ y.keeping → x.lanes ≡ y.lanes → x.drain ≡ y.drain → x.requests ≡ y.requests → x ≡ y
same_told x y a b c d e f g = λ j. record { nsid = a j; keeper = b j; rows = c j; keeping = d j; lanes = e j; drain = f j; requests = g j }

-- the run is what was told
pub gathered_told : (allowance : ℕ) (i : Inputs) (plans : List LanePlan) (a b f : Runner) (t u : Story) (run : Run) → Whole allowance i plans a b f t u → Gathers i plans f run → view_of run ≡ told_run i plans f u
gathered_told allowance i plans a b f t u run w g =
    let firsts : List RowEntry = map opening_entry (enumerate_from 0 (opening i).rows) in
    let rows : run.rows ≡ map (rows_in u.rows) firsts =
    g.rows ∙ w.laws.histories (opening i).rows u.rows (entries_of f) (told_follow allowance i plans a b f t u w) (entries_count allowance i plans a b f t u w) in
    same_told (view_of run) (told_run i plans f u) g.nsid g.keeper rows g.keeping g.lanes g.drain (requests_same allowance i plans a b f t u run w g)

-- the run with units is the run that is gathered
pub gathered_paid : (allowance : ℕ) (i : Inputs) (plans : List LanePlan) (a b f : Runner) (t u : Story) (run : Run) → Whole allowance i plans a b f t u → Gathers i plans f run → serial_run allowance i plans ≡ Ok (view_of run)
gathered_paid allowance i plans a b f t u run w g =
    run_made allowance i plans a b f t u w.left w.ran w.paid w.drained ∙ ap (λ (r : RunView). Ok r) (sym (gathered_told allowance i plans a b f t u run w g))

pub gathered_plain : (allowance : ℕ) (i : Inputs) (plans : List LanePlan) (a b f : Runner) (t u : Story) (run : Run) → Whole allowance i plans a b f t u → Gathers i plans f run → view_of run ≡ plain_run i plans
gathered_plain allowance i plans a b f t u run w g = gathered_told allowance i plans a b f t u run w g ∙ told_plain allowance i plans a b f t u w

pub gathered_noted : (allowance : ℕ) (i : Inputs) (plans : List LanePlan) (a b f : Runner) (t u : Story) (run : Run) → Whole allowance i plans a b f t u → Gathers i plans f run → AreNoted (state_left i plans).reads run.requests
gathered_noted allowance i plans a b f t u run w g =
    subst (λ (reads : List (ℕ × TryRead)). AreNoted reads run.requests) (reads_left allowance i plans a b f t u w.left w.ran w.paid w.drained)
    (noted_same u.beside run.requests (all_moved (IsInRun u.beside) (requests_of f) run.requests g.same (requests_told allowance i plans a b f t u w)))
