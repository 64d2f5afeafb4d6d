-- All turns of the lanes, and the first lane that is spent.
use Rattle.std.proofs.Common.{[], ◌≡◌, ℕ, zero, suc, ◌+◌, ◌<◌, ◌≤◌, Bool, true, false, cond, List, ◌∷◌, ◌++◌, inl, inr, map, length, get_or, replicate, Option, Some, None, refl, sym, ap, ◌∙◌, append-nil, nat_lt, arith, subst}
use Rattle.std.specs.Prelude.{position, is_none, All, IfSome}
use Rattle.std.specs.List.{enumerate_from, position_or_len, range_with_len}
use Rattle.std.proofs.lemmas.List.Sums.{fails_before_first}
use Rattle.std.proofs.lemmas.Bool.{cases_Bool}
use Rattle.std.proofs.lemmas.Bool.Decides.{nat_tests}
use Rattle.std.proofs.lemmas.Option.{slice_get_cases}
use Rattle.std.proofs.lemmas.List.Elements.{All-get_or}
use Rattle.std.proofs.lemmas.List.{ext_get_or, length-map, get_or_past, get_or_default}
use Rattle.std.proofs.lemmas.List.FromFn.{length-range_with_len, get_or-map-range_with_len}
use Rattle.mp_record.specs.declared.event.Event.{Event}
use Rattle.mp_script.specs.declared.script.LanePlan.{LanePlan}
use Rattle.mp_script.specs.declared.script.Line.{Line}
use Rattle.mp_script.specs.declared.script.Line.TheVariants as line
use Rattle.mp_script.specs.declared.script.Numbered1.{Numbered1}
use Rattle.mp_desk.specs.Desks.{desk_of}
use Rattle.mp_lane.specs.LaneView.{LaneView}
use Rattle.mp_lane.specs.Steps.{CanRead, FitsPage, MayRead}
use Rattle.mp_legal.specs.PlainCall.{Inputs}
use Rattle.mp_legal.specs.PlainRun.{Taken, events_in}
use Rattle.mp_legal.specs.ToldDesks.{told_events}
use Rattle.mp_legal.specs.ToldKeeper.{orders_in}
use Rattle.mp_legal.specs.Turns.{Turn, turns_of}
use Rattle.mp_run.specs.declared.runner.Runner.{Runner}
use Rattle.mp_run.specs.Beginning.{first_lane, first_story}
use Rattle.mp_run.specs.LaneTurns.{turns_submits}
use Rattle.mp_run.specs.OnTurns.{IsOn}
use Rattle.mp_run.specs.Runner.{ahead_of, lane_at, left_if, left_of, no_lane, told_by, IsTied, Story}
use Rattle.mp_run.specs.Turning.{all_turns, left_or, lefts_or, often, stage_by, total_of, AreAhead, AreNew, NoneSpent, TakesAll}
use Rattle.mp_run.proofs.Keepers.{same_first}
use Rattle.mp_run.proofs.LaneOpening.{lanes_count}
use Rattle.mp_run.proofs.TurnTaking.{lefts-length, lefts_at}
use Rattle.mp_run.proofs.TurnsAhead.{first_lane_at, no_plan, turns_ahead}
use Rattle.mp_run.proofs.WholeRun.{none_false}

-- ---- what is ahead at the start

-- pages that are all small
pub may_read : (pages : List (List ℕ)) → ((box : ℕ) → FitsPage pages box) → (lines : List Numbered1) → MayRead pages lines
may_read pages fits [] = tt
may_read pages fits (l ∷ lines) = (can l.line, may_read pages fits lines)
  where
    can : (asked : Line) → CanRead pages asked
    can (line.Submit req node) = tt
    can (line.Finish req) = tt
    can line.FinishAll = tt
    can line.Requeue = tt
    can (line.Log ctrl box) = fits box
    can (line.Ctrl ctrl cstate) = tt
    can (line.Anatt ctrl) = tt
    can (line.Add ctrl None) = tt
    can (line.Add ctrl (Some box)) = fits box
    can (line.Remove ctrl) = tt
    can line.Reap = tt
    can (line.Policy policy) = tt

pub first_ahead : (pages : List (List ℕ)) (spent : List Bool) (plans : List LanePlan) (r : Runner) → ((box : ℕ) → FitsPage pages box) → r.lanes.items ≡ map first_lane (enumerate_from 0 plans) → AreAhead pages spent (turns_of plans) r
first_ahead pages spent plans r fits is n lt off =
    let low : n < length plans = omega (arith, lt, ap length is, lanes_count plans) in
    let own : lane_at n r ≡ first_lane (n, get_or plans n no_plan) = ap (λ (ls : List LaneView). get_or ls n no_lane) is ∙ first_lane_at n plans low in
    (turns_ahead n plans low ∙ ap ahead_of (sym own), subst (λ (v : LaneView). MayRead pages v.rest) (sym own) (may_read pages fits (get_or plans n no_plan).lines))

-- what each lane told is what its turns gave
lanes_are : (ts : List Taken) (n : ℕ) (lanes old : List (List Event)) → length lanes ≡ n → ((k : ℕ) → get_or old k [] ≡ []) → ((lane : ℕ) → get_or lanes lane [] ++ [] ≡ get_or old lane [] ++ events_in ts lane) → lanes ≡ map (events_in ts) (range_with_len 0 n)
lanes_are ts n lanes old len blanks noted =
    let all : length (map (events_in ts) (range_with_len 0 n)) ≡ n = length-map (range_with_len 0 n) (events_in ts) ∙ length-range_with_len 0 n in
    ext_get_or [] lanes (map (events_in ts) (range_with_len 0 n)) (len ∙ sym all)
    (λ k lt. sym (append-nil (get_or lanes k [])) ∙ noted k ∙ ap (λ (es : List Event). es ++ events_in ts k) (blanks k) ∙ sym (get_or-map-range_with_len (events_in ts) 0 n k k [] (omega (arith, len, lt)) (omega arith)))

-- no lane has told anything yet
told_none : (k n : ℕ) (plans : List LanePlan) → get_or (map (λ (v : LaneView). told_events v.desk.events) (map first_lane (enumerate_from k plans))) n [] ≡ []
told_none k n [] = refl
told_none k zero (p ∷ plans) = refl
told_none k (suc n) (p ∷ plans) = told_none (k + 1) n plans

pub takes_all : (i : Inputs) (plans : List LanePlan) (a b : Runner) (spent : List Bool) (t : Story) → a.lanes.items ≡ map first_lane (enumerate_from 0 plans) → length b.lanes.items ≡ length a.lanes.items → IsTied b t
    → IsOn i (turns_of plans) [] (stage_by (replicate 16 false) a first_story) (stage_by spent b t) → desk_of b.drain ≡ desk_of a.drain
    → ((n : ℕ) → n < length b.lanes.items → position is_none (all_turns i plans a).lefts ≡ None → (lane_at n b).over ≡ true)
    → ((req : ℕ) → position is_none (all_turns i plans a).lefts ≡ None → total_of req b ≡ total_of req a + often req (turns_submits (turns_of plans))) → left_of 16 b ≡ left_of 16 a → TakesAll i plans a b t
takes_all i plans a b spent t lanes same tied on desk over all drain =
    let count : length b.lanes.items ≡ length plans = same ∙ ap length lanes ∙ lanes_count plans in
    record {
      tied = tied;
      state = on.state;
      rows = sym (append-nil t.rows) ∙ on.rows;
      orders = sym (append-nil (orders_in b.keeper.entries)) ∙ on.orders;
      told = lanes_are (all_turns i plans a).taken (length plans) (told_by b) (told_by a) (length-map b.lanes.items (λ (v : LaneView). told_events v.desk.events) ∙ count)
          (λ k. ap (λ (ls : List LaneView). get_or (map (λ (v : LaneView). told_events v.desk.events) ls) k []) lanes ∙ told_none 0 k plans) on.noted;
      count = count;
      desk = desk;
      over = λ n low. over n (omega (arith, low, count));
      all = all;
      drain = drain;
    }

-- ---- the first lane that is spent

if_spent : (s : Bool) (lane : ℕ) (r : Runner) → is_none (left_if s lane r) ≡ s
if_spent true lane r = refl
if_spent false lane r = refl

unspent : (spent : List Bool) (k : ℕ) (a b : Runner) → left_or spent k b ≡ left_or (replicate 16 false) k a → get_or spent k false ≡ false
unspent spent k a b same =
    sym (if_spent (get_or spent k false) k b) ∙ ap is_none same ∙ if_spent (get_or (replicate 16 false) k false) k a ∙ none_false k

pub first_spent_is : (i : Inputs) (plans : List LanePlan) (a b : Runner) (spent : List Bool) (t : Story) → length spent ≡ 16 → length b.lanes.items ≡ length a.lanes.items
    → IsOn i (turns_of plans) [] (stage_by (replicate 16 false) a first_story) (stage_by spent b t)
    → ((lane : ℕ) → length a.lanes.items ≤ lane → lane < 16 → left_or spent lane b ≡ left_or (replicate 16 false) lane a)
    → position is_none (all_turns i plans a).lefts ≡ position (λ s. s) spent
first_spent_is i plans a b spent t len same on others =
    let n = length b.lanes.items in
    let left : List (Option ℕ) = lefts_or n spent b in
    ap (position is_none) (sym on.lefts)
    ∙ same_first left spent (λ k. elim (cases_Bool (nat_lt k n)) [
      | inl low ↦ let lt : k < n = grind (arith, nat_tests, low) in
          ap is_none (get_or_default left k (Some 0) None (omega (arith, lt, lefts-length n spent b)) ∙ lefts_at n spent b k lt) ∙ if_spent (get_or spent k false) k b
      | inr high ↦ let ge : n ≤ k = grind (arith, nat_tests, high) in
          ap is_none (get_or_past left k (Some 0) (omega (arith, ge, lefts-length n spent b))) ∙ sym (elim (cases_Bool (nat_lt k 16)) [
            | inl low ↦ unspent spent k a b (others k (omega (arith, ge, same)) (grind (arith, nat_tests, low)))
            | inr past ↦ get_or_past spent k false (let far : 16 ≤ k = grind (arith, nat_tests, past) in omega (arith, far, len))
          ])
    ])

-- ---- pages that are all small

pub fits_all : (pages : List (List ℕ)) → All (λ page. length page ≤ 65536) pages → (box : ℕ) → FitsPage pages box
fits_all pages all box = elim (slice_get_cases pages box).1 [
  | inl it ↦ subst (λ (o : Option (List ℕ)). IfSome o (λ page. length page ≤ 65536)) (sym it.2) (subst (λ (page : List ℕ). length page ≤ 65536) it.3 (All-get_or (λ (page : List ℕ). length page ≤ 65536) pages box it.0 it.1 all))
  | inr it ↦ subst (λ (o : Option (List ℕ)). IfSome o (λ page. length page ≤ 65536)) (sym it.1) tt
]

-- ---- the turns as the code has them

-- the turns that were taken are all turns
pub on_all : (i : Inputs) (plans : List LanePlan) (ts : List Turn) (a b : Runner) (spent : List Bool) → ts ≡ turns_of plans → AreNew (turns_of plans) first_story
    → (AreNew ts first_story → (t : Story) × IsTied b t × IsOn i ts [] (stage_by (replicate 16 false) a first_story) (stage_by spent b t))
    → (t : Story) × IsTied b t × IsOn i (turns_of plans) [] (stage_by (replicate 16 false) a first_story) (stage_by spent b t)
on_all i plans ts a b spent is new on =
    (subst (λ (us : List Turn). AreNew us first_story → (t : Story) × IsTied b t × IsOn i us [] (stage_by (replicate 16 false) a first_story) (stage_by spent b t)) is on) new

-- where no lane is the first that is spent, none is spent
cond_none : (b : Bool) (i : ℕ) → cond b (Some i) None ≡ None → b ≡ false
cond_none false i h = refl
cond_none true i h = absurd cc

pub none_spent : (spent : List Bool) → position (λ s. s) spent ≡ None → NoneSpent spent
none_spent spent none n =
    let past = cond_none (nat_lt (position_or_len (λ (s : Bool). s) spent) (length spent)) (position_or_len (λ (s : Bool). s) spent) none in
    elim (cases_Bool (nat_lt n (length spent))) [
      | inl low ↦ fails_before_first (λ (s : Bool). s) spent n false (grind (arith, nat_tests, low, past))
      | inr high ↦ get_or_past spent n false (grind (arith, nat_tests, high))
    ]
