-- How the turn of a lane starts: its line, or its end, is that of the plain run.
use Rattle.std.proofs.Common.{[], ◌≡◌, ℕ, ◌+◌, ◌≤◌, ◌==◌, Bool, true, false, cond, List, ◌∷◌, map, length, count_by, None, Some, Result, Ok, Err, ◌⊎◌, inl, inr, refl, sym, ap, ◌∙◌, subst, arith, append-nil, eq-eqb}
use Rattle.std.specs.List.{AllByRecursion, flat_map}
use Rattle.std.proofs.lemmas.Bool.{cases_Bool}
use Rattle.std.proofs.lemmas.List.{length-map}
use Rattle.std.proofs.lemmas.List.Sums.{sum_by-cons}
use Rattle.mp_checks.specs.Marks.{has}
use Rattle.mp_script.specs.Distinct.{IsDistinct}
use Rattle.mp_words.specs.declared.op.Op.TheVariants as op
use Rattle.mp_words.specs.declared.flight.Flight.{Flight}
use Rattle.mp_words.specs.RequestView.{RequestView}
use Rattle.mp_record.specs.declared.event.Said.TheVariants as said
use Rattle.mp_page.specs.declared.page.Page.{Page}
use Rattle.mp_page.specs.declared.page.PageError.{PageError}
use Rattle.mp_page.specs.declared.page.PageError.TheVariants as refusal
use Rattle.mp_page.specs.Gifts.{page_at, gift_of, state_for, changing}
use Rattle.mp_page.specs.Page.{page_in}
use Rattle.mp_script.specs.declared.script.Line.{Line}
use Rattle.mp_script.specs.declared.script.Line.TheVariants as line
use Rattle.mp_script.specs.declared.script.Script.{Script}
use Rattle.mp_script.specs.declared.script.World.{World}
use Rattle.mp_core.specs.Memory.{Memory}
use Rattle.mp_desk.specs.declared.flying.Flying.{Flying}
use Rattle.mp_desk.specs.DeskView.{flying_with}
use Rattle.mp_desk.specs.Calls.{DeskCall, Stand, IsAloft, submit, finish, change, add, remove, set_policy, reap}
use Rattle.mp_lane.specs.Lines as lines
use Rattle.mp_lane.specs.Lines.{LineStart, Reads, reads_of}
use Rattle.mp_legal.specs.Inputs.{inputs_for}
use Rattle.mp_legal.specs.Numbers.{has_req}
use Rattle.mp_legal.specs.PlainCall as plain
use Rattle.mp_legal.specs.PlainCall.{Inputs, Call}
use Rattle.mp_legal.specs.PlainLine as start
use Rattle.mp_legal.specs.PlainLine.{Start, flights_of, flights_with, start_of, turn_start}
use Rattle.mp_legal.specs.ToldDesks.{SitsAt, KeepsIn, MayCall, MayCalls, MaySubmit, IsInRun, IsSameIn, plain_of, number_of, submitted_by, times, with_request, with_waiting}
use Rattle.mp_legal.specs.ToldState.{Beside, state_in}
use Rattle.mp_run.specs.DeskLaws.{DeskLaws}
use Rattle.mp_script.specs.Facts.{submit_of}
use Rattle.mp_run.proofs.FirstMemory.{stated_is}
use Rattle.mp_run.proofs.PaidLines.{read_of_some, stated_by}

-- how many of these requests have a number
abbrev pub among : ℕ → List RequestView → ℕ
among req rs = count_by (λ r. r.id == req) rs

-- how often a number is among these
abbrev pub often : ℕ → List ℕ → ℕ
often req ns = count_by (λ n. n == req) ns

-- What a lane stands on at its turn: the list has the requests that wait, none of which is at the desk.
pub record AtTurn (p : Stand) (l : List RequestView) (m : Memory) (x : Beside) : Type 0 where
  pub sits : SitsAt p x.waiting m x
  pub out : p.desk.out ≡ []
  pub keeper : KeepsIn p m x
  pub waiting : x.waiting ≡ map (λ r. r.id) l
  pub listed : AllByRecursion (IsInRun x) l
  pub distinct : IsDistinct (map (λ r. r.id) l)
  pub elsewhere : AllByRecursion (λ r. times r.id p.desk ≡ 0) l

-- How a turn starts: the plain start and that of the lane say the same and make the same calls, which may be made. The
-- list that is left has the requests that wait, no request but the new ones has changed, and the calls are about
-- requests of the desk, of the list that was given, and new ones.
pub record Started (s : Start) (b : LineStart) (mine : List ℕ) (given left : List RequestView) (p : Stand) (m : Memory) (x : Beside) : Type 0 where
  pub y : Beside
  pub sits : SitsAt p y.waiting m y
  pub start : s ≡ record { state = state_in m y; said = b.said; calls = map plain_of b.calls }
  pub may : MayCalls b.calls p m y
  pub waiting : y.waiting ≡ map (λ r. r.id) left
  pub others : (req : ℕ) → has mine req ≡ false → IsSameIn req x y
  pub is : y ≡ record x { waiting = y.waiting; requests = y.requests }
  pub about : (req : ℕ) → has (flat_map number_of b.calls) req ≡ true → (1 ≤ times req p.desk + among req given) ⊎ (has mine req ≡ true)
  pub submits : (req : ℕ) → often req (flat_map submitted_by b.calls) ≡ among req given + often req mine

all_same : (x : Beside) (req : ℕ) → IsSameIn req x x
all_same x req = record { there = refl; told = refl; read = refl }

none_of : (ns : List ℕ) → ns ≡ [] → (req : ℕ) → has ns req ≡ true → {A : Type 0} → A
none_of ns is req on = let off : has ns req ≡ false = ap (λ (ms : List ℕ). has ms req) is in absurd cc

-- a line of one call that is about no request
single : (c : DeskCall) (l : List RequestView) (p : Stand) (m : Memory) (x : Beside) → AtTurn p l m x → MayCall c p m x → number_of c ≡ [] → submitted_by c ≡ []
    → Started (start.calls (state_in m x) (plain_of c ∷ [])) (lines.one_call c) [] [] l p m x
single c l p m x h may numbers submits =
    let none : flat_map number_of (c ∷ []) ≡ [] = append-nil (number_of c) ∙ numbers in
    let new : flat_map submitted_by (c ∷ []) ≡ [] = append-nil (submitted_by c) ∙ submits in
    record {
      y = x;
      sits = h.sits;
      start = refl;
      may = record { each = (may, tt); once = subst IsDistinct (sym new) tt };
      waiting = h.waiting;
      others = λ req apart. all_same x req;
      is = refl;
      about = λ req on. none_of (flat_map number_of (c ∷ [])) none req on;
      submits = λ req. ap (often req) new;
    }

-- ---- finishes

said_same : (e : PageError) → start.page_said e ≡ lines.page_said e
said_same (refusal.ShortHeader offset) = refl
said_same (refusal.ShortDescriptor offset) = refl
said_same (refusal.GroupZero offset) = refl
said_same (refusal.GroupAbove offset) = refl
said_same (refusal.StateBad offset) = refl
said_same (refusal.ShortList offset) = refl
said_same refusal.NoMemory = refl

-- the flights of these
abbrev flights_in : List Flying → List Flight
flights_in fs = map (λ f. f.flight) fs

-- how many of these flights are of a request
abbrev flying_of : ℕ → List Flying → ℕ
flying_of req fs = count_by (λ f. f.request.id == req) fs

finish_about : (fs : List Flying) (req : ℕ) → AllByRecursion IsAloft fs → has (flat_map number_of (map finish fs)) req ≡ true → 1 ≤ flying_of req fs
finish_about [] req all on = absurd cc
finish_about (f ∷ fs) req all on =
    let sum = sum_by-cons (λ (g : Flying). cond (g.request.id == req) 1 0) f fs in
    elim (cases_Bool (f.flight.req == req)) [
      | inl is ↦ let same : (f.request.id == req) ≡ true = ap (λ n. n == req) all.0.0 ∙ is in
          let one : ◌≡◌ {A = ℕ} (cond (f.request.id == req) 1 0) 1 = ap (λ (b : Bool). cond b 1 0) same in
          omega (arith, sum, one)
      | inr off ↦ let rest : has (flat_map number_of (map finish fs)) req ≡ true = rw off at on in
          let more = finish_about fs req all.1 rest in omega (arith, sum, more)
    ]

aloft_with : (n : ℕ) (fs : List Flying) → AllByRecursion IsAloft fs → AllByRecursion IsAloft (flying_with n fs)
aloft_with n [] all = tt
aloft_with n (f ∷ fs) all =
    elim (cases_Bool (f.flight.req == n)) [
      | inl on ↦ rw on (all.0, aloft_with n fs all.1)
      | inr off ↦ rw off (aloft_with n fs all.1)
    ]

fewer_with : (n req : ℕ) (fs : List Flying) → flying_of req (flying_with n fs) ≤ flying_of req fs
fewer_with n req [] = omega arith
fewer_with n req (f ∷ fs) =
    let sum = sum_by-cons (λ (g : Flying). cond (g.request.id == req) 1 0) f fs in
    let more = fewer_with n req fs in
    elim (cases_Bool (f.flight.req == n)) [
      | inl on ↦ let all = sum_by-cons (λ (g : Flying). cond (g.request.id == req) 1 0) f (flying_with n fs) in rw on (omega (arith, sum, all, more))
      | inr off ↦ rw off (omega (arith, sum, more))
    ]

no_submits : (fs : List Flying) → flat_map submitted_by (map finish fs) ≡ []
no_submits [] = refl
no_submits (f ∷ fs) = no_submits fs

-- these flights are finished
finishing : (laws : DeskLaws) (fs : List Flying) (flights : List Flight) (l : List RequestView) (p : Stand) (m : Memory) (x : Beside) → AtTurn p l m x → flights ≡ flights_in fs → AllByRecursion IsAloft fs
    → ((req : ℕ) → flying_of req fs ≤ flying_of req p.desk.flying) → Started (start.finishes (state_in m x) flights) (lines.finishes fs) [] [] l p m x
finishing laws fs flights l p m x h is aloft fewer =
    let may = laws.may_finish p m x fs in
    record {
      y = x;
      sits = h.sits;
      start = ap (start.finishes (state_in m x)) is ∙ (λ i. record { state = state_in m x; said = said.Finish (length-map fs (λ (f : Flying). f.flight) i) ∷ []; calls = sym may.1 i });
      may = may.0;
      waiting = h.waiting;
      others = λ req apart. all_same x req;
      is = refl;
      about = λ req on. inl (let some = finish_about fs req aloft on in let less = fewer req in omega (arith, some, less));
      submits = λ req. ap (often req) (no_submits fs);
    }

-- ---- the list

each_may : (rs : List RequestView) (p : Stand) (x y : Beside) → ((req : ℕ) → IsSameIn req x y) → AllByRecursion (IsInRun x) rs → AllByRecursion (λ r. times r.id p.desk ≡ 0) rs → AllByRecursion (λ r. MaySubmit r p y) rs
each_may [] p x y same there apart = tt
each_may (r ∷ rs) p x y same there apart =
    let s = same r.id in
    let t = there.0 in
    (record { stands = record { there = s.there ∙ t.there; told = s.told ∙ t.told; read = t.read ∙ sym s.read }; elsewhere = apart.0 }, each_may rs p x y same there.1 apart.1)

submits_about : (rs : List RequestView) (req : ℕ) → has (flat_map number_of (map submit rs)) req ≡ true → 1 ≤ among req rs
submits_about [] req on = absurd cc
submits_about (r ∷ rs) req on =
    let sum = sum_by-cons (λ (q : RequestView). cond (q.id == req) 1 0) r rs in
    elim (cases_Bool (r.id == req)) [
      | inl is ↦ let one : ◌≡◌ {A = ℕ} (cond (r.id == req) 1 0) 1 = ap (λ (b : Bool). cond b 1 0) is in omega (arith, sum, one)
      | inr off ↦ let rest : has (flat_map number_of (map submit rs)) req ≡ true = rw off at on in
          let more = submits_about rs req rest in omega (arith, sum, more)
    ]

submits_often : (rs : List RequestView) (req : ℕ) → often req (flat_map submitted_by (map submit rs)) ≡ among req rs
submits_often [] req = refl
submits_often (r ∷ rs) req =
    let one = sum_by-cons (λ (n : ℕ). cond (n == req) 1 0) r.id (flat_map submitted_by (map submit rs)) in
    let two = sum_by-cons (λ (q : RequestView). cond (q.id == req) 1 0) r rs in
    let rest = submits_often rs req in
    omega (arith, one, two, rest)

plus_none : (n : ℕ) → n ≡ n + 0
plus_none n = omega arith

requeueing : (laws : DeskLaws) (i : Inputs) (lane : ℕ) (rd : Reads) (l : List RequestView) (p : Stand) (m : Memory) (x : Beside) → AtTurn p l m x
    → Started (start_of i lane (state_in m x) line.Requeue) (lines.start_of rd l p.desk.flying line.Requeue) [] l [] p m x
requeueing laws i lane rd l p m x h =
    let y : Beside = with_waiting [] x in
    let may = laws.may_submit p m y l (each_may l p x y (λ req. record { there = refl; told = refl; read = refl }) h.listed h.elsewhere) h.distinct in
    record {
      y = y;
      sits = laws.list_taken p x.waiting m x [] h.sits h.out;
      start = λ i. record { state = state_in m y; said = said.Requeue ((ap length h.waiting ∙ length-map l (λ (r : RequestView). r.id)) i) ∷ []; calls = (ap (map plain.submit) h.waiting ∙ sym may.1) i };
      may = may.0;
      waiting = refl;
      others = λ req apart. record { there = refl; told = refl; read = refl };
      is = refl;
      about = λ req on. inl (let some = submits_about l req on in omega (arith, some));
      submits = λ req. submits_often l req ∙ plus_none (among req l);
    }

-- ---- a new request

apart_of : (n req : ℕ) → has (n ∷ []) req ≡ false → req ≡ n → ⊥
apart_of n req off is = let on : has (n ∷ []) req ≡ true = rw (is, eq-eqb n n refl) refl in absurd cc

none_first : (n : ℕ) → n ≡ 0 + n
none_first n = omega arith

submitting : (laws : DeskLaws) (i : Inputs) (lane req node : ℕ) (rd : Reads) (l : List RequestView) (p : Stand) (m : Memory) (x : Beside) → AtTurn p l m x → has_req req x.requests ≡ false
    → Started (start_of i lane (state_in m x) (line.Submit req node)) (lines.start_of rd [] p.desk.flying (line.Submit req node)) (req ∷ []) [] l p m x
submitting laws i lane req node rd l p m x h new =
    let r : RequestView = lines.new_request req node in
    let fresh = laws.may_submit_new p x.waiting m x r h.sits refl new in
    record {
      y = with_request r x;
      sits = fresh.0;
      start = refl;
      may = record { each = (fresh.1, tt); once = (refl, tt) };
      waiting = h.waiting;
      others = λ q apart. fresh.2 q (apart_of req q apart);
      is = refl;
      about = λ q on. inr on;
      submits = λ q. none_first (often q (req ∷ []));
    }

-- ---- pages

by_read : (read : Result Page PageError) (made : Page → DeskCall) (plainly : Page → Call) (l : List RequestView) (p : Stand) (m : Memory) (x : Beside) → AtTurn p l m x
    → ((page : Page) → plain_of (made page) ≡ plainly page) → ((page : Page) → read ≡ Ok page → MayCall (made page) p m x) → ((page : Page) → number_of (made page) ≡ []) → ((page : Page) → submitted_by (made page) ≡ [])
    → Started (start.by_page (state_in m x) read plainly) (lines.by_page read made) [] [] l p m x
by_read (Ok page) made plainly l p m x h same may numbers submits =
    subst (λ (c : Call). Started (start.calls (state_in m x) (c ∷ [])) (lines.one_call (made page)) [] [] l p m x) (same page) (single (made page) l p m x h (may page refl) (numbers page) (submits page))
by_read (Err e) made plainly l p m x h same may numbers submits = record {
  y = x;
  sits = h.sits;
  start = λ i. record { state = state_in m x; said = said_same e i ∷ []; calls = [] };
  may = record { each = tt; once = tt };
  waiting = h.waiting;
  others = λ req apart. all_same x req;
  is = refl;
  about = λ req on. absurd cc;
  submits = λ req. refl;
}

-- ---- all lines

-- the list that a line is given
abbrev pub given_for : Line → List RequestView → List RequestView
given_for line.Requeue l = l
given_for (line.Submit req node) l = []
given_for (line.Finish req) l = []
given_for line.FinishAll l = []
given_for (line.Log ctrl box) l = []
given_for (line.Ctrl ctrl cstate) l = []
given_for (line.Anatt ctrl) l = []
given_for (line.Add ctrl box) l = []
given_for (line.Remove ctrl) l = []
given_for line.Reap l = []
given_for (line.Policy policy) l = []

-- the list that a line leaves
abbrev pub left_by : Line → List RequestView → List RequestView
left_by line.Requeue l = []
left_by (line.Submit req node) l = l
left_by (line.Finish req) l = l
left_by line.FinishAll l = l
left_by (line.Log ctrl box) l = l
left_by (line.Ctrl ctrl cstate) l = l
left_by (line.Anatt ctrl) l = l
left_by (line.Add ctrl box) l = l
left_by (line.Remove ctrl) l = l
left_by line.Reap l = l
left_by (line.Policy policy) l = l

none_more : (req : ℕ) (fs : List Flying) → flying_of req fs ≤ flying_of req fs
none_more req fs = omega arith

pub starts_line : (laws : DeskLaws) (world : World) (script : Script) (lane : ℕ) (asked : Line) (l : List RequestView) (p : Stand) (m : Memory) (x : Beside) → lane ≡ p.core.lane → AtTurn p l m x
    → ((req : ℕ) → has (submit_of asked) req ≡ true → has_req req x.requests ≡ false)
    → Started (start_of (inputs_for world script) lane (state_in m x) asked) (lines.start_of (reads_of world script.answers) (given_for asked l) p.desk.flying asked) (submit_of asked) (given_for asked l) (left_by asked l) p m x
starts_line laws world script lane (line.Submit req node) l p m x here h new = submitting laws (inputs_for world script) lane req node (reads_of world script.answers) l p m x h (new req (rw (eq-eqb req req refl) refl))
starts_line laws world script lane (line.Finish req) l p m x here h new =
    let has_all = laws.has_flights p x.waiting m x h.sits in
    finishing laws (flying_with req p.desk.flying) (flights_with req (flights_of lane (state_in m x))) l p m x h
    (ap (λ n. flights_with req (flights_of n (state_in m x))) here ∙ has_all.1 req) (aloft_with req p.desk.flying h.sits.sits.aloft) (λ q. fewer_with req q p.desk.flying)
starts_line laws world script lane line.FinishAll l p m x here h new =
    let has_all = laws.has_flights p x.waiting m x h.sits in
    finishing laws p.desk.flying (flights_of lane (state_in m x)) l p m x h (ap (λ n. flights_of n (state_in m x)) here ∙ has_all.0) h.sits.sits.aloft (λ q. none_more q p.desk.flying)
starts_line laws world script lane line.Requeue l p m x here h new = requeueing laws (inputs_for world script) lane (reads_of world script.answers) l p m x h
starts_line laws world script lane (line.Log ctrl box) l p m x here h new =
    let read = page_in world.topology.anagrpmax in
    let nsid = world.topology.nsid in
    by_read (page_at (map read world.pages) box) (lines.reads_log nsid ctrl) (start.reads_log nsid ctrl) l p m x h (λ page. refl)
    (λ page is. let it = read_of_some read world.pages box page is in stated_by (state_for page nsid) (laws.stated world.topology.anagrpmax it.0 page nsid it.1)) (λ page. refl) (λ page. refl)
starts_line laws world script lane (line.Ctrl ctrl cstate) l p m x here h new = single (change ctrl (op.Ctrl cstate)) l p m x h tt refl refl
starts_line laws world script lane (line.Anatt ctrl) l p m x here h new = single (change ctrl op.Expire) l p m x h tt refl refl
starts_line laws world script lane (line.Add ctrl None) l p m x here h new =
    single (add (gift_of world.topology.nsid ctrl None)) l p m x h (h.keeper, (omega arith, omega arith)) refl refl
starts_line laws world script lane (line.Add ctrl (Some box)) l p m x here h new =
    let read = page_in world.topology.anagrpmax in
    let nsid = world.topology.nsid in
    by_read (page_at (map read world.pages) box) (λ page. add (gift_of nsid ctrl (Some page))) (λ page. plain.add (gift_of nsid ctrl (Some page))) l p m x h (λ page. refl)
    (λ page is. let it = read_of_some read world.pages box page is in (h.keeper, stated_is ctrl (changing page) (state_for page nsid) (laws.stated world.topology.anagrpmax it.0 page nsid it.1))) (λ page. refl) (λ page. refl)
starts_line laws world script lane (line.Remove ctrl) l p m x here h new = single (remove ctrl) l p m x h h.keeper refl refl
starts_line laws world script lane line.Reap l p m x here h new = single reap l p m x h h.keeper refl refl
starts_line laws world script lane (line.Policy policy) l p m x here h new = single (set_policy policy) l p m x h h.keeper refl refl

-- the end of a lane
pub starts : (laws : DeskLaws) (i : Inputs) (lane : ℕ) (l : List RequestView) (p : Stand) (m : Memory) (x : Beside) → lane ≡ p.core.lane → AtTurn p l m x
    → Started (turn_start i lane (state_in m x) None) (lines.finishes p.desk.flying) [] [] l p m x
starts laws i lane l p m x here h =
    let has_all = laws.has_flights p x.waiting m x h.sits in
    finishing laws p.desk.flying (flights_of lane (state_in m x)) l p m x h (ap (λ n. flights_of n (state_in m x)) here ∙ has_all.0) h.sits.sits.aloft (λ q. none_more q p.desk.flying)
