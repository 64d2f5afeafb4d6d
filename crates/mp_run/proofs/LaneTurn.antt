-- A turn of a lane is the plain run's turn.
use Rattle.std.proofs.Common.{[], ◌≡◌, ℕ, ◌+◌, Bool, true, false, List, ◌∷◌, map, Option, None, Some, Ok, ◌⊎◌, inl, inr, refl, sym, ap, ◌∙◌, subst, arith}
use Rattle.std.specs.List.{AllByRecursion, flat_map}
use Rattle.mp_words.specs.RequestView.{RequestView}
use Rattle.mp_record.specs.declared.event.Event.TheVariants.{At}
use Rattle.mp_script.specs.declared.script.Line.{Line}
use Rattle.mp_script.specs.declared.script.Line.TheVariants as line
use Rattle.mp_script.specs.declared.script.Numbered1.{Numbered1}
use Rattle.mp_script.specs.declared.script.Script.{Script}
use Rattle.mp_script.specs.declared.script.World.{World}
use Rattle.mp_script.specs.Facts.{submit_of}
use Rattle.mp_checks.specs.Marks.{has}
use Rattle.mp_core.specs.Memory.{Memory}
use Rattle.mp_desk.specs.DeskView.{DeskView}
use Rattle.mp_desk.specs.Calls.{Stand, CallsTo}
use Rattle.mp_lane.specs.declared.stepped.Stepped.{Stepped}
use Rattle.mp_lane.specs.declared.stepped.Stepped.TheVariants.{Ran, Ended, Spent}
use Rattle.mp_lane.specs.LaneView.{LaneView, requeues, wants_of}
use Rattle.mp_lane.specs.Lines as lines
use Rattle.mp_lane.specs.Lines.{LineStart, Reads, means_of, reads_of}
use Rattle.mp_lane.specs.Steps.{MayRead, StepTo, line_of, start_at}
use Rattle.mp_legal.specs.Inputs.{inputs_for}
use Rattle.mp_legal.specs.Numbers.{has_req}
use Rattle.mp_legal.specs.PlainCall.{Inputs}
use Rattle.mp_legal.specs.PlainLine.{Start, turn_start}
use Rattle.mp_legal.specs.ToldDesks.{GoesBy, MayCalls, SitsAt, plain_of, submitted_by, times}
use Rattle.mp_legal.specs.Stepped.{Place}
use Rattle.mp_legal.specs.ToldState.{Beside, state_in}
use Rattle.mp_legal.specs.Units.{pay_line, pay_turn, settled}
use Rattle.mp_run.specs.DeskLaws.{DeskLaws}
use Rattle.mp_run.specs.LaneTurns.{submit_in}
use Rattle.mp_run.specs.Runner.{ahead_by, ahead_of, given, is_spent, kept_list, next_by, next_of}
use Rattle.mp_run.proofs.LaneStarts.{among, often, AtTurn, Started, given_for, left_by, starts, starts_line}
use Rattle.mp_run.proofs.LaneLeads.{Goes, said_at, turn_runs, turn_stops}

-- the units that a step leaves to its lane, or none
abbrev pub left_by_step : Stepped → ℕ → Option ℕ
left_by_step Ran left = Some left
left_by_step Ended left = Some left
left_by_step Spent left = None

-- What a turn of a lane did, from its stand to the one after it, with the list before and after.
pub record Turn (i : Inputs) (turn : Option Numbered1) (stepped : Stepped) (v w : LaneView) (l : List RequestView) (kept : List RequestView) (p q : Stand) (m : Memory) (x : Beside) : Type 0 where
  pub b : LineStart
  pub given : List RequestView
  pub st : Started (turn_start i p.core.lane (state_in m x) turn) b (submit_in turn) given kept p m x
  pub goes : Goes (pay_turn i p.core.lane (state_in m x) turn (Some p.core.view.left)) (left_by_step stepped q.core.view.left) b.calls p q st.y.waiting m st.y
  pub sum : (req : ℕ) → among req given + among req kept ≡ among req l
  pub part : (kept ≡ l) ⊎ (kept ≡ [])
  pub id : w.id ≡ v.id
  pub list : w.list ≡ []
  pub listed : w.listed ≡ false
  pub desk : w.desk ≡ q.desk
  pub keeps : is_spent stepped ≡ false → (req : ℕ) → times req q.desk ≡ times req p.desk + often req (flat_map submitted_by b.calls)
  pub ahead : is_spent stepped ≡ false → ahead_of v ≡ next_of v ∷ ahead_of w
  pub reads : (pages : List (List ℕ)) → MayRead pages v.rest → MayRead pages w.rest

-- what holds of each of a list holds of those that are kept
pub part_all : (P : RequestView → Type 0) (l kept : List RequestView) → (kept ≡ l) ⊎ (kept ≡ []) → AllByRecursion P l → AllByRecursion P kept
part_all P l kept (inl is) all = subst (λ (rs : List RequestView). AllByRecursion P rs) (sym is) all
part_all P l kept (inr none) all = subst (λ (rs : List RequestView). AllByRecursion P rs) (sym none) tt

-- a lane between two turns, at this desk
abbrev pub at_rest : ℕ → Bool → List Numbered1 → DeskView → LaneView
at_rest id keeper rest d = record { id = id; keeper = keeper; rest = rest; list = []; listed = false; over = false; desk = d }

-- ---- what a step did, however its lane's turn starts

-- what a step leaves of its lane
record Left (stepped : Stepped) (v w : LaneView) (q : Stand) : Type 0 where
  id : w.id ≡ v.id
  list : w.list ≡ []
  listed : w.listed ≡ false
  desk : w.desk ≡ q.desk
  ahead : v.over ≡ false → is_spent stepped ≡ false → ahead_of v ≡ next_of v ∷ ahead_of w
  reads : (pages : List (List ℕ)) → MayRead pages v.rest → MayRead pages w.rest

step_leaves : (rd : Reads) (stepped : Stepped) (v w : LaneView) (p q : Stand) → StepTo (Ok stepped) rd v w p q → Left stepped v w q
step_leaves rd Ran v w p q to =
    let e = to.lane in
    let rest : w.rest ≡ to.behind = ap (λ (u : LaneView). u.rest) e in
    let over : w.over ≡ v.over = ap (λ (u : LaneView). u.over) e in
    record {
      id = ap (λ (u : LaneView). u.id) e;
      list = ap (λ (u : LaneView). u.list) e;
      listed = ap (λ (u : LaneView). u.listed) e;
      desk = ap (λ (u : LaneView). u.desk) e;
      ahead = λ on run. (λ j. ahead_by (on j) (to.rest j)) ∙ sym (λ j. next_by (to.rest j) ∷ ahead_by ((over ∙ on) j) (rest j));
      reads = λ pages all. subst (λ (ls : List Numbered1). MayRead pages ls) (sym rest) (subst (λ (ls : List Numbered1). MayRead pages ls) to.rest all).1;
    }
step_leaves rd Ended v w p q to =
    let e = to.lane in
    let rest : w.rest ≡ v.rest = ap (λ (u : LaneView). u.rest) e in
    let over : w.over ≡ true = ap (λ (u : LaneView). u.over) e in
    record {
      id = ap (λ (u : LaneView). u.id) e;
      list = ap (λ (u : LaneView). u.list) e;
      listed = ap (λ (u : LaneView). u.listed) e;
      desk = ap (λ (u : LaneView). u.desk) e;
      ahead = λ on run. (λ j. ahead_by (on j) (to.rest j)) ∙ sym (λ j. next_by (to.rest j) ∷ ahead_by (over j) w.rest);
      reads = λ pages all. subst (λ (ls : List Numbered1). MayRead pages ls) (sym rest) all;
    }
step_leaves rd Spent v w p q to =
    let e = to.lane in
    record {
      id = ap (λ (u : LaneView). u.id) e;
      list = ap (λ (u : LaneView). u.list) e;
      listed = ap (λ (u : LaneView). u.listed) e;
      desk = ap (λ (u : LaneView). u.desk) e;
      ahead = λ on run. absurd cc;
      reads = λ pages all. subst (λ (ls : List Numbered1). MayRead pages ls) (sym (ap (λ (u : LaneView). u.rest) e)) all;
    }

-- the plain start of a line that starts so
abbrev plain_start : LineStart → Memory → Beside → Start
plain_start b m y = record { state = state_in m y; said = b.said; calls = map plain_of b.calls }

-- the line at which a stand is
abbrev place : Stand → ℕ → Place
place p line = record { lane = p.core.lane; line = line }

step_goes : (laws : DeskLaws) (i : Inputs) (rd : Reads) (stepped : Stepped) (v w : LaneView) (p q : Stand) (before : List ℕ) (m : Memory) (y : Beside) → GoesBy i (means_of rd (line_of v)) → SitsAt p before m y → MayCalls (start_at rd v).calls p m y
    → StepTo (Ok stepped) rd v w p q → Goes (settled p.core.lane (pay_line i (place p (line_of v)) p.core.view.left (plain_start (start_at rd v) m y))) (left_by_step stepped q.core.view.left) (start_at rd v).calls p q before m y
step_goes laws i rd Ran v w p q before m y by sits may to = turn_runs laws i rd (start_at rd v) (line_of v) p q before m y by sits may to.calls
step_goes laws i rd Ended v w p q before m y by sits may to =
    let last : line_of v ≡ 0 = ap (λ (rest : List Numbered1). line_of (record v { rest = rest })) to.rest in
    turn_runs laws i rd (start_at rd v) (line_of v) p q before m y by sits may
    (subst (λ n. CallsTo (means_of rd n) (start_at rd v).calls (said_at (map (At n) (start_at rd v).said) p) q) (sym last) to.calls)
step_goes laws i rd Spent v w p q before m y by sits may to = turn_stops laws i rd (start_at rd v) (line_of v) p to.mid q before m y by sits may to.stops to.ends to.keeper

-- a step that went on, or came to its lane's end, lost no request
step_keeps : (laws : DeskLaws) (rd : Reads) (stepped : Stepped) (v w : LaneView) (p q : Stand) → StepTo (Ok stepped) rd v w p q → is_spent stepped ≡ false → (req : ℕ) → times req q.desk ≡ times req p.desk + often req (flat_map submitted_by (start_at rd v).calls)
step_keeps laws rd Ran v w p q to run req = laws.keep_requests (means_of rd (line_of v)) (start_at rd v).calls (said_at (map (At (line_of v)) (start_at rd v).said) p) q to.calls req
step_keeps laws rd Ended v w p q to run req = laws.keep_requests (means_of rd 0) (start_at rd v).calls (said_at (map (At 0) (start_at rd v).said) p) q to.calls req
step_keeps laws rd Spent v w p q to run req = absurd cc

sum_first : (n : ℕ) → 0 + n ≡ n
sum_first n = omega arith

sum_last : (n : ℕ) → n + 0 ≡ n
sum_last n = omega arith

-- ---- the end of a lane

turn_end : (laws : DeskLaws) (world : World) (script : Script) (stepped : Stepped) (id : ℕ) (keeper : Bool) (w : LaneView) (l : List RequestView) (p q : Stand) (m : Memory) (x : Beside) → AtTurn p l m x
    → StepTo (Ok stepped) (reads_of world script.answers) (at_rest id keeper [] p.desk) w p q → Turn (inputs_for world script) None stepped (at_rest id keeper [] p.desk) w l l p q m x
turn_end laws world script stepped id keeper w l p q m x h to =
    let i : Inputs = inputs_for world script in
    let rd : Reads = reads_of world script.answers in
    let v : LaneView = at_rest id keeper [] p.desk in
    let st = starts laws i p.core.lane l p m x refl h in
    let left = step_leaves rd stepped v w p q to in
    record {
      b = lines.finishes p.desk.flying;
      given = [];
      st = st;
      goes = subst (λ (s : Start). Goes (settled p.core.lane (pay_line i (place p 0) p.core.view.left s)) (left_by_step stepped q.core.view.left) (lines.finishes p.desk.flying).calls p q st.y.waiting m st.y) (sym st.start)
          (step_goes laws i rd stepped v w p q st.y.waiting m st.y (record { near = refl; answers = refl }) st.sits st.may to);
      sum = λ req. sum_first (among req l);
      part = inl refl;
      id = left.id;
      list = left.list;
      listed = left.listed;
      desk = left.desk;
      keeps = step_keeps laws rd stepped v w p q to;
      ahead = left.ahead refl;
      reads = left.reads;
    }

-- ---- a line of a lane

-- a lane whose next line is this one
abbrev at_line : ℕ → Bool → ℕ → Line → List Numbered1 → DeskView → LaneView
at_line id keeper number asked rest d = at_rest id keeper (record { number = number; line = asked } ∷ rest) d

-- the lane with the list that its line is given
abbrev with_list : ℕ → Bool → ℕ → Line → List Numbered1 → List RequestView → DeskView → LaneView
with_list id keeper number asked rest l d = record (at_line id keeper number asked rest d) { list = given_for asked l; listed = requeues asked }

given_is : (id : ℕ) (keeper : Bool) (number : ℕ) (asked : Line) (rest : List Numbered1) (l : List RequestView) (d : DeskView) → given (wants_of (at_line id keeper number asked rest d)) l (at_line id keeper number asked rest d) ≡ with_list id keeper number asked rest l d
given_is id keeper number (line.Submit req node) rest l d = refl
given_is id keeper number (line.Finish req) rest l d = refl
given_is id keeper number line.FinishAll rest l d = refl
given_is id keeper number line.Requeue rest l d = refl
given_is id keeper number (line.Log ctrl box) rest l d = refl
given_is id keeper number (line.Ctrl ctrl cstate) rest l d = refl
given_is id keeper number (line.Anatt ctrl) rest l d = refl
given_is id keeper number (line.Add ctrl box) rest l d = refl
given_is id keeper number (line.Remove ctrl) rest l d = refl
given_is id keeper number line.Reap rest l d = refl
given_is id keeper number (line.Policy policy) rest l d = refl

kept_is : (id : ℕ) (keeper : Bool) (number : ℕ) (asked : Line) (rest : List Numbered1) (l : List RequestView) (d : DeskView) → kept_list (wants_of (at_line id keeper number asked rest d)) l ≡ left_by asked l
kept_is id keeper number (line.Submit req node) rest l d = refl
kept_is id keeper number (line.Finish req) rest l d = refl
kept_is id keeper number line.FinishAll rest l d = refl
kept_is id keeper number line.Requeue rest l d = refl
kept_is id keeper number (line.Log ctrl box) rest l d = refl
kept_is id keeper number (line.Ctrl ctrl cstate) rest l d = refl
kept_is id keeper number (line.Anatt ctrl) rest l d = refl
kept_is id keeper number (line.Add ctrl box) rest l d = refl
kept_is id keeper number (line.Remove ctrl) rest l d = refl
kept_is id keeper number line.Reap rest l d = refl
kept_is id keeper number (line.Policy policy) rest l d = refl

line_sum : (asked : Line) (l : List RequestView) (req : ℕ) → among req (given_for asked l) + among req (left_by asked l) ≡ among req l
line_sum (line.Submit r node) l req = sum_first (among req l)
line_sum (line.Finish r) l req = sum_first (among req l)
line_sum line.FinishAll l req = sum_first (among req l)
line_sum line.Requeue l req = sum_last (among req l)
line_sum (line.Log ctrl box) l req = sum_first (among req l)
line_sum (line.Ctrl ctrl cstate) l req = sum_first (among req l)
line_sum (line.Anatt ctrl) l req = sum_first (among req l)
line_sum (line.Add ctrl box) l req = sum_first (among req l)
line_sum (line.Remove ctrl) l req = sum_first (among req l)
line_sum line.Reap l req = sum_first (among req l)
line_sum (line.Policy policy) l req = sum_first (among req l)

line_part : (asked : Line) (l : List RequestView) → (left_by asked l ≡ l) ⊎ (left_by asked l ≡ [])
line_part (line.Submit r node) l = inl refl
line_part (line.Finish r) l = inl refl
line_part line.FinishAll l = inl refl
line_part line.Requeue l = inr refl
line_part (line.Log ctrl box) l = inl refl
line_part (line.Ctrl ctrl cstate) l = inl refl
line_part (line.Anatt ctrl) l = inl refl
line_part (line.Add ctrl box) l = inl refl
line_part (line.Remove ctrl) l = inl refl
line_part line.Reap l = inl refl
line_part (line.Policy policy) l = inl refl

turn_line : (laws : DeskLaws) (world : World) (script : Script) (stepped : Stepped) (id : ℕ) (keeper : Bool) (number : ℕ) (asked : Line) (rest : List Numbered1) (w : LaneView) (l : List RequestView) (p q : Stand) (m : Memory) (x : Beside) → AtTurn p l m x
    → ((req : ℕ) → has (submit_of asked) req ≡ true → has_req req x.requests ≡ false)
    → StepTo (Ok stepped) (reads_of world script.answers) (given (wants_of (at_line id keeper number asked rest p.desk)) l (at_line id keeper number asked rest p.desk)) w p q
    → Turn (inputs_for world script) (Some (record { number = number; line = asked })) stepped (at_line id keeper number asked rest p.desk) w l (kept_list (wants_of (at_line id keeper number asked rest p.desk)) l) p q m x
turn_line laws world script stepped id keeper number asked rest w l p q m x h new does =
    let i : Inputs = inputs_for world script in
    let rd : Reads = reads_of world script.answers in
    let v : LaneView = with_list id keeper number asked rest l p.desk in
    let to : StepTo (Ok stepped) rd v w p q = subst (λ (u : LaneView). StepTo (Ok stepped) rd u w p q) (given_is id keeper number asked rest l p.desk) does in
    let st = starts_line laws world script p.core.lane asked l p m x refl h new in
    let b : LineStart = lines.start_of rd (given_for asked l) p.desk.flying asked in
    let left = step_leaves rd stepped v w p q to in
    let turn : Turn i (Some (record { number = number; line = asked })) stepped (at_line id keeper number asked rest p.desk) w l (left_by asked l) p q m x = record {
      b = b;
      given = given_for asked l;
      st = st;
      goes = subst (λ (s : Start). Goes (settled p.core.lane (pay_line i (place p number) p.core.view.left s)) (left_by_step stepped q.core.view.left) b.calls p q st.y.waiting m st.y) (sym st.start)
          (step_goes laws i rd stepped v w p q st.y.waiting m st.y (record { near = refl; answers = refl }) st.sits st.may to);
      sum = line_sum asked l;
      part = line_part asked l;
      id = left.id;
      list = left.list;
      listed = left.listed;
      desk = left.desk;
      keeps = step_keeps laws rd stepped v w p q to;
      ahead = left.ahead refl;
      reads = left.reads;
    } in
    subst (λ (kept : List RequestView). Turn i (Some (record { number = number; line = asked })) stepped (at_line id keeper number asked rest p.desk) w l kept p q m x) (sym (kept_is id keeper number asked rest l p.desk)) turn

-- ---- any turn

pub turn_did : (laws : DeskLaws) (world : World) (script : Script) (stepped : Stepped) (v w : LaneView) (l : List RequestView) (p q : Stand) (m : Memory) (x : Beside) → AtTurn p l m x → p.desk ≡ v.desk → v.over ≡ false → v.list ≡ [] → v.listed ≡ false
    → ((req : ℕ) → has (submit_in (next_of v)) req ≡ true → has_req req x.requests ≡ false)
    → StepTo (Ok stepped) (reads_of world script.answers) (given (wants_of v) l v) w p q
    → Turn (inputs_for world script) (next_of v) stepped v w l (kept_list (wants_of v) l) p q m x
turn_did laws world script stepped v w l p q m x h desk over list listed new does = by v.rest refl
  where
    i : Inputs
    i = inputs_for world script

    rd : Reads
    rd = reads_of world script.answers

    -- the lane at its turn
    Whole : LaneView → Type 0
    Whole u = ((req : ℕ) → has (submit_in (next_of u)) req ≡ true → has_req req x.requests ≡ false) → StepTo (Ok stepped) rd (given (wants_of u) l u) w p q → Turn i (next_of u) stepped u w l (kept_list (wants_of u) l) p q m x

    is : (rest : List Numbered1) → v.rest ≡ rest → at_rest v.id v.keeper rest p.desk ≡ v
    is rest e = λ j. record { id = v.id; keeper = v.keeper; rest = sym e j; list = sym list j; listed = sym listed j; over = sym over j; desk = desk j }

    by : (rest : List Numbered1) → v.rest ≡ rest → Turn i (next_of v) stepped v w l (kept_list (wants_of v) l) p q m x
    by [] e =
        let all : Whole (at_rest v.id v.keeper [] p.desk) = λ fresh to. turn_end laws world script stepped v.id v.keeper w l p q m x h to in
        (subst Whole (is [] e) all) new does
    by (ln ∷ rest) e =
        let all : Whole (at_rest v.id v.keeper (ln ∷ rest) p.desk) = λ fresh to. turn_line laws world script stepped v.id v.keeper ln.number ln.line rest w l p q m x h fresh to in
        (subst Whole (is (ln ∷ rest) e) all) new does
