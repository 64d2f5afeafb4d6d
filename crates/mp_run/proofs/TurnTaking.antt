-- The turns of the lanes, one after the other, are those of the plain run.
use Rattle.std.proofs.Common.{[], ◌≡◌, ℕ, ◌+◌, ◌<◌, ◌≤◌, ◌==◌, cond, Bool, true, false, List, ◌∷◌, ◌++◌, length, get_or, set, Option, None, Some, inl, inr, refl, sym, ap, ◌∙◌, subst, arith, append-nil, eq-eqb, get_or-set_same, get_or-set_other}
use Rattle.std.specs.List.{range_with_len}
use Rattle.std.proofs.Math.ListN.{get_or-map}
use Rattle.std.proofs.lemmas.Bool.{cases_Bool, cases_eq, eqb-true}
use Rattle.std.proofs.lemmas.List.{ext_get_or, length-map, length-set}
use Rattle.std.proofs.lemmas.List.Sums.{sum_by-append}
use Rattle.std.proofs.lemmas.List.FromFn.{length-range_with_len, get_or-map-range_with_len}
use Rattle.mp_script.specs.declared.script.Numbered1.{Numbered1}
use Rattle.mp_record.specs.declared.event.Event.{Event}
use Rattle.mp_lane.specs.declared.stepped.Stepped.{Stepped}
use Rattle.mp_lane.specs.LaneView.{LaneView}
use Rattle.mp_lane.specs.Steps.{MayRead}
use Rattle.mp_legal.specs.PlainCall.{Inputs}
use Rattle.mp_legal.specs.ToldDesks.{told_events}
use Rattle.mp_legal.specs.ToldKeeper.{orders_in}
use Rattle.mp_legal.specs.Turns.{Turn}
use Rattle.mp_legal.specs.Units.{Paid, pay_turn}
use Rattle.mp_run.specs.declared.runner.Runner.{Runner}
use Rattle.mp_run.specs.LaneTurns.{submit_in, turns_submits}
use Rattle.mp_run.specs.OnTurns.{IsOn, Stage}
use Rattle.mp_run.specs.Runner.{ahead_by, ahead_of, is_spent, lane_at, left_if, left_of, next_by, next_of, no_lane, state_by, told_by, IsNew, IsTied, Story, Takes}
use Rattle.mp_run.specs.Turning.{left_or, lefts_or, often, stage_by, total_of, turns_at, AreAhead, AreNew, IsReady, NoneSpent, TakesOr}
use Rattle.mp_run.proofs.KeptTurns.{fresh_next}
use Rattle.mp_run.proofs.OnTurns.{leads_on, fresh_in}

set_own : {X : Type 0} (xs : List X) (i : ℕ) (d : X) → set xs i (get_or xs i d) ≡ xs
set_own xs i d = ext_get_or d (set xs i (get_or xs i d)) xs (length-set xs i (get_or xs i d)) (λ k lt. elim (cases_eq k i) [
  | inl is ↦ ap (λ j. get_or (set xs i (get_or xs i d)) j d) is ∙ get_or-set_same xs i (get_or xs i d) d (let e = length-set xs i (get_or xs i d) in omega (arith, lt, is, e)) ∙ ap (λ j. get_or xs j d) (sym is)
  | inr apart ↦ get_or-set_other xs i k (get_or xs i d) d apart
])

-- a lane that is spent takes no turn
pub turn_none : (i : Inputs) (lane : ℕ) (line : Option Numbered1) (spent : List Bool) (a : Runner) (s : Story) → IsTied a s → get_or spent lane false ≡ true
    → TakesOr lane line (pay_turn i lane (state_by a s) line (left_or spent lane a)) spent spent a a s s
turn_none i lane line spent a s tied is =
    let none : left_or spent lane a ≡ None = ap (λ (b : Bool). left_if b lane a) is in
    let off : get_or spent lane false ≡ false → ⊥ = λ e. let t = is in cc in
    subst (λ (left : Option ℕ). TakesOr lane line (pay_turn i lane (state_by a s) line left) spent spent a a s s) (sym none) (record {
      tied = tied;
      state = refl;
      rows = sym (append-nil s.rows);
      orders = sym (append-nil (orders_in a.keeper.entries));
      told = sym (set_own (told_by a) lane []) ∙ ap (set (told_by a) lane) (sym (append-nil (get_or (told_by a) lane [])));
      count = refl;
      desk = refl;
      left = none;
      others = λ other low apart. refl;
      drain = refl;
      lanes = λ other apart. refl;
      spent = λ other apart. refl;
      was = λ e. e;
      all = λ e. absurd (off e);
      ahead = λ e. absurd (off e);
      reads = λ e. absurd (off e);
    })

left_same : (b : Bool) (lane : ℕ) (f g : Runner) → left_of lane f ≡ left_of lane g → left_if b lane f ≡ left_if b lane g
left_same true lane f g e = refl
left_same false lane f g e = ap Some e

-- a lane that isn't spent takes its turn
pub turn_some : (i : Inputs) (lane : ℕ) (line : Option Numbered1) (spent : List Bool) (stepped : Stepped) (a b : Runner) (s t : Story) → length spent ≡ 16 → IsTied a s → lane < length a.lanes.items → get_or spent lane false ≡ false → next_of (lane_at lane a) ≡ line
    → Takes lane (pay_turn i lane (state_by a s) (next_of (lane_at lane a)) (Some (left_of lane a))) (left_if (is_spent stepped) lane b) a b s t
    → TakesOr lane line (pay_turn i lane (state_by a s) line (left_or spent lane a)) spent (set spent lane (is_spent stepped)) a b s t
turn_some i lane line spent stepped a b s t sixteen tied lt off next takes =
    let some : left_or spent lane a ≡ Some (left_of lane a) = ap (λ (x : Bool). left_if x lane a) off in
    let paid : Paid = pay_turn i lane (state_by a s) line (Some (left_of lane a)) in
    let k : Takes lane paid (left_if (is_spent stepped) lane b) a b s t = subst (λ (l : Option Numbered1). Takes lane (pay_turn i lane (state_by a s) l (Some (left_of lane a))) (left_if (is_spent stepped) lane b) a b s t) next takes in
    let low : lane < length spent = omega (arith, sixteen, lt, tied.few) in
    let now : get_or (set spent lane (is_spent stepped)) lane false ≡ is_spent stepped = get_or-set_same spent lane (is_spent stepped) false low in
    let own : get_or (told_by a) lane [] ≡ told_events (lane_at lane a).desk.events = get_or-map (λ (v : LaneView). told_events v.desk.events) a.lanes.items lane no_lane in
    subst (λ (left : Option ℕ). TakesOr lane line (pay_turn i lane (state_by a s) line left) spent (set spent lane (is_spent stepped)) a b s t) (sym some) (record {
      tied = k.tied;
      state = k.state;
      rows = k.rows;
      orders = k.orders;
      told = k.told ∙ ap (λ (es : List Event). set (told_by a) lane (es ++ paid.step.events)) (sym own);
      desk = k.desk;
      count = ap length k.lanes ∙ length-set a.lanes.items lane (lane_at lane b);
      left = ap (λ (x : Bool). left_if x lane b) now ∙ sym k.paid;
      others = λ other below apart. ap (λ (x : Bool). left_if x other b) (get_or-set_other spent lane other (is_spent stepped) false apart) ∙ left_same (get_or spent other false) other b a (k.others other (omega (arith, below)) apart);
      drain = k.others 16 (omega arith) (λ e. absurd (omega (arith, e, lt, tied.few)));
      lanes = λ other apart. ap (λ (ls : List LaneView). get_or ls other no_lane) k.lanes ∙ get_or-set_other a.lanes.items lane other (lane_at lane b) no_lane apart;
      spent = λ other apart. get_or-set_other spent lane other (is_spent stepped) false apart;
      was = λ e. off;
      all = λ e req. k.all (left_of lane b) (ap (λ (x : Bool). left_if x lane b) (sym now ∙ e)) req ∙ ap (λ (l : Option Numbered1). total_of req a + often req (submit_in l)) next;
      ahead = λ e. k.ahead (left_of lane b) (ap (λ (x : Bool). left_if x lane b) (sym now ∙ e)) ∙ ap (λ (l : Option Numbered1). l ∷ ahead_of (lane_at lane b)) next;
      reads = λ e. k.reads;
    })

-- ---- the units of all lanes

pub lefts-length : (n : ℕ) (spent : List Bool) (r : Runner) → length (lefts_or n spent r) ≡ n
lefts-length n spent r = length-map (range_with_len 0 n) (λ lane. left_or spent lane r) ∙ length-range_with_len 0 n

pub lefts_at : (n : ℕ) (spent : List Bool) (r : Runner) (lane : ℕ) → lane < n → get_or (lefts_or n spent r) lane None ≡ left_or spent lane r
lefts_at n spent r lane lt = get_or-map-range_with_len (λ l. left_or spent l r) 0 n lane lane None lt (omega arith)

lefts_next : (n lane : ℕ) (line : Option Numbered1) (p : Paid) (spent now : List Bool) (a b : Runner) (s t : Story) → n ≤ 16 → lane < n → TakesOr lane line p spent now a b s t → lefts_or n now b ≡ set (lefts_or n spent a) lane p.left
lefts_next n lane line p spent now a b s t few lt takes =
    let len : length (lefts_or n spent a) ≡ n = lefts-length n spent a in
    ext_get_or None (lefts_or n now b) (set (lefts_or n spent a) lane p.left) (lefts-length n now b ∙ sym (length-set (lefts_or n spent a) lane p.left ∙ len))
    (λ k low. let below : k < n = omega (arith, low, lefts-length n now b) in
    lefts_at n now b k below ∙ elim (cases_eq k lane) [
      | inl same ↦ ap (λ m. left_or now m b) same ∙ takes.left ∙ sym (ap (λ m. get_or (set (lefts_or n spent a) lane p.left) m None) same ∙ get_or-set_same (lefts_or n spent a) lane p.left None (omega (arith, len, lt)))
      | inr apart ↦ takes.others k (omega (arith, below, few)) apart ∙ sym (get_or-set_other (lefts_or n spent a) lane k p.left None apart ∙ lefts_at n spent a k below)
    ])

-- one turn more
pub on_next : (i : Inputs) (all rest : List Turn) (lane : ℕ) (line : Option Numbered1) (start : Stage) (spent now : List Bool) (a b : Runner) (s t : Story) → length a.lanes.items ≤ 16 → lane < length a.lanes.items
    → IsOn i all (record { lane = lane; line = line } ∷ rest) start (stage_by spent a s) → TakesOr lane line (pay_turn i lane (state_by a s) line (left_or spent lane a)) spent now a b s t → IsOn i all rest start (stage_by now b t)
on_next i all rest lane line start spent now a b s t few lt on takes =
    let n : ℕ = length a.lanes.items in
    let turn : Turn = record { lane = lane; line = line } in
    let at : left_or spent lane a ≡ get_or (lefts_or n spent a) lane None = sym (lefts_at n spent a lane lt) in
    let p : Paid = pay_turn i lane (state_by a s) line (get_or (lefts_or n spent a) lane None) in
    let told : TakesOr lane line p spent now a b s t = subst (λ (left : Option ℕ). TakesOr lane line (pay_turn i lane (state_by a s) line left) spent now a b s t) at takes in
    let count : length b.lanes.items ≡ n = takes.count in
    leads_on i all rest turn start (stage_by spent a s) (stage_by now b t) (get_or (told_by a) lane []) (get_or (told_by a) lane [] ++ p.step.events) on (omega (arith, lt, length-map a.lanes.items (λ (v : LaneView). told_events v.desk.events))) (record {
      state = told.state;
      lefts = ap (λ (k : ℕ). lefts_or k now b) count ∙ lefts_next n lane line p spent now a b s t few lt told;
      rows = told.rows;
      orders = told.orders;
      lanes = told.told;
      was = refl;
      noted = refl;
    })

-- ---- what is ahead

turns_own : (lane : ℕ) (line : Option Numbered1) (rest : List Turn) → turns_at lane (record { lane = lane; line = line } ∷ rest) ≡ line ∷ turns_at lane rest
turns_own lane line rest = let is : (lane == lane) ≡ true = eq-eqb lane lane refl in rw is refl

turns_other : (n lane : ℕ) (line : Option Numbered1) (rest : List Turn) → (n ≡ lane → ⊥) → turns_at n (record { lane = lane; line = line } ∷ rest) ≡ turns_at n rest
turns_other n lane line rest apart = elim (cases_Bool (lane == n)) [
  | inl is ↦ absurd (apart (sym (eqb-true lane n is)))
  | inr off ↦ rw off refl
]

behind : {X : Type 0} (x y : X) (xs ys : List X) → x ∷ xs ≡ y ∷ ys → xs ≡ ys
behind x y xs ys e = cc

pub ahead_next : (pages : List (List ℕ)) (lane : ℕ) (line : Option Numbered1) (rest : List Turn) (p : Paid) (spent now : List Bool) (a b : Runner) (s t : Story) → lane < length a.lanes.items → AreAhead pages spent (record { lane = lane; line = line } ∷ rest) a
    → TakesOr lane line p spent now a b s t → AreAhead pages now rest b
ahead_next pages lane line rest p spent now a b s t lt ahead takes n low off =
    let below : n < length a.lanes.items = omega (arith, low, takes.count) in
    elim (cases_eq n lane) [
      | inl is ↦ let here : get_or now lane false ≡ false = ap (λ k. get_or now k false) (sym is) ∙ off in
          let old = ahead lane lt (takes.was here) in
          let mine : turns_at lane rest ≡ ahead_of (lane_at lane b) = behind line line (turns_at lane rest) (ahead_of (lane_at lane b)) (sym (turns_own lane line rest) ∙ old.0 ∙ takes.ahead here) in
          (ap (λ k. turns_at k rest) is ∙ mine ∙ ap (λ k. ahead_of (lane_at k b)) (sym is), subst (λ k. MayRead pages (lane_at k b).rest) (sym is) (takes.reads here pages old.1))
      | inr apart ↦ let old = ahead n below (sym (takes.spent n apart) ∙ off) in
          let same : lane_at n b ≡ lane_at n a = takes.lanes n apart in
          (sym (turns_other n lane line rest apart) ∙ old.0 ∙ ap ahead_of (sym same), subst (λ (v : LaneView). MayRead pages v.rest) (sym same) old.1)
    ]

next_ahead : (v : LaneView) (line : Option Numbered1) (rest : List (Option Numbered1)) → line ∷ rest ≡ ahead_of v → (v.over ≡ false) × (next_of v ≡ line)
next_ahead v line rest is = by v.over v.rest is
  where
    by : (over : Bool) (lines : List Numbered1) → line ∷ rest ≡ ahead_by over lines → (over ≡ false) × (next_by lines ≡ line)
    by true lines e = absurd cc
    by false [] e = (refl, cc)
    by false (l ∷ lines) e = (refl, cc)

-- a lane that has no turn left is over
pub none_ahead : (v : LaneView) → [] ≡ ahead_of v → v.over ≡ true
none_ahead v is = by v.over v.rest is
  where
    by : (over : Bool) (lines : List Numbered1) → [] ≡ ahead_by over lines → over ≡ true
    by true lines e = refl
    by false [] e = absurd cc
    by false (l ∷ lines) e = absurd cc

-- a lane whose turn it is may take it
pub ready_now : (pages : List (List ℕ)) (lane : ℕ) (line : Option Numbered1) (rest : List Turn) (spent : List Bool) (a : Runner) → lane < length a.lanes.items → AreAhead pages spent (record { lane = lane; line = line } ∷ rest) a → get_or spent lane false ≡ false
    → IsReady pages line (lane_at lane a)
ready_now pages lane line rest spent a lt ahead off =
    let old = ahead lane lt off in
    let it = next_ahead (lane_at lane a) line (turns_at lane rest) (sym (turns_own lane line rest) ∙ old.0) in
    record { goes_on = it.0; next = it.1; reads = old.1 }

-- ---- no request is lost

often_append : (req : ℕ) (ms ns : List ℕ) → often req (ms ++ ns) ≡ often req ms + often req ns
often_append req ms ns = sum_by-append (λ (k : ℕ). cond (k == req) 1 0) ms ns

-- none is spent after a turn, so none was before
pub none_before : (lane : ℕ) (line : Option Numbered1) (p : Paid) (spent now : List Bool) (a b : Runner) (s t : Story) → TakesOr lane line p spent now a b s t → NoneSpent now → NoneSpent spent
none_before lane line p spent now a b s t takes none n = elim (cases_eq n lane) [
  | inl is ↦ ap (λ k. get_or spent k false) is ∙ takes.was (none lane)
  | inr apart ↦ sym (takes.spent n apart) ∙ none n
]

pub all_next : (req a b start : ℕ) (mine rest all : List ℕ) → b ≡ a + often req mine → a + often req (mine ++ rest) ≡ start + often req all → b + often req rest ≡ start + often req all
all_next req a b start mine rest all e f = let g = often_append req mine rest in omega (arith, e, f, g)

-- ---- what is new

pub new_now : (line : Option Numbered1) (lane : ℕ) (rest : List Turn) (s : Story) → AreNew (record { lane = lane; line = line } ∷ rest) s → IsNew line s
new_now line lane rest s new req has_it = fresh_in s.beside.requests (submit_in line) (turns_submits rest) req new has_it

pub new_next : (i : Inputs) (line : Option Numbered1) (lane : ℕ) (rest : List Turn) (left : Option ℕ) (spent now : List Bool) (a b : Runner) (s t : Story) → TakesOr lane line (pay_turn i lane (state_by a s) line left) spent now a b s t → AreNew (record { lane = lane; line = line } ∷ rest) s → AreNew rest t
new_next i line lane rest left spent now a b s t takes new = fresh_next i lane (state_by a s) line left (state_by b t) (turns_submits rest) takes.state new
