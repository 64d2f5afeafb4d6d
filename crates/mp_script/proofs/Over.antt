-- What the lines of a text name, where they pass the checks.
use Rattle.std.proofs.Common.{◌⊎◌, inl, inr, ◌≡◌, ◌==◌, ℕ, zero, suc, ◌+◌, ◌<◌, ◌≤◌, Bool, true, false, List, [], ◌∷◌, ◌++◌, length, map, nat_lt, nat_le, Option, Some, None, refl, sym, ◌∙◌, append_assoc, arith}
use Rattle.std.specs.Prelude.{◌||◌, ◌&&◌, not, is_some, if◌then◌else◌, codes, filter, slice_get, option_and_then, HoldsAt, option_map}
use Rattle.std.specs.Str.{bytes_eq}
use Rattle.std.specs.Option.{option_to_list}
use Rattle.std.specs.List.{list_any, AllByRecursion}
use Rattle.std.proofs.lemmas.Bool.{cases_Bool, and_parts, false≢true}
use Rattle.std.proofs.lemmas.Bool.Decides.{nat_tests}
use Rattle.std.proofs.lemmas.List.{append-nil, length-append, length-map}
use Rattle.std.proofs.lemmas.List.Quantifiers.{position-Some}
use Rattle.mp_checks.specs.Checks.{first_fault, each_from}
use Rattle.mp_checks.specs.Marks.{has}
use Rattle.mp_checks.proofs.CheckLaws.{fault_append}
use Rattle.mp_words.specs.declared.row.CState.{CState}
use Rattle.mp_words.specs.Names.{policy_named, cstate_named}
use Rattle.mp_topology.specs.Controllers.{place_of}
use Rattle.mp_topology.specs.declared.topology.Controller.{Controller}
use Rattle.mp_topology.specs.declared.topology.Topology.{Topology}
use Rattle.mp_script.specs.Splitting.{value_of, is_in}
use Rattle.mp_script.specs.Shape.{Shape, keeper, submit, finish, requeue, log, ctrl, anatt, add, remove, reap, policy, shape_of, is_word}
use Rattle.mp_script.specs.Wording.{place_in, reports_ana, has_ana, is_there, has_box, is_node, has_numbers, is_named, is_submitted}
use Rattle.mp_script.specs.Before.{Before, before, begins_lane, is_keeper, each_of, submitted_of, submitted_in, in_lanes, right_submit, repeats, lanes_in}
use Rattle.mp_script.specs.Lines.{line_checks, shape_checks, is_keepers}
use Rattle.mp_script.specs.Plans.{page_of, finish_of, line_of, numbered, body, plans}
use Rattle.mp_script.specs.Script.{script_of}
use Rattle.mp_script.specs.Building.{noted}
use Rattle.mp_script.specs.Facts.{submits_in, HasAna, Adds, IsLine, AreLines, IsOver}
use Rattle.mp_script.specs.declared.script.Line.TheVariants as line
use Rattle.mp_script.specs.declared.script.Numbered1.{Numbered1}
use Rattle.mp_script.specs.declared.script.LanePlan.{LanePlan}
use Rattle.mp_script.proofs.Steps.{before_append, checks_here, lanes_append}
use Rattle.mp_script.proofs.Holding.{passes, none_parts, some_is, numbered_by, from_not, submits_all}

-- ---- controllers

place_within : (cs : List Controller) (w : List ℕ) (p : ℕ) → place_in cs w ≡ Some p → p < length cs
unfolding place_of
place_within cs w p e =
    let found = position-Some (λ x. bytes_eq x w) (map (λ (c : Controller). c.name) cs) p [] e in
    omega (arith, found.0, length-map cs (λ (c : Controller). c.name))

there_is : (cs : List Controller) (w : List ℕ) → is_there cs w ≡ true → (p : ℕ) × (place_in cs w ≡ Some p) × (p < length cs)
unfolding is_there
there_is cs w h = let found = some_is (place_in cs w) h in (found.0, found.1, place_within cs w found.0 found.1)

ana_at : (cs : List Controller) (p : ℕ) (ana : Bool) → p < length cs → reports_ana (slice_get cs p) ≡ ana → HoldsAt (λ c. c.ana ≡ ana) cs p
ana_at [] p ana lt h = absurd (omega arith)
ana_at (c ∷ cs) zero ana lt h = λ d. h
ana_at (c ∷ cs) (suc p) ana lt h = ana_at cs p ana (omega arith) h

ana_is : (cs : List Controller) (w : List ℕ) (ana : Bool) → is_there cs w ≡ true → has_ana cs w ≡ ana → (p : ℕ) × (place_in cs w ≡ Some p) × HasAna ana cs p
unfolding has_ana
ana_is cs w ana there h =
    let found = there_is cs w there in
    let here : reports_ana (slice_get cs found.0) ≡ ana = rw found.1 at h in
    (found.0, found.1, (found.2, ana_at cs found.0 ana found.2 here))

-- ---- one line

box_is : (pages : ℕ) (k : List ℕ) → has_box pages k ≡ true → value_of k < pages
unfolding has_box
box_is pages k h = let p = and_parts (nat_lt (value_of k) pages) (nat_le (value_of k) 4294967295) h in grind (arith, nat_tests)

node_is : (nodes : ℕ) (n : List ℕ) → is_node nodes n ≡ true → value_of n < nodes
unfolding is_node
node_is nodes n h = let p = and_parts _ (nat_lt (value_of n) nodes) h in grind (arith, nat_tests)

keeper_is : (k : Bool) → not (not k) ≡ true → k ≡ true
keeper_is true h = refl
keeper_is false h = absurd cc

adds_none : (cs : List Controller) (pages p : ℕ) (k : List ℕ) → is_word k (codes "-") ≡ true → HasAna false cs p → Adds cs pages p (page_of k)
unfolding page_of
adds_none cs pages p k e h = rw e h

adds_some : (cs : List Controller) (pages p : ℕ) (k : List ℕ) → is_word k (codes "-") ≡ false → HasAna true cs p → value_of k < pages → Adds cs pages p (page_of k)
unfolding page_of
adds_some cs pages p k e h lt = rw e (h, lt)

add_over : (cs : List Controller) (pages : ℕ) (c k : List ℕ) → (is_there cs c && (if is_word k (codes "-") then not (has_ana cs c) else has_ana cs c && has_box pages k)) ≡ true
    → (p : ℕ) × (place_in cs c ≡ Some p) × Adds cs pages p (page_of k)
add_over cs pages c k h =
    let p = and_parts (is_there cs c) _ h in
    elim (cases_Bool (is_word k (codes "-"))) [
      | inl e ↦ let a = ana_is cs c false p.0 (from_not (has_ana cs c) (rw e at p.1)) in (a.0, a.1, adds_none cs pages a.0 k e a.2)
      | inr e ↦
          let q = and_parts (has_ana cs c) (has_box pages k) (rw e at p.1) in
          let a = ana_is cs c true p.0 q.0 in
          (a.0, a.1, adds_some cs pages a.0 k e a.2 (box_is pages k q.1))
    ]

finish_over : (t : Topology) (pages : ℕ) (ns submits : List ℕ) (k : Bool) (r : List ℕ) → (is_word r (codes "all") || has ns (value_of r)) ≡ true → ((n : ℕ) → has ns n ≡ true → has submits n ≡ true) → IsLine t pages submits k (finish_of r)
unfolding finish_of
finish_over t pages ns submits k r h some = elim (cases_Bool (is_word r (codes "all"))) [
  | inl e ↦ rw e tt
  | inr e ↦ rw e (some (value_of r) (rw e at h))
]

ctrl_over : (t : Topology) (pages : ℕ) (submits : List ℕ) (k : Bool) (n : ℕ) (o : Option ℕ) (q : Option CState) (c : ℕ) (s : CState) → o ≡ Some c → q ≡ Some s → c < length t.controllers
    → AreLines t pages submits k (option_to_list (option_map (numbered_by n) (option_and_then (λ c. option_map (line.Ctrl c) q) o)))
ctrl_over t pages submits k n o q c s e f lt = rw (e, f) (lt, tt)

line_over : (t : Topology) (pages : ℕ) (ns submits : List ℕ) (k : Bool) (n : ℕ) (s : Shape) → has_numbers t.near.nodes s ≡ true → is_named t.controllers pages s ≡ true → is_submitted ns s ≡ true → not (is_keepers s && not k) ≡ true
    → ((r : ℕ) → has ns r ≡ true → has submits r ≡ true) → AreLines t pages submits k (numbered t.controllers n s)
unfolding line_of has_numbers is_named is_submitted
line_over t pages ns submits k n (submit r m) numbers named sub keepers some = (node_is t.near.nodes m (and_parts (is_in 0 65535 r) (is_node t.near.nodes m) numbers).1, tt)
line_over t pages ns submits k n (finish r) numbers named sub keepers some = (finish_over t pages ns submits k r sub some, tt)
line_over t pages ns submits k n requeue numbers named sub keepers some = (tt, tt)
line_over t pages ns submits k n (log c b) numbers named sub keepers some =
    let p = and_parts (is_there t.controllers c) (has_ana t.controllers c && has_box pages b) named in
    let q = and_parts (has_ana t.controllers c) (has_box pages b) p.1 in
    let a = ana_is t.controllers c true p.0 q.0 in
    rw a.1 ((a.2, box_is pages b q.1), tt)
line_over t pages ns submits k n (ctrl c st) numbers named sub keepers some =
    let p = and_parts (is_there t.controllers c) (is_some (cstate_named st)) named in
    let a = there_is t.controllers c p.0 in
    let s = some_is (cstate_named st) p.1 in
    ctrl_over t pages submits k n (place_in t.controllers c) (cstate_named st) a.0 s.0 a.1 s.1 a.2
line_over t pages ns submits k n (anatt c) numbers named sub keepers some = let a = there_is t.controllers c named in rw a.1 (a.2, tt)
line_over t pages ns submits k n (add c b) numbers named sub keepers some =
    let a = add_over t.controllers pages c b named in
    rw a.1 ((keeper_is k keepers, a.2), tt)
line_over t pages ns submits k n (remove c) numbers named sub keepers some = let a = there_is t.controllers c named in rw a.1 ((keeper_is k keepers, a.2), tt)
line_over t pages ns submits k n reap numbers named sub keepers some = (keeper_is k keepers, tt)
line_over t pages ns submits k n (policy p) numbers named sub keepers some = let s = some_is (policy_named p) named in rw s.1 (keeper_is k keepers, tt)
line_over t pages ns submits k n _ numbers named sub keepers some = tt

-- ---- the lanes

append_lines : (t : Topology) (pages : ℕ) (submits : List ℕ) (k : Bool) (xs ys : List Numbered1) → AreLines t pages submits k xs → AreLines t pages submits k ys → AreLines t pages submits k (xs ++ ys)
append_lines t pages submits k [] ys p q = q
append_lines t pages submits k (x ∷ xs) ys p q = (p.0, append_lines t pages submits k xs ys p.1 q)

-- whether the lane of a line goes on as the keeper's
keeper_more : (done : List (List ℕ)) (l : List ℕ) → (before (done ++ l ∷ [])).in_keeper ≡ (if begins_lane (shape_of l) then is_keeper (shape_of l) else (before done).in_keeper)
unfolding noted
keeper_more done l = rw (before_append done l) refl

abbrev Lanes : Topology → ℕ → List ℕ → List LanePlan → Type 0
Lanes t pages submits ps = AllByRecursion (λ (plan : LanePlan). AreLines t pages submits plan.keeper plan.lines) ps

lanes_over : (t : Topology) (pages : ℕ) (lines done rest : List (List ℕ)) (submits : List ℕ) (n : ℕ) → done ++ rest ≡ lines → first_fault (each_from (line_checks t pages lines) (length done) rest) ≡ None
    → ((r : ℕ) → has (submitted_in t.near.nodes lines) r ≡ true → has submits r ≡ true)
    → AreLines t pages submits (before done).in_keeper (body t.controllers n rest) × Lanes t pages submits (plans t.controllers n rest)
unfolding shape_checks
lanes_over t pages lines done [] submits n parts pass some = (tt, tt)
lanes_over t pages lines done (l ∷ rest) submits n parts pass some =
    let p = none_parts (first_fault (line_checks t pages lines (length done) l)) (first_fault (each_from (line_checks t pages lines) (suc (length done)) rest))
    (sym (fault_append (line_checks t pages lines (length done) l) (each_from (line_checks t pages lines) (suc (length done)) rest)) ∙ pass) in
    let here : first_fault (shape_checks t pages (submitted_in t.near.nodes lines) (before done) (length done + 1) (shape_of l)) ≡ None =
    rw (checks_here t pages done l rest lines parts) at p.0 in
    let all = passes (shape_checks t pages (submitted_in t.near.nodes lines) (before done) (length done + 1) (shape_of l)) here in
    let count : suc (length done) ≡ length (done ++ l ∷ []) = omega (arith, length-append done (l ∷ [])) in
    let more = lanes_over t pages lines (done ++ l ∷ []) rest submits (n + 1) (append_assoc done (l ∷ []) rest ∙ parts) (rw count at p.1) some in
    let known = and_parts (is_named t.controllers pages (shape_of l)) (is_submitted (submitted_in t.near.nodes lines) (shape_of l)) all.1.1.1.1.0 in
    let one = line_over t pages (submitted_in t.near.nodes lines) submits (before done).in_keeper n (shape_of l) all.1.1.1.0 known.0 known.1 all.1.1.0 some in
    elim (cases_Bool (begins_lane (shape_of l))) [
      | inl e ↦ rw e (tt, (rw (keeper_more done l, e) at more.0, more.1))
      | inr e ↦ rw e (append_lines t pages submits (before done).in_keeper (numbered t.controllers n (shape_of l)) (body t.controllers (n + 1) rest) one (rw (keeper_more done l, e) at more.0), more.1)
    ]

-- ---- what is submitted

has_behind : (xs ys : List ℕ) (r : ℕ) → has ys r ≡ true → has (xs ++ ys) r ≡ true
has_behind [] ys r h = h
has_behind (x ∷ xs) ys r h = elim (cases_Bool (x == r)) [ inl e ↦ rw e refl | inr e ↦ rw e (has_behind xs ys r h) ]

has_front : (xs ys : List ℕ) (r : ℕ) → has xs r ≡ true → has (xs ++ ys) r ≡ true
has_front [] ys r h = absurd cc
has_front (x ∷ xs) ys r h = elim (cases_Bool (x == r)) [ inl e ↦ rw e refl | inr e ↦ rw e (has_front xs ys r (rw e at h)) ]

has_parts : (xs ys : List ℕ) (r : ℕ) → has (xs ++ ys) r ≡ true → (has xs r ≡ true) ⊎ (has ys r ≡ true)
has_parts [] ys r h = inr h
has_parts (x ∷ xs) ys r h = elim (cases_Bool (x == r)) [ inl e ↦ inl (rw e refl) | inr e ↦ rw e (has_parts xs ys r (rw e at h)) ]

right_one : (nodes : ℕ) (s : Shape) (r : ℕ) → has (option_to_list (right_submit nodes s)) r ≡ true → has (option_to_list (submitted_of s)) r ≡ true
right_one nodes s r h = elim (cases_Bool (has_numbers nodes s)) [ inl e ↦ rw e at h | inr e ↦ absurd (false≢true (rw e at h)) ]

right_all : (nodes : ℕ) (ls : List (List ℕ)) (r : ℕ) → has (each_of (right_submit nodes) ls) r ≡ true → has (each_of submitted_of ls) r ≡ true
right_all nodes [] r h = h
right_all nodes (l ∷ ls) r h = elim (has_parts (option_to_list (right_submit nodes (shape_of l))) (each_of (right_submit nodes) ls) r h) [
  | inl a ↦ has_front (option_to_list (submitted_of (shape_of l))) (each_of submitted_of ls) r (right_one nodes (shape_of l) r a)
  | inr b ↦ has_behind (option_to_list (submitted_of (shape_of l))) (each_of submitted_of ls) r (right_all nodes ls r b)
]

-- lanes submit what the lines from the first lane on submit
lanes_submit : (cs : List Controller) (n : ℕ) (ls : List (List ℕ)) → submits_in (plans cs n ls) ≡ each_of submitted_of (in_lanes ls)
lanes_submit cs n [] = refl
lanes_submit cs n (l ∷ ls) = elim (cases_Bool (begins_lane (shape_of l))) [
  | inl e ↦ rw e (submits_all cs (n + 1) ls)
  | inr e ↦ rw e (lanes_submit cs (n + 1) ls)
]

in_all : (cs : List Controller) (nodes : ℕ) (lines : List (List ℕ)) (r : ℕ) → has (submitted_in nodes lines) r ≡ true → has (submits_in (plans cs 1 lines)) r ≡ true
unfolding submitted_in
in_all cs nodes lines r h = rw (lanes_submit cs 1 lines) (right_all nodes (in_lanes lines) r h)

keepers_count : (cs : List Controller) (n : ℕ) (ls : List (List ℕ)) → length (filter (λ (plan : LanePlan). plan.keeper) (plans cs n ls)) ≡ length (filter is_keeper (lanes_in ls))
keepers_count cs n [] = refl
keepers_count cs n (l ∷ ls) = elim (cases_Bool (begins_lane (shape_of l))) [
  | inl e ↦ elim (cases_Bool (is_keeper (shape_of l))) [
    | inl f ↦ rw (e, f) (omega (arith, keepers_count cs (n + 1) ls))
    | inr f ↦ rw (e, f) (keepers_count cs (n + 1) ls)
  ]
  | inr e ↦ rw e (keepers_count cs (n + 1) ls)
]

none_kept : (xs : List Shape) → list_any is_keeper xs ≡ false → length (filter is_keeper xs) ≡ 0
none_kept [] h = refl
none_kept (x ∷ xs) h = elim (cases_Bool (is_keeper x)) [ inl e ↦ absurd (false≢true (sym (rw e at h))) | inr e ↦ rw e (none_kept xs (rw e at h)) ]

kept_push : (xs : List Shape) (s : Shape) → length (filter is_keeper (xs ++ s ∷ [])) ≡ length (filter is_keeper xs) + (if is_keeper s then 1 else 0)
kept_push [] s = elim (cases_Bool (is_keeper s)) [ inl e ↦ rw e refl | inr e ↦ rw e refl ]
kept_push (x ∷ xs) s = elim (cases_Bool (is_keeper x)) [
  | inl e ↦ rw e (omega (arith, kept_push xs s))
  | inr e ↦ rw e (kept_push xs s)
]

keeper_repeats : (b : Before) (s : Shape) → is_keeper s ≡ true → repeats b s ≡ false → b.had_keeper ≡ false
unfolding repeats
keeper_repeats b keeper e h = h
keeper_repeats b _ e h = absurd cc

abbrev keepers : List (List ℕ) → ℕ
keepers ls = length (filter is_keeper (lanes_in ls))

keepers_more : (done : List (List ℕ)) (l : List ℕ) → keepers done ≤ 1 → repeats (before done) (shape_of l) ≡ false → keepers (done ++ l ∷ []) ≤ 1
unfolding before
keepers_more done l few fresh = elim (cases_Bool (begins_lane (shape_of l))) [
  | inl e ↦ elim (cases_Bool (is_keeper (shape_of l))) [
    | inl f ↦
        let none : keepers done ≡ 0 = none_kept (lanes_in done) (keeper_repeats (before done) (shape_of l) f fresh) in
        let one : keepers (done ++ l ∷ []) ≡ keepers done + 1 = rw (lanes_append done l, e) (kept_push (lanes_in done) (shape_of l) ∙ rw f refl) in
        omega (arith, none, one)
    | inr f ↦
        let same : keepers (done ++ l ∷ []) ≡ keepers done + 0 = rw (lanes_append done l, e) (kept_push (lanes_in done) (shape_of l) ∙ rw f refl) in
        omega (arith, few, same)
  ]
  | inr e ↦ rw (lanes_append done l, e, append-nil) few
]

keepers_from : (t : Topology) (pages : ℕ) (lines done rest : List (List ℕ)) → done ++ rest ≡ lines → first_fault (each_from (line_checks t pages lines) (length done) rest) ≡ None → keepers done ≤ 1 → keepers lines ≤ 1
unfolding shape_checks
keepers_from t pages lines done [] parts pass few = let e : done ≡ lines = sym (append-nil done) ∙ parts in rw (← e) few
keepers_from t pages lines done (l ∷ rest) parts pass few =
    let p = none_parts (first_fault (line_checks t pages lines (length done) l)) (first_fault (each_from (line_checks t pages lines) (suc (length done)) rest))
    (sym (fault_append (line_checks t pages lines (length done) l) (each_from (line_checks t pages lines) (suc (length done)) rest)) ∙ pass) in
    let here : first_fault (shape_checks t pages (submitted_in t.near.nodes lines) (before done) (length done + 1) (shape_of l)) ≡ None =
    rw (checks_here t pages done l rest lines parts) at p.0 in
    let all = passes (shape_checks t pages (submitted_in t.near.nodes lines) (before done) (length done + 1) (shape_of l)) here in
    let count : suc (length done) ≡ length (done ++ l ∷ []) = omega (arith, length-append done (l ∷ [])) in
    keepers_from t pages lines (done ++ l ∷ []) rest (append_assoc done (l ∷ []) rest ∙ parts) (rw count at p.1)
    (keepers_more done l few (from_not (repeats (before done) (shape_of l)) all.1.1.1.1.1.0))

pub over_facts : (t : Topology) (pages : ℕ) (lines : List (List ℕ)) → first_fault (each_from (line_checks t pages lines) 0 lines) ≡ None → IsOver t pages (script_of t.controllers lines)
unfolding script_of
over_facts t pages lines pass =
    let few : keepers lines ≤ 1 = keepers_from t pages lines [] lines refl pass (omega arith) in
    record {
      lines = (lanes_over t pages lines [] lines (submits_in (plans t.controllers 1 lines)) 1 refl pass (in_all t.controllers t.near.nodes lines)).1;
      keepers = omega (arith, keepers_count t.controllers 1 lines, few);
    }
