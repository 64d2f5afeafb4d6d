-- What holds of the lanes of a text whose lines pass the checks.
use Rattle.std.proofs.Common.{inl, inr, ◌≡◌, ℕ, suc, ◌+◌, ◌≤◌, Bool, true, false, List, [], ◌∷◌, ◌++◌, length, Option, Some, None, refl, sym, ap, ◌∙◌, append_assoc, zero-add, arith}
use Rattle.std.specs.Prelude.{◌||◌, ◌&&◌, ◌==◌, not, nat_le, if◌then◌else◌, is_some, option_map, option_and_then, codes}
use Rattle.std.specs.Option.{option_to_list}
use Rattle.std.specs.List.{flat_map}
use Rattle.std.proofs.lemmas.Bool.{cases_Bool}
use Rattle.std.proofs.lemmas.Bool.Decides.{nat_tests}
use Rattle.std.proofs.lemmas.List.{append-nil, length-append}
use Rattle.mp_checks.specs.Checks.{first_fault, each_from, or_else, AllPass}
use Rattle.mp_checks.specs.Marks.{has}
use Rattle.mp_checks.proofs.CheckLaws.{fault_append}
use Rattle.mp_words.specs.Names.{policy_named, cstate_named}
use Rattle.mp_words.specs.declared.row.CState.{CState}
use Rattle.mp_topology.specs.declared.topology.Topology.{Topology}
use Rattle.mp_topology.specs.declared.topology.Controller.{Controller}
use Rattle.mp_script.specs.Splitting.{value_of}
use Rattle.mp_script.specs.Shape.{Shape, lane, keeper, submit, finish, log, ctrl, anatt, add, remove, policy, shape_of, is_word}
use Rattle.mp_script.specs.Before.{Before, before, begins_lane, each_of, submitted_of, submitted_in, repeats, lanes_in}
use Rattle.mp_script.specs.Lines.{line_checks, shape_checks, is_within}
use Rattle.mp_script.specs.Wording.{place_in}
use Rattle.mp_script.specs.Plans.{finish_of, page_of, line_of, numbered, body, plans}
use Rattle.mp_script.specs.Script.{script_of}
use Rattle.mp_script.specs.Building.{noted}
use Rattle.mp_script.specs.Distinct.{IsDistinct}
use Rattle.mp_script.specs.Facts.{submit_of, submits_of, submits_in, IsScript}
use Rattle.mp_script.specs.declared.script.Line.{Line}
use Rattle.mp_script.specs.declared.script.Line.TheVariants as line
use Rattle.mp_script.specs.declared.script.Numbered1.{Numbered1}
use Rattle.mp_script.specs.declared.script.LanePlan.{LanePlan}
use Rattle.mp_script.proofs.Steps.{before_append, checks_here}

-- ---- checks that pass

pub passes : {E : Type 0} (cs : List (Bool × E)) → first_fault cs ≡ None → AllPass cs
passes [] h = tt
passes ((true, e) ∷ cs) h = (refl, passes cs h)
passes ((false, e) ∷ cs) h = absurd cc

pub none_parts : {E : Type 0} (a b : Option E) → or_else a b ≡ None → (a ≡ None) × (b ≡ None)
none_parts None b e = (refl, e)
none_parts (Some x) b e = absurd cc

pub some_is : {X : Type 0} (o : Option X) → is_some o ≡ true → (x : X) × (o ≡ Some x)
some_is None h = absurd cc
some_is (Some x) h = (x, refl)

-- ---- numbers that differ

pub has_push : (ns : List ℕ) (r n : ℕ) → has (ns ++ r ∷ []) n ≡ (has ns n || (r == n))
has_push [] r n = elim (cases_Bool (r == n)) [ inl e ↦ rw e refl | inr e ↦ rw e refl ]
has_push (m ∷ ns) r n = elim (cases_Bool (m == n)) [ inl e ↦ rw e refl | inr e ↦ rw e (has_push ns r n) ]

or_parts : (a b : Bool) → (a || b) ≡ false → (a ≡ false) × (b ≡ false)
or_parts true b e = absurd cc
or_parts false b e = (refl, e)

other_way : (a b : ℕ) → (a == b) ≡ false → (b == a) ≡ false
other_way a b e = grind (arith, nat_tests)

distinct_push : (ns : List ℕ) (r : ℕ) → IsDistinct ns → has ns r ≡ false → IsDistinct (ns ++ r ∷ [])
distinct_push [] r d h = (refl, tt)
distinct_push (n ∷ ns) r d h =
    let p = or_parts (n == r) (has ns r) h in
    (rw (has_push ns r n, d.0) (other_way n r p.0), distinct_push ns r d.1 p.1)

distinct_behind : (xs ys : List ℕ) → IsDistinct (xs ++ ys) → IsDistinct ys
distinct_behind [] ys d = d
distinct_behind (x ∷ xs) ys d = distinct_behind xs ys d.1

-- ---- the lines so far

pub record SoFar (done : List (List ℕ)) : Type 0 where
  pub lanes : (before done).lanes ≤ 16
  pub lines : length done ≤ 65536
  pub distinct : IsDistinct (before done).submitted

more_begun : (n lanes : ℕ) → (nat_le n 65536 && not (nat_le 16 lanes)) ≡ true → 1 + lanes ≤ 16
more_begun n lanes h = grind (arith, nat_tests)

more_lanes : (n lanes : ℕ) (s : Shape) → is_within n lanes s ≡ true → lanes ≤ 16 → (if begins_lane s then 1 else 0) + lanes ≤ 16
more_lanes n lanes s within few = elim (cases_Bool (begins_lane s)) [
  | inl e ↦ rw e (more_begun n lanes (rw e at within))
  | inr e ↦ rw (e, zero-add lanes) few
]

and_first : (a b : Bool) → (a && b) ≡ true → a ≡ true
and_first true b h = refl
and_first false b h = absurd cc

few_more : (n : ℕ) (b : Bool) → (nat_le n 65536 && b) ≡ true → n ≤ 65536
few_more n b h = let a : nat_le n 65536 ≡ true = and_first (nat_le n 65536) b h in grind (arith, nat_tests)

more_distinct : (b : Before) (s : Shape) → repeats b s ≡ false → IsDistinct b.submitted → IsDistinct (b.submitted ++ option_to_list (submitted_of s))
unfolding repeats
more_distinct b (submit r n) h d = distinct_push b.submitted (value_of r) d h
more_distinct b _ h d = rw append-nil d

pub from_not : (b : Bool) → not b ≡ true → b ≡ false
from_not true h = absurd cc
from_not false h = refl

so_far_more : (t : Topology) (pages : ℕ) (ns : List ℕ) (done : List (List ℕ)) (l : List ℕ) → SoFar done → first_fault (shape_checks t pages ns (before done) (length done + 1) (shape_of l)) ≡ None → SoFar (done ++ l ∷ [])
unfolding shape_checks noted
so_far_more t pages ns done l far pass =
    let p = passes (shape_checks t pages ns (before done) (length done + 1) (shape_of l)) pass in
    record {
      lanes = rw (before_append done l) (more_lanes (length done + 1) (before done).lanes (shape_of l) p.0 far.lanes);
      lines = omega (arith, length-append done (l ∷ []), few_more (length done + 1) _ p.0);
      distinct = rw (before_append done l) (more_distinct (before done) (shape_of l) (from_not (repeats (before done) (shape_of l)) p.1.1.1.1.1.0) far.distinct);
    }

far_from : (t : Topology) (pages : ℕ) (lines done rest : List (List ℕ)) → done ++ rest ≡ lines → first_fault (each_from (line_checks t pages lines) (length done) rest) ≡ None → SoFar done → SoFar lines
far_from t pages lines done [] parts pass far = let e : done ≡ lines = sym (append-nil done) ∙ parts in rw (← e) far
far_from t pages lines done (l ∷ rest) parts pass far =
    let p = none_parts (first_fault (line_checks t pages lines (length done) l)) (first_fault (each_from (line_checks t pages lines) (suc (length done)) rest))
    (sym (fault_append (line_checks t pages lines (length done) l) (each_from (line_checks t pages lines) (suc (length done)) rest)) ∙ pass) in
    let here : first_fault (shape_checks t pages (submitted_in t.near.nodes lines) (before done) (length done + 1) (shape_of l)) ≡ None =
    rw (checks_here t pages done l rest lines parts) at p.0 in
    let count : suc (length done) ≡ length (done ++ l ∷ []) = omega (arith, length-append done (l ∷ [])) in
    far_from t pages lines (done ++ l ∷ []) rest (append_assoc done (l ∷ []) rest ∙ parts) (rw count at p.1) (so_far_more t pages (submitted_in t.near.nodes lines) done l far here)

nothing_yet : SoFar []
unfolding before
nothing_yet = record { lanes = omega arith; lines = omega arith; distinct = tt }

pub far : (t : Topology) (pages : ℕ) (lines : List (List ℕ)) → first_fault (each_from (line_checks t pages lines) 0 lines) ≡ None → SoFar lines
far t pages lines pass = far_from t pages lines [] lines refl pass nothing_yet

-- ---- the lanes of these lines

lanes_count : (cs : List Controller) (n : ℕ) (ls : List (List ℕ)) → length (plans cs n ls) ≡ length (lanes_in ls)
lanes_count cs n [] = refl
lanes_count cs n (l ∷ ls) = elim (cases_Bool (begins_lane (shape_of l))) [
  | inl e ↦ rw e (omega (arith, lanes_count cs (n + 1) ls))
  | inr e ↦ rw e (lanes_count cs (n + 1) ls)
]

abbrev lines_in : List LanePlan → List Numbered1
lines_in plans = flat_map (λ plan. plan.lines) plans

one_most : {X Y : Type 0} (f : X → Y) (o : Option X) → length (option_to_list (option_map f o)) ≤ 1
one_most f None = omega arith
one_most f (Some x) = omega arith

abbrev pub numbered_by : ℕ → Line → Numbered1
numbered_by n x = record { number = n; line = x }

lines_count : (cs : List Controller) (n : ℕ) (ls : List (List ℕ)) → length (body cs n ls) + length (lines_in (plans cs n ls)) ≤ length ls
lines_count cs n [] = omega arith
lines_count cs n (l ∷ ls) =
    let rest = lines_count cs (n + 1) ls in
    elim (cases_Bool (begins_lane (shape_of l))) [
      | inl e ↦ rw e (omega (arith, rest, length-append (body cs (n + 1) ls) (lines_in (plans cs (n + 1) ls))))
      | inr e ↦ rw e (omega (arith, rest, one_most (numbered_by n) (line_of cs (shape_of l)), length-append (numbered cs n (shape_of l)) (body cs (n + 1) ls)))
    ]

-- ---- what they submit

no_submit : (s : Shape) → begins_lane s ≡ true → submitted_of s ≡ None
no_submit lane e = refl
no_submit keeper e = refl
no_submit _ e = absurd cc

finish_submits : (w : List ℕ) → submit_of (finish_of w) ≡ []
unfolding finish_of
finish_submits w = elim (cases_Bool (is_word w (codes "all"))) [ inl e ↦ rw e refl | inr e ↦ rw e refl ]

-- what is made of something submits nothing, where nothing that is made so does
none_submits : {X : Type 0} (n : ℕ) (f : X → Line) (o : Option X) → ((x : X) → submit_of (f x) ≡ []) → submits_of (option_to_list (option_map (numbered_by n) (option_map f o))) ≡ []
none_submits n f None none = refl
none_submits n f (Some x) none = rw (none x) refl

ctrl_submits : (n : ℕ) (o : Option ℕ) (s : Option CState) → submits_of (option_to_list (option_map (numbered_by n) (option_and_then (λ c. option_map (line.Ctrl c) s) o))) ≡ []
ctrl_submits n None s = refl
ctrl_submits n (Some c) s = none_submits n (line.Ctrl c) s (λ x. refl)

submits_one : (cs : List Controller) (n : ℕ) (s : Shape) → submits_of (numbered cs n s) ≡ option_to_list (submitted_of s)
unfolding line_of
submits_one cs n (submit r k) = refl
submits_one cs n (finish r) = rw (finish_submits r) refl
submits_one cs n (log c k) = none_submits n (λ p. line.Log p (value_of k)) (place_in cs c) (λ x. refl)
submits_one cs n (ctrl c s) = ctrl_submits n (place_in cs c) (cstate_named s)
submits_one cs n (anatt c) = none_submits n line.Anatt (place_in cs c) (λ x. refl)
submits_one cs n (add c k) = none_submits n (λ p. line.Add p (page_of k)) (place_in cs c) (λ x. refl)
submits_one cs n (remove c) = none_submits n line.Remove (place_in cs c) (λ x. refl)
submits_one cs n (policy p) = none_submits n line.Policy (policy_named p) (λ x. refl)
submits_one cs n _ = refl

submits_append : (xs ys : List Numbered1) → submits_of (xs ++ ys) ≡ submits_of xs ++ submits_of ys
submits_append [] ys = refl
submits_append (x ∷ xs) ys = rw (submits_append xs ys, append_assoc) refl

pub submits_all : (cs : List Controller) (n : ℕ) (ls : List (List ℕ)) → submits_of (body cs n ls) ++ submits_in (plans cs n ls) ≡ each_of submitted_of ls
submits_all cs n [] = refl
submits_all cs n (l ∷ ls) =
    let rest = submits_all cs (n + 1) ls in
    elim (cases_Bool (begins_lane (shape_of l))) [
      | inl e ↦ rw (e, no_submit (shape_of l) e) rest
      | inr e ↦ rw (e, submits_append (numbered cs n (shape_of l)) (body cs (n + 1) ls), submits_one cs n (shape_of l), append_assoc) (ap (λ (ns : List ℕ). option_to_list (submitted_of (shape_of l)) ++ ns) rest)
    ]

pub script_facts : (t : Topology) (pages : ℕ) (lines : List (List ℕ)) → first_fault (each_from (line_checks t pages lines) 0 lines) ≡ None → IsScript (script_of t.controllers lines)
unfolding script_of before
script_facts t pages lines pass =
    let f = far t pages lines pass in
    record {
      few_lanes = omega (arith, lanes_count t.controllers 1 lines, f.lanes);
      few_lines = omega (arith, lines_count t.controllers 1 lines, f.lines);
      distinct = distinct_behind (submits_of (body t.controllers 1 lines)) (submits_in (plans t.controllers 1 lines)) (rw (submits_all t.controllers 1 lines) f.distinct);
    }
