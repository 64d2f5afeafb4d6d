-- A line more of a text.
use Rattle.std.proofs.Common.{inl, inr, ◌≡◌, ℕ, suc, ◌+◌, ◌<◌, Bool, true, false, List, [], ◌∷◌, ◌++◌, length, take, Option, Some, None, refl, sym, ap, ◌∙◌, append_assoc, zero-add, arith}
use Rattle.std.specs.Prelude.{◌||◌, ◌==◌, if◌then◌else◌, option_map, unwrap_or, IfSome}
use Rattle.std.specs.Option.{option_to_list}
use Rattle.std.specs.List.{list_all, list_any, last_or}
use Rattle.std.proofs.lemmas.Bool.{cases_Bool, and_parts}
use Rattle.std.proofs.lemmas.List.{append-nil, length-append}
use Rattle.mp_checks.specs.Checks.{first_fault, each_from, or_else}
use Rattle.mp_checks.specs.Marks.{HaveSame}
use Rattle.mp_checks.proofs.CheckLaws.{fault_append, each_append}
use Rattle.mp_words.specs.Answers.{in_order}
use Rattle.mp_topology.specs.declared.topology.Topology.{Topology}
use Rattle.mp_topology.specs.declared.topology.Controller.{Controller}
use Rattle.mp_script.specs.Splitting.{is_script_byte, lines_of, value_of}
use Rattle.mp_script.specs.Wording.{is_submitted}
use Rattle.mp_script.specs.Shape.{Shape, keeper, finish, shape_of}
use Rattle.mp_script.specs.Before.{Before, begins_lane, is_keeper, lanes_in, before, each_of, submitted_of, answer_of, in_lanes, right_submit, submitted_in}
use Rattle.mp_script.specs.Lines.{byte_checks, shape_checks, line_checks}
use Rattle.mp_script.specs.Plans.{numbered, body, plans}
use Rattle.mp_script.specs.Building.{IsEarlier, noted, with_lines, put}
use Rattle.mp_script.specs.declared.errors.ScriptError.{ScriptError}
use Rattle.mp_script.specs.declared.script.Numbered1.{Numbered1}
use Rattle.mp_script.specs.declared.script.LanePlan.{LanePlan}
use Rattle.mp_script.specs.declared.building.Building.{Building}
use Rattle.mp_script.specs.declared.progress.Progress.{Progress}
use Rattle.mp_script.proofs.Lanes.{each_of_append, parts_more, no_lines}
use Rattle.mp_script.proofs.Among.{own_more, earlier_among, passes_among, known_among}

-- ---- what stands before a line

pub lanes_append : (ls : List (List ℕ)) (l : List ℕ) → lanes_in (ls ++ l ∷ []) ≡ lanes_in ls ++ (if begins_lane (shape_of l) then shape_of l ∷ [] else [])
lanes_append [] l = elim (cases_Bool (begins_lane (shape_of l))) [ inl e ↦ rw e refl | inr e ↦ rw e refl ]
lanes_append (x ∷ ls) l = elim (cases_Bool (begins_lane (shape_of x))) [ inl e ↦ rw (e, lanes_append ls l) refl | inr e ↦ rw (e, lanes_append ls l) refl ]

last_more : (o : Option Shape) (xs : List Shape) (x : Shape) → last_or o (xs ++ x ∷ []) ≡ Some x
last_more o [] x = refl
last_more o (y ∷ xs) x = last_more (Some y) xs x

any_more : (xs : List Shape) (x : Shape) → list_any is_keeper (xs ++ x ∷ []) ≡ (list_any is_keeper xs || is_keeper x)
any_more [] x = elim (cases_Bool (is_keeper x)) [ inl e ↦ rw e refl | inr e ↦ rw e refl ]
any_more (y ∷ xs) x = elim (cases_Bool (is_keeper y)) [ inl e ↦ rw e refl | inr e ↦ rw e (any_more xs x) ]

more_length : (xs : List Shape) (x : Shape) → length (xs ++ x ∷ []) ≡ 1 + length xs
more_length [] x = refl
more_length (y ∷ xs) x = omega (arith, more_length xs x)

-- a keeper begins a lane
keeper_begins : (s : Shape) → begins_lane s ≡ false → is_keeper s ≡ false
keeper_begins keeper e = absurd cc
keeper_begins _ e = refl

pub or_false : (b : Bool) → b ≡ (b || false)
or_false true = refl
or_false false = refl

pub before_append : (ls : List (List ℕ)) (l : List ℕ) → before (ls ++ l ∷ []) ≡ noted (before ls) (shape_of l)
unfolding before noted
before_append ls l = elim (cases_Bool (begins_lane (shape_of l))) [
  | inl e ↦ rw (lanes_append ls l, each_of_append submitted_of ls l, each_of_append answer_of ls l, e, more_length (lanes_in ls) (shape_of l), last_more None (lanes_in ls) (shape_of l), any_more (lanes_in ls) (shape_of l)) refl
  | inr e ↦ rw (lanes_append ls l, each_of_append submitted_of ls l, each_of_append answer_of ls l, e, append-nil, zero-add (length (lanes_in ls)), keeper_begins (shape_of l) e, ← or_false (list_any is_keeper (lanes_in ls))) refl
]

-- ---- the lanes so far, and what is left

abbrev pub lanes_from : List Controller → Building → ℕ → List (List ℕ) → List LanePlan
lanes_from cs b n rest = b.done ++ (option_to_list (option_map (with_lines (body cs n rest)) b.current) ++ plans cs n rest)

no_more : (o : Option LanePlan) → option_map (with_lines []) o ≡ o
no_more None = refl
no_more (Some p) = rw append-nil refl

more_twice : (ns ms : List Numbered1) (o : Option LanePlan) → option_map (with_lines ms) (option_map (with_lines ns) o) ≡ option_map (with_lines (ns ++ ms)) o
more_twice ns ms None = refl
more_twice ns ms (Some p) = rw append_assoc refl

pub lanes_step : (cs : List Controller) (b : Building) (n : ℕ) (l : List ℕ) (rest : List (List ℕ)) → lanes_from cs (put cs b n (shape_of l)) (n + 1) rest ≡ lanes_from cs b n (l ∷ rest)
unfolding put
lanes_step cs b n l rest = elim (cases_Bool (begins_lane (shape_of l))) [
  | inl e ↦ rw (e, no_more b.current, append_assoc) refl
  | inr e ↦ rw (e, more_twice (numbered cs n (shape_of l)) (body cs (n + 1) rest) b.current) refl
]

-- ---- a text read so far

-- The lines so far and those that are left are the text's. No line so far has a fault, and what was read of them is right.
pub record IsAt (t : Topology) (pages : ℕ) (bytes rest : List ℕ) (r : Progress) : Type 0 where
  pub done : List (List ℕ)
  pub parts : done ++ lines_of rest ≡ lines_of bytes
  pub number : r.number ≡ length done
  pub pass : first_fault (each_from (line_checks t pages (lines_of bytes)) 0 done) ≡ None
  pub known : IsEarlier r.earlier (before done)
  pub lanes : lanes_from t.controllers r.building (r.number + 1) (lines_of rest) ≡ plans t.controllers 1 (lines_of bytes)
  pub own : each_of submitted_of done ≡ each_of (right_submit t.near.nodes) (in_lanes done)

take_done : (done : List (List ℕ)) (l : List ℕ) (rest : List (List ℕ)) → take (length done) (done ++ l ∷ rest) ≡ done
take_done [] l rest = refl
take_done (x ∷ done) l rest = ap (λ (ls : List (List ℕ)). x ∷ ls) (take_done done l rest)

-- the checks of the next line are those of its words behind what stands before it
pub checks_here : (t : Topology) (pages : ℕ) (done : List (List ℕ)) (l : List ℕ) (rest lines : List (List ℕ)) → done ++ l ∷ rest ≡ lines
    → line_checks t pages lines (length done) l ≡ shape_checks t pages (submitted_in t.near.nodes lines) (before done) (length done + 1) (shape_of l)
unfolding line_checks
checks_here t pages done l rest lines parts = rw (← parts, take_done done l rest) refl

each_here : {E : Type 0} (f : ℕ → List ℕ → List (Bool × E)) (done : List (List ℕ)) (l : List ℕ) (rest : List (List ℕ))
    → first_fault (each_from f 0 (done ++ l ∷ rest)) ≡ or_else (first_fault (each_from f 0 done)) (or_else (first_fault (f (length done) l)) (first_fault (each_from f (suc (length done)) rest)))
each_here f done l rest = ap first_fault (each_append f 0 done (l ∷ rest)) ∙ rw (fault_append, fault_append, zero-add) refl

-- the first fault is that of the next line
pub stops_here : {E : Type 0} (f : ℕ → List ℕ → List (Bool × E)) (done : List (List ℕ)) (l : List ℕ) (rest lines : List (List ℕ)) (fault : E) → done ++ l ∷ rest ≡ lines
    → first_fault (each_from f 0 done) ≡ None → first_fault (f (length done) l) ≡ Some fault → first_fault (each_from f 0 lines) ≡ Some fault
stops_here f done l rest lines fault parts pass here = rw (← parts) (each_here f done l rest ∙ rw (pass, here) refl)

-- the next line has no fault either
pub goes_on_here : {E : Type 0} (f : ℕ → List ℕ → List (Bool × E)) (done : List (List ℕ)) (l : List ℕ) → first_fault (each_from f 0 done) ≡ None → first_fault (f (length done) l) ≡ None → first_fault (each_from f 0 (done ++ l ∷ [])) ≡ None
goes_on_here f done l pass here = each_here f done l [] ∙ rw (pass, here) refl

lines_parts : (done : List (List ℕ)) (line rest after bytes : List ℕ) → lines_of rest ≡ line ∷ lines_of after → done ++ lines_of rest ≡ lines_of bytes → done ++ line ∷ lines_of after ≡ lines_of bytes
lines_parts done line rest after bytes cut parts = ap (λ (ls : List (List ℕ)). done ++ ls) (sym cut) ∙ parts

-- the checks look at which requests are submitted alone
submitted_same : (ms ns : List ℕ) (s : Shape) → HaveSame ms ns → is_submitted ms s ≡ is_submitted ns s
unfolding is_submitted
submitted_same ms ns (finish r) same = rw (same (value_of r)) refl
submitted_same ms ns _ same = refl

same_checks : (t : Topology) (pages : ℕ) (ms ns : List ℕ) (b : Before) (n : ℕ) (s : Shape) → HaveSame ms ns → shape_checks t pages ms b n s ≡ shape_checks t pages ns b n s
unfolding shape_checks
same_checks t pages ms ns b n s same = rw (submitted_same ms ns s same) refl

pub at_stops : (t : Topology) (pages : ℕ) (bytes rest line after submits : List ℕ) (r : Progress) (fault : ScriptError) (s : Shape) → IsAt t pages bytes rest r → lines_of rest ≡ line ∷ lines_of after → s ≡ shape_of line
    → HaveSame submits (submitted_in t.near.nodes (lines_of bytes))
    → ((b : Before) → IsEarlier r.earlier b → first_fault (shape_checks t pages submits b (r.number + 1) s) ≡ Some fault)
    → first_fault (each_from (line_checks t pages (lines_of bytes)) 0 (lines_of bytes)) ≡ Some fault
at_stops t pages bytes rest line after submits r fault s at cut is same refused =
    let parts = lines_parts at.done line rest after bytes cut at.parts in
    let fails : first_fault (shape_checks t pages submits (before at.done) (r.number + 1) (shape_of line)) ≡ Some fault = rw is at (refused (before at.done) at.known) in
    let here : first_fault (line_checks t pages (lines_of bytes) (length at.done) line) ≡ Some fault =
    rw (checks_here t pages at.done line (lines_of after) (lines_of bytes) parts, ← at.number) (ap first_fault (sym (same_checks t pages submits (submitted_in t.near.nodes (lines_of bytes)) (before at.done) (r.number + 1) (shape_of line) same)) ∙ fails) in
    stops_here (line_checks t pages (lines_of bytes)) at.done line (lines_of after) (lines_of bytes) fault parts at.pass here

pub at_more : (t : Topology) (pages : ℕ) (bytes rest line after : List ℕ) (o : Option (List ℕ)) (r next : Progress) (s : Shape) → IsAt t pages bytes rest r → lines_of rest ≡ line ∷ lines_of after → s ≡ shape_of line
    → IfSome o (λ all. HaveSame all (submitted_in t.near.nodes (lines_of bytes)))
    → ((b : Before) → IsEarlier r.earlier b → first_fault (shape_checks t pages (unwrap_or o r.earlier.submitted) b (r.number + 1) s) ≡ None)
    → ((b : Before) → IsEarlier r.earlier b → IsEarlier next.earlier (noted b s))
    → next.building ≡ put t.controllers r.building (r.number + 1) s → next.number ≡ r.number + 1 → IsAt t pages bytes after next
at_more t pages bytes rest line after o r next s at cut is all passed known building number =
    let full = submitted_in t.near.nodes (lines_of bytes) in
    let submits = unwrap_or o r.earlier.submitted in
    let among = known_among o r.earlier.submitted full all (earlier_among t.near.nodes bytes rest at.done r.earlier at.parts at.own at.known) in
    let pass : first_fault (shape_checks t pages submits (before at.done) (r.number + 1) (shape_of line)) ≡ None = rw is at (passed (before at.done) at.known) in
    let parts = lines_parts at.done line rest after bytes cut at.parts in
    let here : first_fault (line_checks t pages (lines_of bytes) (length at.done) line) ≡ None =
    rw (checks_here t pages at.done line (lines_of after) (lines_of bytes) parts, ← at.number) (passes_among t pages submits full (before at.done) (r.number + 1) (shape_of line) among pass) in
    record {
      done = at.done ++ line ∷ [];
      parts = parts_more at.done line rest after bytes cut at.parts;
      number = omega (arith, number, at.number, length-append at.done (line ∷ []));
      pass = goes_on_here (line_checks t pages (lines_of bytes)) at.done line at.pass here;
      known = rw (before_append at.done line, ← is) (known (before at.done) at.known);
      lanes = rw (building, number, is) (lanes_step t.controllers r.building (r.number + 1) line (lines_of after) ∙ ap (lanes_from t.controllers r.building (r.number + 1)) (sym cut) ∙ at.lanes);
      own = own_more t pages submits at.done (r.number + 1) line at.own pass;
    }

pub at_start : (t : Topology) (pages : ℕ) (bytes : List ℕ) (r : Progress) → r.number ≡ 0 → IsEarlier r.earlier (before []) → r.building.done ≡ [] → r.building.current ≡ None → IsAt t pages bytes bytes r
at_start t pages bytes r number known none idle = record {
  done = [];
  parts = refl;
  number = number;
  pass = refl;
  known = known;
  lanes = rw (number, none, idle) refl;
  own = refl;
}

-- at the end of the text
pub at_end : (t : Topology) (pages : ℕ) (bytes rest : List ℕ) (r : Progress) → IsAt t pages bytes rest r → true ≡ (length rest == 0)
    → (first_fault (each_from (line_checks t pages (lines_of bytes)) 0 (lines_of bytes)) ≡ None) × (r.earlier.answered ≡ in_order (each_of answer_of (lines_of bytes)))
    × (r.building.done ++ option_to_list r.building.current ≡ plans t.controllers 1 (lines_of bytes)) × (length (lines_of bytes) ≡ r.number)
unfolding before
at_end t pages bytes rest r at over =
    let none = no_lines rest over in
    let all : at.done ≡ lines_of bytes = sym (append-nil at.done) ∙ ap (λ (ls : List (List ℕ)). at.done ++ ls) (sym none) ∙ at.parts in
    (ap (λ (ls : List (List ℕ)). first_fault (each_from (line_checks t pages (lines_of bytes)) 0 ls)) (sym all) ∙ at.pass, rw (← all) at.known.answered, rw (none, no_more r.building.current, append-nil) at at.lanes, omega (arith, ap length all, at.number))

-- ---- checks of each line by itself

-- the lines so far have no fault
pub record ArePassed (f : ℕ → List ℕ → List (Bool × ScriptError)) (bytes rest : List ℕ) (count : ℕ) : Type 0 where
  pub done : List (List ℕ)
  pub parts : done ++ lines_of rest ≡ lines_of bytes
  pub number : count ≡ length done
  pub pass : first_fault (each_from f 0 done) ≡ None

pub passed_start : (f : ℕ → List ℕ → List (Bool × ScriptError)) (bytes : List ℕ) → ArePassed f bytes bytes 0
passed_start f bytes = record { done = []; parts = refl; number = refl; pass = refl }

pub passed_more : (f : ℕ → List ℕ → List (Bool × ScriptError)) (bytes rest line after : List ℕ) (number : ℕ) → ArePassed f bytes rest number → lines_of rest ≡ line ∷ lines_of after → first_fault (f number line) ≡ None → ArePassed f bytes after (number + 1)
passed_more f bytes rest line after number p cut here = record {
  done = p.done ++ line ∷ [];
  parts = parts_more p.done line rest after bytes cut p.parts;
  number = omega (arith, p.number, length-append p.done (line ∷ []));
  pass = goes_on_here f p.done line p.pass (rw p.number at here);
}

pub passed_stops : (f : ℕ → List ℕ → List (Bool × ScriptError)) (bytes rest line after : List ℕ) (number : ℕ) (fault : ScriptError) → ArePassed f bytes rest number → lines_of rest ≡ line ∷ lines_of after → first_fault (f number line) ≡ Some fault
    → first_fault (each_from f 0 (lines_of bytes)) ≡ Some fault
passed_stops f bytes rest line after number fault p cut here =
    stops_here f p.done line (lines_of after) (lines_of bytes) fault (lines_parts p.done line rest after bytes cut p.parts) p.pass (rw p.number at here)

pub passed_all : (f : ℕ → List ℕ → List (Bool × ScriptError)) (bytes rest : List ℕ) (number : ℕ) → ArePassed f bytes rest number → true ≡ (length rest == 0) → first_fault (each_from f 0 (lines_of bytes)) ≡ None
passed_all f bytes rest number p over =
    let all : p.done ≡ lines_of bytes = sym (append-nil p.done) ∙ ap (λ (ls : List (List ℕ)). p.done ++ ls) (sym (no_lines rest over)) ∙ p.parts in
    rw (← all) p.pass

-- there are no more lines so far than there are
pub passed_fits : (f : ℕ → List ℕ → List (Bool × ScriptError)) (bytes rest line after : List ℕ) (number : ℕ) → ArePassed f bytes rest number → lines_of rest ≡ line ∷ lines_of after → number < length (lines_of bytes)
passed_fits f bytes rest line after number p cut =
    let parts = lines_parts p.done line rest after bytes cut p.parts in
    omega (arith, p.number, ap length parts, length-append p.done (line ∷ lines_of after))

-- bytes of which each may stand in a script
pub bytes_all : (i : ℕ) (bs : List ℕ) → list_all is_script_byte bs ≡ true → first_fault (each_from byte_checks i bs) ≡ None
unfolding byte_checks
bytes_all i [] h = refl
bytes_all i (b ∷ bs) h =
    let p = and_parts (is_script_byte b) (list_all is_script_byte bs) h in
    rw p.0 (bytes_all (suc i) bs p.1)
