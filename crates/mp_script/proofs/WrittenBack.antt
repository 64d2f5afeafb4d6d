-- The canonical text is read as the same script.
use Rattle.std.proofs.Common.{◌≡◌, ℕ, suc, ◌+◌, ◌≤◌, true, List, [], ◌∷◌, ◌++◌, length, map, None, Ok, refl, sym, ap, subst, ◌∙◌, arith}
use Rattle.std.specs.List.{AllByRecursion, flat_map, join_with_byte, list_all}
use Rattle.std.proofs.lemmas.Bool.{and_parts}
use Rattle.std.proofs.lemmas.List.{map-append, append-nil, length-append, length-map}
use Rattle.std.proofs.lemmas.List.Folds.{list_all-append}
use Rattle.mp_checks.specs.Checks.{AllPass, each_from, first_fault}
use Rattle.mp_checks.proofs.CheckLaws.{pass_split, pass_join, all_pass, no_fault, unless_ok}
use Rattle.mp_words.specs.declared.answers.Answer.{Answer}
use Rattle.mp_words.specs.Answers.{in_order, IsAnswer, IsRising}
use Rattle.mp_topology.specs.Facts.{IsTopology}
use Rattle.mp_topology.specs.declared.topology.Topology.{Topology}
use Rattle.mp_script.specs.Splitting.{is_script_byte, lines_of}
use Rattle.mp_script.specs.Before.{each_of, answer_of, submitted_of, submitted_in}
use Rattle.mp_script.specs.Lines.{byte_checks, line_checks}
use Rattle.mp_script.specs.Plans.{body, plans}
use Rattle.mp_script.specs.Script.{checks, script_of, script_in}
use Rattle.mp_script.specs.Written.{answer_words, plan_lines, line_text, line_words, script_lines, script_text, numbered_from, plans_from, renumbered, IsReadAs}
use Rattle.mp_script.specs.declared.script.Numbered1.{Numbered1}
use Rattle.mp_script.specs.declared.script.LanePlan.{LanePlan}
use Rattle.mp_script.specs.declared.script.Script.{Script}
use Rattle.mp_script.proofs.WrittenWords.{are_plain, are_short, text_short, lines_of_text, script_bytes}
use Rattle.mp_script.proofs.WrittenPass.{PassFrom, IsLike, from_checks, to_checks, pass_both, few_lines, kept_lines, kept_pass, each_of_append}
use Rattle.mp_script.proofs.WrittenAnswers.{IsWritten, answer_line, answer_lines, plain_answer, answers_lanes, answers_submits, answers_again, answers_pass}
use Rattle.mp_script.proofs.WrittenPlans.{AllRight, all_right, AreFirst, are_first, submitted_same, kept_submits, kept_plans, first_body, kept_words, joined_words, plain_kept, short_kept, length_kept, lane_written}
use Rattle.mp_script.proofs.WrittenOrder.{length_in_order, all_in_order, rising_in_order, HasRequest, requests_right, both_written, kept_answers, few_written, plans_answers, ranges_right, answers_rise}

-- ---- the bytes

bytes_pass : (i : ℕ) (bytes : List ℕ) → list_all is_script_byte bytes ≡ true → AllPass (each_from byte_checks i bytes)
unfolding byte_checks
bytes_pass i [] h = tt
bytes_pass i (b ∷ bytes) h =
    let p = and_parts (is_script_byte b) (list_all is_script_byte bytes) h in
    (p.0, bytes_pass (suc i) bytes p.1)

-- ---- the text

joined_answers : (answers : List Answer) → map (join_with_byte 32) (map answer_words answers) ≡ answer_lines answers
joined_answers [] = refl
joined_answers (a ∷ answers) = ap (λ ls. answer_line a ∷ ls) (joined_answers answers)

plain_answers : (answers : List Answer) → AllByRecursion IsWritten answers → are_plain (map answer_words answers) ≡ true
plain_answers [] h = refl
plain_answers (a ∷ answers) h = rw (plain_answer a h.0, plain_answers answers h.1) refl

-- the lines that the canonical text of these lines has
abbrev pub canon_lines : List (List ℕ) → List (List ℕ)
canon_lines ls = answer_lines (in_order (each_of answer_of ls)) ++ kept_lines ls

-- what holds of lines that pass
pub record IsPassed (t : Topology) (pages : ℕ) (ls : List (List ℕ)) : Type 0 where
  pub topology : IsTopology t
  pub passed : PassFrom t pages (submitted_in t.near.nodes ls) [] ls

right_of : (t : Topology) (pages : ℕ) (ls : List (List ℕ)) → IsPassed t pages ls → AllRight t pages ls
right_of t pages ls h = all_right t pages (submitted_in t.near.nodes ls) [] ls h.topology.nodes_most h.topology.names h.passed

first_of : (t : Topology) (pages : ℕ) (ls : List (List ℕ)) → IsPassed t pages ls → AreFirst ls
first_of t pages ls h = are_first t pages (submitted_in t.near.nodes ls) [] ls refl h.passed

rising_of : (t : Topology) (pages : ℕ) (ls : List (List ℕ)) → IsPassed t pages ls → IsRising (in_order (each_of answer_of ls))
rising_of t pages ls h = answers_rise t pages (submitted_in t.near.nodes ls) [] ls h.passed

written_of : (t : Topology) (pages : ℕ) (ls : List (List ℕ)) → IsPassed t pages ls → AllByRecursion IsWritten (in_order (each_of answer_of ls))
written_of t pages ls h =
    both_written (in_order (each_of answer_of ls)) (all_in_order IsAnswer (each_of answer_of ls) (ranges_right t pages ls (right_of t pages ls h))) (all_in_order HasRequest (each_of answer_of ls) (requests_right t pages ls (right_of t pages ls h)))

-- the words of the canonical lines
words_of_script : (t : Topology) (pages : ℕ) (ls : List (List ℕ)) → IsPassed t pages ls
    → script_lines t (script_of t.controllers ls) ≡ map answer_words (in_order (each_of answer_of ls)) ++ kept_words ls
unfolding script_of
words_of_script t pages ls h =
    let none = first_body t.controllers 1 ls (first_of t pages ls h) in
    let lanes : flat_map (plan_lines t) (plans t.controllers 1 ls) ≡ kept_words ls =
    ap (λ (ns : List Numbered1). map (λ l. line_words t l.line) ns ++ flat_map (plan_lines t) (plans t.controllers 1 ls)) (sym none) ∙ lane_written t pages ls 1 (right_of t pages ls h) in
    ap (λ ws. map answer_words (in_order (each_of answer_of ls)) ++ ws) lanes

plain_script : (t : Topology) (pages : ℕ) (ls : List (List ℕ)) → IsPassed t pages ls → are_plain (script_lines t (script_of t.controllers ls)) ≡ true
plain_script t pages ls h =
    ap are_plain (words_of_script t pages ls h)
    ∙ rw (list_all-append, plain_answers (in_order (each_of answer_of ls)) (written_of t pages ls h), plain_kept t pages ls (right_of t pages ls h)) refl

lines_of_script : (t : Topology) (pages : ℕ) (ls : List (List ℕ)) → IsPassed t pages ls → lines_of (script_text t (script_of t.controllers ls)) ≡ canon_lines ls
lines_of_script t pages ls h =
    lines_of_text (script_lines t (script_of t.controllers ls)) (plain_script t pages ls h)
    ∙ ap (map (join_with_byte 32)) (words_of_script t pages ls h)
    ∙ rw (map-append, joined_answers (in_order (each_of answer_of ls)), joined_words ls) refl

-- ---- the checks

canon_few : (t : Topology) (pages : ℕ) (ls : List (List ℕ)) → IsPassed t pages ls → length (in_order (each_of answer_of ls)) + length (kept_lines ls) ≤ 65536
canon_few t pages ls h =
    omega (arith, few_lines t pages (submitted_in t.near.nodes ls) [] ls (omega arith) h.passed, few_written ls, length_in_order (each_of answer_of ls))

short_answers : (answers : List Answer) → are_short (map answer_words answers) ≡ true
short_answers [] = refl
short_answers (a ∷ answers) = rw (short_answers answers) refl

-- the text isn't too long to be read
fits_of : (t : Topology) (pages : ℕ) (ls : List (List ℕ)) → IsPassed t pages ls → length (script_text t (script_of t.controllers ls)) ≤ 16777216
fits_of t pages ls h =
    let answers = in_order (each_of answer_of ls) in
    let words = map answer_words answers ++ kept_words ls in
    let short : are_short words ≡ true = rw (list_all-append, short_answers answers, short_kept ls) refl in
    let plain : are_plain words ≡ true = ap are_plain (sym (words_of_script t pages ls h)) ∙ plain_script t pages ls h in
    let many : length words ≡ length answers + length (kept_lines ls) = omega (arith, length-append (map answer_words answers) (kept_words ls), length-map answers answer_words, length_kept ls) in
    let text : length (script_text t (script_of t.controllers ls)) ≡ length (flat_map line_text words) = ap (λ ws. length (flat_map line_text ws)) (words_of_script t pages ls h) in
    omega (arith, text, text_short words plain short, many, canon_few t pages ls h)

canon_pass : (t : Topology) (pages : ℕ) (ls : List (List ℕ)) → IsPassed t pages ls → PassFrom t pages (submitted_in t.near.nodes ls) [] (canon_lines ls)
canon_pass t pages ls h =
    let answers = in_order (each_of answer_of ls) in
    let submits = submitted_in t.near.nodes ls in
    let written = written_of t pages ls h in
    let few = canon_few t pages ls h in
    let like : IsLike [] (answer_lines answers) = record { lanes = answers_lanes answers written; submits = answers_submits answers written } in
    let front = answers_pass t pages submits [] answers written (rising_of t pages ls h) (omega (arith, few)) in
    let back = kept_pass t pages submits [] (answer_lines answers) ls h.topology.nodes_most h.topology.names like (omega (arith, few, length-map answers answer_line)) h.passed in
    pass_both t pages submits [] (answer_lines answers) (kept_lines ls) front back

canon_right : (t : Topology) (pages : ℕ) (ls : List (List ℕ)) → IsPassed t pages ls → AllRight t pages (canon_lines ls)
canon_right t pages ls h = all_right t pages (submitted_in t.near.nodes ls) [] (canon_lines ls) h.topology.nodes_most h.topology.names (canon_pass t pages ls h)

canon_submits : (t : Topology) (pages : ℕ) (ls : List (List ℕ)) → IsPassed t pages ls → submitted_in t.near.nodes (canon_lines ls) ≡ submitted_in t.near.nodes ls
canon_submits t pages ls h =
    let answers = in_order (each_of answer_of ls) in
    let first = are_first t pages (submitted_in t.near.nodes ls) [] (canon_lines ls) refl (canon_pass t pages ls h) in
    submitted_same t pages (canon_lines ls) (canon_right t pages ls h) first
    ∙ each_of_append submitted_of (answer_lines answers) (kept_lines ls)
    ∙ ap (λ ns. ns ++ each_of submitted_of (kept_lines ls)) (answers_submits answers (written_of t pages ls h))
    ∙ kept_submits t pages ls (right_of t pages ls h)
    ∙ sym (submitted_same t pages ls (right_of t pages ls h) (first_of t pages ls h))

canon_checks : (t : Topology) (pages : ℕ) (ls : List (List ℕ)) → IsPassed t pages ls → AllPass (each_from (line_checks t pages (canon_lines ls)) 0 (canon_lines ls))
canon_checks t pages ls h =
    to_checks t pages (canon_lines ls) [] (canon_lines ls) refl
    (subst (λ submits. PassFrom t pages submits [] (canon_lines ls)) (sym (canon_submits t pages ls h)) (canon_pass t pages ls h))

text_checks : (t : Topology) (pages : ℕ) (ls : List (List ℕ)) → IsPassed t pages ls → AllPass (checks t pages (script_text t (script_of t.controllers ls)))
unfolding checks
text_checks t pages ls h =
    let text = script_text t (script_of t.controllers ls) in
    let bytes : AllPass (each_from byte_checks 0 text) = bytes_pass 0 text (script_bytes (script_lines t (script_of t.controllers ls)) (plain_script t pages ls h)) in
    let lines : AllPass (each_from (line_checks t pages (lines_of text)) 0 (lines_of text)) =
    subst (λ ls. AllPass (each_from (line_checks t pages ls) 0 ls)) (sym (lines_of_script t pages ls h)) (canon_checks t pages ls h) in
    pass_join (each_from byte_checks 0 text) (each_from (line_checks t pages (lines_of text)) 0 (lines_of text)) bytes lines

-- ---- the script

canon_script : (t : Topology) (pages : ℕ) (ls : List (List ℕ)) → IsPassed t pages ls → script_of t.controllers (canon_lines ls) ≡ renumbered (script_of t.controllers ls)
unfolding script_of
canon_script t pages ls h =
    let answers = in_order (each_of answer_of ls) in
    let written = written_of t pages ls h in
    let right = right_of t pages ls h in
    let again : each_of answer_of (canon_lines ls) ≡ answers =
    each_of_append answer_of (answer_lines answers) (kept_lines ls) ∙ rw (answers_again answers written, kept_answers t pages ls right, append-nil) refl in
    let ordered : in_order (each_of answer_of (canon_lines ls)) ≡ answers = ap in_order again ∙ rising_in_order answers (rising_of t pages ls h) in
    let none : 1 + length answers + length (body t.controllers 1 ls) ≡ length answers + 1 = omega (arith, ap length (first_body t.controllers 1 ls (first_of t pages ls h))) in
    let lanes : plans t.controllers 1 (canon_lines ls) ≡ plans_from (length answers + 1) (plans t.controllers 1 ls) =
    plans_answers t.controllers 1 answers (kept_lines ls) written
    ∙ kept_plans t pages ls (1 + length answers) 1 right
    ∙ ap (λ n. plans_from n (plans t.controllers 1 ls)) none in
    rw (ordered, lanes) refl

passed_lines : (t : Topology) (pages : ℕ) (bytes : List ℕ) → IsTopology t → first_fault (checks t pages bytes) ≡ None → IsPassed t pages (lines_of bytes)
unfolding checks
passed_lines t pages bytes topology h =
    let p = pass_split (each_from byte_checks 0 bytes) (each_from (line_checks t pages (lines_of bytes)) 0 (lines_of bytes)) (all_pass (checks t pages bytes) h) in
    record {
      topology = topology;
      passed = from_checks t pages (lines_of bytes) [] (lines_of bytes) refl p.1;
    }

again_of : (t : Topology) (pages : ℕ) (ls : List (List ℕ)) → IsPassed t pages ls → script_in t pages (script_text t (script_of t.controllers ls)) ≡ Ok (renumbered (script_of t.controllers ls))
unfolding script_in
again_of t pages ls h =
    rw (no_fault (checks t pages (script_text t (script_of t.controllers ls))) (text_checks t pages ls h), lines_of_script t pages ls h, canon_script t pages ls h) refl

-- the canonical text of a script that was read is read as this script
pub read_again : (t : Topology) (pages : ℕ) (bytes : List ℕ) (script : Script) → IsTopology t → script_in t pages bytes ≡ Ok script → IsReadAs t pages script (script_text t script)
unfolding script_in
read_again t pages bytes script topology h =
    let p = unless_ok (first_fault (checks t pages bytes)) (script_of t.controllers (lines_of bytes)) script h in
    let passed = passed_lines t pages bytes topology p.0 in
    subst (λ s. IsReadAs t pages s (script_text t s)) p.1 (record { short = fits_of t pages (lines_of bytes) passed; read = again_of t pages (lines_of bytes) passed })

-- the same of bytes that are this text
pub made_again : (t : Topology) (script : Script) (text : List ℕ) → text ≡ script_text t script → (pages : ℕ) (bytes : List ℕ) → IsTopology t → script_in t pages bytes ≡ Ok script → IsReadAs t pages script text
made_again t script text made pages bytes topology h = subst (IsReadAs t pages script) (sym made) (read_again t pages bytes script topology h)

-- ---- and writing it again gives the same text

same_lines : (t : Topology) (n : ℕ) (lines : List Numbered1) → map (λ l. line_words t l.line) (numbered_from n lines) ≡ map (λ l. line_words t l.line) lines
same_lines t n [] = refl
same_lines t n (l ∷ lines) = ap (λ ws. line_words t l.line ∷ ws) (same_lines t (n + 1) lines)

same_plans : (t : Topology) (n : ℕ) (plans : List LanePlan) → flat_map (plan_lines t) (plans_from n plans) ≡ flat_map (plan_lines t) plans
same_plans t n [] = refl
same_plans t n (plan ∷ plans) = rw (same_lines t (n + 1) plan.lines, same_plans t (n + 1 + length plan.lines) plans) refl

pub written_again : (t : Topology) (script : Script) → script_text t (renumbered script) ≡ script_text t script
written_again t script = rw (same_plans t (length script.answers + 1) script.lanes) refl
