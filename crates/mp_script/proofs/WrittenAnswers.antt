-- The answers of the canonical text.
use Rattle.std.proofs.Common.{◌≡◌, ℕ, ◌+◌, ◌≤◌, true, false, ◌&&◌, List, [], ◌∷◌, ◌++◌, length, map, Some, refl, sym, ap, ◌∙◌, append_assoc, arith}
use Rattle.std.specs.Prelude.{not, nat_le, ◌==◌}
use Rattle.std.specs.List.{AllByRecursion, list_all, list_any}
use Rattle.std.specs.Fmt.{decimal}
use Rattle.std.proofs.lemmas.Bool.Decides.{nat_tests}
use Rattle.std.proofs.lemmas.List.{map-append, length-map}
use Rattle.mp_checks.specs.Checks.{AllPass}
use Rattle.mp_words.specs.declared.answers.Answer.{Answer}
use Rattle.mp_words.specs.Answers.{is_of, is_earlier, IsAnswer, IsRising}
use Rattle.mp_words.proofs.NameLaws.{status_read}
use Rattle.mp_topology.specs.declared.topology.Topology.{Topology}
use Rattle.mp_script.specs.Splitting.{number_of, value_of}
use Rattle.mp_script.specs.Shape.{Shape, answer, shape_of}
use Rattle.mp_script.specs.Wording.{has_numbers, is_named, is_submitted}
use Rattle.mp_script.specs.Before.{each_of, submitted_of, answer_of, lanes_in, before, repeats}
use Rattle.mp_script.specs.Lines.{shape_checks}
use Rattle.mp_script.specs.Written.{status_word}
use Rattle.mp_script.proofs.WrittenNumbers.{number_decimal, plain_decimal, plain_status}
use Rattle.mp_script.proofs.WrittenWords.{is_plain}
use Rattle.mp_script.proofs.WrittenShapes.{words_of_shape, text_of, shape_text}
use Rattle.mp_script.proofs.WrittenPass.{PassFrom, length_more}

-- what holds of an answer of a script
pub record IsWritten (a : Answer) : Type 0 where
  pub answer : IsAnswer a
  pub req : a.req ≤ 65535

abbrev pub answer_shape : Answer → Shape
answer_shape a = answer (decimal a.req) (decimal a.attempt) (status_word a.status)

abbrev pub answer_line : Answer → List ℕ
answer_line a = text_of (answer_shape a)

abbrev pub answer_lines : List Answer → List (List ℕ)
answer_lines answers = map answer_line answers

-- ---- one answer

req_read : (a : Answer) → IsWritten a → number_of (decimal a.req) ≡ Some a.req
req_read a is = number_decimal a.req (omega (arith, is.req))

attempt_read : (a : Answer) → IsWritten a → number_of (decimal a.attempt) ≡ Some a.attempt
attempt_read a is = number_decimal a.attempt (omega (arith, is.answer.most))

pub plain_answer : (a : Answer) → IsWritten a → list_all is_plain (words_of_shape (answer_shape a)) ≡ true
plain_answer a is =
    let r = plain_decimal a.req (omega (arith, is.req)) in
    let n = plain_decimal a.attempt (omega (arith, is.answer.most)) in
    let s = plain_status a.status in
    rw (r, n, s) refl

pub answer_read : (a : Answer) → IsWritten a → shape_of (answer_line a) ≡ answer_shape a
answer_read a is = shape_text (answer_shape a) refl (plain_answer a is)

answer_again : (a : Answer) → IsWritten a → answer_of (answer_shape a) ≡ Some a
answer_again a is = rw (req_read a is, attempt_read a is, status_read a.status (omega (arith, is.answer.status))) refl

answer_numbers : (nodes : ℕ) (a : Answer) → IsWritten a → has_numbers nodes (answer_shape a) ≡ true
unfolding has_numbers
answer_numbers nodes a is =
    let r : nat_le a.req 65535 ≡ true = grind (arith, nat_tests, is.req) in
    let z : nat_le 0 a.req ≡ true = grind (arith, nat_tests) in
    let n : nat_le 1 a.attempt ≡ true = grind (arith, nat_tests, is.answer.least) in
    let m : nat_le a.attempt 65535 ≡ true = grind (arith, nat_tests, is.answer.most) in
    let s : nat_le a.status 32767 ≡ true = grind (arith, nat_tests, is.answer.status) in
    rw (req_read a is, attempt_read a is, status_read a.status (omega (arith, is.answer.status)), z, r, n, m, s) refl

-- ---- all of them

pub answers_lanes : (answers : List Answer) → AllByRecursion IsWritten answers → lanes_in (answer_lines answers) ≡ []
answers_lanes [] h = refl
answers_lanes (a ∷ answers) h = rw (answer_read a h.0, answers_lanes answers h.1) refl

pub answers_submits : (answers : List Answer) → AllByRecursion IsWritten answers → each_of submitted_of (answer_lines answers) ≡ []
answers_submits [] h = refl
answers_submits (a ∷ answers) h = rw (answer_read a h.0, answers_submits answers h.1) refl

pub answers_again : (answers : List Answer) → AllByRecursion IsWritten answers → each_of answer_of (answer_lines answers) ≡ answers
answers_again [] h = refl
answers_again (a ∷ answers) h =
    let one : answer_of (shape_of (answer_line a)) ≡ Some a = ap answer_of (answer_read a h.0) ∙ answer_again a h.0 in
    rw (one, answers_again answers h.1) refl

all_front : {X : Type 0} (P : X → Type 0) (xs ys : List X) → AllByRecursion P (xs ++ ys) → AllByRecursion P xs
all_front P [] ys h = tt
all_front P (x ∷ xs) ys h = (h.0, all_front P xs ys h.1)

all_at : {X : Type 0} (P : X → Type 0) (xs ys : List X) (y : X) → AllByRecursion P (xs ++ y ∷ ys) → P y
all_at P [] ys y h = h.0
all_at P (x ∷ xs) ys y h = all_at P xs ys y h.1

apart_from : (a b : Answer) → is_earlier b.req b.attempt a ≡ true → is_of b.req b.attempt a ≡ false
apart_from a b e = grind (arith, nat_tests)

-- none before an answer is of its attempt
rising_apart : (front back : List Answer) (a : Answer) → IsRising (front ++ a ∷ back) → list_any (is_of a.req a.attempt) front ≡ false
rising_apart [] back a h = refl
rising_apart (x ∷ front) back a h =
    let here : is_of a.req a.attempt x ≡ false = apart_from x a (all_at (λ b. is_earlier b.req b.attempt x ≡ true) front back a h.0) in
    rw (here, rising_apart front back a h.1) refl

answer_passes : (t : Topology) (pages : ℕ) (submits : List ℕ) (front : List Answer) (a : Answer) → AllByRecursion IsWritten front → IsWritten a → length front + 1 ≤ 65536 → list_any (is_of a.req a.attempt) front ≡ false
    → AllPass (shape_checks t pages submits (before (answer_lines front)) (length (answer_lines front) + 1) (answer_shape a))
unfolding shape_checks before is_named is_submitted repeats
answer_passes t pages submits front a all is most apart =
    let few : nat_le (length (answer_lines front) + 1) 65536 ≡ true = grind (arith, nat_tests, most, length-map front answer_line) in
    let limit : nat_le (length (answer_lines front) + 1) 65536 && true ≡ true = rw few refl in
    let line : (length (lanes_in (answer_lines front)) == 0) ≡ true = rw (answers_lanes front all) refl in
    let again : not (list_any (is_of (value_of (decimal a.req)) (value_of (decimal a.attempt))) (each_of answer_of (answer_lines front))) ≡ true =
    rw (req_read a is, attempt_read a is, answers_again front all, apart) refl in
    (limit, (line, (refl, (answer_numbers t.near.nodes a is, (refl, (again, tt))))))

pub answers_pass : (t : Topology) (pages : ℕ) (submits : List ℕ) (front back : List Answer) → AllByRecursion IsWritten (front ++ back) → IsRising (front ++ back) → length front + length back ≤ 65536
    → PassFrom t pages submits (answer_lines front) (answer_lines back)
answers_pass t pages submits front [] all rising most = tt
answers_pass t pages submits front (a ∷ back) all rising most =
    let is = all_at IsWritten front back a all in
    let here = answer_passes t pages submits front a (all_front IsWritten front (a ∷ back) all) is (omega (arith, most)) (rising_apart front back a rising) in
    let moved : front ++ a ∷ back ≡ (front ++ a ∷ []) ++ back = sym (append_assoc front (a ∷ []) back) in
    let rest = answers_pass t pages submits (front ++ a ∷ []) back (rw moved at all) (rw moved at rising) (omega (arith, most, length_more front a)) in
    (rw (answer_read a is) here, rw map-append at rest)
