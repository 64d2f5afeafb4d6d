-- The answers that lines give, in order.
use Rattle.std.proofs.Common.{inl, inr, ◌≡◌, ℕ, suc, ◌+◌, ◌<◌, ◌≤◌, Bool, true, false, ◌&&◌, ◌||◌, List, [], ◌∷◌, ◌++◌, length, Option, Some, None, refl, sym, ap, subst, ◌∙◌, arith}
use Rattle.std.specs.Prelude.{nat_le, ◌==◌, is_some, unwrap_or}
use Rattle.std.specs.Option.{option_to_list}
use Rattle.std.specs.List.{AllByRecursion, list_any}
use Rattle.std.proofs.lemmas.Bool.{false≢true, cases_Bool, and_parts}
use Rattle.std.proofs.lemmas.Bool.Decides.{nat_tests}
use Rattle.std.proofs.lemmas.List.{length-append}
use Rattle.std.proofs.lemmas.List.Folds.{list_any-append}
use Rattle.mp_checks.specs.Checks.{AllPass, if_there}
use Rattle.mp_words.specs.declared.answers.Answer.{Answer}
use Rattle.mp_words.specs.Answers.{is_of, is_earlier, put_answer, in_order, IsAnswer, IsRising}
use Rattle.mp_words.proofs.Rising.{put_rising, any_in_order}
use Rattle.mp_topology.specs.declared.topology.Controller.{Controller}
use Rattle.mp_topology.specs.declared.topology.Topology.{Topology}
use Rattle.mp_script.specs.Splitting.{is_in, is_status, number_of, value_of, status_of}
use Rattle.mp_words.specs.Status.{status_in}
use Rattle.mp_script.specs.Shape.{Shape, skipped, unknown, answer, lane, keeper, submit, finish, requeue, log, ctrl, anatt, add, remove, reap, policy, shape_of}
use Rattle.mp_script.specs.Wording.{has_numbers}
use Rattle.mp_script.specs.Before.{begins_lane, each_of, answer_of, before, repeats}
use Rattle.mp_script.specs.Lines.{shape_checks}
use Rattle.mp_script.specs.Plans.{plans}
use Rattle.mp_script.proofs.WrittenWords.{from_not}
use Rattle.mp_script.proofs.WrittenShapes.{canon, text_of, in_range}
use Rattle.mp_script.proofs.WrittenLine.{is_kept, IsRight}
use Rattle.mp_script.proofs.WrittenPass.{PassFrom, kept_lines, kept_yes, kept_no, each_of_append}
use Rattle.mp_script.proofs.WrittenAnswers.{IsWritten, answer_line, answer_lines, answer_read}
use Rattle.mp_script.proofs.WrittenPlans.{AllRight, kept_read, plans_past}

-- ---- the answers, in order

length_put : (a : Answer) (xs : List Answer) → length (put_answer a xs) ≡ suc (length xs)
length_put a [] = refl
length_put a (x ∷ xs) = elim (cases_Bool (is_earlier a.req a.attempt x)) [
  | inl e ↦ rw (e, length_put a xs) refl
  | inr e ↦ rw e refl
]

pub length_in_order : (xs : List Answer) → length (in_order xs) ≡ length xs
length_in_order [] = refl
length_in_order (x ∷ xs) = length_put x (in_order xs) ∙ ap suc (length_in_order xs)

all_put : (P : Answer → Type 0) (a : Answer) (xs : List Answer) → P a → AllByRecursion P xs → AllByRecursion P (put_answer a xs)
all_put P a [] p h = (p, tt)
all_put P a (x ∷ xs) p h = elim (cases_Bool (is_earlier a.req a.attempt x)) [
  | inl e ↦ rw e (h.0, all_put P a xs p h.1)
  | inr e ↦ rw e (p, h)
]

pub all_in_order : (P : Answer → Type 0) (xs : List Answer) → AllByRecursion P xs → AllByRecursion P (in_order xs)
all_in_order P [] h = tt
all_in_order P (x ∷ xs) h = all_put P x (in_order xs) h.0 (all_in_order P xs h.1)

not_earlier : (a b : Answer) → is_earlier b.req b.attempt a ≡ true → is_earlier a.req a.attempt b ≡ false
not_earlier a b e = grind (arith, nat_tests)

put_first : (a : Answer) (xs : List Answer) → AllByRecursion (λ b. is_earlier b.req b.attempt a ≡ true) xs → put_answer a xs ≡ a ∷ xs
put_first a [] h = refl
put_first a (x ∷ xs) h = rw (not_earlier a x h.0) refl

pub rising_in_order : (xs : List Answer) → IsRising xs → in_order xs ≡ xs
rising_in_order [] h = refl
rising_in_order (x ∷ xs) h = rw (rising_in_order xs h.1) (put_first x xs h.0)

-- ---- the answers of lines

abbrev pub HasRequest : Answer → Type 0
HasRequest a = a.req ≤ 65535

abbrev pub OnAnswer : (Answer → Type 0) → Option Answer → Type 0
OnAnswer P None = Unit {0}
OnAnswer P (Some a) = P a

request_of : (nodes : ℕ) (r a s : List ℕ) → has_numbers nodes (answer r a s) ≡ true → value_of r ≤ 65535
unfolding has_numbers
request_of nodes r a s h = (in_range 0 65535 r (and_parts (is_in 0 65535 r) (is_in 1 65535 a && is_status s) h).0).1

or_last : (b : Bool) → b || true ≡ true
or_last true = refl
or_last false = refl

answer_right : (t : Topology) (pages : ℕ) (s : Shape) → IsRight t pages s → OnAnswer HasRequest (answer_of s)
answer_right t pages skipped right = tt
answer_right t pages unknown right = tt
answer_right t pages (answer r a s) right = request_of t.near.nodes r a s right.numbers
answer_right t pages lane right = tt
answer_right t pages keeper right = tt
answer_right t pages (submit r n) right = tt
answer_right t pages (finish r) right = tt
answer_right t pages requeue right = tt
answer_right t pages (log c k) right = tt
answer_right t pages (ctrl c s) right = tt
answer_right t pages (anatt c) right = tt
answer_right t pages (add c k) right = tt
answer_right t pages (remove c) right = tt
answer_right t pages reap right = tt
answer_right t pages (policy p) right = tt

pub one_more : (P : Answer → Type 0) (o : Option Answer) (xs : List Answer) → OnAnswer P o → AllByRecursion P xs → AllByRecursion P (option_to_list o ++ xs)
one_more P None xs p h = h
one_more P (Some a) xs p h = (p, h)

pub requests_right : (t : Topology) (pages : ℕ) (ls : List (List ℕ)) → AllRight t pages ls → AllByRecursion HasRequest (each_of answer_of ls)
requests_right t pages [] h = tt
requests_right t pages (l ∷ ls) h = one_more HasRequest (answer_of (shape_of l)) (each_of answer_of ls) (answer_right t pages (shape_of l) h.0) (requests_right t pages ls h.1)

pub both_written : (xs : List Answer) → AllByRecursion IsAnswer xs → AllByRecursion HasRequest xs → AllByRecursion IsWritten xs
both_written [] a b = tt
both_written (x ∷ xs) a b = (record { answer = a.0; req = b.0 }, both_written xs a.1 b.1)

kept_answer : (s : Shape) → is_kept s ≡ true → (answer_of s ≡ None) × (answer_of (canon s) ≡ None)
kept_answer skipped h = absurd (false≢true h)
kept_answer unknown h = absurd (false≢true h)
kept_answer (answer r a s) h = absurd (false≢true h)
kept_answer lane h = (refl, refl)
kept_answer keeper h = (refl, refl)
kept_answer (submit r n) h = (refl, refl)
kept_answer (finish r) h = (refl, refl)
kept_answer requeue h = (refl, refl)
kept_answer (log c k) h = (refl, refl)
kept_answer (ctrl c s) h = (refl, refl)
kept_answer (anatt c) h = (refl, refl)
kept_answer (add c k) h = (refl, refl)
kept_answer (remove c) h = (refl, refl)
kept_answer reap h = (refl, refl)
kept_answer (policy p) h = (refl, refl)

pub kept_answers : (t : Topology) (pages : ℕ) (ls : List (List ℕ)) → AllRight t pages ls → each_of answer_of (kept_lines ls) ≡ []
kept_answers t pages [] h = refl
kept_answers t pages (l ∷ ls) h = elim (cases_Bool (is_kept (shape_of l))) [
  | inl e ↦
      let one : answer_of (shape_of (text_of (canon (shape_of l)))) ≡ None = ap answer_of (kept_read t pages (shape_of l) h.0 e) ∙ (kept_answer (shape_of l) e).1 in
      rw (kept_yes l ls e, one) (kept_answers t pages ls h.1)
  | inr e ↦ rw (kept_no l ls e) (kept_answers t pages ls h.1)
]

at_most_one : {X : Type 0} (o : Option X) → length (option_to_list o) ≤ 1
at_most_one None = omega arith
at_most_one (Some x) = omega arith

-- each line makes one line at most
pub few_written : (ls : List (List ℕ)) → length (each_of answer_of ls) + length (kept_lines ls) ≤ length ls
few_written [] = omega arith
few_written (l ∷ ls) = elim (cases_Bool (is_kept (shape_of l))) [
  | inl e ↦
      let none : each_of answer_of (l ∷ ls) ≡ each_of answer_of ls = rw (kept_answer (shape_of l) e).0 refl in
      omega (arith, few_written ls, ap length none, ap length (kept_yes l ls e))
  | inr e ↦
      omega (arith, few_written ls, at_most_one (answer_of (shape_of l)), length-append (option_to_list (answer_of (shape_of l))) (each_of answer_of ls), ap length (kept_no l ls e))
]

pub plans_answers : (controllers : List Controller) (n : ℕ) (answers : List Answer) (ls : List (List ℕ)) → AllByRecursion IsWritten answers → plans controllers n (answer_lines answers ++ ls) ≡ plans controllers (n + length answers) ls
plans_answers controllers n [] ls h = let e : n ≡ n + 0 = omega arith in ap (λ m. plans controllers m ls) e
plans_answers controllers n (a ∷ answers) ls h =
    let other : begins_lane (shape_of (answer_line a)) ≡ false = ap begins_lane (answer_read a h.0) in
    let e : n + 1 + length answers ≡ n + suc (length answers) = omega arith in
    plans_past controllers n (answer_line a) (answer_lines answers ++ ls) other ∙ plans_answers controllers (n + 1) answers ls h.1 ∙ ap (λ m. plans controllers m ls) e

-- ---- the answers are in order, each attempt once

status_small : (o : Option ℕ) → is_some o && if_there (λ n. nat_le n 32767) o ≡ true → unwrap_or o 0 < 32768
status_small None h = absurd (false≢true h)
status_small (Some n) h = grind (arith, nat_tests)

in_above : (low high : ℕ) (o : Option ℕ) → is_some o && if_there (λ n. nat_le low n && nat_le n high) o ≡ true → (low ≤ unwrap_or o 0) × (unwrap_or o 0 ≤ high)
in_above low high None h = absurd (false≢true h)
in_above low high (Some n) h = (grind (arith, nat_tests), grind (arith, nat_tests))

abbrev pub answer_with : List ℕ → List ℕ → List ℕ → Answer
answer_with r a s = record { req = value_of r; attempt = value_of a; status = status_of s }

ranges_of : (nodes : ℕ) (r a s : List ℕ) → has_numbers nodes (answer r a s) ≡ true → IsAnswer (answer_with r a s)
unfolding has_numbers
ranges_of nodes r a s h =
    let p = and_parts (is_in 0 65535 r) (is_in 1 65535 a && is_status s) h in
    let q = and_parts (is_in 1 65535 a) (is_status s) p.1 in
    let range = in_above 1 65535 (number_of a) q.0 in
    record { least = range.0; most = range.1; status = status_small (status_in s) q.1 }

-- what holds of each answer of a line, where it holds of a line that is an answer
on_answer : (P : Answer → Type 0) (s : Shape) → ((r a w : List ℕ) → s ≡ answer r a w → P (answer_with r a w)) → OnAnswer P (answer_of s)
on_answer P skipped f = tt
on_answer P unknown f = tt
on_answer P (answer r a s) f = f r a s refl
on_answer P lane f = tt
on_answer P keeper f = tt
on_answer P (submit r n) f = tt
on_answer P (finish r) f = tt
on_answer P requeue f = tt
on_answer P (log c k) f = tt
on_answer P (ctrl c s) f = tt
on_answer P (anatt c) f = tt
on_answer P (add c k) f = tt
on_answer P (remove c) f = tt
on_answer P reap f = tt
on_answer P (policy p) f = tt

pub ranges_right : (t : Topology) (pages : ℕ) (ls : List (List ℕ)) → AllRight t pages ls → AllByRecursion IsAnswer (each_of answer_of ls)
ranges_right t pages [] h = tt
ranges_right t pages (l ∷ ls) h =
    one_more IsAnswer (answer_of (shape_of l)) (each_of answer_of ls)
    (on_answer IsAnswer (shape_of l) (λ r a w e. ranges_of t.near.nodes r a w (subst (λ s. has_numbers t.near.nodes s ≡ true) e h.0.numbers)))
    (ranges_right t pages ls h.1)

-- the answer is of an attempt that none of these is of
abbrev pub IsFresh : List Answer → Answer → Type 0
IsFresh xs a = list_any (is_of a.req a.attempt) xs ≡ false

fresh_words : (t : Topology) (pages : ℕ) (submits : List ℕ) (front : List (List ℕ)) (n : ℕ) (r a w : List ℕ) → AllPass (shape_checks t pages submits (before front) n (answer r a w)) → IsFresh (each_of answer_of front) (answer_with r a w)
unfolding shape_checks before repeats
fresh_words t pages submits front n r a w h = from_not (list_any (is_of (value_of r) (value_of a)) (each_of answer_of front)) h.1.1.1.1.1.0

fresh_line : (t : Topology) (pages : ℕ) (submits : List ℕ) (front : List (List ℕ)) (n : ℕ) (s : Shape) → AllPass (shape_checks t pages submits (before front) n s) → OnAnswer (IsFresh (each_of answer_of front)) (answer_of s)
fresh_line t pages submits front n s h =
    on_answer (IsFresh (each_of answer_of front)) s (λ r a w e. fresh_words t pages submits front n r a w (subst (λ s. AllPass (shape_checks t pages submits (before front) n s)) e h))

same_attempt : (x y a : Answer) → is_of x.req x.attempt y ≡ true → is_of y.req y.attempt a ≡ is_of x.req x.attempt a
same_attempt x y a e =
    let p = and_parts (y.req == x.req) (y.attempt == x.attempt) e in
    let r : y.req ≡ x.req = grind (arith, nat_tests) in
    let n : y.attempt ≡ x.attempt = grind (arith, nat_tests) in
    rw (r, n) refl

any_same : (x y : Answer) (xs : List Answer) → is_of x.req x.attempt y ≡ true → list_any (is_of y.req y.attempt) xs ≡ list_any (is_of x.req x.attempt) xs
any_same x y [] e = refl
any_same x y (a ∷ xs) e = rw (same_attempt x y a e, any_same x y xs e) refl

-- where one before is of the attempt of x, a fresh one is of another
fresh_other : (x y : Answer) (xs : List Answer) → list_any (is_of x.req x.attempt) xs ≡ true → IsFresh xs y → is_of x.req x.attempt y ≡ false
fresh_other x y xs there fresh = elim (cases_Bool (is_of x.req x.attempt y)) [
  | inl e ↦ absurd (false≢true (sym fresh ∙ any_same x y xs e ∙ there))
  | inr e ↦ e
]

still_there : (x : Answer) (front : List (List ℕ)) (l : List ℕ) → list_any (is_of x.req x.attempt) (each_of answer_of front) ≡ true → list_any (is_of x.req x.attempt) (each_of answer_of (front ++ l ∷ [])) ≡ true
still_there x front l there = rw (each_of_append, list_any-append, there) refl

none_with : (x : Answer) (o : Option Answer) (xs : List Answer) → OnAnswer (λ y. is_of x.req x.attempt y ≡ false) o → IsFresh xs x → IsFresh (option_to_list o ++ xs) x
none_with x None xs p h = h
none_with x (Some y) xs p h = rw (p, h) refl

weaker : (P Q : Answer → Type 0) (o : Option Answer) → ((y : Answer) → P y → Q y) → OnAnswer P o → OnAnswer Q o
weaker P Q None f h = tt
weaker P Q (Some y) f h = f y h

fresh_behind : (t : Topology) (pages : ℕ) (submits : List ℕ) (x : Answer) (front ls : List (List ℕ)) → list_any (is_of x.req x.attempt) (each_of answer_of front) ≡ true → PassFrom t pages submits front ls → IsFresh (each_of answer_of ls) x
fresh_behind t pages submits x front [] there h = refl
fresh_behind t pages submits x front (l ∷ ls) there h =
    none_with x (answer_of (shape_of l)) (each_of answer_of ls)
    (weaker (IsFresh (each_of answer_of front)) (λ y. is_of x.req x.attempt y ≡ false) (answer_of (shape_of l)) (λ y fresh. fresh_other x y (each_of answer_of front) there fresh)
    (fresh_line t pages submits front (length front + 1) (shape_of l) h.0))
    (fresh_behind t pages submits x (front ++ l ∷ []) ls (still_there x front l there) h.1)

of_itself : (x : Answer) → is_of x.req x.attempt x ≡ true
of_itself x =
    let r : (x.req == x.req) ≡ true = grind (arith, nat_tests) in
    let n : (x.attempt == x.attempt) ≡ true = grind (arith, nat_tests) in
    rw (r, n) refl

there_last : (x : Answer) (front : List (List ℕ)) (l : List ℕ) → answer_of (shape_of l) ≡ Some x → list_any (is_of x.req x.attempt) (each_of answer_of (front ++ l ∷ [])) ≡ true
there_last x front l e = rw (each_of_append, list_any-append, e, of_itself x) (or_last (list_any (is_of x.req x.attempt) (each_of answer_of front)))

rising_more : (o : Option Answer) (xs : List Answer) → IsRising (in_order xs) → ((x : Answer) → o ≡ Some x → IsFresh xs x) → IsRising (in_order (option_to_list o ++ xs))
rising_more None xs rising fresh = rising
rising_more (Some x) xs rising fresh = put_rising x (in_order xs) rising (any_in_order (is_of x.req x.attempt) xs ∙ fresh x refl)

pub answers_rise : (t : Topology) (pages : ℕ) (submits : List ℕ) (front ls : List (List ℕ)) → PassFrom t pages submits front ls → IsRising (in_order (each_of answer_of ls))
answers_rise t pages submits front [] h = tt
answers_rise t pages submits front (l ∷ ls) h =
    rising_more (answer_of (shape_of l)) (each_of answer_of ls) (answers_rise t pages submits (front ++ l ∷ []) ls h.1)
    (λ x e. fresh_behind t pages submits x (front ++ l ∷ []) ls (there_last x front l e) h.1)
