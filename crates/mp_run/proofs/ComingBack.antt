-- A flight that comes back uses up a scripted status of a path.
use Rattle.std.proofs.Common.{[], ◌≡◌, ℕ, ◌+◌, ◌-◌, ◌<◌, ◌≤◌, ◌||◌, Bool, true, false, ◌==◌, cond, List, ◌∷◌, ◌++◌, filter, find, length, Option, Some, None, unwrap_or, refl, sym, ap, ◌∙◌, subst, nat_lt, nat_le, arith, if◌then◌else◌}
use Rattle.std.specs.List.{last_or}
use Rattle.std.proofs.lemmas.Bool.{both_ways}
use Rattle.std.proofs.lemmas.Bool.Decides.{nat_tests}
use Rattle.mp_words.specs.declared.flight.Flight.{Flight}
use Rattle.mp_words.specs.declared.trying.Back.{Back}
use Rattle.mp_words.specs.Request.{Asked, Tried, attempts_of}
use Rattle.mp_status.specs.declared.class.Class.{Class}
use Rattle.mp_status.specs.declared.class.Class.TheVariants.{Complete, Failover, Retry}
use Rattle.mp_words.specs.declared.answers.Answer.{Answer}
use Rattle.mp_status.specs.Disposition.{disposition_of, is_path_related, is_ana, must_not_retry}
use Rattle.mp_status.specs.Statuses.{success, most_retries}
use Rattle.mp_legal.specs.Answers.{ends_hop, hop_statuses, class_of_hop}
use Rattle.mp_words.specs.Answers.{is_of, status_in, answer_for}
use Rattle.mp_legal.specs.PlainState.{State, request_of, with_tries}
use Rattle.mp_legal.specs.PlainFinish.{ended_tries, back_of, landed, finished}
use Rattle.mp_legal.specs.Numbers.{has_req, asked_at}
use Rattle.mp_run.proofs.Standing.{other_asked, this_asked}
use Rattle.mp_run.proofs.Coming.{left, left_fewer, left_less, is_open, attempts-append, attempts_ended, Grows, grown_stays, last_of_hop, last_some, Scripted, failover_scripted, listed, back_requests}

-- the answers that give a path's status
abbrev pub of_paths : List Answer → List Answer
of_paths answers = filter (λ a. is_path_related a.status) answers

-- a status that fails over is a path's
path_status : (status retries : ℕ) (ana : Bool) → disposition_of status retries ≡ Failover ana
    → is_path_related status ≡ true
path_status status retries ana is =
    by ((status == success) || must_not_retry status || nat_le most_retries retries) (is_path_related status) is
  where
    by : (b c : Bool) → (if b then Complete else (if c then Failover (is_ana status) else Retry)) ≡ Failover ana
        → c ≡ true
    by true c e = absurd cc
    by false true e = refl
    by false false e = absurd cc

-- what is found and passes is found among those that pass
found_kept : (p q : Answer → Bool) (xs : List Answer) (x : Answer) → find p xs ≡ Some x → q x ≡ true
    → find p (filter q xs) ≡ Some x
found_kept p q [] x is pass = absurd cc
found_kept p q (y ∷ xs) x is pass = by (p y) refl (q y) refl is (λ later. found_kept p q xs x later pass)
  where
    same : (a b : Answer) → Some a ≡ Some b → a ≡ b
    same a b e = cc

    by : (b : Bool) → p y ≡ b → (c : Bool) → q y ≡ c → cond b (Some y) (find p xs) ≡ Some x
        → (find p xs ≡ Some x → find p (filter q xs) ≡ Some x)
        → find p (cond c (y ∷ filter q xs) (filter q xs)) ≡ Some x
    by true hit true ok e later = ap (λ (b : Bool). cond b (Some y) (find p (filter q xs))) hit ∙ e
    by true hit false off e later = absurd (both_ways (q x) (ap q (sym (same y x e)) ∙ off) pass)
    by false miss true ok e later = ap (λ (b : Bool). cond b (Some y) (find p (filter q xs))) miss ∙ later e
    by false miss false off e later = later e

by_way : (answers : List Answer) (lane : ℕ) (s : State) (f : Flight) (before : List Tried) (statuses : List ℕ)
    (new : List Asked) (c : Class) (hop made : ℕ) → made ≡ attempts_of before
    → attempts_of (asked_at f.req s.requests).tries ≡ attempts_of before
    → attempts_of (asked_at f.req new).tries ≡ attempts_of before + length statuses
    → ((a : Answer) → is_open new a ≡ true → is_open s.requests a ≡ true)
    → last_or None statuses ≡ Some (answer_for answers f.req (made + 1 + length statuses - 1))
    → class_of_hop statuses ≡ c
    → length (listed (back_of lane s f hop c) f.req) + left (of_paths answers) new ≤ left (of_paths answers) s.requests
by_way answers lane s f before statuses new Complete hop made is_made old_is new_is stay last is = let fewer =
    left_fewer (of_paths answers) s.requests new stay in omega (arith, fewer)
by_way answers lane s f before statuses new Retry hop made is_made old_is new_is stay last is = let fewer = left_fewer
    (of_paths answers) s.requests new stay in omega (arith, fewer)
by_way answers lane s f before statuses new (Failover ana) hop made is_made old_is new_is stay last is =
    let some : 1 ≤ length statuses = last_some statuses _ last in
    let attempt : ℕ = made + 1 + length statuses - 1 in
    let says : disposition_of (answer_for answers f.req attempt) (length statuses - 1) ≡ Failover ana =
    ap (λ (o : Option ℕ). disposition_of (unwrap_or o 0) (length statuses - 1)) (sym last) ∙ is in
    let it : Scripted answers f.req attempt = failover_scripted answers f.req attempt (length statuses - 1) ana says in
    let of_path : is_path_related it.answer.status ≡ true =
    ap (λ (o : Option Answer). is_path_related (status_in o)) (sym it.found) ∙ path_status
    (answer_for answers f.req attempt) (length statuses - 1) ana says in
    let old_at : attempts_of (asked_at it.answer.req s.requests).tries ≡ attempts_of before =
    ap (λ n. attempts_of (asked_at n s.requests).tries) it.req_is ∙ old_is in
    let new_at : attempts_of (asked_at it.answer.req new).tries ≡ attempts_of before + length statuses =
    ap (λ n. attempts_of (asked_at n new).tries) it.req_is ∙ new_is in
    let was : is_open s.requests it.answer ≡ true =
    below (attempts_of (asked_at it.answer.req s.requests).tries) it.answer.attempt
    (omega (arith, old_at, it.attempt_is)) in
    let now : is_open new it.answer ≡ false =
    not_below (attempts_of (asked_at it.answer.req new).tries) it.answer.attempt
    (omega (arith, new_at, it.attempt_is)) in
    let less =
    left_less (of_paths answers) s.requests new (is_of f.req attempt) it.answer stay
    (found_kept (is_of f.req attempt) (λ a. is_path_related a.status) answers it.answer it.found of_path) was now in
    omega (arith, less)
  where
    below : (a b : ℕ) → a < b → nat_lt a b ≡ true
    below a b lt = grind (arith, nat_tests)

    not_below : (a b : ℕ) → b ≤ a → nat_lt a b ≡ false
    not_below a b le = grind (arith, nat_tests)

-- how a finish of a flight comes back
abbrev pub way_of : List Answer → ℕ → State → Flight → Option Back
way_of answers lane s f =
    back_of lane s f (length (request_of s f.req).tries)
    (class_of_hop (hop_statuses answers f.req (attempts_of (request_of s f.req).tries + 1)))

pub back_fewer : (answers : List Answer) (lane : ℕ) (s : State) (f : Flight) (before : List Tried) (t : Tried)
    → (asked_at f.req s.requests).tries ≡ before ++ t ∷ [] → t.statuses ≡ [] → has_req f.req s.requests ≡ true
    → length (listed (way_of answers lane s f) f.req) + left (of_paths answers) (finished answers lane s f).state.requests ≤ left (of_paths answers) s.requests
back_fewer answers lane s f before t were opened there =
    let tries : List Tried = (request_of s f.req).tries in
    let same : tries ≡ before ++ t ∷ [] = were in
    let attempts : attempts_of tries ≡ attempts_of before = let e = ap attempts_of same ∙ attempts-append before t in
    let none : length t.statuses ≡ 0 = ap length opened in omega (arith, e, none) in
    let statuses : List ℕ = hop_statuses answers f.req (attempts_of tries + 1) in
    let c : Class = class_of_hop statuses in
    let way : Option Back = back_of lane s f (length tries) c in
    let new : List Tried = ended_tries statuses way tries in
    let requests : (finished answers lane s f).state.requests ≡ with_tries f.req new s.requests =
    back_requests f way (landed f new s) in
    let own_new : attempts_of (asked_at f.req (with_tries f.req new s.requests)).tries ≡ attempts_of before + length
    statuses =
    ap (λ (a : Asked). attempts_of a.tries) (this_asked f.req new s.requests there) ∙ ap
    (λ (ts : List Tried). attempts_of (ended_tries statuses way ts)) same ∙ attempts_ended statuses way before t in
    let own_old : attempts_of (asked_at f.req s.requests).tries ≡ attempts_of before = attempts in
    let grows : Grows f.req (length statuses) s.requests (with_tries f.req new s.requests) = record {
      own = omega (arith, own_new, own_old);
      others = λ r other. other_asked r f.req new s.requests other;
    } in
    let stay = grown_stays f.req (length statuses) s.requests (with_tries f.req new s.requests) grows in
    subst
    (λ (rs : List Asked). length (listed way f.req) + left (of_paths answers) rs ≤ left (of_paths answers) s.requests)
    (sym requests)
    (by_way answers lane s f before statuses (with_tries f.req new s.requests) c (length tries) (attempts_of tries) attempts own_old own_new stay (last_of_hop (answer_for answers f.req) ends_hop 0 (attempts_of tries + 1) 5) refl)
