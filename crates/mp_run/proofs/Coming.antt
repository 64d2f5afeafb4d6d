-- The statuses of a script that are still to come.
use Rattle.std.proofs.Common.{[], ◌≡◌, ℕ, zero, suc, ◌+◌, ◌-◌, ◌<◌, ◌≤◌, Bool, true, false, ◌==◌, cond, List, ◌∷◌, ◌++◌, inl, inr, map, find, length, Option, Some, None, unwrap_or, refl, sym, ap, ◌∙◌, subst, append-nil, nat_lt, arith}
use Rattle.std.specs.List.{last_or, enumerate_from, range_with_len}
use Rattle.std.proofs.lemmas.Bool.{cases_Bool, eqb-true, and_parts}
use Rattle.std.proofs.lemmas.Bool.Decides.{nat_tests}
use Rattle.std.proofs.lemmas.List.{length-append}
use Rattle.std.proofs.lemmas.List.Sums.{sum_by-append}
use Rattle.mp_words.specs.declared.flight.Flight.{Flight}
use Rattle.mp_words.specs.declared.trying.Back.{Back}
use Rattle.mp_words.specs.declared.trying.Back.TheVariants as back
use Rattle.mp_words.specs.Request.{Asked, Tried, attempts_of, map_last}
use Rattle.mp_status.specs.declared.class.Class.{Class}
use Rattle.mp_status.specs.declared.class.Class.TheVariants.{Complete, Failover, Retry}
use Rattle.mp_words.specs.declared.answers.Answer.{Answer}
use Rattle.mp_status.specs.Disposition.{disposition_of}
use Rattle.mp_legal.specs.Answers.{ends_hop, hop_statuses, class_of_hop, through_first}
use Rattle.mp_words.specs.Answers.{is_of, status_in, answer_for}
use Rattle.mp_legal.specs.PlainState.{State, request_of, with_tries}
use Rattle.mp_legal.specs.PlainFinish.{ended_tries, ended_try, back_of, after_back, landed, finished}
use Rattle.mp_legal.specs.Numbers.{has_req, asked_at}
use Rattle.mp_run.proofs.Standing.{other_asked, this_asked}

-- the attempt of a scripted status is still to come
abbrev pub is_open : List Asked → Answer → Bool
is_open requests a = nat_lt (attempts_of (asked_at a.req requests).tries) a.attempt

-- how many scripted statuses are still to come
abbrev pub left : List Answer → List Asked → ℕ
left [] requests = 0
left (a ∷ answers) requests = cond (is_open requests a) (suc (left answers requests)) (left answers requests)

pub left_fewer : (answers : List Answer) (old new : List Asked) → ((a : Answer) → is_open new a ≡ true → is_open old a ≡ true) → left answers new ≤ left answers old
left_fewer [] old new stay = omega arith
left_fewer (a ∷ answers) old new stay =
    let more = left_fewer answers old new stay in
    elim (cases_Bool (is_open new a)) [
      | inl on ↦ rw (on, stay a on) (omega arith)
      | inr off ↦ rw off (elim (cases_Bool (is_open old a)) [ inl was ↦ rw was (omega arith) | inr never ↦ rw never more ])
    ]

pub left_less : (answers : List Answer) (old new : List Asked) (p : Answer → Bool) (x : Answer) → ((a : Answer) → is_open new a ≡ true → is_open old a ≡ true) → find p answers ≡ Some x
    → is_open old x ≡ true → is_open new x ≡ false → left answers new + 1 ≤ left answers old
left_less [] old new p x stay is was now = absurd cc
left_less (a ∷ answers) old new p x stay is was now =
    elim (cases_Bool (p a)) [
      | inl hit ↦ let e : Some a ≡ Some x = rw hit at is in let same : a ≡ x = cc in
          let was_a : is_open old a ≡ true = ap (is_open old) same ∙ was in
          let now_a : is_open new a ≡ false = ap (is_open new) same ∙ now in
          let more = left_fewer answers old new stay in
          rw (was_a, now_a) (omega arith)
      | inr miss ↦ let more = left_less answers old new p x stay (rw miss at is) was now in
          elim (cases_Bool (is_open new a)) [
            | inl on ↦ rw (on, stay a on) (omega arith)
            | inr off ↦ rw off (elim (cases_Bool (is_open old a)) [ inl was_open ↦ rw was_open (omega arith) | inr never ↦ rw never more ])
          ]
    ]

-- ---- attempts

pub attempts-append : (tries : List Tried) (t : Tried) → attempts_of (tries ++ t ∷ []) ≡ attempts_of tries + length t.statuses
attempts-append tries t =
    sum_by-append (λ (u : Tried). length u.statuses) tries (t ∷ []) ∙ ap (λ n. attempts_of tries + n) (single t)
  where
    single : (u : Tried) → attempts_of (u ∷ []) ≡ length u.statuses
    single u = omega arith

last-append : (f : Tried → Tried) (tries : List Tried) (t : Tried) → map_last f (tries ++ t ∷ []) ≡ tries ++ f t ∷ []
last-append f [] t = refl
last-append f (u ∷ []) t = refl
last-append f (u ∷ v ∷ tries) t = ap (λ (ts : List Tried). u ∷ ts) (last-append f (v ∷ tries) t)

pub attempts_ended : (statuses : List ℕ) (way : Option Back) (tries : List Tried) (t : Tried) → attempts_of (ended_tries statuses way (tries ++ t ∷ [])) ≡ attempts_of tries + length statuses
attempts_ended statuses way tries t = ap attempts_of (last-append (ended_try statuses way) tries t) ∙ attempts-append tries (ended_try statuses way t)

-- One request made so many more attempts.
pub record Grows (req more : ℕ) (old new : List Asked) : Type 0 where
  pub own : attempts_of (asked_at req new).tries ≡ attempts_of (asked_at req old).tries + more
  pub others : (r : ℕ) → (r == req) ≡ false → asked_at r new ≡ asked_at r old

lower : (a b n : ℕ) → a ≤ b → nat_lt b n ≡ true → nat_lt a n ≡ true
lower a b n le lt = grind (arith, nat_tests)

pub grown_stays : (req more : ℕ) (old new : List Asked) → Grows req more old new → (a : Answer) → is_open new a ≡ true → is_open old a ≡ true
grown_stays req more old new grows a on =
    elim (cases_Bool (a.req == req)) [
      | inl same ↦ let e : a.req ≡ req = eqb-true a.req req same in
          let le : attempts_of (asked_at a.req old).tries ≤ attempts_of (asked_at a.req new).tries =
          subst (λ n. attempts_of (asked_at n old).tries ≤ attempts_of (asked_at n new).tries) (sym e) (omega (arith, grows.own)) in
          lower (attempts_of (asked_at a.req old).tries) (attempts_of (asked_at a.req new).tries) a.attempt le on
      | inr other ↦ ap (λ (b : Asked). nat_lt (attempts_of b.tries) a.attempt) (sym (grows.others a.req other)) ∙ on
    ]

-- ---- the last status of a hop is that of its last attempt

pub last_of_hop : (g : ℕ → ℕ) (p : ℕ × ℕ → Bool) (k n m : ℕ)
    → last_or None (map (λ (r : ℕ × ℕ). r.1) (through_first p (enumerate_from k (map g (range_with_len n (suc m)))))) ≡ Some (g (n + length (map (λ (r : ℕ × ℕ). r.1) (through_first p (enumerate_from k (map g (range_with_len n (suc m)))))) - 1))
last_of_hop g p k n zero =
    let e : n ≡ n + 1 - 1 = omega arith in
    elim (cases_Bool (p (k, g n))) [
      | inl on ↦ rw on (ap (λ j. Some (g j)) e)
      | inr off ↦ rw off (ap (λ j. Some (g j)) e)
    ]
last_of_hop g p k n (suc m) =
    elim (cases_Bool (p (k, g n))) [
      | inl on ↦ let e : n ≡ n + 1 - 1 = omega arith in rw on (ap (λ j. Some (g j)) e)
      | inr off ↦ rw off (ends (g n) (through_first p (enumerate_from (k + 1) (map g (range_with_len (n + 1) (suc m))))) (last_of_hop g p (k + 1) (n + 1) m))
    ]
  where
    ends : (x : ℕ) (rs : List (ℕ × ℕ)) → last_or None (map (λ (r : ℕ × ℕ). r.1) rs) ≡ Some (g (n + 1 + length (map (λ (r : ℕ × ℕ). r.1) rs) - 1))
        → last_or None (x ∷ map (λ (r : ℕ × ℕ). r.1) rs) ≡ Some (g (n + length (x ∷ map (λ (r : ℕ × ℕ). r.1) rs) - 1))
    ends x [] is = absurd cc
    ends x (r ∷ rs) is =
        let e : n + 1 + suc (length (map (λ (q : ℕ × ℕ). q.1) rs)) - 1 ≡ n + suc (suc (length (map (λ (q : ℕ × ℕ). q.1) rs))) - 1 = omega arith in
        is ∙ ap (λ j. Some (g j)) e

found_passes : (p : Answer → Bool) (answers : List Answer) (x : Answer) → find p answers ≡ Some x → p x ≡ true
found_passes p [] x is = absurd cc
found_passes p (a ∷ answers) x is =
    elim (cases_Bool (p a)) [
      | inl hit ↦ let e : Some a ≡ Some x = rw hit at is in let same : a ≡ x = cc in subst (λ y. p y ≡ true) same hit
      | inr miss ↦ found_passes p answers x (rw miss at is)
    ]

-- a scripted status of this attempt of this request
pub record Scripted (answers : List Answer) (req attempt : ℕ) : Type 0 where
  pub answer : Answer
  pub found : find (is_of req attempt) answers ≡ Some answer
  pub req_is : answer.req ≡ req
  pub attempt_is : answer.attempt ≡ attempt

scripted : (answers : List Answer) (req attempt : ℕ) (x : Answer) → find (is_of req attempt) answers ≡ Some x → Scripted answers req attempt
scripted answers req attempt x is =
    let parts = and_parts (x.req == req) (x.attempt == attempt) (found_passes (is_of req attempt) answers x is) in
    record { answer = x; found = is; req_is = eqb-true x.req req parts.0; attempt_is = eqb-true x.attempt attempt parts.1 }

-- a status that fails over is scripted
pub failover_scripted : (answers : List Answer) (req attempt retries : ℕ) (ana : Bool) → disposition_of (answer_for answers req attempt) retries ≡ Failover ana → Scripted answers req attempt
failover_scripted answers req attempt retries ana is = by_found (find (is_of req attempt) answers) refl is
  where
    by_found : (o : Option Answer) → find (is_of req attempt) answers ≡ o → disposition_of (status_in o) retries ≡ Failover ana → Scripted answers req attempt
    by_found None found is = absurd cc
    by_found (Some x) found is = scripted answers req attempt x found

pub last_some : (statuses : List ℕ) (x : ℕ) → last_or None statuses ≡ Some x → 1 ≤ length statuses
last_some [] x is = absurd cc
last_some (y ∷ statuses) x is = omega arith

-- ---- the end of a flight

abbrev pub listed : Option Back → ℕ → List ℕ
listed None req = []
listed (Some way) req = req ∷ []

pub back_waiting : (f : Flight) (way : Option Back) (s : State) → (after_back f way s).waiting ≡ s.waiting ++ listed way f.req
back_waiting f None s = sym (append-nil s.waiting)
back_waiting f (Some back.Unset) s = refl
back_waiting f (Some (back.Set entry)) s = refl

pub back_requests : (f : Flight) (way : Option Back) (s : State) → (after_back f way s).requests ≡ s.requests
back_requests f None s = refl
back_requests f (Some back.Unset) s = refl
back_requests f (Some (back.Set entry)) s = refl

pub back_flights : (f : Flight) (way : Option Back) (s : State) → (after_back f way s).flights ≡ s.flights
back_flights f None s = refl
back_flights f (Some back.Unset) s = refl
back_flights f (Some (back.Set entry)) s = refl

-- those that wait, and the statuses that are still to come
abbrev pub to_come : List Answer → State → ℕ
to_come answers s = length s.waiting + left answers s.requests

by_way : (answers : List Answer) (lane : ℕ) (s : State) (f : Flight) (before : List Tried) (statuses : List ℕ) (new : List Asked) (c : Class) (hop made : ℕ) → made ≡ attempts_of before
    → attempts_of (asked_at f.req s.requests).tries ≡ attempts_of before → attempts_of (asked_at f.req new).tries ≡ attempts_of before + length statuses
    → ((a : Answer) → is_open new a ≡ true → is_open s.requests a ≡ true) → length (s.waiting ++ listed (back_of lane s f hop c) f.req) ≡ length s.waiting + length (listed (back_of lane s f hop c) f.req)
    → last_or None statuses ≡ Some (answer_for answers f.req (made + 1 + length statuses - 1)) → class_of_hop statuses ≡ c
    → length (s.waiting ++ listed (back_of lane s f hop c) f.req) + left answers new ≤ length s.waiting + left answers s.requests
by_way answers lane s f before statuses new Complete hop made is_made old_is new_is stay count last is = let fewer = left_fewer answers s.requests new stay in omega (arith, count, fewer)
by_way answers lane s f before statuses new Retry hop made is_made old_is new_is stay count last is = let fewer = left_fewer answers s.requests new stay in omega (arith, count, fewer)
by_way answers lane s f before statuses new (Failover ana) hop made is_made old_is new_is stay count last is =
    let some : 1 ≤ length statuses = last_some statuses _ last in
    let attempt : ℕ = made + 1 + length statuses - 1 in
    let says : disposition_of (answer_for answers f.req attempt) (length statuses - 1) ≡ Failover ana = ap (λ (o : Option ℕ). disposition_of (unwrap_or o 0) (length statuses - 1)) (sym last) ∙ is in
    let it : Scripted answers f.req attempt = failover_scripted answers f.req attempt (length statuses - 1) ana says in
    let old_at : attempts_of (asked_at it.answer.req s.requests).tries ≡ attempts_of before = ap (λ n. attempts_of (asked_at n s.requests).tries) it.req_is ∙ old_is in
    let new_at : attempts_of (asked_at it.answer.req new).tries ≡ attempts_of before + length statuses = ap (λ n. attempts_of (asked_at n new).tries) it.req_is ∙ new_is in
    let was : is_open s.requests it.answer ≡ true = below (attempts_of (asked_at it.answer.req s.requests).tries) it.answer.attempt (omega (arith, old_at, it.attempt_is)) in
    let now : is_open new it.answer ≡ false = not_below (attempts_of (asked_at it.answer.req new).tries) it.answer.attempt (omega (arith, new_at, it.attempt_is)) in
    let less = left_less answers s.requests new (is_of f.req attempt) it.answer stay it.found was now in
    omega (arith, count, less)
  where
    below : (a b : ℕ) → a < b → nat_lt a b ≡ true
    below a b lt = grind (arith, nat_tests)

    not_below : (a b : ℕ) → b ≤ a → nat_lt a b ≡ false
    not_below a b le = grind (arith, nat_tests)

by_class : (answers : List Answer) (lane : ℕ) (s : State) (f : Flight) (before : List Tried) (t : Tried) → (asked_at f.req s.requests).tries ≡ before ++ t ∷ [] → t.statuses ≡ [] → has_req f.req s.requests ≡ true
    → (request_of s f.req).tries ≡ before ++ t ∷ [] → attempts_of (request_of s f.req).tries ≡ attempts_of before
    → (c : Class) → class_of_hop (hop_statuses answers f.req (attempts_of (request_of s f.req).tries + 1)) ≡ c → to_come answers (finished answers lane s f).state ≤ to_come answers s
by_class answers lane s f before t were opened there same attempts c is =
    let tries : List Tried = (request_of s f.req).tries in
    let statuses : List ℕ = hop_statuses answers f.req (attempts_of tries + 1) in
    let way : Option Back = back_of lane s f (length tries) c in
    let new : List Tried = ended_tries statuses way tries in
    let left_s : State = landed f new s in
    let step : (finished answers lane s f).state ≡ after_back f way left_s =
    ap (λ (k : Class). after_back f (back_of lane s f (length tries) k) (landed f (ended_tries statuses (back_of lane s f (length tries) k) tries) s)) is in
    let requests : (finished answers lane s f).state.requests ≡ with_tries f.req new s.requests = ap (λ (u : State). u.requests) step ∙ back_requests f way left_s in
    let waiting : (finished answers lane s f).state.waiting ≡ s.waiting ++ listed way f.req = ap (λ (u : State). u.waiting) step ∙ back_waiting f way left_s in
    let own_new : attempts_of (asked_at f.req (with_tries f.req new s.requests)).tries ≡ attempts_of before + length statuses =
    ap (λ (a : Asked). attempts_of a.tries) (this_asked f.req new s.requests there) ∙ ap (λ (ts : List Tried). attempts_of (ended_tries statuses way ts)) same ∙ attempts_ended statuses way before t in
    let own_old : attempts_of (asked_at f.req s.requests).tries ≡ attempts_of before = attempts in
    let grows : Grows f.req (length statuses) s.requests (with_tries f.req new s.requests) = record {
      own = omega (arith, own_new, own_old);
      others = λ r other. other_asked r f.req new s.requests other;
    } in
    let stay = grown_stays f.req (length statuses) s.requests (with_tries f.req new s.requests) grows in
    let count : length (s.waiting ++ listed way f.req) ≡ length s.waiting + length (listed way f.req) = length-append s.waiting (listed way f.req) in
    rw (waiting, requests) (by_way answers lane s f before statuses (with_tries f.req new s.requests) c (length tries) (attempts_of tries) attempts own_old own_new stay count (last_of_hop (answer_for answers f.req) ends_hop 0 (attempts_of tries + 1) 5) is)

pub finish_fewer : (answers : List Answer) (lane : ℕ) (s : State) (f : Flight) (before : List Tried) (t : Tried) → (asked_at f.req s.requests).tries ≡ before ++ t ∷ [] → t.statuses ≡ [] → has_req f.req s.requests ≡ true
    → to_come answers (finished answers lane s f).state ≤ to_come answers s
finish_fewer answers lane s f before t were opened there =
    let tries : List Tried = (request_of s f.req).tries in
    let same : tries ≡ before ++ t ∷ [] = were in
    let attempts : attempts_of tries ≡ attempts_of before = let e = ap attempts_of same ∙ attempts-append before t in let none : length t.statuses ≡ 0 = ap length opened in omega (arith, e, none) in
    let statuses : List ℕ = hop_statuses answers f.req (attempts_of tries + 1) in
    by_class answers lane s f before t were opened there same attempts (class_of_hop statuses) refl
