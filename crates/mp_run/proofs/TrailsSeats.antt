-- Where requests are: each that was sent flies once, and each that waits stands in the queue once.
use Rattle.std.proofs.Common.{[], ◌≡◌, ℕ, suc, ◌+◌, ◌<◌, ◌≤◌, Bool, true, false, not, ◌&&◌, ◌==◌, cond, List, ◌∷◌, ◌++◌, inl, inr, map, filter, length, get_or, set, None, refl, sym, ap, ◌∙◌, subst, eq-eqb, arith}
use Rattle.std.specs.List.{last_or, sum_by}
use Rattle.std.proofs.lemmas.Bool.{cases_Bool, eqb-true}
use Rattle.std.proofs.lemmas.Bool.Decides.{nat_tests}
use Rattle.std.proofs.lemmas.List.{length-set, map-append}
use Rattle.std.proofs.lemmas.List.Sums.{sum_by-set}
use Rattle.mp_words.specs.declared.flight.Flight.{Flight}
use Rattle.mp_words.specs.declared.trying.Outcome.{Outcome}
use Rattle.mp_words.specs.declared.trying.Outcome.TheVariants as outcome
use Rattle.mp_words.specs.Request.{Asked, Tried, outcome_of}
use Rattle.mp_legal.specs.PlainState.{with_tries}
use Rattle.mp_legal.specs.Numbers.{has_req, standing}
use Rattle.mp_run.specs.Sound.{AreOf}
use Rattle.mp_run.proofs.Changes.{each_lane, has_with_tries, of-append, of-filter, stands_other}
use Rattle.mp_run.proofs.Standing.{this_asked}
use Rattle.mp_run.proofs.TurnFacts.{count}

-- what holds of one number, and of each other
pub one_and_others : (P : ℕ → Type 0) (q : ℕ) → P q → ((r : ℕ) → (r == q) ≡ false → P r) → (r : ℕ) → P r
one_and_others P q own others r =
    elim (cases_Bool (r == q)) [
      | inl same ↦ subst P (sym (eqb-true r q same)) own
      | inr other ↦ others r other
    ]

pub apart : (r q : ℕ) → (r == q) ≡ false → (q == r) ≡ false
apart r q e = grind (arith, nat_tests)

-- ---- how often a number stands

pub count_append : (n : ℕ) (xs ys : List ℕ) → count n (xs ++ ys) ≡ count n xs + count n ys
count_append n [] ys = omega arith
count_append n (x ∷ xs) ys =
    let more = count_append n xs ys in
    elim (cases_Bool (x == n)) [ inl on ↦ rw on (omega arith) | inr off ↦ rw off (omega arith) ]

count_cons : (n x : ℕ) (xs : List ℕ) → count n (x ∷ xs) ≡ cond (x == n) 1 0 + count n xs
count_cons n x xs = elim (cases_Bool (x == n)) [ inl on ↦ rw on (omega arith) | inr off ↦ rw off (omega arith) ]

pub count_between : (n q : ℕ) (xs ys : List ℕ) → count n (xs ++ q ∷ ys) ≡ count n (xs ++ ys) + cond (q == n) 1 0
count_between n q xs ys = omega (arith, count_append n xs (q ∷ ys), count_append n xs ys, count_cons n q ys)

-- how often a request is among flights
abbrev pub flown : ℕ → List Flight → ℕ
flown r fs = count r (map (λ f. f.req) fs)

flown_append : (r : ℕ) (fs : List Flight) (f : Flight) → flown r (fs ++ f ∷ []) ≡ flown r fs + cond (f.req == r) 1 0
flown_append r fs f =
    ap (count r) (map-append (λ (g : Flight). g.req) fs (f ∷ [])) ∙ count_append r (map (λ (g : Flight). g.req) fs) (f.req ∷ [])
    ∙ ap (λ n. flown r fs + n) (let e = count_cons r f.req [] in omega (arith, e))

flown_without : (r q : ℕ) (fs : List Flight) → flown r (filter (λ g. not (g.req == q)) fs) ≡ cond (r == q) 0 (flown r fs)
flown_without r q [] = elim (cases_Bool (r == q)) [ inl on ↦ rw on refl | inr off ↦ rw off refl ]
flown_without r q (f ∷ fs) =
    let more = flown_without r q fs in
    elim (cases_Bool (f.req == q)) [
      | inl gone ↦ rw gone (elim (cases_Bool (r == q)) [
        | inl on ↦ rw on (rw on at more)
        | inr off ↦ let other : (f.req == r) ≡ false = differs (f.req) q r gone off in rw (off, other) (rw off at more)
      ])
      | inr stays ↦ rw stays (elim (cases_Bool (r == q)) [
        | inl on ↦ let other : (f.req == r) ≡ false = same_differs (f.req) q r stays on in rw (on, other) (rw on at more)
        | inr off ↦ rw off (ap (λ n. cond (f.req == r) (suc n) n) (rw off at more))
      ])
    ]
  where
    differs : (a q r : ℕ) → (a == q) ≡ true → (r == q) ≡ false → (a == r) ≡ false
    differs a q r gone off = grind (arith, nat_tests)

    same_differs : (a q r : ℕ) → (a == q) ≡ false → (r == q) ≡ true → (a == r) ≡ false
    same_differs a q r stays on = grind (arith, nat_tests)

pub flown_some : (r : ℕ) (test : Flight → Bool) (fs : List Flight) → flown r (filter test fs) ≤ flown r fs
flown_some r test [] = omega arith
flown_some r test (f ∷ fs) =
    let more = flown_some r test fs in
    let all = count_cons r f.req (map (λ (g : Flight). g.req) fs) in
    elim (cases_Bool (test f)) [
      | inl on ↦ let some = count_cons r f.req (map (λ (g : Flight). g.req) (filter test fs)) in rw on (omega (arith, more, all, some))
      | inr off ↦ rw off (omega (arith, more, all))
    ]

-- how often a request is among the flights of all lanes
abbrev pub on_the_way : ℕ → List (List Flight) → ℕ
on_the_way r flights = sum_by (λ fs. flown r fs) flights

way_more : (r lane : ℕ) (flights : List (List Flight)) (f : Flight) → lane < length flights → on_the_way r (set flights lane (get_or flights lane [] ++ f ∷ [])) ≡ on_the_way r flights + cond (f.req == r) 1 0
way_more r lane flights f lt =
    let moved = sum_by-set (λ (fs : List Flight). flown r fs) flights lane (get_or flights lane [] ++ f ∷ []) [] lt in
    let more = flown_append r (get_or flights lane []) f in
    omega (arith, moved, more)

way_fewer : (r q lane : ℕ) (flights : List (List Flight)) → lane < length flights
    → on_the_way r (set flights lane (filter (λ g. not (g.req == q)) (get_or flights lane []))) + flown r (get_or flights lane []) ≡ on_the_way r flights + cond (r == q) 0 (flown r (get_or flights lane []))
way_fewer r q lane flights lt =
    let moved = sum_by-set (λ (fs : List Flight). flown r fs) flights lane (filter (λ g. not (g.req == q)) (get_or flights lane [])) [] lt in
    let fewer = flown_without r q (get_or flights lane []) in
    omega (arith, moved, fewer)

way_within : (r lane : ℕ) (flights : List (List Flight)) → lane < length flights → flown r (get_or flights lane []) ≤ on_the_way r flights
way_within r lane flights lt =
    let moved = sum_by-set (λ (fs : List Flight). flown r fs) flights lane [] [] lt in
    let none : flown r [] ≡ 0 = refl in
    omega (arith, moved, none)

-- ---- the seats

-- the request is on its way
abbrev pub flies : Outcome → Bool
flies outcome.Sent = true
flies outcome.Waiting = false
flies outcome.Failed = false
flies (outcome.Done status) = false

-- the request waits
abbrev pub waits : Outcome → Bool
waits outcome.Waiting = true
waits outcome.Sent = false
waits outcome.Failed = false
waits (outcome.Done status) = false

-- There are seventeen lanes, each flight is of its lane, each request that was sent flies once, and each that waits
-- stands in the queue once; no other flies or stands there.
pub record AreSeated (requests : List Asked) (flights : List (List Flight)) (queue : List ℕ) : Type 0 where
  pub lanes : 16 < length flights
  pub home : (lane : ℕ) → AreOf lane (get_or flights lane [])
  pub flying : (r : ℕ) → on_the_way r flights ≡ cond (flies (standing r requests)) 1 0
  pub queued : (r : ℕ) → count r queue ≡ cond (waits (standing r requests) && has_req r requests) 1 0

-- a request in the queue is there, and waits
waits_by : (o : Outcome) (b : Bool) → 1 ≤ cond (waits o && b) 1 0 → (o ≡ outcome.Waiting) × (b ≡ true)
waits_by outcome.Waiting true le = (refl, refl)
waits_by outcome.Waiting false le = absurd (omega (arith, le))
waits_by outcome.Sent b le = absurd (omega (arith, le))
waits_by outcome.Failed b le = absurd (omega (arith, le))
waits_by (outcome.Done status) b le = absurd (omega (arith, le))

pub queue_waits : (requests : List Asked) (flights : List (List Flight)) (front others : List ℕ) (q : ℕ) → AreSeated requests flights (front ++ q ∷ others)
    → (standing q requests ≡ outcome.Waiting) × (has_req q requests ≡ true)
queue_waits requests flights front others q seated =
    let here : count q (front ++ q ∷ others) ≡ count q (front ++ others) + 1 = count_between q q front others ∙ ap (λ b. count q (front ++ others) + cond b 1 0) (eq-eqb q q refl) in
    waits_by (standing q requests) (has_req q requests) (omega (arith, here, seated.queued q))

-- a request that flies was sent
flies_by : (o : Outcome) → 1 ≤ cond (flies o) 1 0 → o ≡ outcome.Sent
flies_by outcome.Sent le = refl
flies_by outcome.Waiting le = absurd (omega (arith, le))
flies_by outcome.Failed le = absurd (omega (arith, le))
flies_by (outcome.Done status) le = absurd (omega (arith, le))

pub flight_sent : (requests : List Asked) (flights : List (List Flight)) (queue : List ℕ) (lane q : ℕ) → AreSeated requests flights queue → lane < length flights → 1 ≤ flown q (get_or flights lane [])
    → standing q requests ≡ outcome.Sent
flight_sent requests flights queue lane q seated lt le = flies_by (standing q requests) (omega (arith, le, way_within q lane flights lt, seated.flying q))

-- a request flies at most once
pub flies_once : (requests : List Asked) (flights : List (List Flight)) (queue : List ℕ) (lane q : ℕ) → AreSeated requests flights queue → lane < length flights → flown q (get_or flights lane []) ≤ 1
flies_once requests flights queue lane q seated lt =
    let most : cond (flies (standing q requests)) 1 0 ≤ 1 = elim (cases_Bool (flies (standing q requests))) [ inl on ↦ rw on (omega arith) | inr off ↦ rw off (omega arith) ] in
    omega (arith, most, way_within q lane flights lt, seated.flying q)

-- one request gets other tries, and moves as they say
seated_by : (requests : List Asked) (flights now : List (List Flight)) (queue next : List ℕ) (q : ℕ) (tries : List Tried) → AreSeated requests flights queue → has_req q requests ≡ true
    → 16 < length now → ((lane : ℕ) → AreOf lane (get_or now lane []))
    → on_the_way q now ≡ cond (flies (outcome_of (last_or None tries))) 1 0 → count q next ≡ cond (waits (outcome_of (last_or None tries))) 1 0
    → ((r : ℕ) → (r == q) ≡ false → on_the_way r now ≡ on_the_way r flights) → ((r : ℕ) → (r == q) ≡ false → count r next ≡ count r queue)
    → AreSeated (with_tries q tries requests) now next
seated_by requests flights now queue next q tries seated there lanes home own_way own_queue way queued =
    let stands : standing q (with_tries q tries requests) ≡ outcome_of (last_or None tries) = ap (λ (a : Asked). outcome_of (last_or None a.tries)) (this_asked q tries requests there) in
    record {
      lanes = lanes;
      home = home;
      flying = one_and_others (λ r. on_the_way r now ≡ cond (flies (standing r (with_tries q tries requests))) 1 0) q
          (own_way ∙ ap (λ o. cond (flies o) 1 0) (sym stands))
          (λ r other. way r other ∙ seated.flying r ∙ ap (λ o. cond (flies o) 1 0) (sym (stands_other r q tries requests other)));
      queued = one_and_others (λ r. count r next ≡ cond (waits (standing r (with_tries q tries requests)) && has_req r (with_tries q tries requests)) 1 0) q
          (own_queue ∙ ap (λ b. cond b 1 0) (sym (both (waits (standing q (with_tries q tries requests))) (waits (outcome_of (last_or None tries))) (has_req q (with_tries q tries requests)) (ap waits stands) (has_with_tries q q tries requests ∙ there))))
          (λ r other. queued r other ∙ seated.queued r
          ∙ ap (λ o. cond (waits o && has_req r requests) 1 0) (sym (stands_other r q tries requests other))
          ∙ ap (λ b. cond (waits (standing r (with_tries q tries requests)) && b) 1 0) (sym (has_with_tries r q tries requests)));
    }
  where
    both : (a b c : Bool) → a ≡ b → c ≡ true → (a && c) ≡ b
    both true b true p e = p
    both false b true p e = p
    both a b false p e = absurd cc

-- the queue without one, and with one more at another place
queue_fewer : (r q : ℕ) (front others : List ℕ) → (r == q) ≡ false → count r (front ++ others) ≡ count r (front ++ q ∷ others)
queue_fewer r q front others other =
    let e : count r (front ++ q ∷ others) ≡ count r (front ++ others) + 0 = count_between r q front others ∙ ap (λ b. count r (front ++ others) + cond b 1 0) (apart r q other) in
    omega (arith, e)

queue_own : (requests : List Asked) (flights : List (List Flight)) (front others : List ℕ) (q : ℕ) → AreSeated requests flights (front ++ q ∷ others) → count q (front ++ others) ≡ 0
queue_own requests flights front others q seated =
    let here : count q (front ++ q ∷ others) ≡ count q (front ++ others) + 1 = count_between q q front others ∙ ap (λ b. count q (front ++ others) + cond b 1 0) (eq-eqb q q refl) in
    let most : cond (waits (standing q requests) && has_req q requests) 1 0 ≤ 1 = elim (cases_Bool (waits (standing q requests) && has_req q requests)) [ inl on ↦ rw on (omega arith) | inr off ↦ rw off (omega arith) ] in
    omega (arith, here, most, seated.queued q)

not_yet : (requests : List Asked) (flights : List (List Flight)) (front others : List ℕ) (q : ℕ) → AreSeated requests flights (front ++ q ∷ others) → on_the_way q flights ≡ 0
not_yet requests flights front others q seated = seated.flying q ∙ ap (λ o. cond (flies o) 1 0) (queue_waits requests flights front others q seated).0

-- a request of the queue is sent
pub seated_sent : (requests : List Asked) (flights : List (List Flight)) (front others : List ℕ) (lane q : ℕ) (f : Flight) (tries : List Tried) → AreSeated requests flights (front ++ q ∷ others) → lane < 17 → f.req ≡ q → f.lane ≡ lane
    → outcome_of (last_or None tries) ≡ outcome.Sent → AreSeated (with_tries q tries requests) (set flights lane (get_or flights lane [] ++ f ∷ [])) (front ++ others)
seated_sent requests flights front others lane q f tries seated lt is_req is_lane is =
    let low : lane < length flights = omega (arith, lt, seated.lanes) in
    let more : (r : ℕ) → on_the_way r (set flights lane (get_or flights lane [] ++ f ∷ [])) ≡ on_the_way r flights + cond (q == r) 1 0 = λ r. way_more r lane flights f low ∙ ap (λ n. on_the_way r flights + cond (n == r) 1 0) is_req in
    seated_by requests flights (set flights lane (get_or flights lane [] ++ f ∷ [])) (front ++ q ∷ others) (front ++ others) q tries seated (queue_waits requests flights front others q seated).1
    (omega (arith, seated.lanes, length-set flights lane (get_or flights lane [] ++ f ∷ [])))
    (each_lane AreOf flights lane (get_or flights lane [] ++ f ∷ []) seated.home (of-append lane (get_or flights lane []) f (seated.home lane) is_lane))
    (more q ∙ ap (λ b. on_the_way q flights + cond b 1 0) (eq-eqb q q refl) ∙ ap (λ n. n + 1) (not_yet requests flights front others q seated) ∙ ap (λ o. cond (flies o) 1 0) (sym is))
    (queue_own requests flights front others q seated ∙ ap (λ o. cond (waits o) 1 0) (sym is))
    (λ r other. let e : on_the_way r (set flights lane (get_or flights lane [] ++ f ∷ [])) ≡ on_the_way r flights + 0 = more r ∙ ap (λ b. on_the_way r flights + cond b 1 0) (apart r q other) in omega (arith, e))
    (λ r other. queue_fewer r q front others other)

-- a request of the queue fails
pub seated_failed : (requests : List Asked) (flights : List (List Flight)) (front others : List ℕ) (q : ℕ) (tries : List Tried) → AreSeated requests flights (front ++ q ∷ others)
    → outcome_of (last_or None tries) ≡ outcome.Failed → AreSeated (with_tries q tries requests) flights (front ++ others)
seated_failed requests flights front others q tries seated is =
    seated_by requests flights flights (front ++ q ∷ others) (front ++ others) q tries seated (queue_waits requests flights front others q seated).1 seated.lanes seated.home
    (not_yet requests flights front others q seated ∙ ap (λ o. cond (flies o) 1 0) (sym is))
    (queue_own requests flights front others q seated ∙ ap (λ o. cond (waits o) 1 0) (sym is))
    (λ r other. refl)
    (λ r other. queue_fewer r q front others other)

-- a request of the queue waits again, at its end
pub seated_listed : (requests : List Asked) (flights : List (List Flight)) (front others next : List ℕ) (q : ℕ) (tries : List Tried) → AreSeated requests flights (front ++ q ∷ others) → next ≡ front ++ q ∷ others
    → outcome_of (last_or None tries) ≡ outcome.Waiting → AreSeated (with_tries q tries requests) flights next
seated_listed requests flights front others next q tries seated same is =
    let stands = queue_waits requests flights front others q seated in
    seated_by requests flights flights (front ++ q ∷ others) next q tries seated stands.1 seated.lanes seated.home
    (not_yet requests flights front others q seated ∙ ap (λ o. cond (flies o) 1 0) (sym is))
    (ap (count q) same ∙ seated.queued q ∙ ap (λ o. cond (waits o && has_req q requests) 1 0) stands.0 ∙ ap (λ b. cond (true && b) 1 0) stands.1 ∙ ap (λ o. cond (waits o) 1 0) (sym is))
    (λ r other. refl)
    (λ r other. ap (count r) same)

-- the flight of a request ends, which waits again or doesn't
pub seated_ended : (requests : List Asked) (flights : List (List Flight)) (front others back : List ℕ) (lane q : ℕ) (tries : List Tried) → AreSeated requests flights (front ++ others) → lane < 17 → has_req q requests ≡ true
    → 1 ≤ flown q (get_or flights lane []) → flies (outcome_of (last_or None tries)) ≡ false
    → ((r : ℕ) → count r back ≡ cond ((q == r) && waits (outcome_of (last_or None tries))) 1 0)
    → AreSeated (with_tries q tries requests) (set flights lane (filter (λ g. not (g.req == q)) (get_or flights lane []))) ((front ++ back) ++ others)
seated_ended requests flights front others back lane q tries seated lt there le is listed =
    let low : lane < length flights = omega (arith, lt, seated.lanes) in
    let now : List (List Flight) = set flights lane (filter (λ g. not (g.req == q)) (get_or flights lane [])) in
    let sent : standing q requests ≡ outcome.Sent = flight_sent requests flights (front ++ others) lane q seated low le in
    let one : on_the_way q flights ≡ 1 = seated.flying q ∙ ap (λ o. cond (flies o) 1 0) sent in
    let none : count q (front ++ others) ≡ 0 = seated.queued q ∙ ap (λ o. cond (waits o && has_req q requests) 1 0) sent in
    let left : (r : ℕ) → count r ((front ++ back) ++ others) ≡ count r (front ++ others) + count r back =
    λ r. omega (arith, count_append r (front ++ back) others, count_append r front back, count_append r front others) in
    seated_by requests flights now (front ++ others) ((front ++ back) ++ others) q tries seated there
    (omega (arith, seated.lanes, length-set flights lane (filter (λ g. not (g.req == q)) (get_or flights lane []))))
    (each_lane AreOf flights lane (filter (λ g. not (g.req == q)) (get_or flights lane [])) seated.home (of-filter lane (λ g. not (g.req == q)) (get_or flights lane []) (seated.home lane)))
    (gone now low one ∙ ap (λ b. cond b 1 0) (sym is))
    (left q ∙ ap (λ n. n + count q back) none ∙ ap (λ n. 0 + n) (listed q) ∙ ap (λ b. 0 + cond (b && waits (outcome_of (last_or None tries))) 1 0) (eq-eqb q q refl) ∙ plain (cond (waits (outcome_of (last_or None tries))) 1 0))
    (λ r other. let e : on_the_way r now + flown r (get_or flights lane []) ≡ on_the_way r flights + flown r (get_or flights lane []) = way_fewer r q lane flights low ∙ ap (λ b. on_the_way r flights + cond b 0 (flown r (get_or flights lane []))) other in omega (arith, e))
    (λ r other. let e : count r back ≡ 0 = listed r ∙ ap (λ b. cond (b && waits (outcome_of (last_or None tries))) 1 0) (apart r q other) in omega (arith, e, left r))
  where
    plain : (n : ℕ) → 0 + n ≡ n
    plain n = omega arith

    gone : (now : List (List Flight)) → lane < length flights → on_the_way q flights ≡ 1 → on_the_way q (set flights lane (filter (λ g. not (g.req == q)) (get_or flights lane []))) ≡ 0
    gone now low one =
        let e : on_the_way q (set flights lane (filter (λ g. not (g.req == q)) (get_or flights lane []))) + flown q (get_or flights lane []) ≡ on_the_way q flights + 0 =
        way_fewer q q lane flights low ∙ ap (λ b. on_the_way q flights + cond b 0 (flown q (get_or flights lane []))) (eq-eqb q q refl) in
        omega (arith, e, one, le)

-- of a list of flights that all fly, those behind the first still fly once it ended
pub rest_fly : (requests : List Asked) (flights : List (List Flight)) (queue : List ℕ) (lane : ℕ) (f : Flight) (fs : List Flight) → AreSeated requests flights queue → lane < length flights
    → ((r : ℕ) → flown r (f ∷ fs) ≤ flown r (get_or flights lane [])) → (r : ℕ) → flown r fs ≤ flown r (filter (λ g. not (g.req == f.req)) (get_or flights lane []))
rest_fly requests flights queue lane f fs seated lt within r =
    let left = flown_without r f.req (get_or flights lane []) in
    let all = count_cons r f.req (map (λ (g : Flight). g.req) fs) in
    elim (cases_Bool (r == f.req)) [
      | inl on ↦ let left0 : flown r (filter (λ g. not (g.req == f.req)) (get_or flights lane [])) ≡ 0 = left ∙ ap (λ b. cond b 0 (flown r (get_or flights lane []))) on in
          let same : (f.req == r) ≡ true = eq-eqb f.req r (sym (eqb-true r f.req on)) in
          let all1 : flown r (f ∷ fs) ≡ 1 + flown r fs = all ∙ ap (λ b. cond b 1 0 + flown r fs) same in
          omega (arith, within r, flies_once requests flights queue lane r seated lt, left0, all1)
      | inr off ↦ let left1 : flown r (filter (λ g. not (g.req == f.req)) (get_or flights lane [])) ≡ flown r (get_or flights lane []) = left ∙ ap (λ b. cond b 0 (flown r (get_or flights lane []))) off in
          omega (arith, within r, left1, all)
    ]

-- the first of these flights flies
pub first_flies : (f : Flight) (fs : List Flight) → 1 ≤ flown f.req (f ∷ fs)
first_flies f fs = rw (eq-eqb f.req f.req refl) (omega arith)
