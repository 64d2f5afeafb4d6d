-- What events tell of tries.
use Rattle.std.proofs.Common.{[], ◌≡◌, ◌⊎◌, inl, inr, ℕ, ◌+◌, Bool, true, false, ◌&&◌, ◌==◌, cond, List, ◌∷◌, ◌++◌, length, Option, Some, None, refl, sym, ap, ◌∙◌, eq-eqb, arith}
use Rattle.std.specs.Prelude.{is_some, count_by}
use Rattle.std.specs.List.{AllByRecursion}
use Rattle.std.proofs.lemmas.Bool.{cases_Bool}
use Rattle.std.proofs.lemmas.Bool.Decides.{nat_tests}
use Rattle.std.proofs.lemmas.List.Sums.{sum_by-append, sum_by-cons}
use Rattle.mp_words.specs.declared.trying.Back.{Back}
use Rattle.mp_words.specs.declared.trying.TryEnd.{TryEnd}
use Rattle.mp_words.specs.declared.trying.TryEnd.TheVariants.{Sent, Listed, Failed}
use Rattle.mp_words.specs.Request.{Asked, Tried}
use Rattle.mp_record.specs.declared.event.Event.{Event}
use Rattle.mp_record.specs.declared.event.Event.TheVariants.{Sec, At, Try, Fin}
use Rattle.mp_submit.specs.Finishes.{six_of}
use Rattle.mp_legal.specs.PlainState.{with_tries}
use Rattle.mp_legal.specs.PlainFinish.{ended_try}
use Rattle.mp_legal.specs.Numbers.{has_req, asked_at}
use Rattle.mp_run.specs.Trails.{try_at, tried_at, has_status, has_ended, is_try, is_end, tries_told, ends_told, IsTold, AreTold}
use Rattle.mp_run.proofs.Standing.{other_asked, this_asked}
use Rattle.mp_run.proofs.TrailsSeats.{one_and_others, apart}
use Rattle.mp_run.proofs.TrailsTries.{at_more, at_past}

-- ---- counts

pub count_more : (p : Event → Bool) (events more : List Event) → count_by p (events ++ more) ≡ count_by p events + count_by p more
count_more p events more = sum_by-append (λ (e : Event). cond (p e) 1 0) events more

count_one : (p : Event → Bool) (events : List Event) (e : Event) → count_by p (events ++ e ∷ []) ≡ count_by p events + cond (p e) 1 0
count_one p events e =
    let one : count_by p (e ∷ []) ≡ cond (p e) 1 0 + 0 = sum_by-cons (λ (x : Event). cond (p x) 1 0) e [] in
    omega (arith, count_more p events (e ∷ []), one)

pub all_more : (P : Event → Type 0) (events more : List Event) → AllByRecursion P events → AllByRecursion P more → AllByRecursion P (events ++ more)
all_more P [] more all rest = rest
all_more P (e ∷ events) more all rest = (all.0, all_more P events more all.1 rest)

pub all_by : (P Q : Event → Type 0) (events : List Event) → ((e : Event) → P e → Q e) → AllByRecursion P events → AllByRecursion Q events
all_by P Q [] each all = tt
all_by P Q (e ∷ events) each all = (each e all.0, all_by P Q events each all.1)

-- ---- the tries of one request change in one place

-- The tries of a request are the same but at this place, where this one stood and that one stands now.
record Moves (q hop : ℕ) (was now : Option Tried) (before : List Tried) (requests next : List Asked) : Type 0 where
  old : (h : ℕ) → tried_at q h requests ≡ cond (h == hop) was (try_at h before)
  new : (h : ℕ) → tried_at q h next ≡ cond (h == hop) now (try_at h before)
  others : (r h : ℕ) → (r == q) ≡ false → tried_at r h next ≡ tried_at r h requests

moves_own : (q h : ℕ) (tries : List Tried) (requests : List Asked) → has_req q requests ≡ true → tried_at q h (with_tries q tries requests) ≡ try_at h tries
moves_own q h tries requests there = ap (λ (a : Asked). try_at h a.tries) (this_asked q tries requests there)

moves_other : (q : ℕ) (tries : List Tried) (requests : List Asked) (r h : ℕ) → (r == q) ≡ false → tried_at r h (with_tries q tries requests) ≡ tried_at r h requests
moves_other q tries requests r h other = ap (λ (a : Asked). try_at h a.tries) (other_asked r q tries requests other)

-- an event of this place counts as the change does
counts : (f : Option Tried → Bool) (p : ℕ → ℕ → Event → Bool) (q hop : ℕ) (was now : Option Tried) (before : List Tried) (requests next : List Asked) (events : List Event) (e : Event) (b : Bool)
    → Moves q hop was now before requests next → ((r h : ℕ) → p r h e ≡ (((q == r) && (hop == h)) && b)) → cond (f was) 1 0 + cond b 1 0 ≡ cond (f now) 1 0
    → ((r h : ℕ) → count_by (p r h) events ≡ cond (f (tried_at r h requests)) 1 0) → (r h : ℕ) → count_by (p r h) (events ++ e ∷ []) ≡ cond (f (tried_at r h next)) 1 0
counts f p q hop was now before requests next events e b moves of gain told =
    one_and_others (λ r. (h : ℕ) → count_by (p r h) (events ++ e ∷ []) ≡ cond (f (tried_at r h next)) 1 0) q
    (λ h. elim (cases_Bool (h == hop)) [
      | inl here ↦ let own : p q h e ≡ b = of q h ∙ both (q == q) (hop == h) b (eq-eqb q q refl) (swapped h hop here) in
          let was_here : tried_at q h requests ≡ was = moves.old h ∙ ap (λ c. cond c was (try_at h before)) here in
          let now_here : tried_at q h next ≡ now = moves.new h ∙ ap (λ c. cond c now (try_at h before)) here in
          count_one (p q h) events e ∙ ap (λ c. count_by (p q h) events + cond c 1 0) own ∙ ap (λ n. n + cond b 1 0) (told q h)
          ∙ ap (λ (o : Option Tried). cond (f o) 1 0 + cond b 1 0) was_here ∙ gain ∙ ap (λ (o : Option Tried). cond (f o) 1 0) (sym now_here)
      | inr away ↦ let none : p q h e ≡ false = of q h ∙ right (q == q) (hop == h) b (apart h hop away) in
          let same : tried_at q h requests ≡ tried_at q h next = moves.old h ∙ ap (λ c. cond c was (try_at h before)) away ∙ sym (moves.new h ∙ ap (λ c. cond c now (try_at h before)) away) in
          unchanged q h none ∙ told q h ∙ ap (λ (o : Option Tried). cond (f o) 1 0) same
    ])
    (λ r other h. unchanged r h (of r h ∙ left (q == r) (hop == h) b (apart r q other)) ∙ told r h ∙ ap (λ (o : Option Tried). cond (f o) 1 0) (sym (moves.others r h other)))
  where
    swapped : (a c : ℕ) → (a == c) ≡ true → (c == a) ≡ true
    swapped a c e = grind (arith, nat_tests)

    both : (a c d : Bool) → a ≡ true → c ≡ true → ((a && c) && d) ≡ d
    both a c d x y = rw (x, y) refl

    left : (a c d : Bool) → a ≡ false → ((a && c) && d) ≡ false
    left a c d x = rw x refl

    right : (a c d : Bool) → c ≡ false → ((a && c) && d) ≡ false
    right true c d x = rw x refl
    right false c d x = refl

    unchanged : (r h : ℕ) → p r h e ≡ false → count_by (p r h) (events ++ e ∷ []) ≡ count_by (p r h) events
    unchanged r h none = let one : count_by (p r h) (events ++ e ∷ []) ≡ count_by (p r h) events + 0 = count_one (p r h) events e ∙ ap (λ c. count_by (p r h) events + cond c 1 0) none in omega (arith, one)

-- a try that was there is there, or is the one that changed
stays_at : (q hop : ℕ) (was now : Option Tried) (before : List Tried) (requests next : List Asked) (v : Tried) → Moves q hop was now before requests next
    → (r h : ℕ) → tried_at r h requests ≡ Some v → (tried_at r h next ≡ Some v) ⊎ ((was ≡ Some v) × (tried_at r h next ≡ now))
stays_at q hop was now before requests next v moves =
    one_and_others (λ r. (h : ℕ) → tried_at r h requests ≡ Some v → (tried_at r h next ≡ Some v) ⊎ ((was ≡ Some v) × (tried_at r h next ≡ now))) q
    (λ h is. elim (cases_Bool (h == hop)) [
      | inl here ↦ inr (sym (moves.old h ∙ ap (λ c. cond c was (try_at h before)) here) ∙ is, moves.new h ∙ ap (λ c. cond c now (try_at h before)) here)
      | inr away ↦ inl (moves.new h ∙ ap (λ c. cond c now (try_at h before)) away ∙ sym (moves.old h ∙ ap (λ c. cond c was (try_at h before)) away) ∙ is)
    ])
    (λ r other h is. inl (moves.others r h other ∙ is))

and_yes : (b : Bool) → b ≡ (b && true)
and_yes true = refl
and_yes false = refl

and_no : (b : Bool) → false ≡ (b && false)
and_no true = refl
and_no false = refl

no_status : (end : TryEnd) (statuses : List ℕ) → statuses ≡ [] → has_status end statuses ≡ false
no_status (Sent slot version) statuses is = rw is refl
no_status Listed statuses is = refl
no_status Failed statuses is = refl

-- ---- one try more

moves_more : (q : ℕ) (before : List Tried) (t : Tried) (requests : List Asked) → has_req q requests ≡ true → (asked_at q requests).tries ≡ before
    → Moves q (length before + 1) None (Some t) before requests (with_tries q (before ++ t ∷ []) requests)
moves_more q before t requests there is = record {
  old = λ h. ap (try_at h) is ∙ elim (cases_Bool (h == length before + 1)) [
    | inl on ↦ at_past before h on ∙ sym (ap (λ c. cond c None (try_at h before)) on)
    | inr off ↦ sym (ap (λ c. cond c None (try_at h before)) off)
  ];
  new = λ h. moves_own q h (before ++ t ∷ []) requests there ∙ at_more before t h;
  others = moves_other q (before ++ t ∷ []) requests;
}

pub told_more : (q : ℕ) (before : List Tried) (t : Tried) (requests : List Asked) (events : List Event) → has_req q requests ≡ true → (asked_at q requests).tries ≡ before → t.statuses ≡ []
    → AreTold requests events → AreTold (with_tries q (before ++ t ∷ []) requests) (events ++ Try q (length before + 1) t.end ∷ [])
told_more q before t requests events there is none told =
    let hop : ℕ = length before + 1 in
    let next : List Asked = with_tries q (before ++ t ∷ []) requests in
    let moves : Moves q hop None (Some t) before requests next = moves_more q before t requests there is in
    let stays : (v : Tried) (r h : ℕ) → tried_at r h requests ≡ Some v → tried_at r h next ≡ Some v =
    λ v r h e. elim (stays_at q hop None (Some t) before requests next v moves r h e) [ inl same ↦ same | inr new ↦ let no_one = new.0 in absurd cc ] in
    record {
      once = counts is_some is_try q hop None (Some t) before requests next events (Try q hop t.end) true moves (λ r h. and_yes ((q == r) && (hop == h))) refl told.once;
      ended = counts has_ended is_end q hop None (Some t) before requests next events (Try q hop t.end) false moves (λ r h. and_no ((q == r) && (hop == h))) (ap (λ b. cond b 1 0) (sym (no_status t.end t.statuses none))) told.ended;
      each = all_more (IsTold next) events (Try q hop t.end ∷ []) (all_by (IsTold requests) (IsTold next) events (kept next stays) told.each)
          ((t, moves.new hop ∙ ap (λ c. cond c (Some t) (try_at hop before)) (eq-eqb hop hop refl), refl), tt);
    }
  where
    kept : (next : List Asked) → ((v : Tried) (r h : ℕ) → tried_at r h requests ≡ Some v → tried_at r h next ≡ Some v) → (e : Event) → IsTold requests e → IsTold next e
    kept next stays (Try r h end) it = (it.0, stays it.0 r h it.1, it.2)
    kept next stays (Fin r h statuses count back) it = (it.0, stays it.0 r h it.1, it.2, it.3, it.4, it.5)
    kept next stays (At line said) it = tt
    kept next stays (Sec note moved) it = tt

-- ---- the last try has ended

moves_ended : (q : ℕ) (before : List Tried) (t u : Tried) (requests : List Asked) → has_req q requests ≡ true → (asked_at q requests).tries ≡ before ++ t ∷ []
    → Moves q (length before + 1) (Some t) (Some u) before requests (with_tries q (before ++ u ∷ []) requests)
moves_ended q before t u requests there is = record {
  old = λ h. ap (try_at h) is ∙ at_more before t h;
  new = λ h. moves_own q h (before ++ u ∷ []) requests there ∙ at_more before u h;
  others = moves_other q (before ++ u ∷ []) requests;
}

pub told_ended : (q : ℕ) (before : List Tried) (t : Tried) (statuses : List ℕ) (back : Option Back) (requests : List Asked) (events : List Event) → has_req q requests ≡ true → (asked_at q requests).tries ≡ before ++ t ∷ [] → t.statuses ≡ []
    → has_status t.end statuses ≡ true → AreTold requests events → AreTold (with_tries q (before ++ ended_try statuses back t ∷ []) requests) (events ++ Fin q (length before + 1) (six_of statuses) (length statuses) back ∷ [])
told_ended q before t statuses back requests events there is none some told =
    let hop : ℕ = length before + 1 in
    let u : Tried = ended_try statuses back t in
    let next : List Asked = with_tries q (before ++ u ∷ []) requests in
    let e : Event = Fin q hop (six_of statuses) (length statuses) back in
    let moves : Moves q hop (Some t) (Some u) before requests next = moves_ended q before t u requests there is in
    let was : has_ended (Some t) ≡ false = no_status t.end t.statuses none in
    let stays : (v : Tried) (r h : ℕ) → tried_at r h requests ≡ Some v → (tried_at r h next ≡ Some v) ⊎ ((v ≡ t) × (tried_at r h next ≡ Some u)) =
    λ v r h e. elim (stays_at q hop (Some t) (Some u) before requests next v moves r h e) [ inl same ↦ inl same | inr new ↦ inr (same_try t v new.0, new.1) ] in
    record {
      once = counts is_some is_try q hop (Some t) (Some u) before requests next events e false moves (λ r h. and_no ((q == r) && (hop == h))) refl told.once;
      ended = counts has_ended is_end q hop (Some t) (Some u) before requests next events e true moves (λ r h. and_yes ((q == r) && (hop == h)))
          (ap (λ b. cond b 1 0 + 1) was ∙ ap (λ b. cond b 1 0) (sym some)) told.ended;
      each = all_more (IsTold next) events (e ∷ []) (all_by (IsTold requests) (IsTold next) events (kept next was stays) told.each)
          ((u, moves.new hop ∙ ap (λ c. cond c (Some u) (try_at hop before)) (eq-eqb hop hop refl), some, refl, refl, refl), tt);
    }
  where
    same_try : (t v : Tried) → Some t ≡ Some v → v ≡ t
    same_try t v e = cc

    kept : (next : List Asked) → has_ended (Some t) ≡ false → ((v : Tried) (r h : ℕ) → tried_at r h requests ≡ Some v → (tried_at r h next ≡ Some v) ⊎ ((v ≡ t) × (tried_at r h next ≡ Some (ended_try statuses back t))))
        → (e : Event) → IsTold requests e → IsTold next e
    kept next was stays (Try r h end) it =
        elim (stays it.0 r h it.1) [
          | inl same ↦ (it.0, same, it.2)
          | inr new ↦ (ended_try statuses back t, new.1, ap (λ (v : Tried). v.end) (sym new.0) ∙ it.2)
        ]
    kept next was stays (Fin r h told count way) it =
        elim (stays it.0 r h it.1) [
          | inl same ↦ (it.0, same, it.2, it.3, it.4, it.5)
          | inr new ↦ let yes_it : has_ended (Some t) ≡ true = ap (λ (v : Tried). has_ended (Some v)) (sym new.0) ∙ it.2 in absurd cc
        ]
    kept next was stays (At line said) it = tt
    kept next was stays (Sec note moved) it = tt

-- ---- events that tell of no try

-- the event says what a line does
abbrev pub IsSaid : Event → Type 0
IsSaid (At line said) = Unit {0}
IsSaid (Sec note moved) = ⊥
IsSaid (Try req hop end) = ⊥
IsSaid (Fin req hop statuses count back) = ⊥

abbrev pub AreSaid : List Event → Type 0
AreSaid events = AllByRecursion IsSaid events

none_tried : (req hop : ℕ) (events : List Event) → AreSaid events → tries_told req hop events ≡ 0
none_tried req hop [] said = refl
none_tried req hop (At line it ∷ events) said =
    let one : tries_told req hop (At line it ∷ events) ≡ 0 + tries_told req hop events = sum_by-cons (λ (e : Event). cond (is_try req hop e) 1 0) (At line it) events in
    let rest = none_tried req hop events said.1 in
    omega (arith, one, rest)
none_tried req hop (Sec note moved ∷ events) said = absurd said.0
none_tried req hop (Try r h end ∷ events) said = absurd said.0
none_tried req hop (Fin r h statuses count back ∷ events) said = absurd said.0

none_ended : (req hop : ℕ) (events : List Event) → AreSaid events → ends_told req hop events ≡ 0
none_ended req hop [] said = refl
none_ended req hop (At line it ∷ events) said =
    let one : ends_told req hop (At line it ∷ events) ≡ 0 + ends_told req hop events = sum_by-cons (λ (e : Event). cond (is_end req hop e) 1 0) (At line it) events in
    let rest = none_ended req hop events said.1 in
    omega (arith, one, rest)
none_ended req hop (Sec note moved ∷ events) said = absurd said.0
none_ended req hop (Try r h end ∷ events) said = absurd said.0
none_ended req hop (Fin r h statuses count back ∷ events) said = absurd said.0

said_told : (requests : List Asked) (e : Event) → IsSaid e → IsTold requests e
said_told requests (At line it) said = tt
said_told requests (Sec note moved) said = tt
said_told requests (Try r h end) said = absurd said
said_told requests (Fin r h statuses count back) said = absurd said

pub told_said : (requests : List Asked) (events more : List Event) → AreSaid more → AreTold requests events → AreTold requests (events ++ more)
told_said requests events more said told = record {
  once = λ req hop. let e = count_more (is_try req hop) events more in let none = none_tried req hop more said in omega (arith, e, none) ∙ told.once req hop;
  ended = λ req hop. let e = count_more (is_end req hop) events more in let none = none_ended req hop more said in omega (arith, e, none) ∙ told.ended req hop;
  each = all_more (IsTold requests) events more told.each (all_by IsSaid (IsTold requests) more (said_told requests) said);
}

-- ---- the same tries, and the same events in another order

pub told_same : (requests next : List Asked) (events : List Event) → ((r : ℕ) → (asked_at r next).tries ≡ (asked_at r requests).tries) → AreTold requests events → AreTold next events
told_same requests next events same told = record {
  once = λ req hop. told.once req hop ∙ ap (λ (ts : List Tried). cond (is_some (try_at hop ts)) 1 0) (sym (same req));
  ended = λ req hop. told.ended req hop ∙ ap (λ (ts : List Tried). cond (has_ended (try_at hop ts)) 1 0) (sym (same req));
  each = all_by (IsTold requests) (IsTold next) events still told.each;
}
  where
    still : (e : Event) → IsTold requests e → IsTold next e
    still (Try r h end) it = (it.0, ap (try_at h) (same r) ∙ it.1, it.2)
    still (Fin r h statuses count back) it = (it.0, ap (try_at h) (same r) ∙ it.1, it.2, it.3, it.4, it.5)
    still (At line said) it = tt
    still (Sec note moved) it = tt

pub told_order : (requests : List Asked) (events other : List Event) → ((p : Event → Bool) → count_by p other ≡ count_by p events) → (((P : Event → Type 0) → AllByRecursion P events → AllByRecursion P other)) → AreTold requests events → AreTold requests other
told_order requests events other same all told = record {
  once = λ req hop. same (is_try req hop) ∙ told.once req hop;
  ended = λ req hop. same (is_end req hop) ∙ told.ended req hop;
  each = all (IsTold requests) told.each;
}
