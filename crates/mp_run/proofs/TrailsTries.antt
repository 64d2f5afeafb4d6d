-- The tries of one request.
use Rattle.std.proofs.Common.{[], ◌≡◌, ◌⊎◌, inl, inr, ℕ, zero, suc, ◌+◌, true, false, ◌==◌, cond, List, ◌∷◌, ◌++◌, map, length, Option, Some, None, refl, sym, ap, ◌∙◌, append_assoc, append-nil, subst, arith}
use Rattle.std.specs.Prelude.{slice_get}
use Rattle.std.specs.List.{last_or, enumerate_from, range_with_len}
use Rattle.std.proofs.lemmas.Bool.{cases_Bool}
use Rattle.std.proofs.lemmas.Bool.Decides.{nat_tests}
use Rattle.mp_words.specs.declared.answers.Answer.{Answer}
use Rattle.mp_words.specs.declared.trying.Back.{Back}
use Rattle.mp_words.specs.declared.trying.TryEnd.{TryEnd}
use Rattle.mp_words.specs.declared.trying.TryEnd.TheVariants.{Sent, Listed, Failed}
use Rattle.mp_words.specs.declared.trying.Outcome.TheVariants as outcome
use Rattle.mp_words.specs.Answers.{answer_for}
use Rattle.mp_words.specs.Request.{Tried, outcome_of, outcome_after}
use Rattle.mp_status.specs.Hop.{through_first, ends_hop}
use Rattle.mp_legal.specs.Answers.{hop_statuses}
use Rattle.mp_legal.specs.PlainFinish.{ended_try, ended_tries}
use Rattle.mp_run.specs.Trails.{try_at, IsAsScripted, AreScripted}

-- ---- the last of the tries

pub last_is : (o : Option Tried) (tries : List Tried) (t : Tried) → last_or o (tries ++ t ∷ []) ≡ Some t
last_is o [] t = refl
last_is o (u ∷ tries) t = last_is (Some u) tries t

-- the last of the tries of a request that was sent
pub record SentLast (tries : List Tried) : Type 0 where
  pub before : List Tried
  pub last : Tried
  pub parts : tries ≡ before ++ last ∷ []
  pub sent : outcome_of (Some last) ≡ outcome.Sent

pub sent_last : (tries : List Tried) → outcome_of (last_or None tries) ≡ outcome.Sent → SentLast tries
sent_last [] e = absurd cc
sent_last (t ∷ tries) e = by_rest t tries e
  where
    by_rest : (t : Tried) (tries : List Tried) → outcome_of (last_or None (t ∷ tries)) ≡ outcome.Sent → SentLast (t ∷ tries)
    by_rest t [] e = record { before = []; last = t; parts = refl; sent = e }
    by_rest t (u ∷ tries) e =
        let it : SentLast (u ∷ tries) = by_rest u tries e in
        record { before = t ∷ it.before; last = it.last; parts = ap (λ (ts : List Tried). t ∷ ts) it.parts; sent = it.sent }

pub last_ended : (statuses : List ℕ) (back : Option Back) (tries : List Tried) (t : Tried) → ended_tries statuses back (tries ++ t ∷ []) ≡ tries ++ ended_try statuses back t ∷ []
last_ended statuses back [] t = refl
last_ended statuses back (u ∷ []) t = refl
last_ended statuses back (u ∷ v ∷ tries) t = ap (λ (ts : List Tried). u ∷ ts) (last_ended statuses back (v ∷ tries) t)

-- a try that is on its way was sent, and has neither a status nor a way back
pub record IsOpen (t : Tried) : Type 0 where
  pub slot : ℕ
  pub version : ℕ
  pub sent : t.end ≡ Sent slot version
  pub statuses : t.statuses ≡ []
  pub back : t.back ≡ None

none_last : (o : Option ℕ) (statuses : List ℕ) → last_or o statuses ≡ None → (o ≡ None) × (statuses ≡ [])
none_last o [] e = (e, refl)
none_last o (n ∷ statuses) e = let rest = none_last (Some n) statuses e in let some : Some n ≡ None = rest.0 in cc

pub open_try : (t : Tried) → outcome_of (Some t) ≡ outcome.Sent → IsOpen t
open_try t e = by_end t.end refl e
  where
    by_last : (o : Option ℕ) (statuses : List ℕ) (slot version : ℕ) → t.end ≡ Sent slot version → t.back ≡ None → t.statuses ≡ statuses → last_or None statuses ≡ o → (o ≡ None) → IsOpen t
    by_last o statuses slot version is_end is_back is_statuses is none =
        record { slot = slot; version = version; sent = is_end; statuses = is_statuses ∙ (none_last None statuses (is ∙ none)).1; back = is_back }

    by_status : (o : Option ℕ) (slot version : ℕ) → t.end ≡ Sent slot version → t.back ≡ None → last_or None t.statuses ≡ o → outcome_after (Sent slot version) (record { end = t.end; statuses = t.statuses; back = None }) ≡ outcome.Sent → IsOpen t
    by_status None slot version is_end is_back is e = by_last None t.statuses slot version is_end is_back refl is refl
    by_status (Some n) slot version is_end is_back is e = let e2 = rw is at e in absurd cc

    by_back : (back : Option Back) (slot version : ℕ) → t.end ≡ Sent slot version → t.back ≡ back → outcome_after (Sent slot version) (record { end = t.end; statuses = t.statuses; back = back }) ≡ outcome.Sent → IsOpen t
    by_back (Some b) slot version is_end is_back e = absurd cc
    by_back None slot version is_end is_back e = by_status (last_or None t.statuses) slot version is_end is_back refl e

    by_end : (how : TryEnd) → t.end ≡ how → outcome_after how t ≡ outcome.Sent → IsOpen t
    by_end (Sent slot version) is e = by_back t.back slot version is refl e
    by_end Listed is e = absurd cc
    by_end Failed is e = absurd cc

-- ---- a hop has a status

pub hop_has : (answers : List Answer) (req attempt : ℕ) → (n : ℕ) × (ns : List ℕ) × (hop_statuses answers req attempt ≡ n ∷ ns)
hop_has answers req attempt = by_first (answer_for answers req attempt) (enumerate_from (0 + 1) (map (answer_for answers req) (range_with_len (attempt + 1) 5)))
  where
    by_first : (n : ℕ) (more : List (ℕ × ℕ)) → (m : ℕ) × (ms : List ℕ) × (map (λ retried. retried.1) (through_first ends_hop ((0, n) ∷ more)) ≡ m ∷ ms)
    by_first n more =
        elim (cases_Bool (ends_hop (0, n))) [
          | inl on ↦ (n, [], rw on refl)
          | inr off ↦ (n, map (λ retried. retried.1) (through_first ends_hop more), rw off refl)
        ]

-- ---- tries as the script has them, the last of which may be on its way

-- Behind these tries each of the rest is made of a request that waits, and is on its way or as the script has it.
abbrev pub AreOnTrail : List Answer → ℕ → List Tried → List Tried → Type 0
AreOnTrail answers req before [] = Unit {0}
AreOnTrail answers req before (t ∷ tries) =
    (outcome_of (last_or None before) ≡ outcome.Waiting) × (IsAsScripted answers req before t.end t ⊎ (outcome_of (Some t) ≡ outcome.Sent)) × AreOnTrail answers req (before ++ t ∷ []) tries

-- one try more
pub trail_more : (answers : List Answer) (req : ℕ) (before tries whole : List Tried) (t : Tried) → before ++ tries ≡ whole → AreOnTrail answers req before tries → outcome_of (last_or None whole) ≡ outcome.Waiting
    → (IsAsScripted answers req whole t.end t ⊎ (outcome_of (Some t) ≡ outcome.Sent)) → AreOnTrail answers req before (tries ++ t ∷ [])
trail_more answers req before [] whole t is trail waits how =
    let same : whole ≡ before = sym is ∙ append-nil before in (
      subst (λ (ts : List Tried). outcome_of (last_or None ts) ≡ outcome.Waiting) same waits,
      subst (λ (ts : List Tried). IsAsScripted answers req ts t.end t ⊎ (outcome_of (Some t) ≡ outcome.Sent)) same how,
      tt,
    )
trail_more answers req before (u ∷ tries) whole t is trail waits how =
    (trail.0, trail.1, trail_more answers req (before ++ u ∷ []) tries whole t (append_assoc before (u ∷ []) tries ∙ is) trail.2 waits how)

-- the last try has ended
pub trail_ended : (answers : List Answer) (req : ℕ) (before tries whole : List Tried) (t u : Tried) → before ++ tries ≡ whole → AreOnTrail answers req before (tries ++ t ∷ []) → IsAsScripted answers req whole u.end u
    → AreOnTrail answers req before (tries ++ u ∷ [])
trail_ended answers req before [] whole t u is trail how =
    let same : whole ≡ before = sym is ∙ append-nil before in
    (trail.0, inl (subst (λ (ts : List Tried). IsAsScripted answers req ts u.end u) same how), tt)
trail_ended answers req before (v ∷ tries) whole t u is trail how =
    (trail.0, trail.1, trail_ended answers req (before ++ v ∷ []) tries whole t u (append_assoc before (v ∷ []) tries ∙ is) trail.2 how)

-- no try is on its way where the request isn't
pub trail_over : (answers : List Answer) (req : ℕ) (before tries : List Tried) → AreOnTrail answers req before tries → (outcome_of (last_or (last_or None before) tries) ≡ outcome.Sent → ⊥) → AreScripted answers req before tries
trail_over answers req before [] trail never = tt
trail_over answers req before (t ∷ tries) trail never =
    let here : last_or None (before ++ t ∷ []) ≡ Some t = last_is None before t in
    let rest : AreScripted answers req (before ++ t ∷ []) tries = trail_over answers req (before ++ t ∷ []) tries trail.2 (λ e. never (ap (λ (o : Option Tried). outcome_of (last_or o tries)) (sym here) ∙ e)) in
    (trail.0, elim trail.1 [ inl is ↦ is | inr sent ↦ absurd (by_rest tries trail.2 sent never) ], rest)
  where
    by_rest : (us : List Tried) → AreOnTrail answers req (before ++ t ∷ []) us → outcome_of (Some t) ≡ outcome.Sent → (outcome_of (last_or (Some t) us) ≡ outcome.Sent → ⊥) → ⊥
    by_rest [] trail sent never = never sent
    by_rest (u ∷ us) trail sent never =
        let waits : outcome_of (Some t) ≡ outcome.Waiting = ap outcome_of (sym (last_is None before t)) ∙ trail.0 in
        cc

-- ---- a try by its place

get_more : (before : List Tried) (t : Tried) (place : ℕ) → slice_get (before ++ t ∷ []) place ≡ cond (place == length before) (Some t) (slice_get before place)
get_more [] t zero = refl
get_more [] t (suc place) = let off : (suc place == 0) ≡ false = grind (arith, nat_tests) in rw off refl
get_more (u ∷ before) t zero = let off : (0 == suc (length before)) ≡ false = grind (arith, nat_tests) in rw off refl
get_more (u ∷ before) t (suc place) = get_more before t place ∙ ap (λ b. cond b (Some t) (slice_get before place)) (next place (length before))
  where
    next : (a b : ℕ) → (a == b) ≡ (suc a == suc b)
    next a b =
        elim (cases_Bool (a == b)) [
          | inl on ↦ let on2 : (suc a == suc b) ≡ true = grind (arith, nat_tests) in on ∙ sym on2
          | inr off ↦ let off2 : (suc a == suc b) ≡ false = grind (arith, nat_tests) in off ∙ sym off2
        ]

pub at_more : (before : List Tried) (t : Tried) (hop : ℕ) → try_at hop (before ++ t ∷ []) ≡ cond (hop == length before + 1) (Some t) (try_at hop before)
at_more before t zero = let off : (0 == length before + 1) ≡ false = grind (arith, nat_tests) in rw off refl
at_more before t (suc place) = get_more before t place ∙ ap (λ b. cond b (Some t) (slice_get before place)) (next place (length before))
  where
    next : (a b : ℕ) → (a == b) ≡ (suc a == b + 1)
    next a b =
        elim (cases_Bool (a == b)) [
          | inl on ↦ let on2 : (suc a == b + 1) ≡ true = grind (arith, nat_tests) in on ∙ sym on2
          | inr off ↦ let off2 : (suc a == b + 1) ≡ false = grind (arith, nat_tests) in off ∙ sym off2
        ]

-- no try stands behind the last
pub at_past : (before : List Tried) (hop : ℕ) → (hop == length before + 1) ≡ true → try_at hop before ≡ None
at_past before zero e = let off : (0 == length before + 1) ≡ false = grind (arith, nat_tests) in absurd cc
at_past before (suc place) e = past before place (let is : suc place ≡ length before + 1 = grind (arith, nat_tests) in omega (arith, is))
  where
    past : (ts : List Tried) (place : ℕ) → place ≡ length ts → slice_get ts place ≡ None
    past [] place is = refl
    past (u ∷ ts) zero is = absurd (omega (arith, is))
    past (u ∷ ts) (suc place) is = past ts place (omega (arith, is))
