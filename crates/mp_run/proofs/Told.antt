-- The requests that a run tells.
use Rattle.std.proofs.Common.{[], ◌≡◌, ℕ, false, List, ◌∷◌, ◌++◌, inl, inr, refl, sym, ap, ◌∙◌, append_assoc, eq-eqb, subst, arith}
use Rattle.std.specs.List.{AllByRecursion}
use Rattle.mp_run.proofs.TurnFacts.{count, has_count, none_count}
use Rattle.std.proofs.lemmas.Bool.{cases_Bool}
use Rattle.std.proofs.lemmas.List.{map-append}
use Rattle.mp_checks.specs.Marks.{has}
use Rattle.mp_words.specs.declared.trying.Outcome.TheVariants.{Sent}
use Rattle.mp_words.specs.Request.{Asked}
use Rattle.mp_legal.specs.Numbers.{has_req, asked_at, asked_or, standing}
use Rattle.mp_script.specs.Distinct.{IsDistinct}
use Rattle.mp_run.specs.Told.{IsOver}
use Rattle.mp_run.proofs.ByNumber.{find_behind}
use Rattle.mp_run.proofs.Distinct.{distinct_middle, has-reqs}
use Rattle.mp_run.proofs.OnTurns.{numbers}

-- what holds of the request of each number holds of each of these
each_behind : (P : Asked → Type 0) (before rest : List Asked) → IsDistinct (numbers (before ++ rest)) → ((r : ℕ) → P (asked_at r (before ++ rest))) → AllByRecursion P rest
each_behind P before [] distinct all = tt
each_behind P before (a ∷ rest) distinct all =
    let split : IsDistinct (numbers before ++ a.req ∷ numbers rest) = rw (map-append (λ (b : Asked). b.req) before (a ∷ rest)) at distinct in
    let first : has_req a.req before ≡ false = sym (has-reqs before a.req) ∙ (distinct_middle (numbers before) a.req (numbers rest) split).0 in
    let found : asked_at a.req (before ++ a ∷ rest) ≡ a = ap (asked_or a.req) (find_behind a.req before rest a first (eq-eqb a.req a.req refl)) in
    let moved : (before ++ a ∷ []) ++ rest ≡ before ++ a ∷ rest = append_assoc before (a ∷ []) rest in
    (subst P found (all a.req), each_behind P (before ++ a ∷ []) rest (rw moved distinct) (rw moved all))

-- what holds of the request of each number holds of each request
pub each_asked : (P : Asked → Type 0) (requests : List Asked) → IsDistinct (numbers requests) → ((r : ℕ) → P (asked_at r requests)) → AllByRecursion P requests
each_asked P requests distinct all = each_behind P [] requests distinct all

-- where no request is on its way, each is over
pub all_over : (requests : List Asked) → IsDistinct (numbers requests) → ((req : ℕ) → standing req requests ≡ Sent → ⊥) → AllByRecursion IsOver requests
all_over requests distinct none = each_asked IsOver requests distinct none

-- the requests are those that the script submits
pub same_has : (n : ℕ) (xs ys : List ℕ) → count n xs ≡ count n ys → has xs n ≡ has ys n
same_has n xs ys same =
    elim (cases_Bool (has xs n)) [
      | inl on ↦ elim (cases_Bool (has ys n)) [
        | inl on2 ↦ on ∙ sym on2
        | inr off2 ↦ absurd (omega (arith, same, has_count n xs on, none_count n ys off2))
      ]
      | inr off ↦ elim (cases_Bool (has ys n)) [
        | inl on2 ↦ absurd (omega (arith, same, has_count n ys on2, none_count n xs off))
        | inr off2 ↦ off ∙ sym off2
      ]
    ]

pub told_has : (r : ℕ) (requests : List Asked) (submits : List ℕ) → count r (numbers requests) ≡ count r submits → has_req r requests ≡ has submits r
told_has r requests submits same = sym (has-reqs requests r) ∙ same_has r (numbers requests) submits same
