-- The request of a number.
use Rattle.std.proofs.Common.{[], ◌≡◌, ℕ, ◌==◌, List, ◌∷◌, inl, inr, refl}
use Rattle.std.proofs.lemmas.Bool.{cases_Bool, eqb-true}
use Rattle.mp_words.specs.Request.{Asked}
use Rattle.mp_legal.specs.Numbers.{asked_at}

pub asked_req : (req : ℕ) (requests : List Asked) → (asked_at req requests).req ≡ req
asked_req req [] = refl
asked_req req (a ∷ requests) =
    elim (cases_Bool (a.req == req)) [
      | inl same_one ↦ rw same_one (eqb-true a.req req same_one)
      | inr other_one ↦ rw other_one (asked_req req requests)
    ]
