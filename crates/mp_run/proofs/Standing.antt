-- How requests stand.
use Rattle.std.proofs.Common.{[], ◌≡◌, ℕ, true, false, ◌==◌, List, ◌∷◌, inl, inr, refl, arith}
use Rattle.std.proofs.lemmas.Bool.{cases_Bool}
use Rattle.std.proofs.lemmas.Bool.Decides.{nat_tests}
use Rattle.mp_words.specs.declared.trying.Outcome.TheVariants.{Sent}
use Rattle.mp_words.specs.Request.{Asked, Tried}
use Rattle.mp_legal.specs.PlainState.{with_tries}
use Rattle.mp_legal.specs.Numbers.{has_req, asked_at, standing}

-- a request that was sent is there
pub sent_there : (req : ℕ) (requests : List Asked) → standing req requests ≡ Sent → has_req req requests ≡ true
sent_there req [] sent = absurd cc
sent_there req (a ∷ requests) sent =
    elim (cases_Bool (a.req == req)) [
      | inl same_one ↦ rw same_one refl
      | inr other_one ↦ rw other_one (sent_there req requests (rw other_one at sent))
    ]

-- a number that is this one isn't that one
apart : (n req changed : ℕ) → (n == req) ≡ true → (req == changed) ≡ false → (n == changed) ≡ false
apart n req changed same other = grind (arith, nat_tests)

-- other requests are as they were
pub other_asked : (req changed : ℕ) (tries : List Tried) (requests : List Asked) → (req == changed) ≡ false → asked_at req (with_tries changed tries requests) ≡ asked_at req requests
other_asked req changed tries [] other = refl
other_asked req changed tries (a ∷ requests) other =
    elim (cases_Bool (a.req == req)) [
      | inl same_one ↦ rw (apart a.req req changed same_one other, same_one) refl
      | inr other_one ↦ elim (cases_Bool (a.req == changed)) [
        | inl change ↦ rw (change, other_one) (other_asked req changed tries requests other)
        | inr kept ↦ rw (kept, other_one) (other_asked req changed tries requests other)
      ]
    ]

-- the request has its new tries
pub this_asked : (req : ℕ) (tries : List Tried) (requests : List Asked) → has_req req requests ≡ true → asked_at req (with_tries req tries requests) ≡ record (asked_at req requests) { tries = tries }
this_asked req tries [] there = absurd cc
this_asked req tries (a ∷ requests) there =
    elim (cases_Bool (a.req == req)) [
      | inl same_one ↦ rw (same_one, same_one) refl
      | inr other_one ↦ rw (other_one, other_one) (this_asked req tries requests (rw other_one at there))
    ]
