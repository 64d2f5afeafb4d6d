-- Requests by number, with one more.
use Rattle.std.proofs.Common.{[], ◌≡◌, ℕ, Bool, true, false, ◌||◌, ◌==◌, nat_lt, List, ◌∷◌, inl, inr, refl, ap, ◌∙◌, eq-eqb}
use Rattle.std.proofs.lemmas.Bool.{cases_Bool}
use Rattle.mp_words.specs.declared.trying.Outcome.TheVariants.{Sent}
use Rattle.mp_words.specs.Request.{Asked}
use Rattle.mp_legal.specs.PlainState.{with_new}
use Rattle.mp_legal.specs.Numbers.{has_req, asked_at, standing}
use Rattle.mp_run.proofs.ByNumber.{or_false}

or_turn : (a b c : Bool) → (a || (b || c)) ≡ (b || (a || c))
or_turn true true c = refl
or_turn true false c = refl
or_turn false b c = refl

-- the request is there, and so are the others
pub has-new : (req : ℕ) (a : Asked) (requests : List Asked) → has_req req (with_new a requests) ≡ ((a.req == req) || has_req req requests)
has-new req a [] = refl
has-new req a (b ∷ requests) =
    elim (cases_Bool (nat_lt a.req b.req)) [
      | inl low ↦ rw low refl
      | inr high ↦ rw high (ap (λ x. (b.req == req) || x) (has-new req a requests) ∙ or_turn (b.req == req) (a.req == req) (has_req req requests))
    ]

-- a request of another number is as it was
pub asked-new : (req : ℕ) (a : Asked) (requests : List Asked) → (a.req == req) ≡ false → asked_at req (with_new a requests) ≡ asked_at req requests
asked-new req a [] apart = rw apart refl
asked-new req a (b ∷ requests) apart =
    elim (cases_Bool (nat_lt a.req b.req)) [
      | inl low ↦ rw (low, apart) refl
      | inr high ↦ rw high (elim (cases_Bool (b.req == req)) [
        | inl here ↦ rw here refl
        | inr other ↦ rw other (asked-new req a requests apart)
      ])
    ]

-- the request itself
pub asked-own : (a : Asked) (requests : List Asked) → has_req a.req requests ≡ false → asked_at a.req (with_new a requests) ≡ a
asked-own a [] fresh = rw (eq-eqb a.req a.req refl) refl
asked-own a (b ∷ requests) fresh =
    let parts = or_false (b.req == a.req) (has_req a.req requests) fresh in
    elim (cases_Bool (nat_lt a.req b.req)) [
      | inl low ↦ rw (low, eq-eqb a.req a.req refl) refl
      | inr high ↦ rw (high, parts.0) (asked-own a requests parts.1)
    ]

-- a request that is new isn't sent
pub sent_before : (requests : List Asked) (req node r : ℕ) → standing r (with_new (record { req = req; node = node; tries = [] }) requests) ≡ Sent → standing r requests ≡ Sent
sent_before [] req node r e =
    elim (cases_Bool (req == r)) [
      | inl on ↦ let e2 = rw on at e in absurd cc
      | inr off ↦ let e2 = rw off at e in absurd cc
    ]
sent_before (b ∷ requests) req node r e =
    elim (cases_Bool (nat_lt req b.req)) [
      | inl low ↦ elim (cases_Bool (req == r)) [
        | inl on ↦ let e2 = rw (low, on) at e in absurd cc
        | inr off ↦ rw (low, off) at e
      ]
      | inr high ↦ elim (cases_Bool (b.req == r)) [
        | inl on ↦ rw on (rw (high, on) at e)
        | inr off ↦ rw off (sent_before requests req node r (rw (high, off) at e))
      ]
    ]
