-- A request that a line adds, as far as its tries go.
use Rattle.std.proofs.Common.{[], ◌≡◌, ℕ, Bool, true, false, ◌||◌, ◌==◌, List, ◌∷◌, inl, inr, refl, sym, ap, ◌∙◌}
use Rattle.std.proofs.lemmas.Bool.{cases_Bool, eqb-true}
use Rattle.mp_words.specs.Request.{Asked, Tried}
use Rattle.mp_script.specs.declared.script.Line.TheVariants as line
use Rattle.mp_legal.specs.PlainState.{State, with_new}
use Rattle.mp_legal.specs.PlainCall.{Inputs}
use Rattle.mp_legal.specs.PlainLine.{start_of}
use Rattle.mp_legal.specs.Numbers.{has_req, asked_at}
use Rattle.mp_run.proofs.ByNumber.{or_false}
use Rattle.mp_run.proofs.WithNew.{has-new, asked-new, asked-own}

-- a request that isn't there has no tries
pub not_there : (r : ℕ) (requests : List Asked) → has_req r requests ≡ false → asked_at r requests ≡ asked_at r []
not_there r [] none = refl
not_there r (a ∷ requests) none = let parts = or_false (a.req == r) (has_req r requests) none in rw parts.0 (not_there r requests parts.1)

-- the tries of the request of a number
abbrev tries_at : ℕ → List Asked → List Tried
tries_at r requests = (asked_at r requests).tries

tries_new : (a : Asked) (r : ℕ) (requests : List Asked) → a.tries ≡ [] → has_req a.req requests ≡ false → tries_at r (with_new a requests) ≡ tries_at r requests
tries_new a r requests none new =
    elim (cases_Bool (a.req == r)) [
      | inl on ↦ let same : a.req ≡ r = eqb-true a.req r on in
          ap (λ n. tries_at n (with_new a requests)) (sym same) ∙ ap (λ (b : Asked). b.tries) (asked-own a requests new) ∙ none
          ∙ sym (ap (λ (b : Asked). b.tries) (not_there a.req requests new)) ∙ ap (λ n. tries_at n requests) same
      | inr off ↦ ap (λ (b : Asked). b.tries) (asked-new r a requests off)
    ]

-- a submit line of a new number changes no request's tries
pub tries_added : (i : Inputs) (lane : ℕ) (s : State) (req node r : ℕ) → has_req req s.requests ≡ false → (asked_at r (start_of i lane s (line.Submit req node)).state.requests).tries ≡ (asked_at r s.requests).tries
tries_added i lane s req node r new = tries_new (record { req = req; node = node; tries = [] }) r s.requests refl new

or_turned : (a b : Bool) → (a || b) ≡ (b || a)
or_turned true true = refl
or_turned true false = refl
or_turned false true = refl
or_turned false false = refl

-- and adds one request
pub has_added : (i : Inputs) (lane : ℕ) (s : State) (req node r : ℕ) → has_req req s.requests ≡ false → has_req r (start_of i lane s (line.Submit req node)).state.requests ≡ (has_req r s.requests || (req == r))
has_added i lane s req node r new = has-new r (record { req = req; node = node; tries = [] }) s.requests ∙ or_turned (req == r) (has_req r s.requests)
