-- Requests and flights by the request's number.
use Rattle.std.specs.Prelude.{ℕ, Bool, ◌==◌, List, [], find, Option, Some, None}
use Rattle.std.specs.List.{list_any, last_or}
use Rattle.mp_words.specs.declared.flight.Flight.{Flight}
use Rattle.mp_words.specs.declared.trying.Outcome.{Outcome}
use Rattle.mp_words.specs.Request.{Asked, outcome_of}

-- some request has this number
abbrev pub has_req : ℕ → List Asked → Bool
has_req req requests = list_any (λ a. a.req == req) requests

-- the request, or one of this number without tries
abbrev pub asked_or : ℕ → Option Asked → Asked
asked_or req None = record { req = req; node = 0; tries = [] }
asked_or req (Some a) = a

-- the request of a number, or one without tries
abbrev pub asked_at : ℕ → List Asked → Asked
asked_at req requests = asked_or req (find (λ a. a.req == req) requests)

-- how the request of a number stands
abbrev pub standing : ℕ → List Asked → Outcome
standing req requests = outcome_of (last_or None (asked_at req requests).tries)

-- a request of this number flies
abbrev pub has_flight : ℕ → List Flight → Bool
has_flight req flights = list_any (λ f. f.req == req) flights
