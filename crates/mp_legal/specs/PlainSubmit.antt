-- A submit of a request.
use Rattle.std.specs.Prelude.{ℕ, ◌+◌, List, [], ◌∷◌, ◌++◌, length, Option, Some, None, slice_index_or, slice_set}
use Rattle.mp_words.specs.declared.row.Policy.{Policy}
use Rattle.mp_words.specs.declared.row.Policy.TheVariants.{Numa, RoundRobin, QueueDepth}
use Rattle.mp_words.specs.declared.near.Near.{Near}
use Rattle.mp_words.specs.declared.trying.TryEnd.{TryEnd}
use Rattle.mp_words.specs.declared.trying.TryEnd.TheVariants.{Sent, Listed, Failed}
use Rattle.mp_record.specs.declared.event.Event.TheVariants.{Try}
use Rattle.mp_words.specs.declared.path.Path.{Path}
use Rattle.mp_submit.specs.Choice.{choice_by as choice_on, end_with}
use Rattle.mp_words.specs.declared.flight.Flight.{Flight}
use Rattle.mp_words.specs.Request.{Tried, Asked}
use Rattle.mp_legal.specs.PlainState.{State, paths_of, depth_of, request_of, with_tries, reads_of}
use Rattle.mp_legal.specs.Stepped.{Stepped, tells}

-- the policy's choice for a node
abbrev pub choice_by : Policy → Near → State → ℕ → Option Path
choice_by policy near s node = choice_on policy near node (slice_index_or s.lasts node None) (depth_of s) (paths_of s)

-- how a try with this choice ends
abbrev pub end_of : State → Option Path → TryEnd
end_of s choice = end_with (paths_of s) choice

-- round robin alone keeps the choice of a node
abbrev pub lasts_with : Policy → ℕ → ℕ → List (Option ℕ) → List (Option ℕ)
lasts_with RoundRobin node slot lasts = slice_set lasts node (Some slot)
lasts_with Numa node slot lasts = lasts
lasts_with QueueDepth node slot lasts = lasts

-- the state after a try of a request by a lane
abbrev pub after_try : ℕ → State → Asked → TryEnd → State
after_try lane s a (Sent slot version) =
    let flight : Flight = record { slot = slot; version = version; req = a.req; lane = lane } in
    record s {
      flights = slice_set s.flights lane (slice_index_or s.flights lane [] ++ flight ∷ []);
      lasts = lasts_with s.order.policy a.node slot s.lasts;
    }
after_try lane s a Listed = record s { waiting = s.waiting ++ a.req ∷ [] }
after_try lane s a Failed = s

-- the state with one more try of a request by a lane, and with what it read
abbrev pub noted_try : ℕ → State → Asked → TryEnd → State
noted_try lane s a end =
    let made : Tried = record { end = end; statuses = []; back = None } in
    record s {
      requests = with_tries a.req (a.tries ++ made ∷ []) s.requests;
      reads = s.reads ++ (a.req, reads_of lane s) ∷ [];
    }

-- a try that ends so
abbrev pub tried : ℕ → State → Asked → TryEnd → Stepped
tried lane s a end = tells (noted_try lane (after_try lane s a end) a end) (Try a.req (length a.tries + 1) end ∷ [])

-- one try of a request by a lane
abbrev pub submitted : Near → ℕ → State → ℕ → Stepped
submitted near lane s req =
    tried lane s (request_of s req) (end_of s (choice_by s.order.policy near s (request_of s req).node))
