-- The finish of a flight.
use Rattle.std.specs.Prelude.{slice_index_or, slice_set, ℕ, ◌+◌, Bool, not, ◌&&◌, ◌==◌, List, [], ◌∷◌, ◌++◌, filter, length, Option, Some, None, if◌then◌else◌}
use Rattle.mp_words.specs.declared.op.Op.TheVariants as op
use Rattle.mp_words.specs.declared.op.Maker.TheVariants.{Hop}
use Rattle.mp_words.specs.declared.entry.RowEntry.{RowEntry}
use Rattle.mp_words.specs.declared.flight.Flight.{Flight}
use Rattle.mp_words.specs.declared.trying.Back.{Back}
use Rattle.mp_words.specs.declared.trying.Back.TheVariants.{Set, Unset}
use Rattle.mp_record.specs.declared.event.Event.TheVariants.{Fin}
use Rattle.mp_status.specs.declared.class.Class.{Class}
use Rattle.mp_status.specs.declared.class.Class.TheVariants.{Complete, Failover, Retry}
use Rattle.mp_words.specs.declared.answers.Answer.{Answer}
use Rattle.mp_words.specs.Effect.{cleared, the_slots}
use Rattle.mp_submit.specs.Finishes.{six_of}
use Rattle.mp_legal.specs.Answers.{hop_statuses, class_of_hop}
use Rattle.mp_words.specs.Request.{Tried, attempts_of, map_last}
use Rattle.mp_legal.specs.PlainState.{State, row_at, request_of, entry_of, with_entry, with_tries}
use Rattle.mp_legal.specs.Stepped.{Stepped}

-- pending is set where the status says so and the path has ANA
abbrev pub pending_or_not : ℕ → State → Flight → ℕ → Bool → Back
pending_or_not lane s flight hop ana =
    let set : Back = Set (entry_of s flight.slot op.Pending (Hop lane flight.req hop)) in
    if ana && (row_at s flight.slot).ana then set else Unset

-- how a flight comes back, if it does
abbrev pub back_of : ℕ → State → Flight → ℕ → Class → Option Back
back_of lane s flight hop (Failover ana) = Some (pending_or_not lane s flight hop ana)
back_of lane s flight hop Complete = None
back_of lane s flight hop Retry = None

-- the row entry of a flight that came back with pending set, and none of another
abbrev pub entries_of : Option Back → List RowEntry
entries_of (Some (Set entry)) = entry ∷ []
entries_of (Some Unset) = []
entries_of None = []

-- the request waits again, and no last choice names its path
abbrev pub listed_again : Flight → State → State
listed_again flight s =
    record s { lasts = cleared the_slots flight.slot s.lasts; waiting = s.waiting ++ flight.req ∷ [] }

-- the state after a flight came back so, or didn't
abbrev pub after_back : Flight → Option Back → State → State
after_back flight None s = s
after_back flight (Some Unset) s = listed_again flight s
after_back flight (Some (Set entry)) s = listed_again flight (with_entry s entry)

-- a try with these statuses and this way back
abbrev pub ended_try : List ℕ → Option Back → Tried → Tried
ended_try statuses back t = record t { statuses = statuses; back = back }

-- the tries, with these statuses and this way back in the last of them
abbrev pub ended_tries : List ℕ → Option Back → List Tried → List Tried
ended_tries statuses back tries = map_last (ended_try statuses back) tries

-- the state without the flight, whose request has these tries
abbrev pub landed : Flight → List Tried → State → State
landed flight tries s =
    let others : List Flight = filter (λ f. not (f.req == flight.req)) (slice_index_or s.flights flight.lane []) in
    record s { flights = slice_set s.flights flight.lane others; requests = with_tries flight.req tries s.requests }

-- a flight of a request with these tries ends with these statuses, and comes back so
abbrev pub ended : State → Flight → List Tried → List ℕ → Option Back → Stepped
ended s flight tries statuses back = record {
  state = after_back flight back (landed flight (ended_tries statuses back tries) s);
  rows = entries_of back;
  orders = [];
  events = Fin flight.req (length tries) (six_of statuses) (length statuses) back ∷ [];
}

-- the finish of a flight of a request with these tries, by the statuses of its hop
abbrev pub finished_with : ℕ → State → Flight → List Tried → List ℕ → Stepped
finished_with lane s flight tries statuses =
    ended s flight tries statuses (back_of lane s flight (length tries) (class_of_hop statuses))

-- the finish of a flight
abbrev pub finished : List Answer → ℕ → State → Flight → Stepped
finished answers lane s flight =
    let tries = (request_of s flight.req).tries in
    finished_with lane s flight tries (hop_statuses answers flight.req (attempts_of tries + 1))
