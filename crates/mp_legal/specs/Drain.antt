-- What is done once every lane has ended.
use Rattle.std.specs.Prelude.{ℕ, zero, suc, ◌+◌, Bool, true, false, [], map, length, if◌then◌else◌}
use Rattle.std.specs.List.{list_any}
use Rattle.mp_record.specs.declared.event.Event.{Event}
use Rattle.mp_record.specs.declared.event.Event.TheVariants.{Sec, At, Try, Fin}
use Rattle.mp_words.specs.declared.trying.TryEnd.TheVariants.{Sent, Listed, Failed}
use Rattle.mp_record.specs.declared.event.Said.TheVariants as said
use Rattle.mp_legal.specs.PlainState.{State}
use Rattle.mp_legal.specs.PlainCall.{Inputs, submit, finish, call}
use Rattle.mp_legal.specs.PlainKeep.{reaped}
use Rattle.mp_legal.specs.PlainLine.{flights_of}
use Rattle.mp_legal.specs.Stepped.{Stepped, Place, says, joined, and_then, each}

-- the place of the drain: lane 16, line 0
abbrev pub drain_place : Place
drain_place = record { lane = 16; line = 0 }

-- One reap for each removal under way. Nothing flies any more, so each frees the oldest.
abbrev pub reaps : State → Stepped
reaps s = each (λ t slot. reaped drain_place t) s s.removals

-- what flies is finished
abbrev pub finishes_all : Inputs → State → Stepped
finishes_all i s = each (call i drain_place) s (map finish (flights_of 16 s))

-- a request is submitted, and finished at once if it was sent
abbrev pub sends_and_finishes : Inputs → State → ℕ → Stepped
sends_and_finishes i s req = and_then (call i drain_place s (submit req)) (finishes_all i)

-- one round: the list is taken whole, and each request submitted in order
abbrev pub round : Inputs → State → Stepped
round i s =
    and_then (says drain_place (record s { waiting = [] }) (said.Requeue (length s.waiting)))
    (λ t. each (sends_and_finishes i) t s.waiting)

-- the event is a try that was sent
abbrev pub is_sent : Event → Bool
is_sent (Try req hop (Sent slot version)) = true
is_sent (Try req hop Listed) = false
is_sent (Try req hop Failed) = false
is_sent (At line said) = false
is_sent (Sec note moved) = false
is_sent (Fin req hop statuses count back) = false

-- this round and those after it, at most so many; the first that sends nothing is the last
abbrev pub rounds_from : Inputs → ℕ → Stepped → Stepped
rounds_from i zero first = first
rounds_from i (suc n) first =
    let more = joined first (rounds_from i n (round i first.state)) in
    if list_any is_sent first.events then more else first

-- How many rounds can send something: each ends a waiting request or uses up an answer of the script.
abbrev pub most_rounds : Inputs → State → ℕ
most_rounds i s = length s.waiting + length i.answers

-- all rounds of the drain
abbrev pub rounds : Inputs → State → Stepped
rounds i s = rounds_from i (most_rounds i s) (round i s)

-- the reaps, and then the rounds
abbrev pub drain : Inputs → State → Stepped
drain i s = and_then (reaps s) (rounds i)
