-- What a run tells of the tries of its requests, and what the script makes of them.
use Rattle.std.specs.Prelude.{[], ◌≡◌, ℕ, zero, suc, ◌+◌, Bool, true, false, ◌&&◌, ◌==◌, if◌then◌else◌}
use Rattle.std.specs.Prelude.{List, ◌∷◌, ◌++◌, length, count_by, slice_get, Option, Some, None, is_some}
use Rattle.std.specs.List.{flat_map, last_or, AllByRecursion}
use Rattle.mp_words.specs.declared.answers.Answer.{Answer}
use Rattle.mp_words.specs.declared.trying.TryEnd.{TryEnd}
use Rattle.mp_words.specs.declared.trying.TryEnd.TheVariants.{Sent, Listed, Failed}
use Rattle.mp_words.specs.declared.trying.Outcome.TheVariants.{Waiting}
use Rattle.mp_words.specs.Request.{Asked, Tried, attempts_of, outcome_of}
use Rattle.mp_status.specs.declared.class.Class.{Class}
use Rattle.mp_status.specs.declared.class.Class.TheVariants.{Complete, Failover, Retry}
use Rattle.mp_record.specs.declared.event.Event.{Event}
use Rattle.mp_record.specs.declared.event.Event.TheVariants.{Sec, At, Try, Fin}
use Rattle.mp_record.specs.RunView.{RunView}
use Rattle.mp_submit.specs.Finishes.{six_of}
use Rattle.mp_legal.specs.Answers.{hop_statuses, class_of_hop}
use Rattle.mp_legal.specs.Numbers.{asked_at}

-- ---- what is told

-- All events of a run: those of its lanes, and those of its drain.
abbrev pub all_events : RunView → List Event
all_events run = flat_map (λ events. events) run.lanes ++ run.drain

-- The try at a place, counted from 1.
abbrev pub try_at : ℕ → List Tried → Option Tried
try_at zero tries = None
try_at (suc place) tries = slice_get tries place

-- The try of a request at a place.
abbrev pub tried_at : ℕ → ℕ → List Asked → Option Tried
tried_at req hop requests = try_at hop (asked_at req requests).tries

-- A try that was sent has ended once it has a status.
abbrev pub has_status : TryEnd → List ℕ → Bool
has_status (Sent slot version) (status ∷ statuses) = true
has_status (Sent slot version) [] = false
has_status Listed statuses = false
has_status Failed statuses = false

-- The try is there, was sent and has ended.
abbrev pub has_ended : Option Tried → Bool
has_ended None = false
has_ended (Some t) = has_status t.end t.statuses

-- The event is the try of a request at a place.
abbrev pub is_try : ℕ → ℕ → Event → Bool
is_try req hop (Try r h end) = (r == req) && (h == hop)
is_try req hop (Fin r h statuses count back) = false
is_try req hop (At line said) = false
is_try req hop (Sec note moved) = false

-- The event is the end of a request's try at a place.
abbrev pub is_end : ℕ → ℕ → Event → Bool
is_end req hop (Fin r h statuses count back) = (r == req) && (h == hop)
is_end req hop (Try r h end) = false
is_end req hop (At line said) = false
is_end req hop (Sec note moved) = false

-- How often the events tell the try of a request at a place.
abbrev pub tries_told : ℕ → ℕ → List Event → ℕ
tries_told req hop events = count_by (is_try req hop) events

-- How often the events tell the end of a request's try at a place.
abbrev pub ends_told : ℕ → ℕ → List Event → ℕ
ends_told req hop events = count_by (is_end req hop) events

-- What an event tells of a try is so: how its submit ended or, once it has ended, its statuses and how it came back.
abbrev pub IsTold : List Asked → Event → Type 0
IsTold requests (Try req hop end) = (t : Tried) × (tried_at req hop requests ≡ Some t) × (t.end ≡ end)
IsTold requests (Fin req hop statuses count back) =
    (t : Tried) × (tried_at req hop requests ≡ Some t) × (has_ended (Some t) ≡ true)
    × (six_of t.statuses ≡ statuses) × (length t.statuses ≡ count) × (t.back ≡ back)
IsTold requests (At line said) = Unit {0}
IsTold requests (Sec note moved) = Unit {0}

-- Each try of each request is told once, and its end once where it was sent and has ended; no other try and no other
-- end is told; and what is told of each is so.
pub record AreTold (requests : List Asked) (events : List Event) : Type 0 where
  pub once : (req hop : ℕ) → tries_told req hop events ≡ (if is_some (tried_at req hop requests) then 1 else 0)
  pub ended : (req hop : ℕ) → ends_told req hop events ≡ (if has_ended (tried_at req hop requests) then 1 else 0)
  pub each : AllByRecursion (IsTold requests) events

-- ---- what the script makes of tries

-- The class asks for another path.
abbrev pub fails_over : Class → Bool
fails_over (Failover ana) = true
fails_over Complete = false
fails_over Retry = false

-- A try behind these is as the script has it, by how its submit ended: one that was sent has the statuses of the hop
-- from the next attempt on, and a way back where the last of them fails over; another has no status and no way back.
abbrev pub IsAsScripted : List Answer → ℕ → List Tried → TryEnd → Tried → Type 0
IsAsScripted answers req before (Sent slot version) t =
    (t.statuses ≡ hop_statuses answers req (attempts_of before + 1))
    × (is_some t.back ≡ fails_over (class_of_hop t.statuses))
IsAsScripted answers req before Listed t = (t.statuses ≡ []) × (t.back ≡ None)
IsAsScripted answers req before Failed t = (t.statuses ≡ []) × (t.back ≡ None)

-- Behind these tries of a request each of the rest is made of a request that waits, and is as the script has it.
abbrev pub AreScripted : List Answer → ℕ → List Tried → List Tried → Type 0
AreScripted answers req before [] = Unit {0}
AreScripted answers req before (t ∷ tries) =
    (outcome_of (last_or None before) ≡ Waiting) × IsAsScripted answers req before t.end t
    × AreScripted answers req (before ++ t ∷ []) tries

-- All tries of the request are as the script has them.
abbrev pub IsScripted : List Answer → Asked → Type 0
IsScripted answers a = AreScripted answers a.req [] a.tries
