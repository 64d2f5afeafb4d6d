-- What a finish does.
use Rattle.std.specs.Prelude.{◌≡◌, ℕ, ◌+◌, ◌≤◌, Bool, true, false, List, ◌++◌, length, take, replicate, Option, None, Some}
use Rattle.std.specs.List.{last_or}
use Rattle.mp_words.specs.declared.answers.Answer.{Answer}
use Rattle.mp_words.specs.declared.flight.Flight.{Flight}
use Rattle.mp_words.specs.declared.op.Maker.{Maker}
use Rattle.mp_words.specs.declared.op.Maker.TheVariants.{Hop}
use Rattle.mp_words.specs.declared.note.Note.{Note}
use Rattle.mp_words.specs.declared.trying.Back.{Back}
use Rattle.mp_words.specs.declared.trying.Back.TheVariants as back
use Rattle.mp_words.specs.Answers.{answer_for}
use Rattle.mp_words.specs.Request.{attempts_of, asked_of, ended_tries}
use Rattle.mp_words.specs.RequestView.{RequestView}
use Rattle.mp_status.specs.declared.class.Class.{Class}
use Rattle.mp_status.specs.declared.class.Class.TheVariants as class
use Rattle.mp_core.specs.Core.{Core}
use Rattle.mp_core.specs.Kinds.{Lands}
use Rattle.mp_change.specs.declared.pending.PendingEnd.{PendingEnd}
use Rattle.mp_change.specs.declared.pending.PendingEnd.TheVariants as pending
use Rattle.mp_change.specs.Pending.{MarksPending, DropsCurrent}
use Rattle.mp_submit.specs.declared.finish.Finished.{Finished}
use Rattle.mp_submit.specs.declared.finish.Finished.TheVariants as finished
use Rattle.mp_status.specs.Hop.{hop_statuses, class_of_hop}

-- The statuses of the hop that a request is on: the scripted ones, from the attempt behind those that it has made.
abbrev pub statuses_of : List Answer → RequestView → List ℕ
statuses_of answers r = hop_statuses (answer_for answers r.id) (attempts_of (asked_of r).tries + 1)

-- The maker of the entries of a request's last try on a lane.
abbrev pub hop_of : ℕ → RequestView → Maker
hop_of lane r = Hop lane r.id (length r.tries)

-- These statuses in six places, and 0 in the places behind them.
abbrev pub six_of : List ℕ → List ℕ
six_of statuses = take 6 (statuses ++ replicate 6 0)

-- The request's last try has these statuses, at most six, and this way back.
pub record Ended (before after : RequestView) (statuses : List ℕ) (way : Option Back) : Type 0 where
  pub few : length statuses ≤ 6
  pub tries : after.tries ≡ ended_tries (six_of statuses) (length statuses) way before.tries
  pub id : after.id ≡ before.id
  pub node : after.node ≡ before.node

-- How a request comes back after pending was set or not; where the row has moved it does not.
abbrev pub back_of : PendingEnd → Option Back
back_of (pending.Set e) = Some (back.Set e)
back_of (pending.NoAna row) = Some back.Unset
back_of (pending.Moved row) = None

-- A failover, to its section's end: by an ANA status pending is set on the flight's path, by another status of the path the
-- current paths that are this one are cleared.
abbrev pub FailsOver : Class → Core → Core → Flight → Maker → Note → Back → Type 0
FailsOver (class.Failover true) a c f by n way = (ending : PendingEnd) × MarksPending f.slot by a c ending n × (back_of ending ≡ Some way)
FailsOver (class.Failover false) a c f by n way = DropsCurrent f.slot a c n × (way ≡ back.Unset)
FailsOver class.Complete a c f by n way = ⊥
FailsOver class.Retry a c f by n way = ⊥

-- What a finish does, by its answer:
-- the last status completes, the flight has ended, and the request's last try has the statuses;
-- or the last status fails over, which is done in one section, the flight has ended, and the request came back;
-- or it fails over by an ANA status and the row has moved, and then the flight and the request are as before.
abbrev pub FinishTo : List Answer → Core → Core → Flight → RequestView → RequestView → Finished → Type 0
FinishTo answers a b f before after (finished.Done status) =
    (class_of_hop (statuses_of answers before) ≡ class.Complete) × (Some status ≡ last_or None (statuses_of answers before)) × Lands a b f × Ended before after (statuses_of answers before) None
FinishTo answers a b f before after (finished.Back n) =
    (c : Core) × (way : Back) × FailsOver (class_of_hop (statuses_of answers before)) a c f (hop_of a.lane before) n way × Lands c b f × Ended before after (statuses_of answers before) (Some way)
FinishTo answers a b f before after (finished.Moved g row n) =
    (class_of_hop (statuses_of answers before) ≡ class.Failover true) × (g ≡ f) × MarksPending f.slot (hop_of a.lane before) a b (pending.Moved row) n × (after ≡ before)

-- What a finish of a flight does.
pub record Finishes (answers : List Answer) (a b : Core) (f : Flight) (before after : RequestView) (answer : Finished) : Type 0 where
  pub to : FinishTo answers a b f before after answer

-- What follows a hop: it is complete, or fails over, by an ANA status or by another.
abbrev pub class_by : Option Bool → Class
class_by None = class.Complete
class_by (Some ana) = class.Failover ana
