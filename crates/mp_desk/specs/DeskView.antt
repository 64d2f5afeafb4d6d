-- A desk as clauses see it.
use Rattle.std.specs.Prelude.{ℕ, Bool, ◌+◌, not, ◌==◌, List, [], ◌∷◌, ◌++◌, filter, length, Option, None, Some}
use Rattle.mp_words.specs.declared.flight.Flight.{Flight}
use Rattle.mp_words.specs.declared.entry.RowEntry.{RowEntry}
use Rattle.mp_words.specs.declared.trying.Back.{Back}
use Rattle.mp_words.specs.declared.trying.TryEnd.{TryEnd}
use Rattle.mp_words.specs.declared.trying.TryEnd.TheVariants as end
use Rattle.mp_words.specs.RequestView.{RequestView}
use Rattle.mp_record.specs.declared.event.Event.{Event}
use Rattle.mp_desk.specs.declared.flying.Flying.{Flying}

-- The requests on their way, in the order sent; those to be listed, in order; those that ended here; the events noted;
-- the entries of rows that were made; and whether the sections among the events are kept.
pub record DeskView : Type 0 where
  pub flying : List Flying
  pub out : List RequestView
  pub ended : List RequestView
  pub events : List Event
  pub rows : List RowEntry
  pub keeps : Bool

-- how many requests the desk has that haven't ended: those on their way, and those to be listed
abbrev pub unended : DeskView → ℕ
unended d = length d.flying + length d.out

-- the desk after these events were noted
abbrev pub noting : List Event → DeskView → DeskView
noting events d = record d { events = d.events ++ events }

-- the desk after these entries of rows were made
abbrev pub entering : List RowEntry → DeskView → DeskView
entering rows d = record d { rows = d.rows ++ rows }

-- the desk after a request's try ended so: it is on its way, or to be listed, or has ended
abbrev pub placing : ℕ → RequestView → TryEnd → DeskView → DeskView
placing lane r (end.Sent slot version) d =
    let flight : Flight = record { slot = slot; version = version; req = r.id; lane = lane } in
    record d { flying = d.flying ++ record { flight = flight; request = r } ∷ [] }
placing lane r end.Listed d = record d { out = d.out ++ r ∷ [] }
placing lane r end.Failed d = record d { ended = d.ended ++ r ∷ [] }

-- the desk after a request's flight ended, and it came back so or didn't: it is to be listed, or has ended
abbrev pub landing : RequestView → Option Back → DeskView → DeskView
landing r None d = record d { ended = d.ended ++ r ∷ [] }
landing r (Some way) d = record d { out = d.out ++ r ∷ [] }

-- the requests on their way, without those of this number
abbrev pub flying_without : ℕ → List Flying → List Flying
flying_without req flying = filter (λ f. not (f.flight.req == req)) flying

-- the requests on their way of this number
abbrev pub flying_with : ℕ → List Flying → List Flying
flying_with req flying = filter (λ f. f.flight.req == req) flying

-- the desk after a request was taken that was on its way
abbrev pub taking : ℕ → DeskView → DeskView
taking req d = record d { flying = flying_without req d.flying }
