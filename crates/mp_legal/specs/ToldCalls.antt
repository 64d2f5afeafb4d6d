-- What the calls that are made of steps do to a run, where the words are told.
use Rattle.std.specs.Prelude.{◌≡◌, ℕ, ◌-◌, not, ◌==◌, List, [], ◌∷◌, ◌++◌, filter, Option, None, Some, slice_index_or, slice_set}
use Rattle.std.specs.List.{last_or}
use Rattle.mp_words.specs.declared.flight.Flight.{Flight}
use Rattle.mp_words.specs.declared.entry.RowEntry.{RowEntry}
use Rattle.mp_words.specs.declared.trying.Try.{Try}
use Rattle.mp_words.specs.declared.trying.TryEnd.{TryEnd}
use Rattle.mp_words.specs.declared.trying.TryEnd.TheVariants as end
use Rattle.mp_words.specs.declared.trying.Back.{Back}
use Rattle.mp_words.specs.Request.{asked_of}
use Rattle.mp_words.specs.RequestView.{RequestView}
use Rattle.mp_record.specs.declared.event.Event.{Event}
use Rattle.mp_core.specs.Core.{Core}
use Rattle.mp_core.specs.Memory.{Memory}
use Rattle.mp_legal.specs.PlainState.{with_tries}
use Rattle.mp_legal.specs.Stepped.{Stepped}
use Rattle.mp_legal.specs.ToldState.{Beside, state_in, IsAt}
use Rattle.mp_legal.specs.TryRead.{read_of}
pub use Rattle.mp_desk.specs.Says.{try_event, back_in, end_event, said_of, entry_in}

-- A call is a plain step: the pass stands behind it where the step leads, it has used so many units, and nothing of
-- another lane is changed.
pub record IsStep (step : Stepped) (units : ℕ) (a b : Core) (y : Beside) (made : List RowEntry) (told : List Event) : Type 0 where
  pub memory : Memory
  pub at : IsAt b memory y
  pub state : step.state ≡ state_in memory y
  pub rows : step.rows ≡ made
  pub orders : step.orders ≡ []
  pub events : step.events ≡ told
  pub left : b.view.left ≡ a.view.left - units
  pub lane : b.lane ≡ a.lane
  pub home : b.home ≡ a.home
  pub others : b.others ≡ a.others
  pub keeping : b.view.keeping.start ≡ a.view.keeping.start

-- the flights of a lane, and what else a run has, after a try of a request that ended so
abbrev pub placed : ℕ → ℕ → TryEnd → Beside → Beside
placed lane req (end.Sent slot version) x =
    let flight : Flight = record { slot = slot; version = version; req = req; lane = lane } in
    record x { flights = slice_set x.flights lane (slice_index_or x.flights lane [] ++ flight ∷ []) }
placed lane req end.Listed x = record x { waiting = x.waiting ++ req ∷ [] }
placed lane req end.Failed x = x

-- what a run has after a submit, which made this try
abbrev pub with_try : ℕ → RequestView → Try → Beside → Beside
with_try lane after made x =
    let y : Beside = placed lane after.id made.end x in
    record y { requests = with_tries after.id (asked_of after).tries x.requests; reads = x.reads ++ (after.id, read_of made.note) ∷ [] }

-- the waiting requests after a flight came back so, or didn't
abbrev pub listed_back : ℕ → Option Back → List ℕ → List ℕ
listed_back req None waiting = waiting
listed_back req (Some way) waiting = waiting ++ req ∷ []

-- what a run has after a flight has ended and its request stands so
abbrev pub with_end : Flight → RequestView → Beside → Beside
with_end f after x = record x {
  flights = slice_set x.flights f.lane (filter (λ g. not (g.req == f.req)) (slice_index_or x.flights f.lane []));
  waiting = listed_back after.id (back_in (last_or None after.tries)) x.waiting;
  requests = with_tries after.id (asked_of after).tries x.requests;
}

-- how many units a finish used: one, where the request came back
abbrev pub units_of : Option Back → ℕ
units_of None = 0
units_of (Some way) = 1
