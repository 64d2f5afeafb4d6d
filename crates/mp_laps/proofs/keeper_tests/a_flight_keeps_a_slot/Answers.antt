use Rattle.std.proofs.Common.{◌∙◌, List, ap}
use Rattle.std.specs.List.{list_any}
use Rattle.mp_words.specs.declared.flight.Flight.{Flight}
use Rattle.mp_core.specs.Views.{is_flight}
use Rattle.mp_laps.proofs.keeper_tests.a_flight_keeps_a_slot.Goals as goal

pub is_done-requires-clause-flies : goal.is_done-requires-clause-flies
is_done-requires-clause-flies g c =
    ap (λ (fs : List Flight). list_any (is_flight c.in-Sent.flight) fs) (c.reap-again.ensures.flights ∙ c.remove-marked.ensures.flights)
    ∙ c.send.ensures.flies c.in-Sent.flight c.in-Sent.is

pub is_done-requires-clause-sent : goal.is_done-requires-clause-sent
is_done-requires-clause-sent g c = c.send.ensures.sent c.in-Sent.flight c.in-Sent.is
