use Rattle.std.proofs.Common.{◌≤◌, sym, subst}
use Rattle.mp_core.specs.Core.{Core}
use Rattle.mp_core.specs.Views.{flying}
use Rattle.mp_core.proofs.Flights.{has_flies}
use Rattle.mp_change.proofs.pending.pend.Goals as goal

pub make_change-requires-clause-reached : goal.make_change-requires-clause-reached
make_change-requires-clause-reached g c =
    λ none. subst (λ (x : Core). 1 ≤ flying c.args.flight.now.slot x.view) (sym c.flight_row-row.ensures.after) (has_flies c.args.flight.now (g.S.Steps.core c.args.steps.now).view c.requires.flies)
