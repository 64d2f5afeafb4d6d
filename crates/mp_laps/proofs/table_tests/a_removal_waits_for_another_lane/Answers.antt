use Rattle.std.proofs.Common.{rules, ◌≡◌, ◌∙◌, ◌++◌, List, [], ◌∷◌, Some, None, true, replicate, sym, ap, subst}
use Rattle.std.specs.List.{list_any}
use Rattle.mp_words.specs.declared.flight.Flight.{Flight}
use Rattle.mp_words.specs.TwoPaths.{two_paths}
use Rattle.mp_core.specs.declared.view.View.{View}
use Rattle.mp_core.specs.Views.{is_flight, flights_without}
use Rattle.mp_keep.specs.Keeper.{AtStart}
use Rattle.mp_plain.proofs.Worked.{sent_flies}
use Rattle.mp_table.specs.declared.keeper_pass.KeeperPass.{KeeperPass}
use Rattle.mp_table.specs.declared.pass.Pass.{Pass}
use Rattle.mp_table.specs.Passes.{view_of, keeper_view}
use Rattle.mp_laps.proofs.Tabling.{only_one, table_starts}
use Rattle.mp_laps.proofs.table_tests.a_removal_waits_for_another_lane.Goals as goal

pub keeper_of-keeper-requires : goal.keeper_of-keeper-requires
keeper_of-keeper-requires g c =
    subst (λ (p : KeeperPass). AtStart two_paths (Some 0 ∷ Some 1 ∷ replicate 13 None) (keeper_view p)) (sym c.make-on.ensures.pass.0)
    (table_starts 200 _ 10 (keeper_view c.in_ok-shared.pass) (keeper_view c.split-lane.new.pass) c.in_ok-shared.ensures.view c.split-lane.ensures.kept)

pub is_done-done-requires-clause-flies : goal.is_done-done-requires-clause-flies
is_done-done-requires-clause-flies g c =
    ap (list_any (is_flight c.sent-flight.result)) (c.send.ensures.flew c.sent-flight.result c.sent-flight.ensures) ∙ sent_flies c.sent-flight.result (view_of c.make-lane.result.pass).flights

pub is_done-done-requires-2-clause-flies : goal.is_done-done-requires-2-clause-flies
is_done-done-requires-2-clause-flies g c =
    ap (list_any (is_flight c.sent-flight-2.result)) (c.send-2.ensures.flew c.sent-flight-2.result c.sent-flight-2.ensures) ∙ sent_flies c.sent-flight-2.result (view_of c.is_done-done.new.steps.pass).flights

pub join-requires-clause-landed : goal.join-requires-clause-landed
join-requires-clause-landed g c =
    let f = c.sent-flight.result in
    let h = c.sent-flight-2.result in
    let first : c.is_done-done.result ≡ true = search rules in
    let second : c.is_done-done-2.result ≡ true = search rules in
    let begun : (view_of c.make-lane.result.pass).flights ≡ [] = ap (λ (p : Pass). (view_of p).flights) c.make-lane.ensures.pass ∙ ap (λ (v : View). v.flights) c.split-lane.ensures.new in
    let sent = c.send.ensures.flew f c.sent-flight.ensures ∙ ap (λ (fs : List Flight). fs ++ f ∷ []) begun in
    let none = (c.is_done-done.ensures first).flights ∙ ap (flights_without f) sent ∙ only_one f in
    let again = c.send-2.ensures.flew h c.sent-flight-2.ensures ∙ ap (λ (fs : List Flight). fs ++ h ∷ []) none in
    let last = (c.is_done-done-2.ensures second).flights ∙ ap (flights_without h) again ∙ only_one h in
    ap (λ (p : Pass). (view_of p).flights) c.pass.ensures.pass ∙ last
