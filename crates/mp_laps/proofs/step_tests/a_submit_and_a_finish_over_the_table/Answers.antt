use Rattle.std.proofs.Common.{rules, ◌≡◌, ◌∙◌, ◌++◌, List, [], ◌∷◌, true, ap}
use Rattle.std.specs.List.{list_any}
use Rattle.mp_words.specs.declared.flight.Flight.{Flight}
use Rattle.mp_core.specs.declared.view.View.{View}
use Rattle.mp_core.specs.Views.{is_flight, flights_without}
use Rattle.mp_plain.proofs.Worked.{sent_flies}
use Rattle.mp_table.specs.declared.on.On.{On}
use Rattle.mp_table.specs.declared.pass.Pass.{Pass}
use Rattle.mp_table.specs.Passes.{view_of}
use Rattle.mp_laps.proofs.Tabling.{only_one}
use Rattle.mp_laps.proofs.step_tests.a_submit_and_a_finish_over_the_table.Goals as goal

pub is_done-done-requires-clause-flies : goal.is_done-done-requires-clause-flies
is_done-done-requires-clause-flies g c =
    ap (list_any (is_flight c.sent-flight.result)) (c.send.ensures.flew c.sent-flight.result c.sent-flight.ensures) ∙ sent_flies c.sent-flight.result (view_of c.of-steps.result.steps.pass).flights

pub join-requires-clause-landed : goal.join-requires-clause-landed
join-requires-clause-landed g c =
    let f = c.sent-flight.result in
    let done : c.is_done-done.result ≡ true = search rules in
    let same : c.steps-lane.result ≡ c.is_done-done.new.steps.steps = c.steps-lane.ensures ∙ c.no_more-all.ensures ∙ c.next-ended.ensures ∙ c.next-submitted.ensures in
    let begun : (view_of c.of-steps.result.steps.pass).flights ≡ [] =
    ap (λ (o : On). (view_of o.pass).flights) c.of-steps.ensures ∙ ap (λ (p : Pass). (view_of p).flights) c.make-lane.ensures.pass ∙ ap (λ (v : View). v.flights) c.split-lane.ensures.new in
    let sent = c.send.ensures.flew f c.sent-flight.ensures ∙ ap (λ (fs : List Flight). fs ++ f ∷ []) begun in
    let last = (c.is_done-done.ensures done).flights ∙ ap (flights_without f) sent ∙ only_one f in
    ap (λ (p : Pass). (view_of p).flights) c.pass.ensures.pass ∙ ap (λ (o : On). (view_of o.pass).flights) same ∙ last
