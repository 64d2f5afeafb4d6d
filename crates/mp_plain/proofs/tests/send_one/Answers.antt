use Rattle.std.proofs.Common.{◌≡◌, ◌∙◌, Option, Some, option_map, get_or, ap, refl}
use Rattle.std.specs.List.{list_any}
use Rattle.mp_words.specs.declared.flight.Flight.{Flight}
use Rattle.mp_words.specs.declared.order.Order.{Order}
use Rattle.mp_core.specs.declared.view.View.{View}
use Rattle.mp_core.specs.Core.{Core}
use Rattle.mp_core.specs.Memory.{Memory, row_at, entered_in}
use Rattle.mp_core.specs.Views.{is_flight}
use Rattle.mp_plain.specs.Told.{told_core}
use Rattle.mp_plain.proofs.Worked.{worked, sent_usable, sent_flies}
use Rattle.mp_plain.proofs.tests.send_one.Goals as goal

pub send-flight-requires-clause-usable : goal.send-flight-requires-clause-usable
send-flight-requires-clause-usable c =
    let first = ap (λ (x : Core). x.told) c.load_side-side.ensures.after ∙ c.requires.told in
    let entered = ap (λ (x : Core). x.told) c.enter-section.ensures.after ∙ ap (option_map (entered_in c.load_side-side.result)) first in
    let order = c.load_order-order.ensures.found.told (entered_in c.load_side-side.result worked) entered in
    let read = ap (λ (x : Core). x.told) c.load_order-order.ensures.after ∙ entered in
    let slot = ap (λ (o : Order). get_or o.slots 0 c.index-order-0.result) order in
    let row = c.load_row.ensures.found.told (entered_in c.load_side-side.result worked) read ∙ ap (row_at (entered_in c.load_side-side.result worked)) slot in
    sent_usable c.enter-section.result _ _ c.load_order-order.result c.load_row.result _ c.load_order-order.ensures.section c.load_row.ensures.section order row slot

pub returns : goal.returns
returns c =
    let left = ap (λ (x : Core). x.view.flights) c.leave.ensures.kind.after in
    let sent = ap (λ (x : Core). x.view.flights) c.send-flight.ensures.after in
    ap (list_any (is_flight c.send-flight.result)) (left ∙ sent) ∙ sent_flies c.send-flight.result _
