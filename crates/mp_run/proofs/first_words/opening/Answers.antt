use Rattle.std.proofs.Common.{ap, sym, subst, ◌∙◌, List, length}
use Rattle.mp_words.specs.declared.row.Row.{Row}
use Rattle.mp_words.specs.Facts.{IsOrder}
use Rattle.mp_rule.specs.Lawful.{IsLawful, HasRoom}
use Rattle.mp_legal.specs.Inputs.{inputs_of}
use Rattle.mp_run.proofs.FirstMemory.{world_opened, rows_length, rows_stored, first_listed, words_say, words_packed, opening_lawful, opening_room}
use Rattle.mp_run.proofs.first_words.opening.Goals as goal

pub pack-requires-clause-order : goal.pack-requires-clause-order
pack-requires-clause-order c = subst IsOrder (sym c.opening_order-order.ensures) (first_listed c.args.world.now.topology.policy (length c.args.world.now.topology.opening) c.requires.world.topology.opening_most)

pub row_words-requires-clause-length : goal.row_words-requires-clause-length
row_words-requires-clause-length c = ap (λ (rows : List Row). length rows) (c.as_slice.ensures.value ∙ c.in_ok-rows.ensures) ∙ rows_length (inputs_of c.args.world.now)

pub row_words-requires-clause-rows : goal.row_words-requires-clause-rows
row_words-requires-clause-rows c =
    rows_stored (inputs_of c.args.world.now) (world_opened c.stated_state_is_in_range.ensures c.args.world.now c.requires.world.topology) c.as_slice.result.now (c.as_slice.ensures.value ∙ c.in_ok-rows.ensures)

pub returns-clause-words : goal.returns-clause-words
returns-clause-words c =
    words_say (inputs_of c.args.world.now) c.pack.result c.row_words.result c.opening_order-order.result c.as_slice.result.now
    c.pack.ensures.unpacks c.opening_order-order.ensures c.row_words.ensures (c.as_slice.ensures.value ∙ c.in_ok-rows.ensures)

pub returns-clause-packed : goal.returns-clause-packed
returns-clause-packed c = words_packed c.pack.result c.row_words.result c.opening_order-order.result c.as_slice.result.now c.pack.ensures.unpacks c.row_words.ensures

pub returns-clause-lawful : goal.returns-clause-lawful
returns-clause-lawful c = subst IsLawful (sym (returns-clause-words c)) (opening_lawful (inputs_of c.args.world.now) (world_opened c.stated_state_is_in_range.ensures c.args.world.now c.requires.world.topology))

pub returns-clause-room : goal.returns-clause-room
returns-clause-room c = subst (λ m. HasRoom m 35651584) (sym (returns-clause-words c)) (opening_room (inputs_of c.args.world.now) (world_opened c.stated_state_is_in_range.ensures c.args.world.now c.requires.world.topology))
