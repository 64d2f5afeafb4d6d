use Rattle.std.proofs.Common.{◌∙◌}
use Rattle.mp_words.specs.TwoPaths.{two_paths}
use Rattle.mp_table.specs.Passes.{keeper_view}
use Rattle.mp_laps.proofs.Keeping.{owners}
use Rattle.mp_laps.proofs.table_tests.keeper_of.Goals as goal

pub returns : goal.returns
returns c =
    let new = c.make.ensures in
    c.a_new_keeper_stands.ensures two_paths owners c.make.result (keeper_view c.args.on.now.pass)
    (record { order_is = new.order_is ∙ c.two_listed.ensures; owners_are = new.owners_are ∙ c.two_owners.ensures; removals = new.removals; flips = new.flips; entries = new.entries })
    c.requires
