use Rattle.std.proofs.Common.{◌∙◌}
use Rattle.mp_words.specs.TwoPaths.{two_paths}
use Rattle.mp_plain.specs.Told.{told_core}
use Rattle.mp_laps.proofs.Keeping.{owners, new_stands}
use Rattle.mp_laps.proofs.keeper_tests.keeper_of.Goals as goal

pub returns : goal.returns
returns c =
    let core = told_core c.args.plain.now in
    let new = c.make.ensures in
    new_stands core.home 100 c.make.result core c.requires
    (record { order_is = new.order_is ∙ c.two_listed.ensures; owners_are = new.owners_are ∙ c.two_owners.ensures; removals = new.removals; flips = new.flips; entries = new.entries })
    (λ v. c.a_new_keeper_stands.ensures two_paths owners c.make.result v)
