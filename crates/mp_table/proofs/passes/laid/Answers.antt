use Rattle.mp_table.proofs.Ends.{laid_is}
use Rattle.mp_table.proofs.passes.laid.Goals as goal

pub returns-clause-words : goal.returns-clause-words
returns-clause-words c =
    let p = c.requires.parts in
    laid_is c.args.words.now c.args.sides.now c.args.rows.now c.args.depths.now c.args.currents.now p.0 p.1 p.2 p.3 c.told-sides c.told-rows c.told-depths c.told-currents
