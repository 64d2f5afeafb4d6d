use Rattle.std.proofs.Common.{arith}
use Rattle.mp_desk.proofs.Indexed.{none_before, none_there}
use Rattle.mp_desk.proofs.flights.place_of.Goals as goal

pub returns-else-twice : goal.returns-else-twice
returns-else-twice c =
    let placed = c.requires.kept.1.placed c.if-twice.false in
    let named = c.in-Some.is in
    rw named (record {
      before = none_before c.args.index.now 0 c.at.result c.in-Some.req c.args.sent.now placed (omega (arith, c.at.ensures));
      none = none_there c.args.index.now 0 c.at.result c.in-Some.req c.args.sent.now placed (omega (arith, c.at.ensures));
    })
