use Rattle.std.proofs.Common.{◌≡◌, length, arith}
use Rattle.mp_script.proofs.Marked.{marked_more}
use Rattle.mp_script.proofs.requests.Requests.put.Goals as goal

pub returns : goal.returns
returns c =
    let count : length c.self.inside.marks.items ≡ 65536 = c.self.invariant in
    rw (← c.self.view_is, ← c.get.ensures.number) (marked_more c.self.inside.marks.items c.get.result (omega (arith, count, c.get.ensures.below)))
