use Rattle.std.proofs.Common.{◌≡◌, ◌∙◌, false, length, get_or, arith}
use Rattle.std.proofs.lemmas.List.{get_or_default}
use Rattle.mp_script.proofs.Marked.{has_mark}
use Rattle.mp_script.proofs.requests.Requests.has.Goals as goal

pub returns : goal.returns
returns c =
    let count : length c.self.inside.marks.items ≡ 65536 = c.self.invariant in
    let read : c.index.result.now ≡ get_or c.self.inside.marks.items c.get.result false =
    c.index.ensures ∙ get_or_default c.self.inside.marks.items c.get.result c.index.result.now false (omega (arith, count, c.get.ensures.below)) in
    rw (← c.self.view_is, has_mark c.self.inside.marks.items c.args.req, ← c.get.ensures.number) read
