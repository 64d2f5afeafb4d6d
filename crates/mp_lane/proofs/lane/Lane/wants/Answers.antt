use Rattle.std.proofs.Common.{◌+◌, drop, refl, sym, ap, ◌∙◌}
use Rattle.mp_lane.proofs.Rests.{next_got}
use Rattle.mp_lane.proofs.Stepping.{wants_so}
use Rattle.mp_lane.proofs.lane.Lane.wants.Goals as goal

pub returns-in-Some : goal.returns-in-Some
returns-in-Some c =
    let s = c.self.inside in
    let got = c.in-Some.ensures.lookup in
    let next = next_got s.next c.as_slice.result.now c.in-Some.numbered.now got.3.0 got.1 in
    wants_so c.args.self.now s.over s.listed (drop s.next s.plan.lines) (drop (s.next + 1) c.as_slice.result.now) c.in-Some.numbered.now c.wants_for.result (sym (ap (λ v. v.over) c.self.view_is)) c.if-self.false (sym (ap (λ v. v.listed) c.self.view_is)) (sym (ap (λ v. v.rest) c.self.view_is))
    (ap (drop s.next) (sym c.as_slice.ensures) ∙ next) (c.wants_for.ensures c.in-Some.numbered.now (drop (s.next + 1) c.as_slice.result.now) refl)
