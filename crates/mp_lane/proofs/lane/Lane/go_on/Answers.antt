use Rattle.std.proofs.Common.{ap, false, ◌∙◌, arith}
use Rattle.mp_desk.specs.Desks.{desk_of}
use Rattle.mp_lane.specs.Steps.{behind, has_line}
use Rattle.mp_lane.proofs.Rests.{behind_is, left_below}
use Rattle.mp_lane.proofs.lane.Lane.go_on.Goals as goal

pub overflow_add-self : goal.overflow_add-self
overflow_add-self c =
    omega (arith, left_below c.self.inside.next c.self.inside.plan.lines (ap (λ v. has_line v.rest) c.self.view_is ∙ c.requires.line), c.len-lines.ensures, c.len-lines.type_inv)

pub returns : goal.returns
returns c =
    (λ j. record { id = c.self.inside.id; keeper = c.self.inside.plan.keeper; rest = behind_is c.self.inside.next c.self.inside.plan.lines j; list = c.self.inside.list.items; listed = false; over = c.self.inside.over; desk = desk_of c.self.inside.desk })
    ∙ (λ j. record (c.self.view_is j) { rest = behind (c.self.view_is j).rest; listed = false })
