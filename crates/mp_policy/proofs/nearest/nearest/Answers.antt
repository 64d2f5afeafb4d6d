use Rattle.std.proofs.Common.{sym, ◌∙◌}
use Rattle.mp_words.specs.PathTable.{paths_of, is_in}
use Rattle.mp_policy.proofs.Least.{least_taken, least_passed}
use Rattle.mp_policy.proofs.nearest.nearest.Goals as goal
use Rattle.mp_policy.proofs.nearest.nearest.Goals.{then-is_candidate, else-is_candidate}

pub loop-place-preserved : goal.loop-place-preserved
loop-place-preserved g c =
    let d = g.D.Distance.far c.args.by.now in
    let paths = paths_of c.args.reading.now in
    let l = c.loop-place in
    elim c.if-is_candidate.branch [
      | then-is_candidate w ↦
          rw (w.best-is, w.nearer.ensures) (least_taken d (is_in c.args.state) paths l.place c.path_at-path.result l.best c.path_at-path.ensures.within c.path_at-path.ensures.path (sym c.is_in-is_candidate.ensures ∙ w.if-is_candidate.true) l.invariant)
      | else-is_candidate w ↦
          rw w.best-is (least_passed d (is_in c.args.state) paths l.place c.path_at-path.result l.best c.path_at-path.ensures.within c.path_at-path.ensures.path (sym c.is_in-is_candidate.ensures ∙ w.if-is_candidate.false) l.invariant)
    ]
