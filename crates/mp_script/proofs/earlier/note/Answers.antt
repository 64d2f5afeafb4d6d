use Rattle.std.proofs.Common.{refl, ◌∙◌}
use Rattle.std.specs.Option.{option_to_list}
use Rattle.mp_script.specs.Before.{answer_of, submitted_of}
use Rattle.mp_script.specs.Shape.{shape}
use Rattle.mp_script.specs.Building.{noted}
use Rattle.mp_script.proofs.Ordered.{order_more}
use Rattle.mp_script.proofs.Lanes.{same_behind}
use Rattle.mp_script.proofs.earlier.note.Goals as goal

pub returns-clause-known : goal.returns-clause-known
unfolding noted
returns-clause-known c = λ b k. record {
  lanes = rw (c.lanes_with-earlier.ensures, k.lanes) refl;
  in_keeper = rw (c.keeper_with-earlier.ensures, k.in_keeper) refl;
  had_keeper = rw (c.is_keeper.ensures, k.had_keeper) refl;
  submitted = λ n. c.put_submitted.ensures n ∙ same_behind c.args.earlier.now.submitted b.submitted (option_to_list (submitted_of (shape c.args.line.now))) k.submitted n;
  answered = c.in_ok-put_answered.ensures ∙ order_more (answer_of (shape c.args.line.now)) c.args.earlier.now.answered b.answered k.answered c.requires.fresh;
}
