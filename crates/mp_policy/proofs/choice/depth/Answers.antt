use Rattle.std.proofs.Common.{◌∙◌, sym, refl}
use Rattle.mp_words.specs.PathTable.{paths_of}
use Rattle.mp_policy.specs.Choices.{depth_by, queue_depth_choice}
use Rattle.mp_policy.proofs.NoChoice.{nearest_choice-none, slot_none}
use Rattle.mp_policy.proofs.choice.depth.Goals as goal

pub returns : goal.returns
returns c =
    let paths = paths_of c.args.reading.now in
    let chosen = queue_depth_choice (depth_by c.args.reading.now c.args.depths.now) paths in
    let none = nearest_choice-none (λ path. depth_by c.args.reading.now c.args.depths.now path.slot) paths in
    let is = c.slot_of.ensures ∙ rw c.nearest_of_both-path.ensures refl in
    let slot = slot_none chosen in
    record {
      choice = is;
      none = (λ e. none.0 (slot.0 (sym is ∙ e)), λ e. is ∙ slot.1 (none.1 e));
    }
