use Rattle.std.proofs.Common.{◌∙◌, sym, refl}
use Rattle.mp_words.specs.PathTable.{paths_of}
use Rattle.mp_policy.specs.Choices.{round_robin_choice}
use Rattle.mp_policy.proofs.NoChoice.{slot_none}
use Rattle.mp_policy.proofs.RobinNone.{round_robin_none}
use Rattle.mp_policy.proofs.choice.round_robin.Goals as goal

pub returns : goal.returns
returns c =
    let paths = paths_of c.args.reading.now in
    let none = round_robin_none c.args.last paths in
    let is = c.slot_of.ensures ∙ rw c.after-path.ensures refl in
    let slot = slot_none (round_robin_choice c.args.last paths) in
    record {
      choice = is;
      none = (λ e. none.0 (slot.0 (sym is ∙ e)), λ e. is ∙ slot.1 (none.1 e));
    }
