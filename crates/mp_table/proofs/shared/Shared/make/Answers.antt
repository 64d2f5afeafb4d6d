use Rattle.std.proofs.Common.{ap, sym, subst}
use Rattle.mp_core.specs.declared.view.View.{View}
use Rattle.mp_table.specs.Known.{Fits}
use Rattle.mp_table.proofs.Ends.{opens, opens_fit}
use Rattle.mp_table.proofs.shared.Shared.make.Goals as goal

pub of_words-requires : goal.of_words-requires
of_words-requires c = opens c.laid-all.result c.args.words.now c.args.allowance c.laid-all.ensures.words c.laid-all.ensures.count c.requires.packed c.requires.lawful c.requires.room

pub invariant_of-token : goal.invariant_of-token
invariant_of-token c =
    let known = c.in-Ok.ensures in
    let view = ap (λ m. m.0) known.4 in
    record {
      units = ap (λ (v : View). v.left) view;
      empty = ap (λ m. m.1) known.4;
      fits = subst Fits (sym view) (opens_fit c.laid-all.result c.args.words.now c.args.allowance c.laid-all.ensures.words c.laid-all.ensures.count c.requires.packed c.requires.lawful c.requires.room);
    }
