use Rattle.std.proofs.Common.{◌≡◌, ◌∷◌, map, take}
use Rattle.mp_words.specs.declared.entry.KeepEntry.TheVariants as keep
use Rattle.mp_legal.specs.ToldKeeper.{orders_in}
use Rattle.mp_run.specs.Gathered.{first_entry}
use Rattle.mp_run.proofs.gathering.keeping.Given as goal

abbrev pub invariant-loop-entry : goal.invariant-loop-entry
invariant-loop-entry l = l.all.items ≡ first_entry l.fn.order ∷ map keep.Order (orders_in (take l.entry-index l.made))
