use Rattle.std.proofs.Common.{sym, subst}
use Rattle.mp_legal.specs.Gathering.{AreVersions}
use Rattle.mp_legal.proofs.gather.gather.Goals as goal

pub histories-requires : goal.histories-requires
histories-requires c = subst AreVersions (sym c.deref.ensures.value) c.requires.versions
