-- What the table's rule says of the lanes of one thread: each has the keeper's role, and where none has an open section
-- nobody is inside a side.
use Rattle.std.proofs.Common.{◌≡◌}
use Rattle.mp_core.specs.declared.view.Role.TheVariants.{Keeper}
use Rattle.mp_core.specs.Unpacked.{unpacked}
use Rattle.mp_plain.specs.declared.plain.Plain.{Plain}
use Rattle.mp_plain.specs.Told.{told_core}
use Rattle.mp_plain.proofs.Lanes.{mirror}

-- the lane that steps has the keeper's role
pub keeper_role : (p : Plain) → (told_core p).view.role ≡ Keeper
keeper_role p = (mirror (unpacked p.words) p.ledger.seat.me.0 p.lane p.range p.rule).keeper
