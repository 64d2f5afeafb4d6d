use Rattle.std.proofs.Common.{◌≡◌, ◌<◌}
use Rattle.mp_table.specs.Table.{Told}
use Rattle.mp_table.proofs.passes.tell.Given as goal

abbrev pub ghosts-load_as : goal.ghosts-load_as
ghosts-load_as a = record { tells = λ _ w. (w ≡ a.seat.now.me.0) × Told w × (w.left < 1073741824) }
