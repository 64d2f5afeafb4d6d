use Rattle.mp_table.proofs.shared.Shared.join.Given as goal

abbrev pub ghosts-join_as : goal.ghosts-join_as
ghosts-join_as a = record { view = a.other.me.0 }
