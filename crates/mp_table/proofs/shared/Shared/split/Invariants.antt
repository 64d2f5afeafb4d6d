use Rattle.mp_table.proofs.shared.Shared.split.Given as goal

abbrev pub ghosts-split_as : goal.ghosts-split_as
ghosts-split_as a = record { lane = a.lane; units = a.units }
