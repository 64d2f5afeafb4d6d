use Rattle.std.proofs.Common.{◌≡◌, ◌-◌, ◌≤◌, vec_capacity}
use Rattle.mp_core.specs.declared.view.Role.TheVariants as role
use Rattle.mp_plain.specs.Lanes.{lanes_to}
use Rattle.mp_table.specs.Passes.{table_of, keeper_home, keeper_view}
use Rattle.mp_table.specs.Trials.{Idle}
use Rattle.mp_table.specs.Jobs.{AllReady}
use Rattle.mp_table.proofs.many_tests.split_all.Given as goal

abbrev pub invariant-loop-n : goal.invariant-loop-n
invariant-loop-n l = (keeper_home l.keeper ≡ table_of l.shared) × Idle role.Keeper (100 - l.n) (lanes_to l.n) (keeper_view l.keeper) × AllReady (table_of l.shared) l.n 1 l.jobs.items × (16 ≤ vec_capacity l.jobs)
