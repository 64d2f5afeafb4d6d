use Rattle.std.proofs.Common.{◌≡◌, length, vec_len}
use Rattle.mp_core.specs.declared.view.Role.TheVariants as role
use Rattle.mp_plain.specs.Lanes.{lanes_to}
use Rattle.mp_table.specs.Passes.{table_of, keeper_home, keeper_view}
use Rattle.mp_table.specs.Trials.{Idle}
use Rattle.mp_table.specs.Jobs.{AllReady}
use Rattle.mp_table.proofs.many_tests.join_all.Given as goal

abbrev pub invariant-loop-job : goal.invariant-loop-job
invariant-loop-job l = (keeper_home l.keeper ≡ table_of l.shared) × Idle role.Keeper 84 (lanes_to (length l.jobs.items)) (keeper_view l.keeper) × AllReady (table_of l.shared) (length l.jobs.items) 0 l.jobs.items

abbrev pub decreases-loop-job : goal.decreases-loop-job
decreases-loop-job l = vec_len l.jobs
