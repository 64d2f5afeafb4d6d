use Rattle.std.proofs.Common.{◌-◌}
use Rattle.std.specs.List.{AllByRecursion}
use Rattle.mp_plain.specs.Told.{told_core}
use Rattle.mp_keep.specs.Keeper.{KeeperView}
use Rattle.mp_desk.specs.Calls.{IsWaiting, Sits}
use Rattle.mp_desk.specs.Desks.{desk_of}
use Rattle.mp_run.specs.Draining.{drain_means, drain_stand}
use Rattle.mp_run.proofs.DrainSends.{RoundsSoFar}
use Rattle.mp_run.proofs.draining.rounds.Given as goal

abbrev pub invariant-loop : goal.invariant-loop
invariant-loop l = record {
  sits : Sits (told_core l.plain) (desk_of l.desk);
  waiting : AllByRecursion IsWaiting l.list;
  done : (k : KeeperView) → RoundsSoFar (drain_means l.near l.answers) l.most (l.most - l.counter) l.first l.sent l.fn.list l.list (drain_stand l.fn.plain l.fn.desk k) (drain_stand l.plain l.desk k);
}
