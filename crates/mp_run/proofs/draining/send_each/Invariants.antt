use Rattle.std.specs.List.{AllByRecursion}
use Rattle.mp_plain.specs.Told.{told_core}
use Rattle.mp_keep.specs.Keeper.{KeeperView}
use Rattle.mp_desk.specs.Calls.{IsWaiting, Sits}
use Rattle.mp_desk.specs.Desks.{desk_of}
use Rattle.mp_run.specs.Draining.{drain_means, drain_stand}
use Rattle.mp_run.proofs.DrainSends.{SentSoFar}
use Rattle.mp_run.proofs.draining.send_each.Given as goal

abbrev pub invariant-loop-request : goal.invariant-loop-request
invariant-loop-request l = record {
  sits : Sits (told_core l.plain) (desk_of l.desk);
  waiting : AllByRecursion IsWaiting l.request-iterator.rest.items;
  sent : (k : KeeperView) → SentSoFar (drain_means l.near l.answers) l.fn.requests.items l.request-iterator.rest.items l.any (drain_stand l.fn.plain l.fn.desk k) (drain_stand l.plain l.desk k);
}
