use Rattle.std.proofs.Common.{◌-◌, List, length}
use Rattle.mp_words.specs.declared.answers.Answer.{Answer}
use Rattle.mp_words.specs.declared.near.Near.{Near}
use Rattle.mp_plain.specs.Told.{told_core}
use Rattle.mp_keep.specs.Keeper.{StandsTo}
use Rattle.mp_desk.specs.Calls.{Sits}
use Rattle.mp_desk.specs.Desks.{desk_of}
use Rattle.mp_run.specs.Draining.{drain_means, drain_stand}
use Rattle.mp_run.proofs.DrainReaps.{ReapsSoFar}
use Rattle.mp_run.proofs.draining.reap_each.Given as goal

abbrev pub invariant-loop : goal.invariant-loop
invariant-loop l = record {
  sits : Sits (told_core l.plain) (desk_of l.desk);
  stands : StandsTo l.keeper (told_core l.plain).view;
  done : (near : Near) (answers : List Answer) → ReapsSoFar (drain_means near answers) (length l.fn.keeper.removals) (length l.fn.keeper.removals - l.counter) (drain_stand l.fn.plain l.fn.desk l.fn.keeper) (drain_stand l.plain l.desk l.keeper);
}
