use Rattle.std.proofs.Common.{◌≡◌, ◌+◌, ◌≤◌, ◌<◌, ℕ, map, drop, length}
use Rattle.mp_desk.specs.Desks.{desk_of}
use Rattle.mp_legal.specs.Inputs.{inputs_for}
use Rattle.mp_run.specs.LaneTurns.{turn_of, turns_submits}
use Rattle.mp_run.specs.OnTurns.{AreTurnsOf, IsOn}
use Rattle.mp_run.specs.Runner.{left_of, IsTied, Story}
use Rattle.mp_run.specs.Turning.{left_or, often, stage_by, total_of, AreAhead, AreNew, NoneSpent}
use Rattle.mp_run.proofs.turning.take_turns.Given as goal

abbrev pub invariant-loop-each : goal.invariant-loop-each
invariant-loop-each l = record {
  on : (s : Story) → IsTied l.fn.runner s → AreNew (map turn_of l.turns) s → (t : Story) × IsTied l.runner t × AreNew (map turn_of (drop l.each-index l.turns)) t
      × IsOn (inputs_for l.world l.script) (map turn_of l.turns) (map turn_of (drop l.each-index l.turns)) (stage_by l.fn.spent l.fn.runner s) (stage_by l.spent l.runner t);
  tied : (t : Story) × IsTied l.runner t × AreNew (map turn_of (drop l.each-index l.turns)) t;
  turns : AreTurnsOf (length l.fn.runner.lanes.items) (map turn_of (drop l.each-index l.turns));
  ahead : AreAhead l.world.pages l.spent (map turn_of (drop l.each-index l.turns)) l.runner;
  count : length l.runner.lanes.items ≡ length l.fn.runner.lanes.items;
  others : (lane : ℕ) → length l.fn.runner.lanes.items ≤ lane → lane < 16 → left_or l.spent lane l.runner ≡ left_or l.fn.spent lane l.fn.runner;
  all : NoneSpent l.spent → (req : ℕ) → total_of req l.runner + often req (turns_submits (map turn_of (drop l.each-index l.turns))) ≡ total_of req l.fn.runner + often req (turns_submits (map turn_of l.turns));
  desk : desk_of l.runner.drain ≡ desk_of l.fn.runner.drain;
  drain : left_of 16 l.runner ≡ left_of 16 l.fn.runner;
}
