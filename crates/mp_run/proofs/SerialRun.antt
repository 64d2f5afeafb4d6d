-- The run with units, as its parts give it.
use Rattle.std.proofs.Common.{◌≡◌, ℕ, ◌+◌, List, length, replicate, Option, Some, None, refl, arith}
use Rattle.std.specs.Prelude.{position, is_none}
use Rattle.std.specs.List.{range_with_len}
use Rattle.std.proofs.lemmas.List.{length-replicate}
use Rattle.mp_script.specs.declared.script.LanePlan.{LanePlan}
use Rattle.mp_legal.specs.PlainCall.{Inputs}
use Rattle.mp_script.specs.declared.script.Script.{Script}
use Rattle.mp_script.specs.declared.script.World.{World}
use Rattle.mp_legal.specs.Inputs.{inputs_for}
use Rattle.mp_legal.specs.PlainRun.{taken, plain_run, run_over, reads_over, state_left}
use Rattle.mp_legal.specs.Opening.{opening}
use Rattle.mp_legal.specs.Turns.{longest, turns_of}
use Rattle.mp_legal.specs.Units.{pay_turns, serial_run, serial_over}
use Rattle.mp_run.proofs.PaidRun.{AreOfLanes, rounds_of_lanes, turns_paid}

-- where no lane is spent, the turns are those of the plain run
pub turns_plain : (allowance : ℕ) (i : Inputs) (plans : List LanePlan) → position is_none (pay_turns i (opening i) (replicate (length plans) (Some allowance)) (turns_of plans)).lefts ≡ None
    → (pay_turns i (opening i) (replicate (length plans) (Some allowance)) (turns_of plans)).taken ≡ taken i (opening i) (turns_of plans)
turns_plain allowance i plans none =
    let lefts : List (Option ℕ) = replicate (length plans) (Some allowance) in
    let of : AreOfLanes (length lefts) (turns_of plans) = rounds_of_lanes (length lefts) plans (range_with_len 0 (longest plans + 1)) (omega (arith, length-replicate (length plans) (Some allowance))) in
    turns_paid i (opening i) lefts (turns_of plans) of none

-- ---- the words with which a clause cites a run

pub serial_over_is : (allowance : ℕ) (world : World) (script : Script) → serial_over allowance world script ≡ serial_run allowance (inputs_for world script) script.lanes
unfolding serial_over
serial_over_is allowance world script = refl

pub run_over_is : (world : World) (script : Script) → run_over world script ≡ plain_run (inputs_for world script) script.lanes
unfolding run_over
run_over_is world script = refl

pub reads_are : (world : World) (script : Script) → reads_over world script ≡ (state_left (inputs_for world script) script.lanes).reads
unfolding reads_over
reads_are world script = refl
