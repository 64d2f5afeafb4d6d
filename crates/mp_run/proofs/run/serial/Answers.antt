use Rattle.std.proofs.Common.{◌≡◌, ℕ, List, length, ap, sym, ◌∙◌, subst, rules}
use Rattle.std.specs.Prelude.{Result, Err}
use Rattle.std.specs.List.{AllByRecursion}
use Rattle.mp_record.specs.RunView.{RunView, view_of}
use Rattle.mp_legal.specs.Inputs.{inputs_for}
use Rattle.mp_legal.specs.Numbers.{has_req}
use Rattle.mp_legal.specs.PlainRun.{plain_run}
use Rattle.mp_legal.specs.TryRead.{TryRead}
use Rattle.mp_run.specs.Notes.{AreNoted}
use Rattle.mp_run.specs.Told.{IsOver}
use Rattle.mp_run.specs.declared.error.RunError.{RunError}
use Rattle.mp_run.specs.declared.error.RunError.TheVariants as error
use Rattle.mp_run.proofs.KeptRun.{run_over_all, run_asked}
use Rattle.mp_run.proofs.LaneOpening.{lanes_count}
use Rattle.mp_run.proofs.SerialLanes.{drain_spent, lane_spent}
use Rattle.mp_run.proofs.SerialRun.{serial_over_is, run_over_is, reads_are}
use Rattle.mp_run.proofs.SerialWhole.{entries_follow, gathered_noted, gathered_paid, gathered_plain, lanes_over, ran_of, requests_once, whole_of, AnyOrder, IsWhole}
use Rattle.mp_run.proofs.run.serial.Goals as goal

err_same : {T : Type 0} (r : Result T RunError) (x y : RunError) → r ≡ Err x → r ≡ Err y → x ≡ y
err_same r x y p q = cc

pub returns-in_err-run_lanes-clause-spent : goal.returns-in_err-run_lanes-clause-spent
returns-in_err-run_lanes-clause-spent c lane is =
    let i = inputs_for c.args.world.now c.args.script.now in
    let plans = c.args.script.now.lanes in
    let why = c.in_err-run_lanes.field-0.0 in
    let gave : c.from_residual.result ≡ Err why = search rules in
    serial_over_is c.args.allowance c.args.world.now c.args.script.now
    ∙ lane_spent c.args.allowance i plans c.in-Ok.runner lane c.requires.script.few_lanes (ap length c.in-Ok.ensures.lanes ∙ lanes_count plans) c.in-Ok.ensures.state c.in-Ok.ensures.lefts
    (c.in_err-run_lanes.ensures.spent lane (ap Err (err_same c.from_residual.result why (error.Spent lane) gave is)))

pub returns-in_err-drain-clause-spent : goal.returns-in_err-drain-clause-spent
returns-in_err-drain-clause-spent c lane is =
    let i = inputs_for c.args.world.now c.args.script.now in
    let plans = c.args.script.now.lanes in
    let runs = c.in_ok-run_lanes.ensures.takes in
    let ran = ran_of c.args.allowance i plans c.in-Ok.runner c.run_lanes.new.runner c.requires.script.few_lanes c.in-Ok.ensures.lanes c.in-Ok.ensures.state c.in-Ok.ensures.lefts c.in-Ok.ensures.made runs c.in_ok-run_lanes.ensures.enough in
    let why = c.in_err-drain.field-0.0 in
    let gave : c.from_residual-in_err-drain.result ≡ Err why = search rules in
    let both = c.in_err-drain.ensures.spent runs.0 runs.1.tied lane (ap Err (err_same c.from_residual-in_err-drain.result why (error.Spent lane) gave is)) in
    serial_over_is c.args.allowance c.args.world.now c.args.script.now
    ∙ drain_spent c.args.allowance i plans c.in-Ok.runner c.run_lanes.new.runner runs.0 ran both.1
    ∙ ap Err (sym both.0)

-- the lanes ran and the drain is done
whole : (c : goal.In_ok-drain) → IsWhole c.args.allowance (inputs_for c.args.world.now c.args.script.now) c.args.script.now.lanes c.in-Ok.runner c.run_lanes.new.runner c.drain.new.runner
whole c =
    let i = inputs_for c.args.world.now c.args.script.now in
    let plans = c.args.script.now.lanes in
    let runs = c.in_ok-run_lanes.ensures.takes in
    let ran = ran_of c.args.allowance i plans c.in-Ok.runner c.run_lanes.new.runner c.requires.script.few_lanes c.in-Ok.ensures.lanes c.in-Ok.ensures.state c.in-Ok.ensures.lefts c.in-Ok.ensures.made runs c.in_ok-run_lanes.ensures.enough in
    let laws : AnyOrder = record { versions = c.entries_in_any_order_make_the_histories.ensures.versions; histories = c.entries_in_any_order_make_the_histories.ensures.histories } in
    whole_of c.args.allowance i plans c.in-Ok.runner c.run_lanes.new.runner c.drain.new.runner runs.0 ran (c.in_ok-drain.ensures.drains runs.0 runs.1.tied) c.in-Ok.ensures.empty c.requires.script.distinct
    (c.histories_follow.ensures i plans (c.worlds_are_read.ensures c.args.world.now c.args.script.now c.requires.world.topology)) laws

pub gathered-requires-clause-over : goal.gathered-requires-clause-over
gathered-requires-clause-over c =
    let w = whole c in
    lanes_over c.args.allowance (inputs_for c.args.world.now c.args.script.now) c.args.script.now.lanes c.in-Ok.runner c.run_lanes.new.runner c.drain.new.runner w.0 w.1 w.2

pub gathered-requires-clause-versions : goal.gathered-requires-clause-versions
gathered-requires-clause-versions c =
    let w = whole c in
    entries_follow c.args.allowance (inputs_for c.args.world.now c.args.script.now) c.args.script.now.lanes c.in-Ok.runner c.run_lanes.new.runner c.drain.new.runner w.0 w.1 w.2

pub gathered-requires-clause-once : goal.gathered-requires-clause-once
gathered-requires-clause-once c =
    let w = whole c in
    requests_once c.args.allowance (inputs_for c.args.world.now c.args.script.now) c.args.script.now.lanes c.in-Ok.runner c.run_lanes.new.runner c.drain.new.runner w.0 w.1 w.2

-- the same where there is a run
wholly : (c : goal.In-Ok-gathered) → IsWhole c.args.allowance (inputs_for c.args.world.now c.args.script.now) c.args.script.now.lanes c.in-Ok.runner c.run_lanes.new.runner c.drain.new.runner
wholly c =
    let i = inputs_for c.args.world.now c.args.script.now in
    let plans = c.args.script.now.lanes in
    let runs = c.in_ok-run_lanes.ensures.takes in
    let ran = ran_of c.args.allowance i plans c.in-Ok.runner c.run_lanes.new.runner c.requires.script.few_lanes c.in-Ok.ensures.lanes c.in-Ok.ensures.state c.in-Ok.ensures.lefts c.in-Ok.ensures.made runs c.in_ok-run_lanes.ensures.enough in
    let laws : AnyOrder = record { versions = c.entries_in_any_order_make_the_histories.ensures.versions; histories = c.entries_in_any_order_make_the_histories.ensures.histories } in
    whole_of c.args.allowance i plans c.in-Ok.runner c.run_lanes.new.runner c.drain.new.runner runs.0 ran (c.in_ok-drain.ensures.drains runs.0 runs.1.tied) c.in-Ok.ensures.empty c.requires.script.distinct
    (c.histories_follow.ensures i plans (c.worlds_are_read.ensures c.args.world.now c.args.script.now c.requires.world.topology)) laws

plainly : (c : goal.In-Ok-gathered) → view_of c.in-Ok-gathered.run' ≡ plain_run (inputs_for c.args.world.now c.args.script.now) c.args.script.now.lanes
plainly c =
    let w = wholly c in
    gathered_plain c.args.allowance (inputs_for c.args.world.now c.args.script.now) c.args.script.now.lanes c.in-Ok.runner c.run_lanes.new.runner c.drain.new.runner w.0 w.1 c.in-Ok-gathered.run' w.2 c.in-Ok-gathered.ensures.gathers

pub returns-in-Ok-gathered-clause-paid : goal.returns-in-Ok-gathered-clause-paid
returns-in-Ok-gathered-clause-paid c =
    let w = wholly c in
    serial_over_is c.args.allowance c.args.world.now c.args.script.now
    ∙ gathered_paid c.args.allowance (inputs_for c.args.world.now c.args.script.now) c.args.script.now.lanes c.in-Ok.runner c.run_lanes.new.runner c.drain.new.runner w.0 w.1 c.in-Ok-gathered.run' w.2 c.in-Ok-gathered.ensures.gathers

pub returns-in-Ok-gathered-clause-exact : goal.returns-in-Ok-gathered-clause-exact
returns-in-Ok-gathered-clause-exact c = plainly c ∙ sym (run_over_is c.args.world.now c.args.script.now)

pub returns-in-Ok-gathered-clause-asked : goal.returns-in-Ok-gathered-clause-asked
returns-in-Ok-gathered-clause-asked c req =
    ap (λ (run : RunView). has_req req run.requests) (plainly c) ∙ run_asked (inputs_for c.args.world.now c.args.script.now) c.args.script.now.lanes c.requires.script.few_lanes req

pub returns-in-Ok-gathered-clause-numbered : goal.returns-in-Ok-gathered-clause-numbered
returns-in-Ok-gathered-clause-numbered c = c.in-Ok-gathered.ensures.gathers.numbered

pub returns-in-Ok-gathered-clause-over : goal.returns-in-Ok-gathered-clause-over
returns-in-Ok-gathered-clause-over c =
    subst (λ (run : RunView). AllByRecursion IsOver run.requests) (sym (plainly c))
    (run_over_all (inputs_for c.args.world.now c.args.script.now) c.args.script.now.lanes c.requires.script.few_lanes c.requires.script.distinct)

pub returns-in-Ok-gathered-clause-noted : goal.returns-in-Ok-gathered-clause-noted
returns-in-Ok-gathered-clause-noted c =
    let w = wholly c in
    subst (λ (made : List (ℕ × TryRead)). AreNoted made c.in-Ok-gathered.run'.requests) (sym (reads_are c.args.world.now c.args.script.now))
    (gathered_noted c.args.allowance (inputs_for c.args.world.now c.args.script.now) c.args.script.now.lanes c.in-Ok.runner c.run_lanes.new.runner c.drain.new.runner w.0 w.1 c.in-Ok-gathered.run' w.2 c.in-Ok-gathered.ensures.gathers)
