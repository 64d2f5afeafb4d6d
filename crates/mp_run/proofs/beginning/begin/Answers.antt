use Rattle.std.proofs.Common.{map, ap, ◌∙◌, List}
use Rattle.std.specs.List.{enumerate_from}
use Rattle.mp_script.specs.declared.script.LanePlan.{LanePlan}
use Rattle.mp_keep.specs.Keeper.{owner_of}
use Rattle.mp_legal.specs.Inputs.{inputs_of}
use Rattle.mp_plain.specs.declared.ledger.Opening.{Opening}
use Rattle.mp_plain.specs.Told.{told_core}
use Rattle.mp_run.specs.Beginning.{first_lane}
use Rattle.mp_run.specs.declared.runner.Runner.{Runner}
use Rattle.mp_run.proofs.FirstMemory.{world_opened}
use Rattle.mp_run.proofs.LaneOpening.{Begins, begins_empty, begins_left, begins_tied}
use Rattle.mp_run.proofs.Starts.{new_is}
use Rattle.mp_run.proofs.beginning.begin.Goals as goal

pub returns-clause-tied : goal.returns-clause-tied
returns-clause-tied c =
    let r : Runner = record { plain = c.in-Ok.plain; keeper = c.make-2.result; lanes = c.in_ok-lanes.lanes; list = c.make-3.result; drain = c.make-4.result } in
    let o : Opening = record { words = c.in_ok-words.words; allowance = c.args.allowance } in
    let plans = c.args.script.now.lanes in
    let s : Begins (inputs_of c.args.world.now) o plans r = record {
      home = (told_core c.in-Ok.plain).home;
      opened = world_opened c.stated_state_is_in_range.ensures c.args.world.now c.requires.world.topology;
      core = c.in-Ok.ensures.core;
      law = c.a_new_keeper_stands.ensures;
      keeper = new_is (inputs_of c.args.world.now) c.opening_order-order.result c.owners_of.result c.make-2.result c.opening_order-order.ensures (c.owners_of.ensures ∙ ap (map owner_of) (c.deref.ensures.value ∙ c.in_ok-rows.ensures)) c.make-2.ensures;
      words = c.in-Ok.ensures.words;
      says = c.in_ok-words.ensures.words;
      few = c.requires.lanes;
      lanes = c.in_ok-lanes.ensures.lanes ∙ ap (λ (ps : List LanePlan). map first_lane (enumerate_from 0 ps)) c.as_slice.ensures;
      list = c.make-3.ensures;
      drain = c.make-4.ensures;
    } in
    begins_tied (inputs_of c.args.world.now) o plans r s

pub returns-clause-lefts : goal.returns-clause-lefts
returns-clause-lefts c =
    let r : Runner = record { plain = c.in-Ok.plain; keeper = c.make-2.result; lanes = c.in_ok-lanes.lanes; list = c.make-3.result; drain = c.make-4.result } in
    let o : Opening = record { words = c.in_ok-words.words; allowance = c.args.allowance } in
    let plans = c.args.script.now.lanes in
    let s : Begins (inputs_of c.args.world.now) o plans r = record {
      home = (told_core c.in-Ok.plain).home;
      opened = world_opened c.stated_state_is_in_range.ensures c.args.world.now c.requires.world.topology;
      core = c.in-Ok.ensures.core;
      law = c.a_new_keeper_stands.ensures;
      keeper = new_is (inputs_of c.args.world.now) c.opening_order-order.result c.owners_of.result c.make-2.result c.opening_order-order.ensures (c.owners_of.ensures ∙ ap (map owner_of) (c.deref.ensures.value ∙ c.in_ok-rows.ensures)) c.make-2.ensures;
      words = c.in-Ok.ensures.words;
      says = c.in_ok-words.ensures.words;
      few = c.requires.lanes;
      lanes = c.in_ok-lanes.ensures.lanes ∙ ap (λ (ps : List LanePlan). map first_lane (enumerate_from 0 ps)) c.as_slice.ensures;
      list = c.make-3.ensures;
      drain = c.make-4.ensures;
    } in
    begins_left (inputs_of c.args.world.now) o plans r s

pub returns-clause-empty : goal.returns-clause-empty
returns-clause-empty c =
    let r : Runner = record { plain = c.in-Ok.plain; keeper = c.make-2.result; lanes = c.in_ok-lanes.lanes; list = c.make-3.result; drain = c.make-4.result } in
    let o : Opening = record { words = c.in_ok-words.words; allowance = c.args.allowance } in
    let plans = c.args.script.now.lanes in
    let s : Begins (inputs_of c.args.world.now) o plans r = record {
      home = (told_core c.in-Ok.plain).home;
      opened = world_opened c.stated_state_is_in_range.ensures c.args.world.now c.requires.world.topology;
      core = c.in-Ok.ensures.core;
      law = c.a_new_keeper_stands.ensures;
      keeper = new_is (inputs_of c.args.world.now) c.opening_order-order.result c.owners_of.result c.make-2.result c.opening_order-order.ensures (c.owners_of.ensures ∙ ap (map owner_of) (c.deref.ensures.value ∙ c.in_ok-rows.ensures)) c.make-2.ensures;
      words = c.in-Ok.ensures.words;
      says = c.in_ok-words.ensures.words;
      few = c.requires.lanes;
      lanes = c.in_ok-lanes.ensures.lanes ∙ ap (λ (ps : List LanePlan). map first_lane (enumerate_from 0 ps)) c.as_slice.ensures;
      list = c.make-3.ensures;
      drain = c.make-4.ensures;
    } in
    begins_empty (inputs_of c.args.world.now) o plans r s
