use Rattle.std.proofs.Common.{◌≡◌, ◌+◌, List, length, refl, ap, ◌∙◌, subst, rules, arith}
use Rattle.mp_words.specs.RequestView.{RequestView}
use Rattle.mp_desk.specs.Calls.{Means}
use Rattle.mp_legal.specs.Inputs.{inputs_for}
use Rattle.mp_plain.specs.Told.{told_core}
use Rattle.mp_run.specs.Draining.{Rounds, drain_means, drain_stand}
use Rattle.mp_run.specs.Runner.{core_for}
use Rattle.mp_run.proofs.DrainWhole.{whole_err_first, whole_err_reaps, whole_rounds}
use Rattle.mp_run.proofs.LaneSteps.{stands_at}
use Rattle.mp_run.proofs.runner.Runner.drain_all.Goals as goal

pub reap_each-requires-clause-stands : goal.reap_each-requires-clause-stands
reap_each-requires-clause-stands c = stands_at c.drain_lane.result c.args.self.now.plain c.turn.new.self c.args.self.now.keeper c.turn.ensures.core c.requires.tied.1.stands

pub returns-in-Err : goal.returns-in-Err
returns-in-Err c = record {
  drains = λ s tied.
      let a = c.args.self.now in
      let w : Means = drain_means c.args.world.now.topology.near c.args.script.now.answers in
      let core : told_core c.turn.new.self ≡ core_for 16 a.plain = c.turn.ensures.core ∙ ap (λ n. core_for n a.plain) c.drain_lane.ensures in
      whole_err_reaps (Unit {0}) c.desk_laws.ensures (inputs_for c.args.world.now c.args.script.now) w c.reap_each.result c.in-Err.halt a _ s (told_core c.turn.new.self) (drain_stand c.reap_each.new.plain c.reap_each.new.desk c.reap_each.new.keeper)
      (record { near = refl; answers = refl }) refl tied c.requires.quiet core (stands_at c.drain_lane.result a.plain c.turn.new.self a.keeper c.turn.ensures.core tied.stands) c.in-Err.is
      (c.reap_each.ensures.reaps c.args.world.now.topology.near c.args.script.now.answers);
}

pub returns-in-Err-round_over : goal.returns-in-Err-round_over
returns-in-Err-round_over c = record {
  drains = λ s tied.
      let a = c.args.self.now in
      let w : Means = drain_means c.args.world.now.topology.near c.args.script.now.answers in
      let core : told_core c.turn.new.self ≡ core_for 16 a.plain = c.turn.ensures.core ∙ ap (λ n. core_for n a.plain) c.drain_lane.ensures in
      let k = c.reap_each.new.keeper in
      let r = drain_stand c.reap_each.new.plain c.reap_each.new.desk k in
      let q = drain_stand c.round_over.new.plain c.round_over.new.desk k in
      whole_err_first (Unit {0}) c.desk_laws.ensures (inputs_for c.args.world.now c.args.script.now) w c.reap_each.result c.in-Ok.field-0 c.round_over.result c.in-Err-round_over.halt a _ s (told_core c.turn.new.self) c.round_over.new.list r q
      (record { near = refl; answers = refl }) refl tied c.requires.quiet core (stands_at c.drain_lane.result a.plain c.turn.new.self a.keeper c.turn.ensures.core tied.stands) c.in-Ok.is
      (c.reap_each.ensures.reaps c.args.world.now.topology.near c.args.script.now.answers) c.in-Err-round_over.is
      (subst (λ (rs : List RequestView). Rounds c.round_over.result w rs c.round_over.new.list r q) c.take_all-requests.ensures.taken (c.round_over.ensures.rounds k));
}

pub returns-in-Ok-round_over : goal.returns-in-Ok-round_over
returns-in-Ok-round_over c = record {
  drains = λ s tied.
      let a = c.args.self.now in
      let w : Means = drain_means c.args.world.now.topology.near c.args.script.now.answers in
      let core : told_core c.turn.new.self ≡ core_for 16 a.plain = c.turn.ensures.core ∙ ap (λ n. core_for n a.plain) c.drain_lane.ensures in
      let k = c.reap_each.new.keeper in
      let r = drain_stand c.reap_each.new.plain c.reap_each.new.desk k in
      let q = drain_stand c.round_over.new.plain c.round_over.new.desk k in
      let taken = c.take_all-requests.ensures.taken in
      let sum : c.in-Some.most ≡ c.len.result + c.len-2.result = search rules in
      whole_rounds c.desk_laws.ensures (inputs_for c.args.world.now c.args.script.now) w c.reap_each.result c.in-Ok.field-0 c.round_over.result c.in-Ok-round_over.sent c.rounds.result c.in-Some.most a _ s (told_core c.turn.new.self) c.round_over.new.list r q
      (record { near = refl; answers = refl }) refl tied c.requires.quiet core (stands_at c.drain_lane.result a.plain c.turn.new.self a.keeper c.turn.ensures.core tied.stands) refl
      (omega (arith, sum, c.len.ensures, c.len-2.ensures.length, ap length taken)) c.in-Ok.is
      (c.reap_each.ensures.reaps c.args.world.now.topology.near c.args.script.now.answers) c.in-Ok-round_over.is
      (subst (λ (rs : List RequestView). Rounds c.round_over.result w rs c.round_over.new.list r q) taken (c.round_over.ensures.rounds k)) (c.rounds.ensures.rounds k);
}
