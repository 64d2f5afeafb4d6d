use Rattle.std.proofs.Common.{◌≡◌, ◌++◌, ◌∷◌, [], ℕ, List, length, ap, ◌∙◌, arith}
use Rattle.mp_record.specs.declared.event.Event.TheVariants.{At}
use Rattle.mp_record.specs.declared.event.Said.TheVariants.{Requeue}
use Rattle.mp_words.specs.RequestView.{RequestView}
use Rattle.mp_desk.specs.DeskView.{DeskView, noting}
use Rattle.mp_desk.specs.Calls.{Stand}
use Rattle.mp_desk.specs.Desks.{desk_of, stand}
use Rattle.mp_plain.specs.Told.{told_core}
use Rattle.mp_run.specs.Draining.{drain_means, drain_stand, round_said}
use Rattle.mp_run.proofs.DrainSends.{round_err, round_ok}
use Rattle.mp_run.proofs.draining.round_over.Goals as goal

pub returns-in-Err-clause-rounds : goal.returns-in-Err-clause-rounds
returns-in-Err-clause-rounds c k = rw c.in-Err.ensures.refused tt

pub returns-in-Err-send_each-clause-rounds : goal.returns-in-Err-send_each-clause-rounds
returns-in-Err-send_each-clause-rounds c k =
    let core = told_core c.args.plain.now in
    let p : Stand = drain_stand c.args.plain.now c.args.desk.now k in
    let s : Stand = drain_stand c.args.plain.now c.say_list.new.desk k in
    let q : Stand = drain_stand c.send_each.new.plain c.send_each.new.desk k in
    let count : c.len.result ≡ length c.args.requests.items = omega (arith, c.len.ensures) in
    let is : s ≡ round_said c.args.requests.items p =
    ap (λ (d : DeskView). stand core d k) c.in-Ok.ensures.said ∙ ap (λ (n : ℕ). stand core (noting (At 0 (Requeue n) ∷ []) (desk_of c.args.desk.now)) k) count in
    round_err c.send_each.result c.in-Err-send_each.halt (drain_means c.args.near.now c.args.answers.now) c.args.requests.items c.args.list.now p s q is c.in-Err-send_each.is
    (c.send_each.ensures.sends k)

pub returns-in-Ok-put_out-clause-rounds : goal.returns-in-Ok-put_out-clause-rounds
returns-in-Ok-put_out-clause-rounds c k =
    let core = told_core c.args.plain.now in
    let p : Stand = drain_stand c.args.plain.now c.args.desk.now k in
    let s : Stand = drain_stand c.args.plain.now c.say_list.new.desk k in
    let q : Stand = drain_stand c.send_each.new.plain c.send_each.new.desk k in
    let count : c.len.result ≡ length c.args.requests.items = omega (arith, c.len.ensures) in
    let is : s ≡ round_said c.args.requests.items p =
    ap (λ (d : DeskView). stand core d k) c.in-Ok.ensures.said ∙ ap (λ (n : ℕ). stand core (noting (At 0 (Requeue n) ∷ []) (desk_of c.args.desk.now)) k) count in
    record {
      mid = q;
      each = round_ok c.send_each.result c.in-Ok-send_each.sent (drain_means c.args.near.now c.args.answers.now) c.args.requests.items p s q is c.in-Ok-send_each.is
          (c.send_each.ensures.sends k);
      stand_is = ap (λ (d : DeskView). stand (told_core c.send_each.new.plain) d k) c.in-Ok-put_out.ensures.desk;
      list_is = c.in-Ok-put_out.ensures.list ∙ ap (λ (rs : List RequestView). rs ++ c.send_each.new.desk.out.items) c.requires.taken;
    }
