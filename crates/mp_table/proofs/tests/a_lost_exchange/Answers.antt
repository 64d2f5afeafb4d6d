use Rattle.std.proofs.Common.{[], ◌∷◌, sym, ap, subst, arith}
use Rattle.mp_core.specs.declared.view.Role.TheVariants as role
use Rattle.mp_rule.specs.Sums.{times}
use Rattle.mp_table.specs.declared.keeper_pass.KeeperPass.{KeeperPass}
use Rattle.mp_table.specs.Passes.{keeper_view}
use Rattle.mp_table.specs.Trials.{Idle}
use Rattle.mp_table.proofs.tests.a_lost_exchange.Goals as goal

pub split-q-requires-clause-left : goal.split-q-requires-clause-left
split-q-requires-clause-left g c =
    let k1 = c.split-p.ensures.keeper 100 [] c.in_ok-shared.ensures.idle in
    let l = k1.left in omega arith

pub split-q-requires-clause-fresh : goal.split-q-requires-clause-fresh
split-q-requires-clause-fresh g c =
    let k1 = c.split-p.ensures.keeper 100 [] c.in_ok-shared.ensures.idle in
    ap (times 1) k1.lanes

pub keep-on-requires-clause-fresh : goal.keep-on-requires-clause-fresh
keep-on-requires-clause-fresh g c =
    let k1 = c.split-p.ensures.keeper 100 [] c.in_ok-shared.ensures.idle in
    let k2 = c.split-q.ensures.keeper 97 (0 ∷ []) k1 in
    ap (times 16) k2.lanes

pub enter-a-requires-clause-left : goal.enter-a-requires-clause-left
enter-a-requires-clause-left g c =
    let p0 = c.split-p.ensures.lane in
    let l = p0.left in omega arith

pub enter-a-requires-clause-closed : goal.enter-a-requires-clause-closed
enter-a-requires-clause-closed g c =
    let p0 = c.split-p.ensures.lane in
    p0.inside

pub enter-b-requires-clause-left : goal.enter-b-requires-clause-left
enter-b-requires-clause-left g c =
    let q0 = c.split-q.ensures.lane in
    let l = q0.left in omega arith

pub enter-b-requires-clause-closed : goal.enter-b-requires-clause-closed
enter-b-requires-clause-closed g c =
    let q0 = c.split-q.ensures.lane in
    q0.inside

pub leave-first-requires : goal.leave-first-requires
leave-first-requires g c =
    let p0 = c.split-p.ensures.lane in
    let p2 = c.race-ends.ensures.p_sits (role.Lane 0) 2 [] (c.enter-a.ensures.sits (role.Lane 0) 2 [] p0) in
    p2.inside

pub leave-second-requires : goal.leave-second-requires
leave-second-requires g c =
    let q0 = c.split-q.ensures.lane in
    let q2 = c.race-ends.ensures.q_sits (role.Lane 1) 2 [] (c.enter-b.ensures.sits (role.Lane 1) 2 [] q0) in
    q2.inside

pub join-requires-clause-closed : goal.join-requires-clause-closed
join-requires-clause-closed g c =
    let p0 = c.split-p.ensures.lane in
    let p2 = c.race-ends.ensures.p_sits (role.Lane 0) 2 [] (c.enter-a.ensures.sits (role.Lane 0) 2 [] p0) in
    let p3 = c.leave-first.ensures.idle (role.Lane 0) 2 [] p2 in
    p3.inside

pub join-requires-clause-landed : goal.join-requires-clause-landed
join-requires-clause-landed g c =
    let p0 = c.split-p.ensures.lane in
    let p2 = c.race-ends.ensures.p_sits (role.Lane 0) 2 [] (c.enter-a.ensures.sits (role.Lane 0) 2 [] p0) in
    let p3 = c.leave-first.ensures.idle (role.Lane 0) 2 [] p2 in
    p3.flights

pub join-requires-2-clause-closed : goal.join-requires-2-clause-closed
join-requires-2-clause-closed g c =
    let q0 = c.split-q.ensures.lane in
    let q2 = c.race-ends.ensures.q_sits (role.Lane 1) 2 [] (c.enter-b.ensures.sits (role.Lane 1) 2 [] q0) in
    let q3 = c.leave-second.ensures.idle (role.Lane 1) 2 [] q2 in
    q3.inside

pub join-requires-2-clause-landed : goal.join-requires-2-clause-landed
join-requires-2-clause-landed g c =
    let q0 = c.split-q.ensures.lane in
    let q2 = c.race-ends.ensures.q_sits (role.Lane 1) 2 [] (c.enter-b.ensures.sits (role.Lane 1) 2 [] q0) in
    let q3 = c.leave-second.ensures.idle (role.Lane 1) 2 [] q2 in
    q3.flights

pub close-words-requires-clause-joined : goal.close-words-requires-clause-joined
close-words-requires-clause-joined g c =
    let k1 = c.split-p.ensures.keeper 100 [] c.in_ok-shared.ensures.idle in
    let k2 = c.split-q.ensures.keeper 97 (0 ∷ []) k1 in
    let k3 = subst (λ (p : KeeperPass). Idle role.Keeper 94 (0 ∷ 1 ∷ []) (keeper_view p)) (sym c.keep-on.ensures.pass) k2 in
    let k4 = c.look-during.ensures.idle role.Keeper 94 (0 ∷ 1 ∷ []) k3 in
    let k6 = subst (λ (p : KeeperPass). Idle role.Keeper 94 (0 ∷ 1 ∷ []) (keeper_view p)) (sym c.pass-keeper.ensures.pass) k4 in
    let p0 = c.split-p.ensures.lane in
    let p2 = c.race-ends.ensures.p_sits (role.Lane 0) 2 [] (c.enter-a.ensures.sits (role.Lane 0) 2 [] p0) in
    let p3 = c.leave-first.ensures.idle (role.Lane 0) 2 [] p2 in
    let q0 = c.split-q.ensures.lane in
    let q2 = c.race-ends.ensures.q_sits (role.Lane 1) 2 [] (c.enter-b.ensures.sits (role.Lane 1) 2 [] q0) in
    let q3 = c.leave-second.ensures.idle (role.Lane 1) 2 [] q2 in
    let k7 = c.join.ensures.keeper 0 94 2 (0 ∷ 1 ∷ []) [] k6 p3 in
    let k8 = c.join-2.ensures.keeper 1 96 2 (1 ∷ []) [] k7 q3 in
    k8.lanes

pub close-words-requires-clause-closed : goal.close-words-requires-clause-closed
close-words-requires-clause-closed g c =
    let k1 = c.split-p.ensures.keeper 100 [] c.in_ok-shared.ensures.idle in
    let k2 = c.split-q.ensures.keeper 97 (0 ∷ []) k1 in
    let k3 = subst (λ (p : KeeperPass). Idle role.Keeper 94 (0 ∷ 1 ∷ []) (keeper_view p)) (sym c.keep-on.ensures.pass) k2 in
    let k4 = c.look-during.ensures.idle role.Keeper 94 (0 ∷ 1 ∷ []) k3 in
    let k6 = subst (λ (p : KeeperPass). Idle role.Keeper 94 (0 ∷ 1 ∷ []) (keeper_view p)) (sym c.pass-keeper.ensures.pass) k4 in
    let p0 = c.split-p.ensures.lane in
    let p2 = c.race-ends.ensures.p_sits (role.Lane 0) 2 [] (c.enter-a.ensures.sits (role.Lane 0) 2 [] p0) in
    let p3 = c.leave-first.ensures.idle (role.Lane 0) 2 [] p2 in
    let q0 = c.split-q.ensures.lane in
    let q2 = c.race-ends.ensures.q_sits (role.Lane 1) 2 [] (c.enter-b.ensures.sits (role.Lane 1) 2 [] q0) in
    let q3 = c.leave-second.ensures.idle (role.Lane 1) 2 [] q2 in
    let k7 = c.join.ensures.keeper 0 94 2 (0 ∷ 1 ∷ []) [] k6 p3 in
    let k8 = c.join-2.ensures.keeper 1 96 2 (1 ∷ []) [] k7 q3 in
    k8.inside

pub close-words-requires-clause-landed : goal.close-words-requires-clause-landed
close-words-requires-clause-landed g c =
    let k1 = c.split-p.ensures.keeper 100 [] c.in_ok-shared.ensures.idle in
    let k2 = c.split-q.ensures.keeper 97 (0 ∷ []) k1 in
    let k3 = subst (λ (p : KeeperPass). Idle role.Keeper 94 (0 ∷ 1 ∷ []) (keeper_view p)) (sym c.keep-on.ensures.pass) k2 in
    let k4 = c.look-during.ensures.idle role.Keeper 94 (0 ∷ 1 ∷ []) k3 in
    let k6 = subst (λ (p : KeeperPass). Idle role.Keeper 94 (0 ∷ 1 ∷ []) (keeper_view p)) (sym c.pass-keeper.ensures.pass) k4 in
    let p0 = c.split-p.ensures.lane in
    let p2 = c.race-ends.ensures.p_sits (role.Lane 0) 2 [] (c.enter-a.ensures.sits (role.Lane 0) 2 [] p0) in
    let p3 = c.leave-first.ensures.idle (role.Lane 0) 2 [] p2 in
    let q0 = c.split-q.ensures.lane in
    let q2 = c.race-ends.ensures.q_sits (role.Lane 1) 2 [] (c.enter-b.ensures.sits (role.Lane 1) 2 [] q0) in
    let q3 = c.leave-second.ensures.idle (role.Lane 1) 2 [] q2 in
    let k7 = c.join.ensures.keeper 0 94 2 (0 ∷ 1 ∷ []) [] k6 p3 in
    let k8 = c.join-2.ensures.keeper 1 96 2 (1 ∷ []) [] k7 q3 in
    k8.flights
