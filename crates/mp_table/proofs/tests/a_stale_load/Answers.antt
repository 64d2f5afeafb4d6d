use Rattle.std.proofs.Common.{[], ◌∷◌, sym, ap, subst, arith}
use Rattle.mp_core.specs.declared.view.Role.TheVariants as role
use Rattle.mp_rule.specs.Sums.{times}
use Rattle.mp_table.specs.declared.keeper_pass.KeeperPass.{KeeperPass}
use Rattle.mp_table.specs.Passes.{keeper_view}
use Rattle.mp_table.specs.Trials.{Idle}
use Rattle.mp_table.proofs.tests.a_stale_load.Goals as goal

pub split-q-requires-clause-left : goal.split-q-requires-clause-left
split-q-requires-clause-left g c =
    let k1 = c.split-p.ensures.keeper 100 [] c.in_ok-shared.ensures.idle in
    let l = k1.left in omega arith

pub split-q-requires-clause-fresh : goal.split-q-requires-clause-fresh
split-q-requires-clause-fresh g c =
    let k1 = c.split-p.ensures.keeper 100 [] c.in_ok-shared.ensures.idle in
    ap (times 1) k1.lanes

pub keep-on-requires-clause-fresh : goal.keep-on-requires-clause-fresh
keep-on-requires-clause-fresh g c =
    let k1 = c.split-p.ensures.keeper 100 [] c.in_ok-shared.ensures.idle in
    let k2 = c.split-q.ensures.keeper 96 (0 ∷ []) k1 in
    ap (times 16) k2.lanes

pub enter-section-requires-clause-left : goal.enter-section-requires-clause-left
enter-section-requires-clause-left g c =
    let p1 = c.load-stale.ensures.idle (role.Lane 0) 4 [] c.split-p.ensures.lane in
    let l = p1.left in omega arith

pub enter-section-requires-clause-closed : goal.enter-section-requires-clause-closed
enter-section-requires-clause-closed g c =
    let p1 = c.load-stale.ensures.idle (role.Lane 0) 4 [] c.split-p.ensures.lane in
    p1.inside

pub enter-section-requires-2-clause-left : goal.enter-section-requires-2-clause-left
enter-section-requires-2-clause-left g c =
    let q1 = c.load-side.ensures.idle (role.Lane 1) 4 [] c.split-q.ensures.lane in
    let l = q1.left in omega arith

pub enter-section-requires-2-clause-closed : goal.enter-section-requires-2-clause-closed
enter-section-requires-2-clause-closed g c =
    let q1 = c.load-side.ensures.idle (role.Lane 1) 4 [] c.split-q.ensures.lane in
    q1.inside

pub join-requires-clause-closed : goal.join-requires-clause-closed
join-requires-clause-closed g c =
    let p1 = c.load-stale.ensures.idle (role.Lane 0) 4 [] c.split-p.ensures.lane in
    let p3 = c.leave-first.ensures.idle (role.Lane 0) 3 [] (c.enter-section.ensures.sits (role.Lane 0) 3 [] p1) in
    p3.inside

pub join-requires-clause-landed : goal.join-requires-clause-landed
join-requires-clause-landed g c =
    let p1 = c.load-stale.ensures.idle (role.Lane 0) 4 [] c.split-p.ensures.lane in
    let p3 = c.leave-first.ensures.idle (role.Lane 0) 3 [] (c.enter-section.ensures.sits (role.Lane 0) 3 [] p1) in
    p3.flights

pub join-requires-2-clause-closed : goal.join-requires-2-clause-closed
join-requires-2-clause-closed g c =
    let q1 = c.load-side.ensures.idle (role.Lane 1) 4 [] c.split-q.ensures.lane in
    let q3 = c.leave-second.ensures.idle (role.Lane 1) 3 [] (c.enter-section-2.ensures.sits (role.Lane 1) 3 [] q1) in
    q3.inside

pub join-requires-2-clause-landed : goal.join-requires-2-clause-landed
join-requires-2-clause-landed g c =
    let q1 = c.load-side.ensures.idle (role.Lane 1) 4 [] c.split-q.ensures.lane in
    let q3 = c.leave-second.ensures.idle (role.Lane 1) 3 [] (c.enter-section-2.ensures.sits (role.Lane 1) 3 [] q1) in
    q3.flights

pub close-words-requires-clause-joined : goal.close-words-requires-clause-joined
close-words-requires-clause-joined g c =
    let k1 = c.split-p.ensures.keeper 100 [] c.in_ok-shared.ensures.idle in
    let k2 = c.split-q.ensures.keeper 96 (0 ∷ []) k1 in
    let k3 = subst (λ (p : KeeperPass). Idle role.Keeper 92 (0 ∷ 1 ∷ []) (keeper_view p)) (sym c.keep-on.ensures.pass) k2 in
    let k4 = c.flip-2.ensures.idle role.Keeper 92 (0 ∷ 1 ∷ []) (c.look-before.ensures.idle role.Keeper 92 (0 ∷ 1 ∷ []) (c.flip.ensures.idle role.Keeper 92 (0 ∷ 1 ∷ []) k3)) in
    let k5 = c.look-after.ensures.idle role.Keeper 92 (0 ∷ 1 ∷ []) (c.look-during.ensures.idle role.Keeper 92 (0 ∷ 1 ∷ []) k4) in
    let k6 = subst (λ (p : KeeperPass). Idle role.Keeper 92 (0 ∷ 1 ∷ []) (keeper_view p)) (sym c.pass-keeper.ensures.pass) k5 in
    let p1 = c.load-stale.ensures.idle (role.Lane 0) 4 [] c.split-p.ensures.lane in
    let p3 = c.leave-first.ensures.idle (role.Lane 0) 3 [] (c.enter-section.ensures.sits (role.Lane 0) 3 [] p1) in
    let q1 = c.load-side.ensures.idle (role.Lane 1) 4 [] c.split-q.ensures.lane in
    let q3 = c.leave-second.ensures.idle (role.Lane 1) 3 [] (c.enter-section-2.ensures.sits (role.Lane 1) 3 [] q1) in
    let k7 = c.join.ensures.keeper 0 92 3 (0 ∷ 1 ∷ []) [] k6 p3 in
    let k8 = c.join-2.ensures.keeper 1 95 3 (1 ∷ []) [] k7 q3 in
    k8.lanes

pub close-words-requires-clause-closed : goal.close-words-requires-clause-closed
close-words-requires-clause-closed g c =
    let k1 = c.split-p.ensures.keeper 100 [] c.in_ok-shared.ensures.idle in
    let k2 = c.split-q.ensures.keeper 96 (0 ∷ []) k1 in
    let k3 = subst (λ (p : KeeperPass). Idle role.Keeper 92 (0 ∷ 1 ∷ []) (keeper_view p)) (sym c.keep-on.ensures.pass) k2 in
    let k4 = c.flip-2.ensures.idle role.Keeper 92 (0 ∷ 1 ∷ []) (c.look-before.ensures.idle role.Keeper 92 (0 ∷ 1 ∷ []) (c.flip.ensures.idle role.Keeper 92 (0 ∷ 1 ∷ []) k3)) in
    let k5 = c.look-after.ensures.idle role.Keeper 92 (0 ∷ 1 ∷ []) (c.look-during.ensures.idle role.Keeper 92 (0 ∷ 1 ∷ []) k4) in
    let k6 = subst (λ (p : KeeperPass). Idle role.Keeper 92 (0 ∷ 1 ∷ []) (keeper_view p)) (sym c.pass-keeper.ensures.pass) k5 in
    let p1 = c.load-stale.ensures.idle (role.Lane 0) 4 [] c.split-p.ensures.lane in
    let p3 = c.leave-first.ensures.idle (role.Lane 0) 3 [] (c.enter-section.ensures.sits (role.Lane 0) 3 [] p1) in
    let q1 = c.load-side.ensures.idle (role.Lane 1) 4 [] c.split-q.ensures.lane in
    let q3 = c.leave-second.ensures.idle (role.Lane 1) 3 [] (c.enter-section-2.ensures.sits (role.Lane 1) 3 [] q1) in
    let k7 = c.join.ensures.keeper 0 92 3 (0 ∷ 1 ∷ []) [] k6 p3 in
    let k8 = c.join-2.ensures.keeper 1 95 3 (1 ∷ []) [] k7 q3 in
    k8.inside

pub close-words-requires-clause-landed : goal.close-words-requires-clause-landed
close-words-requires-clause-landed g c =
    let k1 = c.split-p.ensures.keeper 100 [] c.in_ok-shared.ensures.idle in
    let k2 = c.split-q.ensures.keeper 96 (0 ∷ []) k1 in
    let k3 = subst (λ (p : KeeperPass). Idle role.Keeper 92 (0 ∷ 1 ∷ []) (keeper_view p)) (sym c.keep-on.ensures.pass) k2 in
    let k4 = c.flip-2.ensures.idle role.Keeper 92 (0 ∷ 1 ∷ []) (c.look-before.ensures.idle role.Keeper 92 (0 ∷ 1 ∷ []) (c.flip.ensures.idle role.Keeper 92 (0 ∷ 1 ∷ []) k3)) in
    let k5 = c.look-after.ensures.idle role.Keeper 92 (0 ∷ 1 ∷ []) (c.look-during.ensures.idle role.Keeper 92 (0 ∷ 1 ∷ []) k4) in
    let k6 = subst (λ (p : KeeperPass). Idle role.Keeper 92 (0 ∷ 1 ∷ []) (keeper_view p)) (sym c.pass-keeper.ensures.pass) k5 in
    let p1 = c.load-stale.ensures.idle (role.Lane 0) 4 [] c.split-p.ensures.lane in
    let p3 = c.leave-first.ensures.idle (role.Lane 0) 3 [] (c.enter-section.ensures.sits (role.Lane 0) 3 [] p1) in
    let q1 = c.load-side.ensures.idle (role.Lane 1) 4 [] c.split-q.ensures.lane in
    let q3 = c.leave-second.ensures.idle (role.Lane 1) 3 [] (c.enter-section-2.ensures.sits (role.Lane 1) 3 [] q1) in
    let k7 = c.join.ensures.keeper 0 92 3 (0 ∷ 1 ∷ []) [] k6 p3 in
    let k8 = c.join-2.ensures.keeper 1 95 3 (1 ∷ []) [] k7 q3 in
    k8.flights
