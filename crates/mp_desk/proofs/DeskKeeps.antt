-- The calls of lanes leave a keeper standing to its steps.
use Rattle.std.proofs.Common.{ℕ, zero, suc}
use Rattle.mp_desk.specs.DeskView.{DeskView}
use Rattle.mp_desk.specs.Calls.{DeskCall, IsLaneCall, submit, finish, change, add, remove, set_policy, reap, Means, Stand, GoesTo, After, FlightStays, FlightEnds, ChangeStays, ChangeEnds, at_desk, maker_at}
use Rattle.mp_desk.proofs.KeeperStands.{KeepsStand, submit_stands, change_stands, finish_stands}

-- tries in a row that each leave the keeper standing
after_stands : (Stays Ends : Stand → Stand → Type 0) → ((a b : Stand) → Stays a b → KeepsStand a.core b.core) → ((a b : Stand) → Ends a b → KeepsStand a.core b.core) → (n : ℕ) (p q : Stand) → After n Stays Ends p q → KeepsStand p.core q.core
after_stands Stays Ends stay done zero p q to = done p q to
after_stands Stays Ends stay done (suc n) p q to = λ k s. after_stands Stays Ends stay done n to.0 q to.2 k (stay p to.0 to.1 k s)

pub desk_keeps : (w : Means) (c : DeskCall) (p q : Stand) → IsLaneCall c → GoesTo w c p q → KeepsStand p.core q.core
desk_keeps w (submit request) p q lane to = submit_stands w.near p.core q.core to.before to.after to.answer to.made to.submits
desk_keeps w (finish f) p q lane to =
    let t = to.1 in
    let d : DeskView = t.desk in
    after_stands (FlightStays w f) (FlightEnds w f)
    (λ a b s. finish_stands w.answers a.core b.core f.flight f.request f.request _ s.finishes)
    (λ a b s. finish_stands w.answers a.core b.core f.flight f.request s.after s.answer s.finishes) to.0 (at_desk d p) q t.goes
desk_keeps w (change ctrl o) p q lane to =
    after_stands (ChangeStays w ctrl o) (ChangeEnds w ctrl o)
    (λ a b s. change_stands ctrl o (maker_at w a) a.core b.core _ s.note s.seen s.changes)
    (λ a b s. change_stands ctrl o (maker_at w a) a.core b.core s.end s.note s.seen s.changes) to.0 p q to.1
desk_keeps w (add gift) p q lane to = absurd lane
desk_keeps w (remove ctrl) p q lane to = absurd lane
desk_keeps w (set_policy policy) p q lane to = absurd lane
desk_keeps w reap p q lane to = absurd lane
