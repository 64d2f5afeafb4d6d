-- A call of a desk is the plain run's call.
use Rattle.std.proofs.Common.{◌≡◌, ℕ, zero, suc, ◌-◌, ◌<◌, List, [], ◌∷◌, count_by, Some, None, sym, ap, ◌∙◌}
use Rattle.std.specs.List.{last_or}
use Rattle.mp_core.specs.Memory.{Memory}
use Rattle.mp_desk.specs.DeskView.{DeskView}
use Rattle.mp_desk.specs.Says.{back_in}
use Rattle.mp_desk.specs.Calls.{DeskCall, submit, finish, change, add, remove, set_policy, reap, Means, Stand, GoesTo, StopTo, After, FlightStays, FlightEnds, FlightFalls, ChangeStays, ChangeEnds, RemovalStays, RemovalBegins, IsShort, needs, at_desk, maker_at}
use Rattle.mp_words.specs.declared.op.Op.{Op}
use Rattle.mp_legal.specs.PlainCall.{Inputs, call}
use Rattle.mp_legal.specs.ToldCalls.{units_of}
use Rattle.mp_legal.specs.ToldDesks.{GoesBy, SitsAt, MayCall, Leads, FallsBy, plain_of, place_at}
use Rattle.mp_legal.specs.ToldState.{Beside, state_in}
use Rattle.mp_legal.specs.Units.{uses, came_back}
use Rattle.mp_legal.proofs.DeskChange.{desk_change, told_still}
use Rattle.mp_legal.proofs.DeskFinish.{desk_finish, never_stays, units_back}
use Rattle.mp_legal.proofs.DeskKeeper.{desk_add, desk_remove, desk_policy, desk_reap, told_marks}
use Rattle.mp_legal.proofs.DeskSteps.{lane_leads}
use Rattle.mp_legal.proofs.DeskSubmit.{desk_submit}

-- a row change that meets no other change
change_stays : (w : Means) (ctrl : ℕ) (o : Op) (p q : Stand) (m : Memory) → p.core.told ≡ Some m → ChangeStays w ctrl o p q → ⊥
change_stays w ctrl o p q m told s = told_still ctrl o (maker_at w p) p.core q.core _ s.note s.seen m s.changes told tt

-- where no try meets another change the first try is the last
at_once : (Stays Ends : Stand → Stand → Type 0) (n : ℕ) (p q : Stand) → ((r : Stand) → Stays p r → ⊥) → After n Stays Ends p q → Ends p q
at_once Stays Ends zero p q never to = to
at_once Stays Ends (suc n) p q never to = absurd (never to.0 to.1)

-- what a call says, and the units that it used
abbrev pub Led : Inputs → Means → DeskCall → Stand → Stand → List ℕ → Memory → Beside → Type 0
Led i w c p q before m x =
    Leads (call i (place_at w p) (state_in m x) (plain_of c)) (c ∷ []) p q before m x
    × (q.core.view.left ≡ p.core.view.left - uses (plain_of c) (call i (place_at w p) (state_in m x) (plain_of c)))

pub desk_call : (i : Inputs) (w : Means) (c : DeskCall) (p q : Stand) (before : List ℕ) (m : Memory) (x : Beside) → GoesBy i w → SitsAt p before m x → MayCall c p m x → GoesTo w c p q → Led i w c p q before m x
desk_call i w (submit request) p q before m x by h may to =
    let s = desk_submit i w request p q before m x by h may to in
    (lane_leads _ 1 _ p q before m x _ _ _ h s, s.steps.left)
desk_call i w (finish f) p q before m x by h may to =
    let t = to.1 in
    let d : DeskView = t.desk in
    let ends : FlightEnds w f (at_desk d p) q = at_once (FlightStays w f) (FlightEnds w f) to.0 (at_desk d p) q (λ r. never_stays w f (at_desk d p) r m h.at.told) t.goes in
    let s = desk_finish i w f p q before m x d by h t.takes ends in
    let units : units_of (back_in (last_or None ends.after.tries)) ≡ count_by came_back (call i (place_at w p) (state_in m x) (plain_of (finish f))).events =
    units_back ends.after (last_or None ends.after.tries) ∙ ap (count_by came_back) (sym s.steps.events) in
    (lane_leads _ _ _ p q before m x _ _ _ h s, s.steps.left ∙ ap (λ (n : ℕ). p.core.view.left - n) units)
desk_call i w (change ctrl o) p q before m x by h may to =
    let ends : ChangeEnds w ctrl o p q = at_once (ChangeStays w ctrl o) (ChangeEnds w ctrl o) to.0 p q (λ r. change_stays w ctrl o p r m h.at.told) to.1 in
    let s = desk_change w ctrl o p q before m x h may ends in
    (lane_leads _ 1 _ p q before m x _ _ _ h s, s.steps.left)
desk_call i w (add gift) p q before m x by h may to = desk_add w gift p q before m x h may.0 may.1 to
desk_call i w (remove ctrl) p q before m x by h may to =
    desk_remove w ctrl p q before m x h may (at_once (RemovalStays w ctrl) (RemovalBegins w ctrl) to.0 p q (λ r. told_marks w ctrl p r m h.at.told) to.1)
desk_call i w (set_policy policy) p q before m x by h may to = desk_policy w policy p q before m x h may to
desk_call i w reap p q before m x by h may to = desk_reap w p q before m x h may to

pub desk_stop : (w : Means) (c : DeskCall) (p q : Stand) (before : List ℕ) (m : Memory) (x : Beside) → SitsAt p before m x → StopTo w c p q → (p.core.view.left < needs c) × FallsBy c p q
desk_stop w (submit request) p q before m x h to = to
desk_stop w (finish f) p q before m x h to =
    let t = to.1 in
    let d : DeskView = t.desk in
    let falls : FlightFalls f (at_desk d p) q = at_once (FlightStays w f) (FlightFalls f) to.0 (at_desk d p) q (λ r. never_stays w f (at_desk d p) r m h.at.told) t.goes in
    (falls.short, (record { before = t.takes.before; after = t.takes.after; was = t.takes.was; none = t.takes.none; is = falls.desk ∙ t.takes.is }, falls.lands, falls.keeper))
desk_stop w (change ctrl o) p q before m x h to = at_once (ChangeStays w ctrl o) (IsShort 1) to.0 p q (λ r. change_stays w ctrl o p r m h.at.told) to.1
desk_stop w (add gift) p q before m x h to = to
desk_stop w (remove ctrl) p q before m x h to = at_once (RemovalStays w ctrl) (IsShort 1) to.0 p q (λ r. told_marks w ctrl p r m h.at.told) to.1
desk_stop w (set_policy policy) p q before m x h to = to
desk_stop w reap p q before m x h to = to
