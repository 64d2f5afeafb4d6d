-- Several lanes on one thread.
use Rattle.std.proofs.Common.{◌≡◌, ◌∙◌, ◌<◌, ℕ, zero, suc, List, [], ◌∷◌, length, set, get_or, Some, refl, ap, get_or-set_same}
use Rattle.std.specs.List.{list_all}
use Rattle.atomic_table.specs.Seated.{TableId}
use Rattle.mp_core.specs.declared.view.Keeping.{Keeping}
use Rattle.mp_core.specs.declared.view.View.{View}
use Rattle.mp_core.specs.declared.view.Seats.{Seats}
use Rattle.mp_core.specs.Memory.{Memory}
use Rattle.mp_core.specs.Seats.{core_of, put, seats_of, view_of, with_keeping, no_view, others_of, is_in}

-- of two writes at one place the last one stays
set_twice : (xs : List View) (i : ℕ) (a b : View) → set (set xs i a) i b ≡ set xs i b
set_twice [] i a b = refl
set_twice (x ∷ xs) zero a b = refl
set_twice (x ∷ xs) (suc i) a b = ap (λ ys. x ∷ ys) (set_twice xs i a b)

own_view : (k : Keeping) (lane : ℕ) (s : Seats) (v : View) → lane < length s.lanes → view_of lane (put k lane v s) ≡ v
own_view k lane s v below = ap (with_keeping v.keeping) (get_or-set_same s.lanes lane (with_keeping k v) (no_view v.keeping) below)

pub step_of_lane : (k : Keeping) (home : TableId) (lane : ℕ) (s : Seats) (m n : Memory) (v : View) → lane < length s.lanes → core_of k home lane (put k lane v s) n ≡ record (core_of k home lane s m) { view = v; told = Some n }
step_of_lane k home lane s m n v below =
    let others : set (set s.lanes lane (with_keeping k v)) lane (no_view k) ≡ set s.lanes lane (no_view k) = set_twice s.lanes lane (with_keeping k v) (no_view k) in
    let own : with_keeping v.keeping (get_or (set s.lanes lane (with_keeping k v)) lane (no_view v.keeping)) ≡ v = ap (with_keeping v.keeping) (get_or-set_same s.lanes lane (with_keeping k v) (no_view v.keeping) below) in
    λ i. record { home = home; lane = lane; alone = list_all is_in (others i); others = others i; view = own i; told = Some n }

pub next_turn : (k : Keeping) (home : TableId) (lane : ℕ) (s : Seats) (m : Memory) (v : View) → lane < length s.lanes → seats_of k (core_of k home lane (put k lane v s) m) ≡ put k lane v s
next_turn k home lane s m v below =
    let own = own_view k lane s v below in
    let whole : set (set (set s.lanes lane (with_keeping k v)) lane (no_view k)) lane (with_keeping k v) ≡ set s.lanes lane (with_keeping k v) =
    set_twice (set s.lanes lane (with_keeping k v)) lane (no_view k) (with_keeping k v) ∙ set_twice s.lanes lane (with_keeping k v) (with_keeping k v) in
    (λ i. record { lanes = set (others_of k lane (put k lane v s)) lane (with_keeping k (own i)); keeping = (own i).keeping }) ∙ (λ i. record { lanes = whole i; keeping = v.keeping })
