-- Units that go from a lane's view to the keeper's.
use Rattle.std.proofs.Common.{◌≡◌, ◌≢◌, ℕ, ◌+◌, ◌-◌, ◌≤◌, List, set, sym, refl, ap, ◌∙◌, subst, arith}
use mathlib.Core.Option.{some}
use lib.ListN.{get_elem?}
use Rattle.atomic_table.proofs.Lists.{set_else}
use Rattle.mp_core.specs.declared.view.Role.{Role}
use Rattle.mp_core.specs.declared.view.Role.TheVariants as role
use Rattle.mp_core.specs.declared.view.Start.{Start}
use Rattle.mp_core.specs.declared.view.View.{View}
use Rattle.mp_core.specs.Memory.{Memory}
use Rattle.mp_core.specs.Unpacked.{start_order}
use Rattle.mp_rule.specs.Rule.{Cells, total, Each, cells_of, keeping, first_of, First, Keeps}
use Rattle.mp_rule.specs.History.{order_at}
use Rattle.mp_rule.specs.Sums.{out, times, is_lane, units, room, budget, tickets, Sums, IsEmpty, Lanes}
use Rattle.mp_rule.specs.Holds.{Holds}
use Rattle.mp_rule.proofs.Views.{total-set, keeping-same, each_set, at_here}
use Rattle.mp_rule.proofs.Graces.{held, frame}
use Rattle.mp_rule.proofs.Kept.{hold_step}
use Rattle.mp_rule.proofs.Sums.{sums_view}
use Rattle.mp_rule.proofs.Lanes.{lanes_view, out-same}

-- the view with so many units
abbrev pub with_left : ℕ → View → View
with_left n v = record v { left = n }

-- what ties the sequence to the words asks for no units
left_graces : (first : First) (cells : Cells) (views : List View) (id : ℕ) (v : View) (n : ℕ) → Keeps first cells views → get_elem? views id ≡ some v → Keeps first cells (set views id (with_left n v))
left_graces first cells views id v n h at =
    held first cells views (set views id (with_left n v)) (keeping-same views id v (with_left n v) at refl)
    (frame first cells (keeping views) views id v (with_left n v) h at (λ e. e) (λ l e. e) (λ x. refl) (λ s. refl) (λ P o. o) (λ P o. o id v at) (λ F a. a) (λ s o. o id v at))

left_hold : (start : Start) (id : ℕ) (v : View) (n : ℕ) (m : Memory) (views : List View) → Holds start m views → get_elem? views id ≡ some v → Sums start.units (cells_of m) (set views id (with_left n v)) → Lanes m.index (set views id (with_left n v)) → Holds start m (set views id (with_left n v))
left_hold start id v n m views h at sums lanes =
    hold_step start id v (with_left n v) m m views h at h.sized refl (left_graces (first_of start) (cells_of m) views id v n h.graces at) sums lanes refl
    (λ s. let k = (h.rows s).each id v at in record { from = k.from; to = k.to; own = k.own; reads = k.reads; held = k.held })
    (let o = h.orders id v at in record { from = o.from; to = o.to; own = o.own; reads = o.reads })
    (λ k. ap (order_at k (start_order start)) (keeping-same views id v (with_left n v) at refl)) refl refl

-- the keeper's view may have more units
lanes_more : (index : ℕ) (views : List View) (id : ℕ) (v : View) (n : ℕ) → Lanes index views → get_elem? views id ≡ some v → v.role ≡ role.Keeper → Lanes index (set views id (with_left n v))
lanes_more index views id v n k at keeper = record {
  range = k.range;
  own = each_set (λ i u. i ≡ 0 → u.keeping.index ≡ index) views id (with_left n v) (λ j u d a. k.own j u a) (k.own id v at);
  listed = λ l. let t = total-set (is_lane l) views id v (with_left n v) at in let o = k.listed l in ap (times l) (out-same views id v (with_left n v) at (λ _. refl)) ∙ o ∙ omega arith;
  once = λ l. subst (λ (xs : List ℕ). times l xs ≤ 1) (sym (out-same views id v (with_left n v) at (λ _. refl))) (k.once l);
  spent = each_set (λ _ u. u.role ≡ role.Spent → IsEmpty u) views id (with_left n v) (λ j u d a. k.spent j u a) (λ e. absurd (keeper_spent (sym keeper ∙ e)));
}
  where
    is_keeper : Role → Type 0
    is_keeper role.Keeper = Unit {0}
    is_keeper role.Spent = ⊥
    is_keeper (role.Lane l) = ⊥

    keeper_spent : role.Keeper ≡ role.Spent → ⊥
    keeper_spent e = subst is_keeper e tt

-- a unit of a lane's becomes the keeper's
pub unit_moves : (start : Start) (id : ℕ) (v k : View) (m : Memory) (views : List View) → Holds start m views → get_elem? views 0 ≡ some k → k.role ≡ role.Keeper → get_elem? views id ≡ some v → id ≢ 0 → 1 ≤ v.left
    → Holds start m (set (set views id (with_left (v.left - 1) v)) 0 (with_left (k.left + 1) k))
unit_moves start id v k m views h first keeper at apart some_left =
    let less : View = with_left (v.left - 1) v in
    let more : View = with_left (k.left + 1) k in
    let mid : List View = set views id less in
    let there : get_elem? mid 0 ≡ some k = set_else views id 0 less (λ e. apart (sym e)) ∙ first in
    let s = some_left in
    let lower : Holds start m mid = left_hold start id v (v.left - 1) m views h at
    (sums_view start.units (cells_of m) views id v less h.sums at (omega arith) (omega arith) (omega arith) (λ x t. refl))
    (lanes_view m.index views id v less h.lanes at refl refl refl (λ e. record { left = (let z = e.left in omega arith); inside = e.inside; done = e.done; flights = e.flights; entries = e.entries })) in
    left_hold start 0 k (k.left + 1) m mid lower there
    (let a = total-set units views id v less at in
    let b = total-set units mid 0 k more there in
    let c = total-set room views id v less at in
    let d = total-set room mid 0 k more there in
    let e = total-set budget views id v less at in
    let f = total-set budget mid 0 k more there in record {
      entries = λ x. let o = h.sums.entries x in omega arith;
      most = h.sums.most;
      rows = λ x. let o = h.sums.rows x in omega arith;
      order = let o = h.sums.order in omega arith;
      budget = let o = h.sums.budget in omega arith;
      single = λ x t. let y = total-set (tickets x t) views id v less at in let z = total-set (tickets x t) mid 0 k more there in let o = h.sums.single x t in omega arith;
    })
    (lanes_more m.index mid 0 k (k.left + 1) lower.lanes there keeper)
