-- A new keeper.
use Rattle.std.proofs.Common.{◌≡◌, ℕ, Bool, true, false, List, [], filter, Option, None, Some, is_some, if◌then◌else◌, refl, sym, ap, ◌∙◌, subst, arith}
use Rattle.mp_words.specs.declared.order.Order.{Order}
use Rattle.mp_words.specs.Row.{is_given}
use Rattle.mp_core.specs.declared.view.View.{View}
use Rattle.mp_core.specs.Memory.{row_at}
use Rattle.mp_core.specs.Unpacked.{unpacked, start_order, first_status}
use Rattle.mp_core.specs.Status.{begins, lists, status}
use Rattle.mp_core.specs.Views.{last_order}
use Rattle.mp_keep.specs.Keeper.{KeeperView, StandsTo, IsNew, AtStart, StatusBy, has_entry}

some_owner : (b : Bool) (c : ℕ) → is_some (if b then Some c else None) ≡ b
some_owner true c = refl
some_owner false c = refl

begun : (l g m k : Bool) → g ≡ l → m ≡ false → k ≡ l → StatusBy None l (begins g m k)
begun true g m k a b e = λ i. begins (a i) (b i) (e i)
begun false g m k a b e = λ i. begins (a i) (b i) (e i)

-- the keeper that has just this
abbrev new_keeper : Order → List (Option ℕ) → ℕ → KeeperView
new_keeper order owners spare = record { order = order; owners = owners; removals = []; flips = 0; entries = []; spare = spare }

new_is : (order : Order) (owners : List (Option ℕ)) (k : KeeperView) → IsNew order owners k → new_keeper order owners k.spare ≡ k
new_is order owners k n = λ i. record { order = sym n.order_is i; owners = sym n.owners_are i; removals = sym n.removals i; flips = sym n.flips i; entries = sym n.entries i; spare = k.spare }

new_stands : (order : Order) (owners : List (Option ℕ)) (spare : ℕ) (v : View) → AtStart order owners v → StandsTo (new_keeper order owners spare) v
new_stands order owners spare v s =
    let begin = s.start in
    let version = begin.version in record {
      sound = record {
        lawful = begin.lawful;
        sized = begin.sized;
        owned = λ slot l. ap is_some (begin.owned slot l) ∙ some_owner (is_given (row_at (unpacked v.keeping.start.words) slot)) (row_at (unpacked v.keeping.start.words) slot).ctrl ∙ begin.listed_are slot l;
        apart = begin.apart;
        within = refl;
        distinct = refl;
        ordered = refl;
        turned = refl;
        versions = omega arith;
        flipped = omega arith;
      };
      keeper = s.keeper;
      order = begin.order_is ∙ ap (last_order (start_order v.keeping.start)) (sym s.events);
      slots = λ slot l. subst (StatusBy None (lists slot order)) (ap (status (first_status v.keeping.start slot) slot) (sym s.events))
          (begun (lists slot order) (is_given (row_at (unpacked v.keeping.start.words) slot)) (row_at (unpacked v.keeping.start.words) slot).marked (lists slot (start_order v.keeping.start)) (begin.listed_are slot l) (begin.unmarked slot l) (ap (lists slot) (sym begin.order_is)));
      flips = sym s.flips;
      index = s.index;
      entries = ap (filter has_entry) s.events;
    }

pub a_new_keeper : (order : Order) (owners : List (Option ℕ)) (k : KeeperView) (v : View) → IsNew order owners k → AtStart order owners v → StandsTo k v
a_new_keeper order owners k v n s = subst (λ (z : KeeperView). StandsTo z v) (new_is order owners k n) (new_stands order owners k.spare v s)
