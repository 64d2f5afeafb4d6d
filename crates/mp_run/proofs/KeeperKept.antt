-- What the calls of lanes leave of how the keeper stands to its steps, and of what its data agree with.
use Rattle.std.proofs.Common.{◌≡◌, filter, sym, ap, ◌∙◌, subst}
use Rattle.mp_core.specs.declared.view.View.{View}
use Rattle.mp_core.specs.Status.{status, lists}
use Rattle.mp_core.specs.Unpacked.{first_status, start_order}
use Rattle.mp_core.specs.Views.{last_order}
use Rattle.mp_keep.specs.Keeper.{KeeperView, StandsTo, StatusBy, removal_of, has_entry}

-- ---- how the keeper stands to its steps

-- where its part stays but for the row that it holds
pub stands_same : (k : KeeperView) (v w : View) → w.role ≡ v.role → w.keeping.start ≡ v.keeping.start → w.keeping.events ≡ v.keeping.events → w.keeping.flips ≡ v.keeping.flips → w.keeping.index ≡ v.keeping.index
    → StandsTo k v → StandsTo k w
stands_same k v w role start events flips index s = record {
  sound = s.sound;
  keeper = role ∙ s.keeper;
  order = s.order ∙ (λ i. last_order (start_order (sym start i)) (sym events i));
  slots = λ slot lt. subst (StatusBy (removal_of k.removals slot) (lists slot k.order)) (λ i. status (first_status (sym start i) slot) slot (sym events i)) (s.slots slot lt);
  flips = s.flips ∙ sym flips;
  index = index ∙ s.index;
  entries = ap (filter has_entry) events ∙ s.entries;
}
