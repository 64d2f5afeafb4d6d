-- The begin of a removal is the plain run's.
use Rattle.std.proofs.Common.{◌≡◌, ℕ, List, [], ◌∷◌, ◌++◌, map, set, nat_lt, ◌&&◌, true, Option, Some, None, Result, Ok, Err, option_map, refl, sym, ap, ◌∙◌, subst, append-nil}
use Rattle.std.specs.List.{list_all}
use Rattle.std.proofs.Math.Seq.{map-set_same}
use Rattle.std.proofs.lemmas.List.{length-set, map-append}
use Rattle.std.proofs.lemmas.List.Folds.{list_all-append}
use Rattle.mp_words.specs.declared.row.Row.{Row}
use Rattle.mp_words.specs.declared.op.Op.TheVariants as op
use Rattle.mp_words.specs.declared.entry.RowEntry.{RowEntry}
use Rattle.mp_words.specs.declared.path.Path.{Path}
use Rattle.mp_words.specs.Effect.{free_row, row_after}
use Rattle.mp_words.specs.Order.{slots_of}
use Rattle.mp_record.specs.declared.event.Event.TheVariants as event
use Rattle.mp_record.specs.declared.event.Said.TheVariants as said
use Rattle.mp_core.specs.Core.{Core}
use Rattle.mp_core.specs.Memory.{Memory, row_at, row_in}
use Rattle.mp_keep.specs.declared.removal.Removal.{Removal}
use Rattle.mp_keep.specs.declared.remove_error.RemoveError.{RemoveError}
use Rattle.mp_keep.specs.declared.remove_error.RemoveError.TheVariants as end
use Rattle.mp_keep.specs.declared.stage.Stage.TheVariants.{Marked}
use Rattle.mp_keep.specs.Keeper.{KeeperView, StandsTo, owner_of}
use Rattle.mp_keep.specs.Keeps.{Removes, RemoveTo, MarksRow}
use Rattle.mp_legal.specs.PlainKeep.{removed, marked}
use Rattle.mp_legal.specs.Stepped.{Place, maker_of}
use Rattle.mp_legal.specs.ToldKeeper.{IsKeeperStep, KeepsAt, is_at_rest, orders_in, entry_marked, marked_said}
use Rattle.mp_legal.specs.ToldState.{Beside, IsAt, state_in}
use Rattle.mp_legal.proofs.KeptPaths.{SamePath, same_path, path_at}
use Rattle.mp_legal.proofs.KeptWords.{Leads, led_at, still_step}

-- the marked row of a slot
abbrev marked_row : Memory → ℕ → Row
marked_row m slot = row_after (row_at m slot) op.Mark

-- its entry
abbrev mark_entry : Place → Memory → ℕ → RowEntry
mark_entry at m slot = record { slot = slot; row = marked_row m slot; op = op.Mark; by = maker_of at }

-- the removal that is under way then
abbrev new_removal : Memory → ℕ → Removal
new_removal m slot = record { slot = slot; mark = (marked_row m slot).version; stage = Marked }

mark_step : (at : Place) (k l : KeeperView) (a b : Core) (slot : ℕ) (entry : RowEntry) (m : Memory) (x : Beside) → MarksRow k l a b (maker_of at) slot entry → IsAt a m x → KeepsAt k (state_in m x)
    → IsKeeperStep (marked at (state_in m x) (Some (path_at m slot))) k l a b x (entry ∷ []) (event.At at.line (said.Marked entry.slot entry.row.version) ∷ [])
mark_step at k l a b slot entry m x h i ks =
    let old : h.old ≡ row_at m slot = h.found.told m i.told in
    let is : entry ≡ mark_entry at m slot = h.row ∙ (λ j. record { slot = slot; row = row_after (old j) op.Mark; op = op.Mark; by = maker_of at }) in
    let core = h.core in
    let keeper = h.keeper in
    let leads : Leads a b m (row_in slot (marked_row m slot) m) = record {
      carries = record {
        lane = ap (λ (c : Core). c.lane) core;
        home = ap (λ (c : Core). c.home) core;
        others = ap (λ (c : Core). c.others) core;
        inside = ap (λ (c : Core). c.view.inside) core;
        flights = ap (λ (c : Core). c.view.flights) core;
        start = ap (λ (c : Core). c.view.keeping.start) core;
      };
      told = ap (λ (c : Core). c.told) core ∙ ap (option_map (row_in slot entry.row)) i.told ∙ (λ j. Some (row_in slot (is j).row m));
      rows = length-set m.rows slot (marked_row m slot) ∙ i.rows;
      depths = refl;
      currents = i.currents;
    } in
    let removals : map (λ (r : Removal). r.slot) l.removals ≡ x.removals ++ slot ∷ [] =
    ap (λ (z : KeeperView). map (λ (r : Removal). r.slot) z.removals) keeper ∙ map-append (λ (r : Removal). r.slot) k.removals (record { slot = slot; mark = entry.row.version; stage = Marked } ∷ []) ∙ ap (λ (rs : List ℕ). rs ++ slot ∷ []) (sym ks.removals) in
    let flips : x.flips ≡ l.flips = ks.flips ∙ ap (λ (z : KeeperView). z.flips) (sym keeper) in
    record {
      memory = row_in slot (marked_row m slot) m;
      at = led_at a b m (row_in slot (marked_row m slot) m) x l leads i;
      keeps = record {
        order = ks.order ∙ ap (λ (z : KeeperView). z.order) (sym keeper);
        within = ap (λ (z : KeeperView). list_all (λ s. nat_lt s 15) (slots_of z.order)) keeper ∙ ks.within;
        owners = ap (λ (z : KeeperView). z.owners) keeper ∙ ks.owners ∙ sym (map-set_same owner_of m.rows slot (marked_row m slot) (free_row 0) refl);
        removals = sym removals;
        rest = ap (λ (z : KeeperView). list_all (λ (r : Removal). is_at_rest r.stage) z.removals) keeper ∙ list_all-append (λ (r : Removal). is_at_rest r.stage) k.removals (record { slot = slot; mark = entry.row.version; stage = Marked } ∷ []) ∙ (λ j. ks.rest j && true);
        flips = flips;
      };
      state = λ j. record (state_in m x) { rows = set m.rows slot (marked_row m slot); removals = sym removals j; flips = flips j };
      rows = ap (λ (e : RowEntry). e ∷ []) (sym is);
      orders = ap (λ (z : KeeperView). orders_in z.entries) keeper ∙ sym (append-nil (orders_in k.entries));
      events = ap (λ (e : RowEntry). event.At at.line (said.Marked e.slot e.row.version) ∷ []) (sym is);
      left = ap (λ (c : Core). c.view.left) core;
      lane = leads.carries.lane;
      home = leads.carries.home;
      others = leads.carries.others;
      keeping = leads.carries.start;
    }

pub remove_step : (at : Place) (ctrl : ℕ) (k l : KeeperView) (a b : Core) (answer : Result RowEntry RemoveError) (m : Memory) (x : Beside) → Removes k l a b ctrl (maker_of at) answer → IsAt a m x → StandsTo k a.view → KeepsAt k (state_in m x)
    → IsKeeperStep (removed at (state_in m x) ctrl) k l a b x (entry_marked answer) (map (event.At at.line) (marked_said answer))
remove_step at ctrl k l a b answer m x h i st ks = by answer h.to
  where
    same : SamePath k m x ctrl
    same = same_path k m x ctrl st.sound ks

    by : (z : Result RowEntry RemoveError) → RemoveTo k l a b ctrl (maker_of at) z → IsKeeperStep (removed at (state_in m x) ctrl) k l a b x (entry_marked z) (map (event.At at.line) (marked_said z))
    by (Err (end.NoPath order)) t =
        subst (λ (found : Option Path). IsKeeperStep (marked at (state_in m x) found) k l a b x [] (event.At at.line (said.NoPath order.version) ∷ [])) (sym (same.none t.0))
        (subst (λ (n : ℕ). IsKeeperStep (marked at (state_in m x) None) k l a b x [] (event.At at.line (said.NoPath n) ∷ [])) ((λ j. (ks.order j).version) ∙ (λ j. (sym t.1 j).version))
        (still_step k l a b m x (event.At at.line (said.NoPath m.order.version) ∷ []) t.2 t.3 i ks))
    by (Err (end.Moved row)) t = absurd (t.2.untold m i.told)
    by (Ok entry) t =
        subst (λ (found : Option Path). IsKeeperStep (marked at (state_in m x) found) k l a b x (entry ∷ []) (event.At at.line (said.Marked entry.slot entry.row.version) ∷ [])) (sym (same.some t.0 t.1))
        (mark_step at k l a b t.0 entry m x t.2 i ks)
