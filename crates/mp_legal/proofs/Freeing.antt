-- A slot is freed at the end of a walk.
use Rattle.std.proofs.Common.{◌≡◌, ℕ, ◌-◌, ◌==◌, ◌&&◌, not, cond, nat_lt, true, List, [], ◌∷◌, ◌++◌, length, map, set, Some, None, option_map, refl, sym, ap, ◌∙◌, eq-eqb, append-nil}
use Rattle.std.specs.List.{list_all, remove, AllByRecursion}
use Rattle.std.proofs.lemmas.List.{length-set, map-append, map-set}
use Rattle.std.proofs.lemmas.List.Elements.{filter-append}
use Rattle.std.proofs.lemmas.List.Folds.{list_all-append}
use Rattle.mp_words.specs.declared.op.Op.TheVariants as op
use Rattle.mp_words.specs.declared.order.Order.{Order}
use Rattle.mp_words.specs.declared.entry.RowEntry.{RowEntry}
use Rattle.mp_words.specs.Effect.{row_after}
use Rattle.mp_words.specs.Order.{slots_of}
use Rattle.mp_record.specs.declared.event.Event.TheVariants as event
use Rattle.mp_record.specs.declared.event.Said.TheVariants as said
use Rattle.mp_core.specs.Core.{Core}
use Rattle.mp_core.specs.Memory.{Memory, row_at, row_in}
use Rattle.mp_keep.specs.declared.removal.Removal.{Removal}
use Rattle.mp_keep.specs.Keeper.{KeeperView, removal_at, owner_of}
use Rattle.mp_keep.specs.Walks.{FreesRow}
use Rattle.mp_legal.specs.PlainKeep.{without, freed}
use Rattle.mp_legal.specs.Stepped.{Place, maker_of}
use Rattle.mp_legal.specs.ToldKeeper.{is_at_rest, orders_in, with_keeper}
use Rattle.mp_legal.specs.ToldState.{Beside, state_in}
use Rattle.mp_legal.proofs.PlainWalk.{without_none}
use Rattle.mp_legal.proofs.Walking.{Walking, Walked, IsPut, Alone, alone, slot_of}
use Rattle.mp_legal.proofs.WalkSteps.{Splits, removal_is}

remove_seam : (before : List Removal) (r : Removal) (rest : List Removal) → remove (before ++ r ∷ rest) (length before) ≡ before ++ rest
remove_seam [] r rest = refl
remove_seam (q ∷ before) r rest = ap (λ (rs : List Removal). q ∷ rs) (remove_seam before r rest)

-- the slots but one, where it stands once
without_seam : (d : ℕ) (xs ys : List ℕ) → Alone d xs ys → without d (xs ++ d ∷ ys) ≡ xs ++ ys
without_seam d xs ys a =
    filter-append (λ other. not (other == d)) xs (d ∷ ys) ∙ (λ i. without_none d xs a.before i ++ cond (not (eq-eqb d d refl i)) (d ∷ without d ys) (without d ys)) ∙ ap (λ (zs : List ℕ). xs ++ zs) (without_none d ys a.behind)

pub rests_of : (order : Order) (rest : List Removal) → AllByRecursion (IsPut order) rest → list_all (λ (r : Removal). is_at_rest r.stage) rest ≡ true
rests_of order [] all = refl
rests_of order (r ∷ rest) all = λ i. all.0.rest i && rests_of order rest all.1 i

-- the row of the slot that is freed, and its entry
abbrev free_entry : Place → Memory → ℕ → RowEntry
free_entry at m slot = record { slot = slot; row = row_after (row_at m slot) op.Free; op = op.Free; by = maker_of at }

abbrev free_words : Place → Memory → ℕ → Memory
free_words at m slot = row_in slot (free_entry at m slot).row m

pub free_step : (at : Place) (place : ℕ) (k l : KeeperView) (a c b : Core) (m : Memory) (x : Beside) (before : List Removal) (r : Removal) (rest : List Removal) (entry : RowEntry)
    → Walking k a m x before (r ∷ rest) → Splits k place before r rest → c.told ≡ a.told → c.view.left ≡ a.view.left → FreesRow k l c b (maker_of at) place entry
    → Walked (freed at (state_in m (with_keeper k x)) r.slot) k l a b m x (entry ∷ []) (event.At at.line (said.Freed entry.slot entry.row.version k.flips) ∷ [])
free_step at place k l a c b m x before r rest entry w s told left f =
    let here : removal_at k place ≡ r = removal_is k place before r rest s in
    let words : c.told ≡ Some m = told ∙ w.told in
    let old : f.old ≡ row_at m r.slot = f.found.told m words ∙ ap (λ (q : Removal). row_at m q.slot) here in
    let is : entry ≡ free_entry at m r.slot = f.row ∙ (λ j. record { slot = (here j).slot; row = row_after (old j) op.Free; op = op.Free; by = maker_of at }) in
    let keeper = f.keeper in
    let left_over : l.removals ≡ before ++ rest = ap (λ (z : KeeperView). z.removals) keeper ∙ (λ j. remove (s.removals j) (sym s.place_is j)) ∙ remove_seam before r rest in
    let once = alone (map slot_of before) r.slot (map slot_of rest) w.distinct in
    let slots : without r.slot (map slot_of k.removals) ≡ map slot_of l.removals =
    ap (λ (rs : List Removal). without r.slot (map slot_of rs)) s.removals ∙ ap (without r.slot) (map-append slot_of before (r ∷ rest)) ∙ without_seam r.slot (map slot_of before) (map slot_of rest) once
    ∙ sym (map-append slot_of before rest) ∙ ap (map slot_of) (sym left_over) in
    let owners : l.owners ≡ map owner_of (set m.rows r.slot (free_entry at m r.slot).row) =
    ap (λ (z : KeeperView). z.owners) keeper ∙ (λ j. set (w.owners j) (here j).slot None) ∙ sym (map-set owner_of m.rows r.slot (free_entry at m r.slot).row) in
    record {
      memory = free_words at m r.slot;
      told = ap (λ (z : Core). z.told) f.core ∙ ap (option_map (row_in (removal_at k place).slot entry.row)) words ∙ (λ j. Some (row_in (here j).slot (is j).row m));
      sized = length-set m.rows r.slot (free_entry at m r.slot).row ∙ w.rows;
      depths = refl;
      currents = w.currents;
      keeps = record {
        order = w.order ∙ ap (λ (z : KeeperView). z.order) (sym keeper);
        within = ap (λ (z : KeeperView). list_all (λ slot. nat_lt slot 15) (slots_of z.order)) keeper ∙ w.within;
        owners = owners;
        removals = slots;
        rest = ap (list_all (λ (q : Removal). is_at_rest q.stage)) left_over ∙ list_all-append (λ (q : Removal). is_at_rest q.stage) before rest ∙ (λ j. w.past j && rests_of k.order rest w.put.1 j);
        flips = ap (λ (z : KeeperView). z.flips) (sym keeper);
      };
      state = λ j. record (state_in (free_words at m r.slot) x) { removals = slots j; flips = (sym keeper j).flips };
      rows = ap (λ (e : RowEntry). e ∷ []) (sym is);
      orders = ap (λ (z : KeeperView). orders_in z.entries) keeper ∙ sym (append-nil (orders_in k.entries));
      events = ap (λ (e : RowEntry). event.At at.line (said.Freed e.slot e.row.version k.flips) ∷ []) (sym is);
      left = ap (λ (z : Core). z.view.left) f.core ∙ ap (λ n. n - 1) left;
    }
