-- A removal begins.
use Rattle.std.proofs.Common.{◌≡◌, ℕ, ◌+◌, ◌<◌, ◌≤◌, ◌==◌, ◌||◌, max, if◌then◌else◌, nat_lt, Bool, true, false, List, [], ◌∷◌, ◌++◌, cond, Option, None, Some, is_some, is_none, Result, Ok, Err, refl, sym, ap, ◌∙◌, subst, arith}
use Rattle.std.proofs.lemmas.List.Quantifiers.{position-Some}
use Rattle.mp_words.specs.declared.entry.RowEntry.{RowEntry}
use Rattle.mp_words.specs.declared.op.Maker.{Maker}
use Rattle.mp_words.specs.declared.op.Op.TheVariants as op
use Rattle.mp_words.specs.declared.row.Row.{Row}
use Rattle.mp_core.specs.declared.view.RowEnd.TheVariants as ends
use Rattle.mp_core.specs.declared.view.View.{View}
use Rattle.mp_core.specs.Core.{Core, looked}
use Rattle.mp_core.specs.Status.{Status, leaving, is_used, listed, lists}
use Rattle.mp_core.specs.Views.{keep_moved, seen_row, row_held, row_kept}
use Rattle.mp_core.specs.Kinds.{RowTold, LoadsHeld, KeepsTo, RowMoved, status_at, entry_of}
use Rattle.mp_keep.specs.declared.remove_error.RemoveError.{RemoveError}
use Rattle.mp_keep.specs.declared.remove_error.RemoveError.TheVariants.{NoPath, Moved}
use Rattle.mp_keep.specs.declared.removal.Removal.{Removal}
use Rattle.mp_keep.specs.declared.stage.Stage.TheVariants.{Marked}
use Rattle.mp_keep.specs.Keeper.{KeeperView, StandsTo, StatusBy, removal_of, slots_differ, one_by_one, index_of, index_by, is_past, is_marked, all_marked, owner_at}
use Rattle.mp_keep.specs.Keeps.{IsPath, MeetsRow, MarksTo, Removes, unless_removed, held, with_removal, path_slot, slot_with, is_owner}
use Rattle.mp_keep.proofs.Finding.{same_is, is_same, other_is, below}
use Rattle.mp_keep.proofs.Statuses.{never}
use Rattle.mp_keep.proofs.Removals.{all_slots, both_true, and_true}

-- a slot that has a path is listed
pub path_status : (k : KeeperView) (v : View) (slot : ℕ) → StandsTo k v → IsPath k slot → status_at slot v ≡ listed
path_status k v slot s p = subst (λ (b : Bool). StatusBy None b (status_at slot v)) p.listed_is (subst (λ (r : Option Removal). StatusBy r (lists slot k.order) (status_at slot v)) p.stays (s.slots slot p.below))

max_same : (a b : ℕ) → b ≤ a → max a b ≡ a
max_same a b l = omega arith

-- the version just loaded is the greatest seen
seen_held : (a : Core) (slot : ℕ) (old : Row) → RowTold a slot old → old.version ≡ seen_row (held slot old a).view slot
seen_held a slot old f =
    sym (ap (λ (b : Bool). cond b (max old.version (seen_row a.view slot)) (seen_row a.view slot)) (same_is slot slot refl) ∙ max_same old.version (seen_row a.view slot) f.fresh)

row_clash : (old row : Row) → old ≡ row → old.version < row.version → ⊥
row_clash old row e l = let v = ap (λ (r : Row). r.version) e in absurd (omega arith)

pub meets_row : (k : KeeperView) (a m b : Core) (slot : ℕ) (old row : Row) (by : Maker) → StandsTo k a.view → IsPath k slot → LoadsHeld a m slot old → KeepsTo m b slot old op.Mark by (ends.Moved row) → MeetsRow k k a b slot row
meets_row k a m b slot old row by s p h moved =
    let core = h.after in
    let found = h.found in
    let met : RowMoved (held slot old a) slot old row = subst (λ (c : Core). RowMoved c slot old row) core moved.2 in record {
      old = old;
      found = found;
      given = h.used ∙ ap is_used (path_status k a.view slot s p);
      moved = met;
      untold = λ w told. row_clash old row (found.told w told ∙ met.told w told) met.greater;
      out = λ alone. met.out alone (seen_held a slot old found);
      keeper = refl;
      core = moved.1 ∙ ap (looked (keep_moved slot row)) core;
    }

-- a removal more
pub none_some : {X : Type 0} {y : X} → Some y ≡ None → ⊥
none_some e = cc

pub find_more : (rs : List Removal) (r : Removal) (t : ℕ) → removal_of rs r.slot ≡ None → removal_of (rs ++ r ∷ []) t ≡ cond (r.slot == t) (Some r) (removal_of rs t)
find_more [] r t n = refl
find_more (x ∷ rs) r t n = cases (x.slot == r.slot) refl n (λ m. find_more rs r t m)
  where
    turn : (a b : Bool) → (x.slot == t) ≡ a → (r.slot == t) ≡ b → (x.slot == r.slot) ≡ false → removal_of (rs ++ r ∷ []) t ≡ cond b (Some r) (removal_of rs t) → cond a (Some x) (removal_of (rs ++ r ∷ []) t) ≡ cond b (Some r) (cond a (Some x) (removal_of rs t))
    turn false b f g d h = h
    turn true false f g d h = refl
    turn true true f g d h = never (sym d ∙ same_is x.slot r.slot (is_same x.slot t f ∙ sym (is_same r.slot t g)))

    cases : (b : Bool) → (x.slot == r.slot) ≡ b → cond b (Some x) (removal_of rs r.slot) ≡ None → (removal_of rs r.slot ≡ None → removal_of (rs ++ r ∷ []) t ≡ cond (r.slot == t) (Some r) (removal_of rs t))
        → cond (x.slot == t) (Some x) (removal_of (rs ++ r ∷ []) t) ≡ cond (r.slot == t) (Some r) (cond (x.slot == t) (Some x) (removal_of rs t))
    cases true e n rest = absurd (none_some n)
    cases false e n rest = turn (x.slot == t) (r.slot == t) refl refl e (rest n)

pub differ_more : (rs : List Removal) (r : Removal) → slots_differ rs ≡ true → removal_of rs r.slot ≡ None → slots_differ (rs ++ r ∷ []) ≡ true
differ_more [] r d n = refl
differ_more (x ∷ rs) r d n =
    let both = both_true (is_none (removal_of rs x.slot)) (slots_differ rs) d in
    cases (x.slot == r.slot) refl both.0 n (λ m. differ_more rs r both.1 m)
  where
    apart : (r.slot == x.slot) ≡ false → is_none (removal_of rs x.slot) ≡ true → is_none (cond (r.slot == x.slot) (Some r) (removal_of rs x.slot)) ≡ true
    apart e h = ap (λ (b : Bool). is_none (cond b (Some r) (removal_of rs x.slot))) e ∙ h

    cases : (b : Bool) → (x.slot == r.slot) ≡ b → is_none (removal_of rs x.slot) ≡ true → cond b (Some x) (removal_of rs r.slot) ≡ None → (removal_of rs r.slot ≡ None → slots_differ (rs ++ r ∷ []) ≡ true) → slots_differ (x ∷ (rs ++ r ∷ [])) ≡ true
    cases true e h n rest = absurd (none_some n)
    cases false e h n rest =
        and_true (is_none (removal_of (rs ++ r ∷ []) x.slot)) (slots_differ (rs ++ r ∷ []))
        (ap is_none (find_more rs r x.slot n) ∙ apart (other_is r.slot x.slot (λ q. never (sym e ∙ same_is x.slot r.slot (sym q)))) h)
        (rest n)

pub slots_more : (rs : List Removal) (r : Removal) → all_slots rs ≡ true → all_slots (r ∷ []) ≡ true → all_slots (rs ++ r ∷ []) ≡ true
slots_more [] r d l = l
slots_more (x ∷ rs) r d l =
    let both = both_true _ (all_slots rs) d in
    and_true _ (all_slots (rs ++ r ∷ [])) both.0 (slots_more rs r both.1 l)

-- the removal that a mark begins
abbrev pub begun : ℕ → ℕ → Removal
begun slot mark = record { slot = slot; mark = mark; stage = Marked }

marked_more : (rs : List Removal) (slot mark : ℕ) → all_marked rs ≡ true → all_marked (rs ++ begun slot mark ∷ []) ≡ true
marked_more [] slot mark h = refl
marked_more (x ∷ rs) slot mark h =
    let both = both_true (is_marked x.stage) (all_marked rs) h in
    and_true (is_marked x.stage) (all_marked (rs ++ begun slot mark ∷ [])) both.0 (marked_more rs slot mark both.1)

ordered_more : (rs : List Removal) (slot mark : ℕ) → one_by_one rs ≡ true → one_by_one (rs ++ begun slot mark ∷ []) ≡ true
ordered_more [] slot mark h = refl
ordered_more (x ∷ rs) slot mark h = of (is_past x.stage) h (λ m. ordered_more rs slot mark m)
  where
    of : (b : Bool) → (if b then one_by_one rs else all_marked rs) ≡ true → (one_by_one rs ≡ true → one_by_one (rs ++ begun slot mark ∷ []) ≡ true) → (if b then one_by_one (rs ++ begun slot mark ∷ []) else all_marked (rs ++ begun slot mark ∷ [])) ≡ true
    of true h rest = rest h
    of false h rest = marked_more rs slot mark h

index_more : (rs : List Removal) (slot mark : ℕ) → index_of (rs ++ begun slot mark ∷ []) ≡ index_of rs
index_more [] slot mark = refl
index_more (x ∷ rs) slot mark = ap (index_by x.stage) (index_more rs slot mark)

listed_owner : (c : Bool) (r : Removal) (o : Option Removal) (l : Bool) → (c ≡ true → l ≡ true) → (is_some o || l) ≡ (is_some (cond c (Some r) o) || l)
listed_owner false r o l h = refl
listed_owner true r None l h = h refl
listed_owner true r (Some x) l h = refl

marked_status : (c : Bool) (slot mark : ℕ) (o : Option Removal) (l : Bool) (st : Status) → (c ≡ true → l ≡ true) → StatusBy o l st → StatusBy (cond c (Some (begun slot mark)) o) l (cond c (leaving false false) st)
marked_status true slot mark o l st h s = (refl, h refl)
marked_status false slot mark o l st h s = s

-- the row was marked
pub mark_stands : (k : KeeperView) (v : View) (slot : ℕ) (old : Row) (by : Maker) (room : ℕ) → StandsTo k v → IsPath k slot
    → StandsTo (record (with_removal slot (old.version + 1) k) { spare = room }) (row_kept (entry_of slot old op.Mark by) (row_held slot old v))
mark_stands k v slot old by room s p =
    let sound = s.sound in
    let r : Removal = begun slot (old.version + 1) in
    let here : (t : ℕ) → (slot == t) ≡ true → lists t k.order ≡ true = λ t e. ap (λ n. lists n k.order) (sym (is_same slot t e)) ∙ p.listed_is in record {
      sound = record {
        lawful = sound.lawful;
        sized = sound.sized;
        owned = λ t l. sound.owned t l ∙ listed_owner (slot == t) r (removal_of k.removals t) (lists t k.order) (here t) ∙ ap (λ (o : Option Removal). is_some o || lists t k.order) (sym (find_more k.removals r t p.stays));
        apart = sound.apart;
        within = slots_more k.removals r sound.within (and_true (nat_lt slot 15) true (below slot 15 p.below) refl);
        distinct = differ_more k.removals r sound.distinct p.stays;
        ordered = ordered_more k.removals slot (old.version + 1) sound.ordered;
        turned = sound.turned ∙ sym (index_more k.removals slot (old.version + 1));
        versions = sound.versions;
        flipped = sound.flipped;
      };
      keeper = s.keeper;
      order = s.order;
      slots = λ t l. subst (λ (o : Option Removal). StatusBy o (lists t k.order) (cond (slot == t) (leaving false false) (status_at t v))) (sym (find_more k.removals r t p.stays))
          (marked_status (slot == t) slot (old.version + 1) (removal_of k.removals t) (lists t k.order) (status_at t v) (here t) (s.slots t l));
      flips = s.flips;
      index = s.index;
      entries = s.entries;
    }

moved_stands : (k : KeeperView) (v : View) (slot : ℕ) (old row : Row) → StandsTo k v → StandsTo k (keep_moved slot row (row_held slot old v))
moved_stands k v slot old row s = record { sound = s.sound; keeper = s.keeper; order = s.order; slots = s.slots; flips = s.flips; index = s.index; entries = s.entries }

-- the slot of a controller's path that isn't under removal
pub path_is : (k : KeeperView) (v : View) (ctrl slot : ℕ) → StandsTo k v → path_slot k ctrl ≡ Some slot → IsPath k slot
path_is k v ctrl slot s e = by (slot_with k ctrl) refl e
  where
    owned : (o : Option ℕ) → is_owner (Some ctrl) o ≡ true → is_some o ≡ true
    owned None h = never h
    owned (Some c) h = refl

    listed_by : (o : Option Removal) (l : Bool) → true ≡ (is_some o || l) → o ≡ None → l ≡ true
    listed_by None true h n = refl
    listed_by None false h n = never (sym h)
    listed_by (Some r) l h n = absurd (none_some n)

    there : (t : ℕ) → slot_with k ctrl ≡ Some t → removal_of k.removals t ≡ None → IsPath k t
    there t e n =
        let sized = s.sound.sized in
        let at = position-Some (is_owner (Some ctrl)) k.owners t None e in
        let low = at.0 in
        let l : t < 15 = omega arith in
        record { below = l; listed_is = listed_by (removal_of k.removals t) (lists t k.order) (sym (owned (owner_at k t) at.1) ∙ s.sound.owned t l) n; stays = n }

    unless : (t : ℕ) (o : Option Removal) → slot_with k ctrl ≡ Some t → removal_of k.removals t ≡ o → (if is_some o then None else Some t) ≡ Some slot → IsPath k slot
    unless t None e n h = subst (IsPath k) (some_same h) (there t e n)
      where
        some_same : Some t ≡ Some slot → t ≡ slot
        some_same q = cc
    unless t (Some r) e n h = absurd (none_some (sym h))

    by : (o : Option ℕ) → slot_with k ctrl ≡ o → unless_removed k o ≡ Some slot → IsPath k slot
    by None e h = absurd (none_some (sym h))
    by (Some t) e h = unless t (removal_of k.removals t) e refl h

-- a removal began, or met another row
pub removes : (k l : KeeperView) (a b : Core) (ctrl slot : ℕ) (by : Maker) (answer : Result RowEntry RemoveError) → StandsTo k a.view → path_slot k ctrl ≡ Some slot → MarksTo k l a b slot by answer → Removes k l a b ctrl by answer
removes k l a b ctrl slot by (Err (NoPath order)) s p m = absurd m
removes k l a b ctrl slot by (Err (Moved row)) s p m = record {
  to = (slot, p, m);
  stands = subst (λ (z : KeeperView). StandsTo z b.view) (sym m.keeper) (subst (λ (c : Core). StandsTo k c.view) (sym m.core) (moved_stands k a.view slot m.old row s));
}
removes k l a b ctrl slot by (Ok entry) s p m =
    let stands : StandsTo (record (with_removal slot (m.old.version + 1) k) { spare = l.spare }) (row_kept (entry_of slot m.old op.Mark by) (row_held slot m.old a.view)) = mark_stands k a.view slot m.old by l.spare s (path_is k a.view ctrl slot s p) in
    let kept : StandsTo (record (with_removal slot entry.row.version k) { spare = l.spare }) (row_kept entry (row_held slot m.old a.view)) = subst (λ (e : RowEntry). StandsTo (record (with_removal slot e.row.version k) { spare = l.spare }) (row_kept e (row_held slot m.old a.view))) (sym m.row) stands in record {
      to = (slot, p, m);
      stands = subst (λ (z : KeeperView). StandsTo z b.view) (sym m.keeper) (subst (λ (c : Core). StandsTo (record (with_removal slot entry.row.version k) { spare = l.spare }) c.view) (sym m.core) kept);
    }
