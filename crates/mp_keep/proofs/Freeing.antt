-- A slot is freed.
use Rattle.std.proofs.Common.{◌≡◌, ℕ, zero, suc, ◌<◌, ◌==◌, ◌||◌, nat_lt, Bool, true, false, List, [], ◌∷◌, length, get_or, set, cond, if◌then◌else◌, Option, None, Some, is_some, is_none, refl, sym, ap, ◌∙◌, subst, arith}
use Rattle.std.specs.List.{remove}
use Rattle.std.proofs.lemmas.List.{length-set, get_or-set_same, get_or-set_other}
use Rattle.std.proofs.lemmas.Bool.Decides.{nat_tests}
use Rattle.mp_words.specs.declared.op.Op.TheVariants as op
use Rattle.mp_words.specs.declared.op.Maker.{Maker}
use Rattle.mp_words.specs.declared.row.Row.{Row}
use Rattle.mp_core.specs.declared.view.View.{View}
use Rattle.mp_core.specs.Core.{Core}
use Rattle.mp_core.specs.Status.{Status, unused, gone, bare, lists, emptied}
use Rattle.mp_core.specs.Views.{depth_looked, row_held, row_kept}
use Rattle.mp_core.specs.Kinds.{LooksDepth, status_at, entry_of}
use Rattle.mp_keep.specs.declared.removal.Removal.{Removal}
use Rattle.mp_keep.specs.declared.stage.Stage.{Stage}
use Rattle.mp_keep.specs.declared.stage.Stage.TheVariants.{Marked, HalfA, Unlisted, HalfB, Past}
use Rattle.mp_keep.specs.Keeper.{KeeperView, StandsTo, StatusBy, removal_of, removal_at, slots_differ, owner_at, is_past, is_listed, has_reached, one_by_one, all_marked, index_of, index_by}
use Rattle.mp_keep.specs.Keeps.{with_owner}
use Rattle.mp_keep.specs.Walks.{past_before}
use Rattle.mp_keep.proofs.Finding.{same_is, is_same}
use Rattle.mp_keep.proofs.Statuses.{never}
use Rattle.mp_keep.proofs.Marking.{none_some}
use Rattle.mp_keep.proofs.Removals.{at, found_at, both_true, and_true, none_true, all_slots, past_index}

find_remove : (rs : List Removal) (p t : ℕ) → slots_differ rs ≡ true → p < length rs → removal_of (remove rs p) t ≡ cond ((at p rs).slot == t) None (removal_of rs t)
find_remove [] p t d l = absurd (omega arith)
find_remove (x ∷ rs) zero t d l = by (x.slot == t) refl (none_true (removal_of rs x.slot) (both_true (is_none (removal_of rs x.slot)) (slots_differ rs) d).0)
  where
    by : (c : Bool) → (x.slot == t) ≡ c → removal_of rs x.slot ≡ None → removal_of rs t ≡ cond c None (cond c (Some x) (removal_of rs t))
    by true e n = ap (removal_of rs) (sym (is_same x.slot t e)) ∙ n
    by false e n = refl
find_remove (x ∷ rs) (suc p) t d l =
    let both = both_true (is_none (removal_of rs x.slot)) (slots_differ rs) d in
    by (x.slot == t) ((at p rs).slot == t) refl refl (none_true (removal_of rs x.slot) both.0) (find_remove rs p t both.1 (omega arith)) (found_at rs p both.1 (omega arith))
  where
    by : (a b : Bool) → (x.slot == t) ≡ a → ((at p rs).slot == t) ≡ b → removal_of rs x.slot ≡ None → removal_of (remove rs p) t ≡ cond ((at p rs).slot == t) None (removal_of rs t) → removal_of rs (at p rs).slot ≡ Some (at p rs)
        → cond a (Some x) (removal_of (remove rs p) t) ≡ cond b None (cond a (Some x) (removal_of rs t))
    by false b f g n h w = h ∙ ap (λ (c : Bool). cond c None (removal_of rs t)) g
    by true false f g n h w = refl
    by true true f g n h w = absurd (none_some (sym w ∙ ap (removal_of rs) (is_same (at p rs).slot t g ∙ sym (is_same x.slot t f)) ∙ n))

none_remove : (rs : List Removal) (p s : ℕ) → slots_differ rs ≡ true → p < length rs → is_none (removal_of rs s) ≡ true → is_none (removal_of (remove rs p) s) ≡ true
none_remove rs p s d l n = ap is_none (find_remove rs p s d l) ∙ by ((at p rs).slot == s) n
  where
    by : (c : Bool) → is_none (removal_of rs s) ≡ true → is_none (cond c None (removal_of rs s)) ≡ true
    by true h = refl
    by false h = h

differ_remove : (rs : List Removal) (p : ℕ) → slots_differ rs ≡ true → p < length rs → slots_differ (remove rs p) ≡ true
differ_remove [] p d l = absurd (omega arith)
differ_remove (x ∷ rs) zero d l = (both_true (is_none (removal_of rs x.slot)) (slots_differ rs) d).1
differ_remove (x ∷ rs) (suc p) d l =
    let both = both_true (is_none (removal_of rs x.slot)) (slots_differ rs) d in
    and_true (is_none (removal_of (remove rs p) x.slot)) (slots_differ (remove rs p)) (none_remove rs p x.slot both.1 (omega arith) both.0) (differ_remove rs p both.1 (omega arith))

slots_remove : (rs : List Removal) (p : ℕ) → all_slots rs ≡ true → p < length rs → all_slots (remove rs p) ≡ true
slots_remove [] p d l = absurd (omega arith)
slots_remove (x ∷ rs) zero d l = (both_true (nat_lt x.slot 15) (all_slots rs) d).1
slots_remove (x ∷ rs) (suc p) d l =
    let both = both_true (nat_lt x.slot 15) (all_slots rs) d in
    and_true (nat_lt x.slot 15) (all_slots (remove rs p)) both.0 (slots_remove rs p both.1 (omega arith))

ordered_remove : (rs : List Removal) (p : ℕ) → one_by_one rs ≡ true → p < length rs → past_before p rs ≡ true → is_past (at p rs).stage ≡ true → one_by_one (remove rs p) ≡ true
ordered_remove [] p o l b n = absurd (omega arith)
ordered_remove (x ∷ rs) zero o l b n = sym (ap (λ (c : Bool). if c then one_by_one rs else all_marked rs) n) ∙ o
ordered_remove (x ∷ rs) (suc p) o l b n =
    let both = both_true (is_past x.stage) (past_before p rs) b in
    ap (λ (c : Bool). if c then one_by_one (remove rs p) else all_marked (remove rs p)) both.0
    ∙ ordered_remove rs p (sym (ap (λ (c : Bool). if c then one_by_one rs else all_marked rs) both.0) ∙ o) (omega arith) both.1 n

index_remove : (rs : List Removal) (p : ℕ) → p < length rs → is_past (at p rs).stage ≡ true → index_of (remove rs p) ≡ index_of rs
index_remove [] p l n = absurd (omega arith)
index_remove (x ∷ rs) zero l n = sym (past_index x.stage (index_of rs) n)
index_remove (x ∷ rs) (suc p) l n = ap (index_by x.stage) (index_remove rs p (omega arith) n)

-- where a slot is that is past its grace periods
past_gone : (s : Stage) (st : Status) → is_past s ≡ true → has_reached s st ≡ true → st ≡ gone true true
past_gone Marked st e h = never e
past_gone HalfA st e h = never e
past_gone Unlisted st e h = never e
past_gone HalfB st e h = never e
past_gone Past (gone true true) e h = refl
past_gone Past (gone true false) e h = never h
past_gone Past (gone false b) e h = never h
past_gone Past st e h = never h

past_listed : (s : Stage) → is_past s ≡ true → is_listed s ≡ false
past_listed Marked e = never e
past_listed HalfA e = never e
past_listed Unlisted e = never e
past_listed HalfB e = never e
past_listed Past e = refl

slot_low : (rs : List Removal) (p : ℕ) → all_slots rs ≡ true → p < length rs → nat_lt (at p rs).slot 15 ≡ true
slot_low [] p d l = absurd (omega arith)
slot_low (x ∷ rs) zero d l = (both_true (nat_lt x.slot 15) (all_slots rs) d).0
slot_low (x ∷ rs) (suc p) d l = slot_low rs p (both_true (nat_lt x.slot 15) (all_slots rs) d).1 (omega arith)

lt_of : (a b : ℕ) → nat_lt a b ≡ true → a < b
lt_of a b e = grind (arith, nat_tests)

-- the removal at a place is past its grace periods
pub record IsOver (k : KeeperView) (v : View) (place : ℕ) : Type 0 where
  pub below : (removal_at k place).slot < 15
  pub status_is : status_at (removal_at k place).slot v ≡ gone true true
  pub unlisted : lists (removal_at k place).slot k.order ≡ false

pub over_is : (k : KeeperView) (v : View) (place : ℕ) → StandsTo k v → place < length k.removals → is_past (removal_at k place).stage ≡ true → IsOver k v place
over_is k v place s l e =
    let r : Removal = removal_at k place in
    let low : r.slot < 15 = lt_of r.slot 15 (slot_low k.removals place s.sound.within l) in
    let h : StatusBy (Some r) (lists r.slot k.order) (status_at r.slot v) = subst (λ (o : Option Removal). StatusBy o (lists r.slot k.order) (status_at r.slot v)) (found_at k.removals place s.sound.distinct l) (s.slots r.slot low) in record {
      below = low;
      status_is = past_gone r.stage (status_at r.slot v) e h.0;
      unlisted = h.1 ∙ past_listed r.stage e;
    }

owner_none : (k : KeeperView) (slot t : ℕ) → length k.owners ≡ 15 → slot < 15 → get_or (set k.owners slot None) t None ≡ cond (slot == t) None (owner_at k t)
owner_none k slot t sized low = cases (slot == t) refl
  where
    cases : (b : Bool) → (slot == t) ≡ b → get_or (set k.owners slot None) t None ≡ cond b None (owner_at k t)
    cases true e = ap (λ n. get_or (set k.owners slot None) n None) (sym (is_same slot t e)) ∙ get_or-set_same k.owners slot None None (omega arith)
    cases false e = get_or-set_other k.owners slot t None None (λ q. never (sym e ∙ same_is slot t (sym q)))

owned_free : (c : Bool) (o : Option ℕ) (r : Option Removal) (l : Bool) → is_some o ≡ (is_some r || l) → (c ≡ true → l ≡ false) → is_some (cond c None o) ≡ (is_some (cond c None r) || l)
owned_free true o r l h f = sym (f refl)
owned_free false o r l h f = h

apart_free : (k : KeeperView) (slot : ℕ) → ((i j c : ℕ) → owner_at k i ≡ Some c → owner_at k j ≡ Some c → i ≡ j) → (i j c : ℕ) → cond (slot == i) None (owner_at k i) ≡ Some c → cond (slot == j) None (owner_at k j) ≡ Some c → i ≡ j
apart_free k slot apart i j c e f = cases (slot == i) (slot == j) e f
  where
    cases : (a b : Bool) → cond a None (owner_at k i) ≡ Some c → cond b None (owner_at k j) ≡ Some c → i ≡ j
    cases true b e f = absurd (none_some (sym e))
    cases false true e f = absurd (none_some (sym f))
    cases false false e f = apart i j c e f

status_free : (c : Bool) (r : Option Removal) (l : Bool) (st : Status) → StatusBy r l st → (c ≡ true → l ≡ false) → StatusBy (cond c None r) l (cond c unused (cond c (emptied st) st))
status_free true r true st h f = never (sym (f refl))
status_free true r false st h f = refl
status_free false r l st h f = h

-- the slot was freed
pub free_stands : (k : KeeperView) (v : View) (place : ℕ) (old : Row) (by : Maker) (room : ℕ) → StandsTo k v → place < length k.removals → past_before place k.removals ≡ true → is_past (removal_at k place).stage ≡ true
    → StandsTo (record (with_owner (removal_at k place).slot None k) { removals = remove k.removals place; spare = room }) (row_kept (entry_of (removal_at k place).slot old op.Free by) (row_held (removal_at k place).slot old (depth_looked (removal_at k place).slot 0 v)))
free_stands k v place old by room s l b e =
    let r : Removal = removal_at k place in
    let sound = s.sound in
    let over = over_is k v place s l e in
    let here : (t : ℕ) → (r.slot == t) ≡ true → lists t k.order ≡ false = λ t q. ap (λ n. lists n k.order) (sym (is_same r.slot t q)) ∙ over.unlisted in record {
      sound = record {
        lawful = sound.lawful;
        sized = length-set k.owners r.slot None ∙ sound.sized;
        owned = λ t m. ap is_some (owner_none k r.slot t sound.sized over.below) ∙ owned_free (r.slot == t) (owner_at k t) (removal_of k.removals t) (lists t k.order) (sound.owned t m) (here t)
            ∙ ap (λ (o : Option Removal). is_some o || lists t k.order) (sym (find_remove k.removals place t sound.distinct l));
        apart = λ i j c x y. apart_free k r.slot sound.apart i j c (sym (owner_none k r.slot i sound.sized over.below) ∙ x) (sym (owner_none k r.slot j sound.sized over.below) ∙ y);
        within = slots_remove k.removals place sound.within l;
        distinct = differ_remove k.removals place sound.distinct l;
        ordered = ordered_remove k.removals place sound.ordered l b e;
        turned = sound.turned ∙ sym (index_remove k.removals place l e);
        versions = sound.versions;
        flipped = sound.flipped;
      };
      keeper = s.keeper;
      order = s.order;
      slots = λ t m. subst (λ (o : Option Removal). StatusBy o (lists t k.order) (cond (r.slot == t) unused (cond (r.slot == t) (emptied (status_at t v)) (status_at t v)))) (sym (find_remove k.removals place t sound.distinct l))
          (status_free (r.slot == t) (removal_of k.removals t) (lists t k.order) (status_at t v) (s.slots t m) (here t));
      flips = s.flips;
      index = s.index;
      entries = s.entries;
    }

-- the slot's depth was read as 0
pub bare_is : (k : KeeperView) (a m : Core) (place depth : ℕ) → StandsTo k a.view → place < length k.removals → is_past (removal_at k place).stage ≡ true → LooksDepth a m (removal_at k place).slot depth → depth ≡ 0
    → status_at (removal_at k place).slot m.view ≡ bare
bare_is k a m place depth s l e h none =
    let r : Removal = removal_at k place in
    let over = over_is k a.view place s l e in
    ap (λ (c : Core). status_at r.slot c.view) h.after ∙ ap (λ n. status_at r.slot (depth_looked r.slot n a.view)) none
    ∙ ap (λ (b : Bool). cond b (emptied (status_at r.slot a.view)) (status_at r.slot a.view)) (same_is r.slot r.slot refl) ∙ ap emptied over.status_is
