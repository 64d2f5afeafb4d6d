-- A walk goes on.
use Rattle.std.proofs.Common.{◌≡◌, ℕ, zero, suc, ◌+◌, ◌-◌, ◌*◌, ◌<◌, ◌≤◌, ◌==◌, Bool, true, false, List, [], ◌∷◌, ◌++◌, length, get_or, set, if◌then◌else◌, Option, None, Some, refl, sym, ap, ◌∙◌, subst, arith}
use Rattle.std.specs.List.{remove}
use Rattle.std.proofs.lemmas.List.{length-set, get_or-set_same}
use Rattle.mp_words.specs.declared.op.Op.TheVariants as op
use Rattle.mp_words.specs.declared.op.Maker.{Maker}
use Rattle.mp_words.specs.declared.entry.RowEntry.{RowEntry}
use Rattle.mp_core.specs.declared.view.Event.TheVariants.{Zeros}
use Rattle.mp_core.specs.declared.view.Look.TheVariants as look
use Rattle.mp_core.specs.declared.view.View.{View}
use Rattle.mp_core.specs.Core.{Core}
use Rattle.mp_core.specs.Views.{depth_looked, row_held, row_kept}
use Rattle.mp_core.specs.Kinds.{LooksDepth, entry_of}
use Rattle.mp_keep.specs.declared.deep.Deep.{Deep}
use Rattle.mp_keep.specs.declared.reaped.Reaped.{Reaped}
use Rattle.mp_keep.specs.declared.reaped.Reaped.TheVariants.{Freed, Again}
use Rattle.mp_keep.specs.declared.stop.Stop.TheVariants.{Section}
use Rattle.mp_keep.specs.declared.removal.Removal.{Removal}
use Rattle.mp_keep.specs.declared.stage.Stage.{Stage}
use Rattle.mp_keep.specs.declared.stage.Stage.TheVariants.{Marked, HalfA, Unlisted, HalfB, Past}
use Rattle.mp_keep.specs.Keeper.{KeeperView, StandsTo, removal_at, no_removal, is_past}
use Rattle.mp_keep.specs.Keeps.{with_owner}
use Rattle.mp_keep.specs.Walks.{AtPlace, MayWalk, LooksOnce, LookTo, Walks, IsWalk, FreesRow, LooksAtSide, past_before, looks_left, looks_done, entries_done, units_done, next_stage, next_side, next_grace, with_closing, entry_without, behind, behind_core, closed_keeper, closed_core, first_of, ended_by}
use Rattle.mp_keep.proofs.Removals.{before_set, before_next}
use Rattle.mp_keep.proofs.Statuses.{never}
use Rattle.mp_keep.proofs.Looking.{not_zero}
use Rattle.mp_keep.proofs.Freeing.{free_stands}

-- what a closing leaves of the list of removals
pub record SetTo (k : KeeperView) (l : KeeperView) (place : ℕ) : Type 0 where
  pub many : length l.removals ≡ length k.removals
  pub before : past_before place l.removals ≡ past_before place k.removals
  pub stage_is : (removal_at l place).stage ≡ next_stage (removal_at k place).stage

set_to : (k : KeeperView) (l : KeeperView) (place : ℕ) → place < length k.removals → l.removals ≡ set k.removals place (record (removal_at k place) { stage = next_stage (removal_at k place).stage }) → SetTo k l place
set_to k l place low e =
    let q : Removal = record (removal_at k place) { stage = next_stage (removal_at k place).stage } in record {
      many = ap length e ∙ length-set k.removals place q;
      before = ap (past_before place) e ∙ before_set k.removals place q;
      stage_is = ap (λ (rs : List Removal). (get_or rs place no_removal).stage) e ∙ ap (λ (r : Removal). r.stage) (get_or-set_same k.removals place q no_removal low);
    }

pub behind_set : (z : Stage) (slot : ℕ) (by : Maker) (k : KeeperView) → (behind z slot by k).removals ≡ k.removals
behind_set Marked slot by k = refl
behind_set HalfA slot by k = refl
behind_set Unlisted slot by k = refl
behind_set HalfB slot by k = refl
behind_set Past slot by k = refl

pub closed_set : (k : KeeperView) (place x : ℕ) (by : Maker) → place < length k.removals → SetTo k (closed_keeper by place x k) place
closed_set k place x by low = set_to k (closed_keeper by place x k) place low (behind_set (removal_at k place).stage (removal_at k place).slot by (with_closing by place x k))

-- room and units still suffice after a closing
pub closed_walk : (k : KeeperView) (v : View) (m : Core) (place x : ℕ) (by : Maker) → MayWalk k v place → AtPlace k place → m.view.left ≡ v.left → MayWalk (closed_keeper by place x k) (closed_core by place k m).view place
closed_walk k v m place x by may p left = go (removal_at k place).stage refl
  where
    go : (z : Stage) → (removal_at k place).stage ≡ z → MayWalk (behind z (removal_at k place).slot by (with_closing by place x k)) (behind_core z (removal_at k place).slot (entry_without k (removal_at k place).slot by) m).view place
    go z f =
        let l : KeeperView = behind z (removal_at k place).slot by (with_closing by place x k) in
        let is = set_to k l place p.within (behind_set z (removal_at k place).slot by (with_closing by place x k)) in
        let stage : (removal_at l place).stage ≡ next_stage z = is.stage_is ∙ ap next_stage f in
        let upto = p.within in
        let many = is.many in record {
          upto = omega arith;
          before = is.before ∙ p.before;
          room = room z (sym (ap is_past f) ∙ p.going) (ap entries_done f) (length l.removals) many ((removal_at l place).stage) stage;
          units = units z (sym (ap is_past f) ∙ p.going) (ap units_done f) (length l.removals) many ((removal_at l place).stage) stage;
        }
      where
        room : (z : Stage) → is_past z ≡ false → entries_done (removal_at k place).stage ≡ entries_done z → (n : ℕ) → n ≡ length k.removals → (q : Stage) → q ≡ next_stage z → 5 * (n - place) + 1 ≤ (behind z (removal_at k place).slot by (with_closing by place x k)).spare + entries_done q
        room Marked o d n many q g = let a = may.room in let b = ap entries_done g in let c = p.within in omega arith
        room HalfA o d n many q g = let a = may.room in let b = ap entries_done g in let c = p.within in omega arith
        room Unlisted o d n many q g = let a = may.room in let b = ap entries_done g in let c = p.within in omega arith
        room HalfB o d n many q g = let a = may.room in let b = ap entries_done g in let c = p.within in omega arith
        room Past o d n many q g = never (sym o)

        units : (z : Stage) → is_past z ≡ false → units_done (removal_at k place).stage ≡ units_done z → (n : ℕ) → n ≡ length k.removals → (q : Stage) → q ≡ next_stage z → n - place + 1 ≤ (behind_core z (removal_at k place).slot (entry_without k (removal_at k place).slot by) m).view.left + units_done q
        units Marked o d n many q g = let a = may.units in let b = ap units_done g in let c = p.within in omega arith
        units HalfA o d n many q g = let a = may.units in let b = ap units_done g in let c = p.within in omega arith
        units Unlisted o d n many q g = let a = may.units in let b = ap units_done g in let c = p.within in omega arith
        units HalfB o d n many q g = let a = may.units in let b = ap units_done g in let c = p.within in omega arith
        units Past o d n many q g = never (sym o)

-- a closing leaves fewer looks
pub closed_fewer : (k : KeeperView) (place x : ℕ) (by : Maker) → AtPlace k place → looks_left (closed_keeper by place x k) place < looks_left k place
closed_fewer k place x by p =
    let is = closed_set k place x by p.within in
    of (removal_at k place).stage refl p.going (length (closed_keeper by place x k).removals) is.many (removal_at (closed_keeper by place x k) place).stage is.stage_is
  where
    of : (z : Stage) → (removal_at k place).stage ≡ z → is_past (removal_at k place).stage ≡ false → (n : ℕ) → n ≡ length k.removals → (q : Stage) → q ≡ next_stage (removal_at k place).stage → 5 * (n - place) - looks_done q < looks_left k place
    of Marked f o n m q e = let a = ap looks_done f in let b = ap looks_done (e ∙ ap next_stage f) in let c = p.within in omega arith
    of HalfA f o n m q e = let a = ap looks_done f in let b = ap looks_done (e ∙ ap next_stage f) in let c = p.within in omega arith
    of Unlisted f o n m q e = let a = ap looks_done f in let b = ap looks_done (e ∙ ap next_stage f) in let c = p.within in omega arith
    of HalfB f o n m q e = let a = ap looks_done f in let b = ap looks_done (e ∙ ap next_stage f) in let c = p.within in omega arith
    of Past f o n m q e = never (sym (sym (ap is_past f) ∙ o))

past_all : (z : Stage) → is_past z ≡ true → (looks_done z ≡ 4) × (entries_done z ≡ 5) × (units_done z ≡ 1)
past_all Marked e = never e
past_all HalfA e = never e
past_all Unlisted e = never e
past_all HalfB e = never e
past_all Past e = (refl, refl, refl)

-- the walk goes on behind a depth that isn't 0
pub deep_fewer : (k : KeeperView) (place : ℕ) → place < length k.removals → is_past (removal_at k place).stage ≡ true → looks_left k (place + 1) < looks_left k place
deep_fewer k place l e = let a = (past_all (removal_at k place).stage e).0 in omega arith

pub deep_walk : (k : KeeperView) (a m : Core) (place depth : ℕ) → MayWalk k a.view place → place < length k.removals → is_past (removal_at k place).stage ≡ true → LooksDepth a m (removal_at k place).slot depth → MayWalk k m.view (place + 1)
deep_walk k a m place depth may l e h =
    let all = past_all (removal_at k place).stage e in
    let entries = all.1 in
    let paid = all.2 in
    let room = may.room in
    let units = may.units in
    let left : m.view.left ≡ a.view.left = ap (λ (c : Core). c.view.left) h.after in
    let next : suc place ≡ place + 1 = omega arith in record {
      upto = omega arith;
      before = ap (λ n. past_before n k.removals) (sym next) ∙ before_next k.removals place may.before e l;
      room = omega arith;
      units = omega arith;
    }

depth_stands : (k : KeeperView) (v : View) (slot depth : ℕ) → StandsTo k v → (depth == 0) ≡ false → StandsTo k (depth_looked slot depth v)
depth_stands k v slot depth s f =
    subst (λ (b : Bool). StandsTo k (record v { keeping = record (v.keeping) { looks = v.keeping.looks ++ look.Depth slot depth ∷ []; events = (if b then Zeros slot ∷ v.keeping.events else v.keeping.events); last = None } })) (sym f)
    (record { sound = s.sound; keeper = s.keeper; order = s.order; slots = s.slots; flips = s.flips; index = s.index; entries = s.entries })

pub deep_stands : (k : KeeperView) (a m : Core) (slot depth : ℕ) → StandsTo k a.view → LooksDepth a m slot depth → (depth ≡ 0 → ⊥) → StandsTo k m.view
deep_stands k a m slot depth s h n = subst (λ (c : Core). StandsTo k c.view) (sym h.after) (depth_stands k a.view slot depth s (not_zero depth n))

-- the walk, one look longer
pub walk_on : (k j l : KeeperView) (a m b : Core) (by : Maker) (place inside : ℕ) (first : Option Deep) (answer : Reaped) → LooksOnce k j a m by place inside → inside ≡ 0 → Walks j l m b by place first answer → Walks k l a b by place first answer
walk_on k j l a m b by place inside first answer h none w =
    let to : LookTo 0 by place h.entries k j h.mid m = subst (λ n. LookTo n by place h.entries k j h.mid m) none h.to in record {
      looks = look.Side (next_side (removal_at k place).stage) h.entries 0 ∷ w.looks;
      walk = (
        h.mid,
        subst (λ n. LooksAtSide place (next_side (removal_at k place).stage) h.entries n k a h.mid) none h.looks,
        subst (λ (c : Core). IsWalk by place first w.looks (closed_keeper by place h.entries k) l c b answer) to.1 (subst (λ (z : KeeperView). IsWalk by place first w.looks z l m b answer) to.0 w.walk),
      );
      stands = w.stands;
    }

pub walk_met : (k j : KeeperView) (a b : Core) (by : Maker) (place inside : ℕ) (first : Option Deep) (answer : Reaped) → LooksOnce k j a b by place inside → (inside ≡ 0 → ⊥)
    → answer ≡ Again (removal_at k place).slot (Section (next_grace (removal_at k place).stage) (next_side (removal_at k place).stage) inside) → Walks k j a b by place first answer
walk_met k j a b by place inside first answer h some is = of inside refl h.looks h.to
  where
    of : (n : ℕ) → inside ≡ n → LooksAtSide place (next_side (removal_at k place).stage) h.entries inside k a h.mid → LookTo inside by place h.entries k j h.mid b → Walks k j a b by place first answer
    of zero e at to = absurd (some e)
    of (suc n) e at to =
        let met : LookTo (suc n) by place h.entries k j h.mid b = subst (λ i. LookTo i by place h.entries k j h.mid b) e to in record {
          looks = look.Side (next_side (removal_at k place).stage) h.entries (suc n) ∷ [];
          walk = (
            subst (λ (c : Core). LooksAtSide place (next_side (removal_at k place).stage) h.entries (suc n) k a c) (sym met.1) (subst (λ i. LooksAtSide place (next_side (removal_at k place).stage) h.entries i k a h.mid) e at),
            refl,
            met.0,
            is ∙ ap (λ i. Again (removal_at k place).slot (Section (next_grace (removal_at k place).stage) (next_side (removal_at k place).stage) i)) e,
          );
          stands = h.stands;
        }

pub walk_deep : (k l : KeeperView) (a m b : Core) (by : Maker) (place depth : ℕ) (first : Option Deep) (deep : Deep) (answer : Reaped) → place < length k.removals → is_past (removal_at k place).stage ≡ true → LooksDepth a m (removal_at k place).slot depth → (depth ≡ 0 → ⊥)
    → deep ≡ first_of first (removal_at k place).slot depth → Walks k l m b by (place + 1) (Some deep) answer → Walks k l a b by place first answer
walk_deep k l a m b by place depth first deep answer low over h some is w = of depth refl h
  where
    of : (n : ℕ) → depth ≡ n → LooksDepth a m (removal_at k place).slot depth → Walks k l a b by place first answer
    of zero e at = absurd (some e)
    of (suc n) e at = record {
      looks = look.Depth (removal_at k place).slot (suc n) ∷ w.looks;
      walk = (
        m,
        record { within = low; over = over; slot_is = refl; looks = subst (λ i. LooksDepth a m (removal_at k place).slot i) e at },
        subst (λ (d : Deep). IsWalk by (place + 1) (Some d) w.looks k l m b answer) (is ∙ ap (first_of first (removal_at k place).slot) e) w.walk,
      );
      stands = w.stands;
    }

pub walk_free : (k l : KeeperView) (a m b : Core) (by : Maker) (place depth flips : ℕ) (first : Option Deep) (entry : RowEntry) → StandsTo k a.view → MayWalk k a.view place → place < length k.removals → is_past (removal_at k place).stage ≡ true
    → LooksDepth a m (removal_at k place).slot depth → depth ≡ 0 → FreesRow k l m b by place entry → flips ≡ k.flips → Walks k l a b by place first (Freed entry flips)
walk_free k l a m b by place depth flips first entry s may low over h none f same =
    let r : Removal = removal_at k place in
    let empty : LooksDepth a m r.slot 0 = subst (λ n. LooksDepth a m r.slot n) none h in
    let freed : KeeperView = record (with_owner r.slot None k) { removals = remove k.removals place; spare = l.spare } in
    let stands : StandsTo freed (row_kept (entry_of r.slot f.old op.Free by) (row_held r.slot f.old (depth_looked r.slot 0 a.view))) = free_stands k a.view place f.old by l.spare s low may.before over in
    let kept : StandsTo freed (row_kept entry (row_held r.slot f.old (depth_looked r.slot 0 a.view))) = subst (λ (e : RowEntry). StandsTo freed (row_kept e (row_held r.slot f.old (depth_looked r.slot 0 a.view)))) (sym f.row) stands in
    let seen : StandsTo freed (row_kept entry (row_held r.slot f.old m.view)) = subst (λ (c : Core). StandsTo freed (row_kept entry (row_held r.slot f.old c.view))) (sym empty.after) kept in record {
      looks = look.Depth r.slot 0 ∷ [];
      walk = (m, entry, record { within = low; over = over; slot_is = refl; looks = empty }, refl, f, ap (Freed entry) same);
      stands = subst (λ (z : KeeperView). StandsTo z b.view) (sym f.keeper) (subst (λ (c : Core). StandsTo freed c.view) (sym f.core) seen);
    }

pub walk_end : (k : KeeperView) (a : Core) (by : Maker) (place : ℕ) (first : Option Deep) (answer : Reaped) → StandsTo k a.view → length k.removals ≤ place → answer ≡ ended_by first → Walks k k a a by place first answer
walk_end k a by place first answer s l is = record { looks = []; walk = (l, is, refl, refl); stands = s }

-- room and units still suffice after a look that found nobody inside, and fewer looks are left
pub look_walk : (k j : KeeperView) (a b : Core) (by : Maker) (place inside : ℕ) → LooksOnce k j a b by place inside → inside ≡ 0 → MayWalk k a.view place → MayWalk j b.view place
look_walk k j a b by place inside h none may =
    let to : LookTo 0 by place h.entries k j h.mid b = subst (λ n. LookTo n by place h.entries k j h.mid b) none h.to in
    let p : AtPlace k place = record { within = h.looks.within; before = may.before; going = h.looks.under_way } in
    subst (λ (c : Core). MayWalk j c.view place) (sym to.1) (subst (λ (z : KeeperView). MayWalk z (closed_core by place k h.mid).view place) (sym to.0)
    (closed_walk k a.view h.mid place h.entries by may p (ap (λ (c : Core). c.view.left) h.looks.looks.after)))

pub look_fewer : (k j : KeeperView) (a b : Core) (by : Maker) (place inside : ℕ) → LooksOnce k j a b by place inside → inside ≡ 0 → MayWalk k a.view place → looks_left j place < looks_left k place
look_fewer k j a b by place inside h none may =
    let to : LookTo 0 by place h.entries k j h.mid b = subst (λ n. LookTo n by place h.entries k j h.mid b) none h.to in
    let p : AtPlace k place = record { within = h.looks.within; before = may.before; going = h.looks.under_way } in
    subst (λ (z : KeeperView). looks_left z place < looks_left k place) (sym to.0) (closed_fewer k place h.entries by p)
