-- A look at a side, and what follows.
use Rattle.std.proofs.Common.{◌≡◌, ℕ, zero, suc, ◌==◌, Bool, false, [], ◌∷◌, ◌++◌, if◌then◌else◌, None, refl, sym, ap, ◌∙◌, subst, arith}
use Rattle.std.proofs.lemmas.Bool.Decides.{nat_tests}
use Rattle.mp_words.specs.declared.order.Order.{Order}
use Rattle.mp_words.specs.declared.op.Maker.{Maker}
use Rattle.mp_words.specs.declared.words.Side.{Side}
use Rattle.mp_core.specs.declared.view.Event.TheVariants.{Scans}
use Rattle.mp_core.specs.declared.view.Look.TheVariants as look
use Rattle.mp_core.specs.declared.view.View.{View}
use Rattle.mp_core.specs.Core.{Core, looked}
use Rattle.mp_core.specs.Views as view
use Rattle.mp_core.specs.Views.{flipped, order_stored, last_version}
use Rattle.mp_core.specs.Kinds.{Looks, IsNext}
use Rattle.mp_change.specs.Clears.{cleared_upto}
use Rattle.mp_keep.specs.declared.stage.Stage.{Stage}
use Rattle.mp_keep.specs.declared.stage.Stage.TheVariants.{Marked, HalfA, Unlisted, HalfB, Past}
use Rattle.mp_keep.specs.Keeper.{KeeperView, StandsTo, removal_at, is_past}
use Rattle.mp_keep.specs.Keeps.{with_order}
use Rattle.mp_keep.specs.Walks.{AtPlace, LooksOnce, LookTo, LooksAtSide, next_side, with_closing, with_flip, entry_without, behind, behind_core, closed_keeper, closed_core}
use Rattle.mp_keep.proofs.Statuses.{never, is_second}
use Rattle.mp_keep.proofs.Closing.{scan_kept, swept, cleared_is, flip_closes, last_closes, unlist_next, unlist_closes, is_first}

-- the view after a scan that found nobody inside
pub scanned_is : (k : KeeperView) (a m : Core) (place side : ℕ) (found : Side) → StandsTo k a.view → side ≡ next_side (removal_at k place).stage → m ≡ looked (view.scanned side found.entries found.inside (last_version a.view)) a → found.inside ≡ 0
    → m.view ≡ scan_kept (next_side (removal_at k place).stage) found.entries k a.view
scanned_is k a m place side found s e after none =
    ap (λ (c : Core). c.view) after ∙ (λ i. view.scanned (e i) found.entries (none i) (sym (ap (λ (o : Order). o.version) s.order) i) a.view)

swept_is : (k : KeeperView) (v w : View) (place x : ℕ) → StandsTo k v → w ≡ scan_kept (next_side (removal_at k place).stage) x k v → cleared_upto (removal_at k place).slot 8 w ≡ swept k place x v
swept_is k v w place x s e = ap (cleared_upto (removal_at k place).slot 8) e ∙ cleared_is (removal_at k place).slot 8 (scan_kept (next_side (removal_at k place).stage) x k v) s.keeper

pub close_next : (k : KeeperView) (a m : Core) (place side : ℕ) (found : Side) (by : Maker) → StandsTo k a.view → AtPlace k place → side ≡ next_side (removal_at k place).stage → m ≡ looked (view.scanned side found.entries found.inside (last_version a.view)) a → found.inside ≡ 0
    → (removal_at k place).stage ≡ HalfA → IsNext (cleared_upto (removal_at k place).slot 8 m.view) (entry_without k (removal_at k place).slot by).order
close_next k a m place side found by s p e after none half =
    subst (λ (w : View). IsNext w (entry_without k (removal_at k place).slot by).order) (sym (swept_is k a.view m.view place found.entries s (scanned_is k a m place side found s e after none))) (unlist_next k a.view place found.entries by s p half)

closed_stands : (k : KeeperView) (v : View) (m : Core) (place x : ℕ) (by : Maker) → StandsTo k v → AtPlace k place → m.view ≡ scan_kept (next_side (removal_at k place).stage) x k v → StandsTo (closed_keeper by place x k) (closed_core by place k m).view
closed_stands k v m place x by s p e = go (removal_at k place).stage refl
  where
    go : (z : Stage) → (removal_at k place).stage ≡ z → StandsTo (behind z (removal_at k place).slot by (with_closing by place x k)) (behind_core z (removal_at k place).slot (entry_without k (removal_at k place).slot by) m).view
    go Marked f = subst (λ (w : View). StandsTo (with_flip (with_closing by place x k)) (flipped w)) (sym e) (flip_closes k v place x by s p (ap is_first f) (ap is_second f))
    go HalfA f = subst (λ (w : View). StandsTo (with_order (entry_without k (removal_at k place).slot by) (with_closing by place x k)) (order_stored (entry_without k (removal_at k place).slot by) w)) (sym (swept_is k v m.view place x s e)) (unlist_closes k v place x by s p f)
    go Unlisted f = subst (λ (w : View). StandsTo (with_flip (with_closing by place x k)) (flipped w)) (sym e) (flip_closes k v place x by s p (ap is_first f) (ap is_second f))
    go HalfB f = subst (λ (w : View). StandsTo (with_closing by place x k) w) (sym e) (last_closes k v place x by s p (ap is_first f) (ap is_second f))
    go Past f = never (sym p.going ∙ ap is_past f)

at_side : (k : KeeperView) (a m : Core) (place side : ℕ) (found : Side) → AtPlace k place → side ≡ next_side (removal_at k place).stage → Looks a m side found → LooksAtSide place (next_side (removal_at k place).stage) found.entries found.inside k a m
at_side k a m place side found p e h = record { within = p.within; under_way = p.going; side_is = refl; looks = subst (λ n. Looks a m n found) e h }

pub looks_closed : (k l : KeeperView) (a m b : Core) (place side : ℕ) (found : Side) (by : Maker) → StandsTo k a.view → AtPlace k place → side ≡ next_side (removal_at k place).stage → Looks a m side found → found.inside ≡ 0
    → l ≡ closed_keeper by place found.entries k → b ≡ closed_core by place k m → LooksOnce k l a b by place found.inside
looks_closed k l a m b place side found by s p e h none keeper core = record {
  entries = found.entries;
  mid = m;
  looks = at_side k a m place side found p e h;
  to = subst (λ n. LookTo n by place found.entries k l m b) (sym none) (keeper, core);
  stands = subst (λ (z : KeeperView). StandsTo z b.view) (sym keeper) (subst (λ (c : Core). StandsTo (closed_keeper by place found.entries k) c.view) (sym core)
      (closed_stands k a.view m place found.entries by s p (scanned_is k a m place side found s e h.after none)));
}

-- a look that tells the keeper nothing
pub look_stands : (k : KeeperView) (v : View) (side entries inside order : ℕ) → StandsTo k v → (inside == 0) ≡ false → StandsTo k (view.scanned side entries inside order v)
look_stands k v side entries inside order s f =
    subst (λ (b : Bool). StandsTo k (record v { keeping = record (v.keeping) { looks = v.keeping.looks ++ look.Side side entries inside ∷ []; events = (if b then Scans side entries order ∷ v.keeping.events else v.keeping.events); last = None } })) (sym f)
    (record { sound = s.sound; keeper = s.keeper; order = s.order; slots = s.slots; flips = s.flips; index = s.index; entries = s.entries })

pub not_zero : (n : ℕ) → (n ≡ 0 → ⊥) → (n == 0) ≡ false
not_zero zero h = absurd (h refl)
not_zero (suc n) h = grind (arith, nat_tests)

met : (n : ℕ) (by : Maker) (place x : ℕ) (k : KeeperView) (m : Core) → (n ≡ 0 → ⊥) → LookTo n by place x k k m m
met zero by place x k m h = absurd (h refl)
met (suc n) by place x k m h = (refl, refl)

pub looks_met : (k : KeeperView) (a m : Core) (place side : ℕ) (found : Side) (by : Maker) → StandsTo k a.view → AtPlace k place → side ≡ next_side (removal_at k place).stage → Looks a m side found → (found.inside ≡ 0 → ⊥)
    → LooksOnce k k a m by place found.inside
looks_met k a m place side found by s p e h some = record {
  entries = found.entries;
  mid = m;
  looks = at_side k a m place side found p e h;
  to = met found.inside by place found.entries k m some;
  stands = subst (λ (c : Core). StandsTo k c.view) (sym h.after) (look_stands k a.view side found.entries found.inside (last_version a.view) s (not_zero found.inside some));
}
