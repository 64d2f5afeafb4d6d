-- What a whole walk keeps and gains.
use Rattle.std.proofs.Common.{◌≡◌, ℕ, zero, suc, ◌+◌, ◌-◌, ◌<◌, ◌≤◌, false, List, [], ◌∷◌, ◌++◌, length, Option, None, Some, refl, sym, ap, ◌∙◌, subst, arith}
use Rattle.std.proofs.lemmas.List.{append-nil, append_assoc}
use Rattle.mp_words.specs.declared.op.Maker.{Maker}
use Rattle.mp_words.specs.declared.entry.RowEntry.{RowEntry}
use Rattle.mp_words.specs.declared.entry.OrderEntry.{OrderEntry}
use Rattle.mp_words.specs.declared.entry.KeepEntry.{KeepEntry}
use Rattle.mp_words.specs.declared.entry.KeepEntry.TheVariants as keep
use Rattle.mp_core.specs.declared.view.Look.{Look}
use Rattle.mp_core.specs.declared.view.Look.TheVariants as look
use Rattle.mp_core.specs.declared.view.Role.{Role}
use Rattle.mp_core.specs.declared.view.Role.TheVariants as role
use Rattle.mp_core.specs.declared.view.View.{View}
use Rattle.mp_core.specs.declared.view.Keeping.{Keeping}
use Rattle.mp_core.specs.Core.{Core, looked}
use Rattle.mp_core.specs.Views as view
use Rattle.mp_core.specs.Views.{clear_by, depth_looked, row_kept, row_held, last_version, on_slot}
use Rattle.mp_core.specs.Kinds.{Looks, LooksDepth}
use Rattle.mp_change.specs.Clears.{cleared_upto}
use Rattle.mp_keep.specs.declared.deep.Deep.{Deep}
use Rattle.mp_keep.specs.declared.reaped.Reaped.{Reaped}
use Rattle.mp_keep.specs.declared.removal.Removal.{Removal}
use Rattle.mp_keep.specs.declared.stage.Stage.{Stage}
use Rattle.mp_keep.specs.declared.stage.Stage.TheVariants.{Marked, HalfA, Unlisted, HalfB, Past}
use Rattle.mp_keep.specs.Keeper.{KeeperView, removal_at, is_past}
use Rattle.mp_keep.specs.Walks.{Keeps, MayWalk, AtPlace, IsWalk, FreesRow, units_done, next_stage, next_side, entries_of, ended_by, first_of, with_closing, entry_without, closing_of, behind, behind_core, closed_keeper, closed_core, flipped_core, unlisted_core}
use Rattle.mp_keep.proofs.Statuses.{never}
use Rattle.mp_keep.proofs.Walking.{closed_walk, closed_set, deep_walk}

-- What steps keep and gain: so many row entries, units and looks.
pub record Step (a b : Core) (rows : List RowEntry) (units : ℕ) (looks : List Look) : Type 0 where
  pub kept : Keeps a b
  pub gained : b.view.entries ≡ a.view.entries ++ rows
  pub used : b.view.left + units ≡ a.view.left
  pub looked_so : b.view.keeping.looks ≡ a.view.keeping.looks ++ looks

same_keeps : (a : Core) → Keeps a a
same_keeps a = record { home = refl; lane = refl; alone = refl; others = refl; role = refl; inside = refl; done = refl; flights = refl; start = refl; out = refl }

keeps_then : (a b c : Core) → Keeps a b → Keeps b c → Keeps a c
keeps_then a b c x y = record {
  home = y.home ∙ x.home;
  lane = y.lane ∙ x.lane;
  alone = y.alone ∙ x.alone;
  others = y.others ∙ x.others;
  role = y.role ∙ x.role;
  inside = y.inside ∙ x.inside;
  done = y.done ∙ x.done;
  flights = y.flights ∙ x.flights;
  start = y.start ∙ x.start;
  out = y.out ∙ x.out;
}

step_then : (a b c : Core) (r s : List RowEntry) (u w : ℕ) (ls ms : List Look) → Step a b r u ls → Step b c s w ms → Step a c (r ++ s) (u + w) (ls ++ ms)
step_then a b c r s u w ls ms x y = record {
  kept = keeps_then a b c x.kept y.kept;
  gained = y.gained ∙ ap (λ (z : List RowEntry). z ++ s) x.gained ∙ append_assoc a.view.entries r s;
  used = let p = x.used in let q = y.used in omega arith;
  looked_so = y.looked_so ∙ ap (λ (z : List Look). z ++ ms) x.looked_so ∙ append_assoc a.view.keeping.looks ls ms;
}

no_step : (a : Core) → Step a a [] 0 []
no_step a = record { kept = same_keeps a; gained = sym (append-nil a.view.entries); used = omega arith; looked_so = sym (append-nil a.view.keeping.looks) }

side_step : (a : Core) (side entries inside order : ℕ) → Step a (looked (view.scanned side entries inside order) a) [] 0 (look.Side side entries inside ∷ [])
side_step a side entries inside order = record {
  kept = record { home = refl; lane = refl; alone = refl; others = refl; role = refl; inside = refl; done = refl; flights = refl; start = refl; out = refl };
  gained = sym (append-nil a.view.entries);
  used = omega arith;
  looked_so = refl;
}

depth_step : (a : Core) (slot depth : ℕ) → Step a (looked (depth_looked slot depth) a) [] 0 (look.Depth slot depth ∷ [])
depth_step a slot depth = record {
  kept = record { home = refl; lane = refl; alone = refl; others = refl; role = refl; inside = refl; done = refl; flights = refl; start = refl; out = refl };
  gained = sym (append-nil a.view.entries);
  used = omega arith;
  looked_so = refl;
}

-- what clears keep of the keeper's part
record ClearsKeep (v w : View) : Type 0 where
  start : w.keeping.start ≡ v.keeping.start
  out : w.keeping.out ≡ v.keeping.out
  looks : w.keeping.looks ≡ v.keeping.looks

one_clear : (r : Role) (n slot : ℕ) (k : Keeping) → ((clear_by r n slot k).start ≡ k.start) × ((clear_by r n slot k).out ≡ k.out) × ((clear_by r n slot k).looks ≡ k.looks)
one_clear role.Keeper n slot k = (refl, refl, refl)
one_clear (role.Lane lane) n slot k = (refl, refl, refl)
one_clear role.Spent n slot k = (refl, refl, refl)

clears_keep : (slot n : ℕ) (v : View) → ClearsKeep v (cleared_upto slot n v)
clears_keep slot zero v = record { start = refl; out = refl; looks = refl }
clears_keep slot (suc n) v =
    let rest = clears_keep slot n v in
    let one = one_clear (cleared_upto slot n v).role n slot (cleared_upto slot n v).keeping in
    record { start = one.0 ∙ rest.start; out = one.1 ∙ rest.out; looks = one.2 ∙ rest.looks }

-- how many units what follows a closing takes
abbrev cost : Stage → ℕ
cost Marked = 0
cost HalfA = 1
cost Unlisted = 0
cost HalfB = 0
cost Past = 0

flip_step : (c : Core) → Step c (flipped_core c) [] 0 []
flip_step c = record {
  kept = record { home = refl; lane = refl; alone = refl; others = refl; role = refl; inside = refl; done = refl; flights = refl; start = refl; out = refl };
  gained = sym (append-nil c.view.entries);
  used = omega arith;
  looked_so = sym (append-nil c.view.keeping.looks);
}

unlist_step : (c : Core) (slot : ℕ) (e : OrderEntry) → 1 ≤ c.view.left → Step c (unlisted_core slot e c) [] 1 []
unlist_step c slot e l =
    let k = clears_keep slot 8 c.view in record {
      kept = record { home = refl; lane = refl; alone = refl; others = refl; role = refl; inside = refl; done = refl; flights = refl; start = k.start; out = k.out };
      gained = sym (append-nil c.view.entries);
      used = omega arith;
      looked_so = k.looks ∙ sym (append-nil c.view.keeping.looks);
    }

behind_step : (z : Stage) (slot : ℕ) (e : OrderEntry) (c : Core) → 1 ≤ c.view.left → Step c (behind_core z slot e c) [] (cost z) []
behind_step Marked slot e c l = flip_step c
behind_step HalfA slot e c l = unlist_step c slot e l
behind_step Unlisted slot e c l = flip_step c
behind_step HalfB slot e c l = no_step c
behind_step Past slot e c l = no_step c

free_step : (k l : KeeperView) (a b : Core) (by : Maker) (place : ℕ) (entry : RowEntry) → 1 ≤ a.view.left → FreesRow k l a b by place entry → Step a b (entry ∷ []) 1 []
free_step k l a b by place entry low f = subst (λ (c : Core). Step a c (entry ∷ []) 1 []) (sym f.core) (record {
  kept = record { home = refl; lane = refl; alone = refl; others = refl; role = refl; inside = refl; done = refl; flights = refl; start = refl; out = refl };
  gained = refl;
  used = omega arith;
  looked_so = sym (append-nil a.view.keeping.looks);
})

-- what a walk keeps, gains and makes
pub record WalkFacts (k l : KeeperView) (a b : Core) (place : ℕ) (looks : List Look) (answer : Reaped) : Type 0 where
  pub units : ℕ
  pub made : List KeepEntry
  pub step : Step a b (entries_of answer) units looks
  pub within : units + units_done (removal_at k place).stage ≤ length k.removals - place + 1
  pub made_so : l.entries ≡ k.entries ++ made

pub paid_low : (s : Stage) → units_done s ≤ 1
paid_low Marked = omega arith
paid_low HalfA = omega arith
paid_low Unlisted = omega arith
paid_low HalfB = omega arith
paid_low Past = omega arith

ended_step : (first : Option Deep) (a : Core) → Step a a (entries_of (ended_by first)) 0 []
ended_step None a = no_step a
ended_step (Some d) a = no_step a

-- what a closing makes
closed_made : (k : KeeperView) (place x : ℕ) (by : Maker) → (made : List KeepEntry) × ((closed_keeper by place x k).entries ≡ k.entries ++ made)
closed_made k place x by = of (removal_at k place).stage
  where
    closing : KeepEntry
    closing = keep.Closing (closing_of by k (removal_at k place) x)

    of : (z : Stage) → (made : List KeepEntry) × ((behind z (removal_at k place).slot by (with_closing by place x k)).entries ≡ k.entries ++ made)
    of Marked = (closing ∷ [], refl)
    of HalfA = (closing ∷ keep.Order (entry_without k (removal_at k place).slot by) ∷ [], append_assoc k.entries (closing ∷ []) (keep.Order (entry_without k (removal_at k place).slot by) ∷ []))
    of Unlisted = (closing ∷ [], refl)
    of HalfB = (closing ∷ [], refl)
    of Past = (closing ∷ [], refl)

cost_within : (z : Stage) (u n m place paid : ℕ) → is_past z ≡ false → place < n → m ≡ n → paid ≡ units_done (next_stage z) → u + paid ≤ m - place + 1 → (0 + cost z) + u + units_done z ≤ n - place + 1
cost_within Marked u n m place paid o l e f h = omega arith
cost_within HalfA u n m place paid o l e f h = omega arith
cost_within Unlisted u n m place paid o l e f h = omega arith
cost_within HalfB u n m place paid o l e f h = omega arith
cost_within Past u n m place paid o l e f h = never (sym o)

-- a closing with what follows, as a step
pub closed_step : (k : KeeperView) (a c : Core) (place entries : ℕ) (by : Maker) → MayWalk k a.view place → place < length k.removals → Looks a c (next_side (removal_at k place).stage) (record { entries = entries; inside = 0 })
    → Step a (closed_core by place k c) ([] ++ []) (0 + cost (removal_at k place).stage) ((look.Side (next_side (removal_at k place).stage) entries 0 ∷ []) ++ [])
closed_step k a c place entries by may low h =
    let r : Removal = removal_at k place in
    let scan : Step a c [] 0 (look.Side (next_side r.stage) entries 0 ∷ []) = subst (λ (m : Core). Step a m [] 0 (look.Side (next_side r.stage) entries 0 ∷ [])) (sym h.after) (side_step a (next_side r.stage) entries 0 (last_version a.view)) in
    let left = scan.used in
    let units = may.units in
    let paid = paid_low r.stage in
    step_then a c (closed_core by place k c) [] [] 0 (cost r.stage) (look.Side (next_side r.stage) entries 0 ∷ []) [] scan (behind_step r.stage r.slot (entry_without k r.slot by) c (omega arith))

pub walk_facts : (by : Maker) (place : ℕ) (first : Option Deep) (looks : List Look) (k l : KeeperView) (a b : Core) (answer : Reaped) → MayWalk k a.view place → IsWalk by place first looks k l a b answer → WalkFacts k l a b place looks answer
walk_facts by place first [] k l a b answer may w =
    let paid = paid_low (removal_at k place).stage in record {
      units = 0;
      made = [];
      step = subst (λ (c : Core). Step a c (entries_of answer) 0 []) (sym w.3) (subst (λ (r : Reaped). Step a a (entries_of r) 0 []) (sym w.1) (ended_step first a));
      within = omega arith;
      made_so = ap (λ (z : KeeperView). z.entries) w.2 ∙ sym (append-nil k.entries);
    }
walk_facts by place first (look.Side side entries zero ∷ looks) k l a b answer may w =
    let c = w.0 in
    let seen = w.1 in
    let r : Removal = removal_at k place in
    let p : AtPlace k place = record { within = seen.within; before = may.before; going = seen.under_way } in
    let looks_so : Looks a c (next_side r.stage) (record { entries = entries; inside = 0 }) = subst (λ n. Looks a c n (record { entries = entries; inside = 0 })) seen.side_is seen.looks in
    let left : c.view.left ≡ a.view.left = ap (λ (m : Core). m.view.left) seen.looks.after in
    let rest = walk_facts by place first looks (closed_keeper by place entries k) l (closed_core by place k c) b answer (closed_walk k a.view c place entries by may p left) w.2 in
    let is = closed_set k place entries by seen.within in
    let made = closed_made k place entries by in record {
      units = (0 + cost r.stage) + rest.units;
      made = made.0 ++ rest.made;
      step = subst (λ n. Step a b (entries_of answer) ((0 + cost r.stage) + rest.units) (look.Side n entries 0 ∷ looks)) (sym seen.side_is)
          (step_then a (closed_core by place k c) b ([] ++ []) (entries_of answer) (0 + cost r.stage) rest.units ((look.Side (next_side r.stage) entries 0 ∷ []) ++ []) looks (closed_step k a c place entries by may seen.within looks_so) rest.step);
      within = cost_within r.stage rest.units (length k.removals) (length (closed_keeper by place entries k).removals) place (units_done (removal_at (closed_keeper by place entries k) place).stage) seen.under_way seen.within is.many (ap units_done is.stage_is) rest.within;
      made_so = rest.made_so ∙ ap (λ (z : List KeepEntry). z ++ rest.made) made.1 ∙ append_assoc k.entries made.0 rest.made;
    }
walk_facts by place first (look.Side side entries (suc n) ∷ looks) k l a b answer may w =
    let seen = w.0 in
    let paid = paid_low (removal_at k place).stage in
    let scan : Step a b [] 0 (look.Side side entries (suc n) ∷ []) = subst (λ (m : Core). Step a m [] 0 (look.Side side entries (suc n) ∷ [])) (sym seen.looks.after) (side_step a side entries (suc n) (last_version a.view)) in record {
      units = 0;
      made = [];
      step = subst (λ (r : Reaped). Step a b (entries_of r) 0 (look.Side side entries (suc n) ∷ looks)) (sym w.3) (subst (λ (ls : List Look). Step a b [] 0 (look.Side side entries (suc n) ∷ ls)) (sym w.1) scan);
      within = omega arith;
      made_so = ap (λ (z : KeeperView). z.entries) w.2 ∙ sym (append-nil k.entries);
    }
walk_facts by place first (look.Depth slot zero ∷ looks) k l a b answer may w =
    let c = w.0 in
    let entry = w.1 in
    let seen = w.2 in
    let paid = paid_low (removal_at k place).stage in
    let units = may.units in
    let low = seen.within in
    let depth : Step a c [] 0 (look.Depth slot 0 ∷ []) = subst (λ (m : Core). Step a m [] 0 (look.Depth slot 0 ∷ [])) (sym seen.looks.after) (depth_step a slot 0) in
    let left = depth.used in
    let both : Step a b (entry ∷ []) 1 (look.Depth slot 0 ∷ []) = step_then a c b [] (entry ∷ []) 0 1 (look.Depth slot 0 ∷ []) [] depth (free_step k l c b by place entry (omega arith) w.4) in record {
      units = 1;
      made = [];
      step = subst (λ (r : Reaped). Step a b (entries_of r) 1 (look.Depth slot 0 ∷ looks)) (sym w.5) (subst (λ (ls : List Look). Step a b (entry ∷ []) 1 (look.Depth slot 0 ∷ ls)) (sym w.3) both);
      within = omega arith;
      made_so = ap (λ (z : KeeperView). z.entries) w.4.keeper ∙ sym (append-nil k.entries);
    }
walk_facts by place first (look.Depth slot (suc n) ∷ looks) k l a b answer may w =
    let c = w.0 in
    let seen = w.1 in
    let low = seen.within in
    let paid = paid_low (removal_at k place).stage in
    let deep : LooksDepth a c (removal_at k place).slot (suc n) = subst (λ m. LooksDepth a c m (suc n)) seen.slot_is seen.looks in
    let depth : Step a c [] 0 (look.Depth slot (suc n) ∷ []) = subst (λ (m : Core). Step a m [] 0 (look.Depth slot (suc n) ∷ [])) (sym seen.looks.after) (depth_step a slot (suc n)) in
    let rest = walk_facts by (place + 1) (Some (first_of first slot (suc n))) looks k l c b answer (deep_walk k a c place (suc n) may seen.within seen.over deep) w.2 in
    let upto = rest.within in record {
      units = 0 + rest.units;
      made = rest.made;
      step = step_then a c b [] (entries_of answer) 0 rest.units (look.Depth slot (suc n) ∷ []) looks depth rest.step;
      within = omega arith;
      made_so = rest.made_so;
    }
