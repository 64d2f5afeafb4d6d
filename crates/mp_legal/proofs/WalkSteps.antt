-- One look of a walk over the removals, where the words are told and nobody is inside a side.
use Rattle.std.proofs.Common.{◌≡◌, ℕ, zero, suc, ◌+◌, ◌-◌, ◌≤◌, Bool, true, false, List, [], ◌∷◌, ◌++◌, length, set, get_or, Option, Some, sym, ap, ◌∙◌, subst, arith}
use Rattle.std.proofs.lemmas.List.{length-append}
use Rattle.std.proofs.Math.Seq.{get_or-append_seam, set-append_seam}
use Rattle.mp_words.specs.declared.op.Maker.{Maker}
use Rattle.mp_words.specs.declared.entry.RowEntry.{RowEntry}
use Rattle.mp_words.specs.declared.entry.KeepEntry.TheVariants as keep
use Rattle.mp_words.specs.declared.words.Side.{Side}
use Rattle.mp_core.specs.declared.view.Look.{Look}
use Rattle.mp_core.specs.declared.view.Look.TheVariants as look
use Rattle.mp_core.specs.Core.{Core}
use Rattle.mp_core.specs.Memory.{Memory, depth_at}
use Rattle.mp_keep.specs.declared.deep.Deep.{Deep}
use Rattle.mp_keep.specs.declared.reaped.Reaped.{Reaped}
use Rattle.mp_keep.specs.declared.reaped.Reaped.TheVariants.{Freed}
use Rattle.mp_keep.specs.declared.removal.Removal.{Removal}
use Rattle.mp_keep.specs.Keeper.{KeeperView, removal_at, is_past, no_removal}
use Rattle.mp_keep.specs.Walks.{IsWalk, FreesRow, closing_of, closed_keeper, closed_core, behind, behind_core, entry_without, next_stage, first_of, ended_by}
use Rattle.mp_legal.specs.ToldKeeper.{NobodyInside}

-- a place of the removals: those before it, the removal there, and those behind it
pub record Splits (k : KeeperView) (place : ℕ) (before : List Removal) (r : Removal) (rest : List Removal) : Type 0 where
  pub removals : k.removals ≡ before ++ r ∷ rest
  pub place_is : length before ≡ place

pub removal_is : (k : KeeperView) (place : ℕ) (before : List Removal) (r : Removal) (rest : List Removal) → Splits k place before r rest → removal_at k place ≡ r
removal_is k place before r rest s =
    (λ i. get_or (s.removals i) (sym s.place_is i) no_removal) ∙ get_or-append_seam before r rest no_removal

removal_set : (k : KeeperView) (place : ℕ) (before : List Removal) (r : Removal) (rest : List Removal) (n : Removal) → Splits k place before r rest → set k.removals place n ≡ before ++ n ∷ rest
removal_set k place before r rest n s = (λ i. set (s.removals i) (sym s.place_is i) n) ∙ set-append_seam before r rest n

-- the keeper after a closing of this removal
abbrev pub closing_keeper : Maker → Removal → List Removal → List Removal → ℕ → KeeperView → KeeperView
closing_keeper by r before rest entries k =
    behind r.stage r.slot by (record k { removals = before ++ record r { stage = next_stage r.stage } ∷ rest; entries = k.entries ++ keep.Closing (closing_of by k r entries) ∷ []; spare = k.spare - 1 })

closing_is : (by : Maker) (place entries : ℕ) (k : KeeperView) (before : List Removal) (r : Removal) (rest : List Removal) → Splits k place before r rest → closed_keeper by place entries k ≡ closing_keeper by r before rest entries k
closing_is by place entries k before r rest s =
    (λ i. behind (removal_is k place before r rest s i).stage (removal_is k place before r rest s i).slot by (record k {
      removals = set k.removals place (record (removal_is k place before r rest s i) { stage = next_stage (removal_is k place before r rest s i).stage });
      entries = k.entries ++ keep.Closing (closing_of by k (removal_is k place before r rest s i) entries) ∷ [];
      spare = k.spare - 1;
    }))
    ∙ (λ i. behind r.stage r.slot by (record k { removals = removal_set k place before r rest (record r { stage = next_stage r.stage }) s i; entries = k.entries ++ keep.Closing (closing_of by k r entries) ∷ []; spare = k.spare - 1 }))

-- the pass after a closing of this removal
abbrev pub closing_core : Maker → Removal → KeeperView → Core → Core
closing_core by r k c = behind_core r.stage r.slot (entry_without k r.slot by) c

-- A closing, and the walk behind it.
pub record Closes (by : Maker) (place : ℕ) (first : Option Deep) (k l : KeeperView) (a b : Core) (answer : Reaped) (before : List Removal) (r : Removal) (rest : List Removal) : Type 0 where
  pub entries : ℕ
  pub looks : List Look
  pub seen : Core
  pub told : seen.told ≡ a.told
  pub left : seen.view.left ≡ a.view.left
  pub walk : IsWalk by place first looks (closing_keeper by r before rest entries k) l (closing_core by r k seen) b answer

apart : {A : Type 0} (b : Bool) → b ≡ true → b ≡ false → A
apart true e f = absurd cc
apart false e f = absurd cc

-- a removal in the midst of its grace periods is carried one stage further
pub closes : (by : Maker) (place : ℕ) (first : Option Deep) (looks : List Look) (k l : KeeperView) (a b : Core) (answer : Reaped) (m : Memory) (before : List Removal) (r : Removal) (rest : List Removal)
    → Splits k place before r rest → is_past r.stage ≡ false → a.told ≡ Some m → NobodyInside m → IsWalk by place first looks k l a b answer → Closes by place first k l a b answer before r rest
closes by place first [] k l a b answer m before r rest s under told nobody w =
    let past : length (before ++ r ∷ rest) ≤ place = subst (λ (rs : List Removal). length rs ≤ place) s.removals w.0 in
    let long = length-append before (r ∷ rest) in
    let at = s.place_is in
    absurd (omega arith)
closes by place first (look.Side side entries zero ∷ looks) k l a b answer m before r rest s under told nobody w =
    let after = w.1.looks.after in
    record {
      entries = entries;
      looks = looks;
      seen = w.0;
      told = ap (λ (c : Core). c.told) after;
      left = ap (λ (c : Core). c.view.left) after;
      walk = subst (λ (c : Core). IsWalk by place first looks (closing_keeper by r before rest entries k) l c b answer) (ap (λ (q : Removal). closing_core by q k w.0) (removal_is k place before r rest s))
          (subst (λ (z : KeeperView). IsWalk by place first looks z l (closed_core by place k w.0) b answer) (closing_is by place entries k before r rest s) w.2);
    }
closes by place first (look.Side side entries (suc n) ∷ looks) k l a b answer m before r rest s under told nobody w =
    let none : suc n ≡ 0 = ap (λ (z : Side). z.inside) (w.0.looks.told m told) ∙ nobody side in
    absurd (omega arith)
closes by place first (look.Depth slot zero ∷ looks) k l a b answer m before r rest s under told nobody w =
    apart (is_past r.stage) (ap (λ (q : Removal). is_past q.stage) (sym (removal_is k place before r rest s)) ∙ w.2.over) under
closes by place first (look.Depth slot (suc n) ∷ looks) k l a b answer m before r rest s under told nobody w =
    apart (is_past r.stage) (ap (λ (q : Removal). is_past q.stage) (sym (removal_is k place before r rest s)) ∙ w.1.over) under

-- A look at the depth of a removal past its grace periods: its slot is freed, or the walk goes on behind it.
pub record Frees (by : Maker) (place : ℕ) (k l : KeeperView) (a b : Core) (answer : Reaped) (m : Memory) (r : Removal) : Type 0 where
  pub seen : Core
  pub entry : RowEntry
  pub idle : depth_at m r.slot ≡ 0
  pub told : seen.told ≡ a.told
  pub left : seen.view.left ≡ a.view.left
  pub frees : FreesRow k l seen b by place entry
  pub ends : answer ≡ Freed entry k.flips

pub record Goes (by : Maker) (place : ℕ) (first : Option Deep) (k l : KeeperView) (a b : Core) (answer : Reaped) (m : Memory) (r : Removal) : Type 0 where
  pub seen : Core
  pub looks : List Look
  pub over : ℕ
  pub busy : depth_at m r.slot ≡ suc over
  pub told : seen.told ≡ a.told
  pub left : seen.view.left ≡ a.view.left
  pub walk : IsWalk by (place + 1) (Some (first_of first r.slot (suc over))) looks k l seen b answer

-- what comes of a look at a depth
pub data Looked (by : Maker) (place : ℕ) (first : Option Deep) (k l : KeeperView) (a b : Core) (answer : Reaped) (m : Memory) (r : Removal) : Type 0 where
  frees : Frees by place k l a b answer m r → Looked by place first k l a b answer m r
  goes : Goes by place first k l a b answer m r → Looked by place first k l a b answer m r

pub looks_depth : (by : Maker) (place : ℕ) (first : Option Deep) (looks : List Look) (k l : KeeperView) (a b : Core) (answer : Reaped) (m : Memory) (before : List Removal) (r : Removal) (rest : List Removal)
    → Splits k place before r rest → is_past r.stage ≡ true → a.told ≡ Some m → IsWalk by place first looks k l a b answer → Looked by place first k l a b answer m r
looks_depth by place first [] k l a b answer m before r rest s over told w =
    let past : length (before ++ r ∷ rest) ≤ place = subst (λ (rs : List Removal). length rs ≤ place) s.removals w.0 in
    let long = length-append before (r ∷ rest) in
    let at = s.place_is in
    absurd (omega arith)
looks_depth by place first (look.Side side entries zero ∷ looks) k l a b answer m before r rest s over told w =
    apart (is_past r.stage) over (ap (λ (q : Removal). is_past q.stage) (sym (removal_is k place before r rest s)) ∙ w.1.under_way)
looks_depth by place first (look.Side side entries (suc n) ∷ looks) k l a b answer m before r rest s over told w =
    apart (is_past r.stage) over (ap (λ (q : Removal). is_past q.stage) (sym (removal_is k place before r rest s)) ∙ w.0.under_way)
looks_depth by place first (look.Depth slot zero ∷ looks) k l a b answer m before r rest s over told w =
    let is : slot ≡ r.slot = w.2.slot_is ∙ ap (λ (q : Removal). q.slot) (removal_is k place before r rest s) in
    let after = w.2.looks.after in
    frees (record {
      seen = w.0;
      entry = w.1;
      idle = ap (depth_at m) (sym is) ∙ sym (w.2.looks.told m told);
      told = ap (λ (c : Core). c.told) after;
      left = ap (λ (c : Core). c.view.left) after;
      frees = w.4;
      ends = w.5;
    })
looks_depth by place first (look.Depth slot (suc n) ∷ looks) k l a b answer m before r rest s over told w =
    let is : slot ≡ r.slot = w.1.slot_is ∙ ap (λ (q : Removal). q.slot) (removal_is k place before r rest s) in
    let after = w.1.looks.after in
    goes (record {
      seen = w.0;
      looks = looks;
      over = n;
      busy = ap (depth_at m) (sym is) ∙ sym (w.1.looks.told m told);
      told = ap (λ (c : Core). c.told) after;
      left = ap (λ (c : Core). c.view.left) after;
      walk = subst (λ (p : ℕ). IsWalk by (place + 1) (Some (first_of first p (suc n))) looks k l w.0 b answer) is w.2;
    })

-- The walk has ended behind the last removal.
pub record Ends (first : Option Deep) (k l : KeeperView) (a b : Core) (answer : Reaped) : Type 0 where
  pub ends : answer ≡ ended_by first
  pub keeper : l ≡ k
  pub core : b ≡ a

pub walk_ends : (by : Maker) (place : ℕ) (first : Option Deep) (looks : List Look) (k l : KeeperView) (a b : Core) (answer : Reaped) → length k.removals ≡ place → IsWalk by place first looks k l a b answer → Ends first k l a b answer
walk_ends by place first [] k l a b answer at w = record { ends = w.1; keeper = w.2; core = w.3 }
walk_ends by place first (look.Side side entries zero ∷ looks) k l a b answer at w = let lt = w.1.within in absurd (omega arith)
walk_ends by place first (look.Side side entries (suc n) ∷ looks) k l a b answer at w = let lt = w.0.within in absurd (omega arith)
walk_ends by place first (look.Depth slot zero ∷ looks) k l a b answer at w = let lt = w.2.within in absurd (omega arith)
walk_ends by place first (look.Depth slot (suc n) ∷ looks) k l a b answer at w = let lt = w.1.within in absurd (omega arith)
