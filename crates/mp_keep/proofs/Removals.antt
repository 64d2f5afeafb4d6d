-- The list of removals.
use Rattle.std.proofs.Common.{◌≡◌, ℕ, zero, suc, ◌<◌, ◌==◌, ◌&&◌, Bool, true, false, nat_lt, List, [], ◌∷◌, length, get_or, set, cond, if◌then◌else◌, Option, None, Some, is_none, refl, sym, ap, ◌∙◌, arith}
use Rattle.std.specs.List.{list_all}
use Rattle.mp_keep.specs.declared.removal.Removal.{Removal}
use Rattle.mp_keep.specs.declared.stage.Stage.{Stage}
use Rattle.mp_keep.specs.declared.stage.Stage.TheVariants.{Marked, HalfA, Unlisted, HalfB, Past}
use Rattle.mp_keep.specs.Keeper.{removal_of, slots_differ, no_removal, is_past, is_marked, all_marked, one_by_one, index_by, index_of}
use Rattle.mp_keep.specs.Walks.{past_before}
use Rattle.mp_keep.proofs.Statuses.{never}
use Rattle.mp_keep.proofs.Finding.{same_is, is_same}

-- the removal at a place
abbrev pub at : ℕ → List Removal → Removal
at p rs = get_or rs p no_removal

pub both_true : (a b : Bool) → (a && b) ≡ true → (a ≡ true) × (b ≡ true)
both_true true b h = (refl, h)
both_true false b h = never h

pub and_true : (a b : Bool) → a ≡ true → b ≡ true → (a && b) ≡ true
and_true a b e f = ap (λ (c : Bool). c && b) e ∙ f

pub none_true : {X : Type 0} (o : Option X) → is_none o ≡ true → o ≡ None
none_true None h = refl
none_true (Some x) h = never h

-- a removal in the list is found by its slot
pub found_at : (rs : List Removal) (p : ℕ) → slots_differ rs ≡ true → p < length rs → removal_of rs (at p rs).slot ≡ Some (at p rs)
found_at [] p d l = absurd (omega arith)
found_at (r ∷ rs) zero d l = ap (λ (b : Bool). cond b (Some r) (removal_of rs r.slot)) (same_is r.slot r.slot refl)
found_at (r ∷ rs) (suc p) d l =
    let both = both_true (is_none (removal_of rs r.slot)) (slots_differ rs) d in
    let there = found_at rs p both.1 (omega arith) in
    cases (r.slot == (at p rs).slot) refl (none_true (removal_of rs r.slot) both.0) there
  where
    clash : {X : Type 0} {x : X} → None ≡ Some x → ⊥
    clash e = cc

    cases : (b : Bool) → (r.slot == (at p rs).slot) ≡ b → removal_of rs r.slot ≡ None → removal_of rs (at p rs).slot ≡ Some (at p rs) → cond b (Some r) (removal_of rs (at p rs).slot) ≡ Some (at p rs)
    cases false e n h = h
    cases true e n h = absurd (clash (sym n ∙ ap (removal_of rs) (is_same r.slot (at p rs).slot e) ∙ h))

-- a removal in another's place, of the same slot
pub find_set : (rs : List Removal) (p : ℕ) (r : Removal) (s : ℕ) → slots_differ rs ≡ true → p < length rs → r.slot ≡ (at p rs).slot → removal_of (set rs p r) s ≡ cond (r.slot == s) (Some r) (removal_of rs s)
find_set [] p r s d l e = absurd (omega arith)
find_set (x ∷ rs) zero r s d l e = cases (r.slot == s) (x.slot == s) (ap (λ n. n == s) e)
  where
    cases : (a b : Bool) → a ≡ b → cond a (Some r) (removal_of rs s) ≡ cond a (Some r) (cond b (Some x) (removal_of rs s))
    cases true b e = refl
    cases false b e = ap (λ (c : Bool). cond c (Some x) (removal_of rs s)) e
find_set (x ∷ rs) (suc p) r s d l e =
    let both = both_true (is_none (removal_of rs x.slot)) (slots_differ rs) d in
    let rest = find_set rs p r s both.1 (omega arith) e in
    cases (x.slot == s) (r.slot == s) refl refl both.0 rest (found_at rs p both.1 (omega arith))
  where
    clash : {X : Type 0} {y : X} → None ≡ Some y → ⊥
    clash e = cc

    cases : (a b : Bool) → (x.slot == s) ≡ a → (r.slot == s) ≡ b → is_none (removal_of rs x.slot) ≡ true → removal_of (set rs p r) s ≡ cond (r.slot == s) (Some r) (removal_of rs s) → removal_of rs (at p rs).slot ≡ Some (at p rs) → cond a (Some x) (removal_of (set rs p r) s) ≡ cond b (Some r) (cond a (Some x) (removal_of rs s))
    cases false b f g n h t = h ∙ ap (λ (c : Bool). cond c (Some r) (removal_of rs s)) g
    cases true false f g n h t = refl
    cases true true f g n h t = absurd (clash (sym (none_true (removal_of rs x.slot) n) ∙ ap (removal_of rs) (is_same x.slot s f ∙ sym (is_same r.slot s g) ∙ e) ∙ t))

none_set : (rs : List Removal) (p : ℕ) (r : Removal) (s : ℕ) → p < length rs → r.slot ≡ (at p rs).slot → is_none (removal_of (set rs p r) s) ≡ is_none (removal_of rs s)
none_set [] p r s l e = absurd (omega arith)
none_set (x ∷ rs) zero r s l e = cases (r.slot == s) (x.slot == s) (ap (λ n. n == s) e)
  where
    cases : (a b : Bool) → a ≡ b → is_none (cond a (Some r) (removal_of rs s)) ≡ is_none (cond b (Some x) (removal_of rs s))
    cases true true e = refl
    cases true false e = never (sym e)
    cases false true e = never e
    cases false false e = refl
none_set (x ∷ rs) (suc p) r s l e = cases (x.slot == s) (none_set rs p r s (omega arith) e)
  where
    cases : (a : Bool) → is_none (removal_of (set rs p r) s) ≡ is_none (removal_of rs s) → is_none (cond a (Some x) (removal_of (set rs p r) s)) ≡ is_none (cond a (Some x) (removal_of rs s))
    cases true h = refl
    cases false h = h

pub differ_set : (rs : List Removal) (p : ℕ) (r : Removal) → slots_differ rs ≡ true → p < length rs → r.slot ≡ (at p rs).slot → slots_differ (set rs p r) ≡ true
differ_set [] p r d l e = absurd (omega arith)
differ_set (x ∷ rs) zero r d l e = ap (λ n. is_none (removal_of rs n) && slots_differ rs) e ∙ d
differ_set (x ∷ rs) (suc p) r d l e =
    let both = both_true (is_none (removal_of rs x.slot)) (slots_differ rs) d in
    and_true (is_none (removal_of (set rs p r) x.slot)) (slots_differ (set rs p r)) (none_set rs p r x.slot (omega arith) e ∙ both.0) (differ_set rs p r both.1 (omega arith) e)

-- the slots of all removals are slots of the table
abbrev pub all_slots : List Removal → Bool
all_slots rs = list_all (λ r. nat_lt r.slot 15) rs

pub slots_set : (rs : List Removal) (p : ℕ) (r : Removal) → all_slots rs ≡ true → p < length rs → r.slot ≡ (at p rs).slot → all_slots (set rs p r) ≡ true
slots_set [] p r d l e = absurd (omega arith)
slots_set (x ∷ rs) zero r d l e = ap (λ n. nat_lt n 15 && all_slots rs) e ∙ d
slots_set (x ∷ rs) (suc p) r d l e =
    let both = both_true (nat_lt x.slot 15) (all_slots rs) d in
    and_true (nat_lt x.slot 15) (all_slots (set rs p r)) both.0 (slots_set rs p r both.1 (omega arith) e)

pub marked_ordered : (rs : List Removal) → all_marked rs ≡ true → one_by_one rs ≡ true
marked_ordered [] h = refl
marked_ordered (r ∷ rs) h = of r.stage h
  where
    of : (s : Stage) → (is_marked s && all_marked rs) ≡ true → (if is_past s then one_by_one rs else all_marked rs) ≡ true
    of Marked h = h
    of HalfA h = never h
    of Unlisted h = never h
    of HalfB h = never h
    of Past h = never h

pub marked_index : (rs : List Removal) → all_marked rs ≡ true → index_of rs ≡ 0
marked_index [] h = refl
marked_index (r ∷ rs) h = of r.stage h
  where
    of : (s : Stage) → (is_marked s && all_marked rs) ≡ true → index_by s (index_of rs) ≡ 0
    of Marked h = refl
    of HalfA h = never h
    of Unlisted h = never h
    of HalfB h = never h
    of Past h = never h

pub ordered_set : (rs : List Removal) (p : ℕ) (r : Removal) → one_by_one rs ≡ true → p < length rs → past_before p rs ≡ true → is_past (at p rs).stage ≡ false → one_by_one (set rs p r) ≡ true
ordered_set [] p r o l b n = absurd (omega arith)
ordered_set (x ∷ rs) zero r o l b n = cases (is_past r.stage) (sym (ap (λ (c : Bool). if c then one_by_one rs else all_marked rs) n) ∙ o)
  where
    cases : (c : Bool) → all_marked rs ≡ true → (if c then one_by_one rs else all_marked rs) ≡ true
    cases true h = marked_ordered rs h
    cases false h = h
ordered_set (x ∷ rs) (suc p) r o l b n =
    let both = both_true (is_past x.stage) (past_before p rs) b in
    let rest = ordered_set rs p r (sym (ap (λ (c : Bool). if c then one_by_one rs else all_marked rs) both.0) ∙ o) (omega arith) both.1 n in
    ap (λ (c : Bool). if c then one_by_one (set rs p r) else all_marked (set rs p r)) both.0 ∙ rest

pub past_index : (s : Stage) (n : ℕ) → is_past s ≡ true → index_by s n ≡ n
past_index Marked n h = never h
past_index HalfA n h = never h
past_index Unlisted n h = never h
past_index HalfB n h = never h
past_index Past n h = refl

-- the index by the removal whose grace periods are under way
pub index_set : (rs : List Removal) (p : ℕ) (r : Removal) → one_by_one rs ≡ true → p < length rs → past_before p rs ≡ true → is_past (at p rs).stage ≡ false → index_of (set rs p r) ≡ index_by r.stage 0
index_set [] p r o l b n = absurd (omega arith)
index_set (x ∷ rs) zero r o l b n = ap (index_by r.stage) (marked_index rs (sym (ap (λ (c : Bool). if c then one_by_one rs else all_marked rs) n) ∙ o))
index_set (x ∷ rs) (suc p) r o l b n =
    let both = both_true (is_past x.stage) (past_before p rs) b in
    past_index x.stage (index_of (set rs p r)) both.0 ∙ index_set rs p r (sym (ap (λ (c : Bool). if c then one_by_one rs else all_marked rs) both.0) ∙ o) (omega arith) both.1 n

pub index_at : (rs : List Removal) (p : ℕ) → one_by_one rs ≡ true → p < length rs → past_before p rs ≡ true → is_past (at p rs).stage ≡ false → index_of rs ≡ index_by (at p rs).stage 0
index_at [] p o l b n = absurd (omega arith)
index_at (x ∷ rs) zero o l b n = ap (index_by x.stage) (marked_index rs (sym (ap (λ (c : Bool). if c then one_by_one rs else all_marked rs) n) ∙ o))
index_at (x ∷ rs) (suc p) o l b n =
    let both = both_true (is_past x.stage) (past_before p rs) b in
    past_index x.stage (index_of rs) both.0 ∙ index_at rs p (sym (ap (λ (c : Bool). if c then one_by_one rs else all_marked rs) both.0) ∙ o) (omega arith) both.1 n

pub before_set : (rs : List Removal) (p : ℕ) (r : Removal) → past_before p (set rs p r) ≡ past_before p rs
before_set [] p r = refl
before_set (x ∷ rs) zero r = refl
before_set (x ∷ rs) (suc p) r = ap (λ (b : Bool). is_past x.stage && b) (before_set rs p r)

pub before_next : (rs : List Removal) (p : ℕ) → past_before p rs ≡ true → is_past (at p rs).stage ≡ true → p < length rs → past_before (suc p) rs ≡ true
before_next [] p b h l = absurd (omega arith)
before_next (x ∷ rs) zero b h l = and_true (is_past x.stage) true h refl
before_next (x ∷ rs) (suc p) b h l =
    let both = both_true (is_past x.stage) (past_before p rs) b in
    and_true (is_past x.stage) (past_before (suc p) rs) both.0 (before_next rs p both.1 h (omega arith))
