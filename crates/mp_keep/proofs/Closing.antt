-- A closing, and what is done behind it.
use Rattle.std.proofs.Common.{◌≡◌, ℕ, zero, suc, ◌+◌, ◌-◌, ◌<◌, ◌≤◌, ◌==◌, ◌||◌, ◌%◌, Bool, true, false, List, [], ◌∷◌, ◌++◌, length, set, cond, Option, Some, is_some, refl, sym, ap, ◌∙◌, subst, arith}
use Rattle.mp_words.specs.declared.order.Order.{Order}
use Rattle.mp_words.specs.declared.op.Maker.{Maker}
use Rattle.mp_words.specs.declared.entry.OrderEntry.{OrderEntry}
use Rattle.mp_words.specs.declared.entry.KeepEntry.TheVariants as keep
use Rattle.mp_core.specs.declared.view.Event.TheVariants.{Clears}
use Rattle.mp_core.specs.declared.view.Role.{Role}
use Rattle.mp_core.specs.declared.view.Role.TheVariants as role
use Rattle.mp_core.specs.declared.view.View.{View}
use Rattle.mp_core.specs.Status.{Status, past, gone, lists, scanned, cleared, ordered, MayOrder}
use Rattle.mp_core.specs.Views as view
use Rattle.mp_core.specs.Views.{flipped, order_stored, clear_by, with_event, last_version}
use Rattle.mp_core.specs.Kinds.{status_at, IsNext}
use Rattle.mp_change.specs.Clears.{cleared_upto}
use Rattle.mp_keep.specs.declared.removal.Removal.{Removal}
use Rattle.mp_keep.specs.declared.stage.Stage.{Stage}
use Rattle.mp_keep.specs.declared.stage.Stage.TheVariants.{Marked, HalfA, Unlisted, HalfB, Past}
use Rattle.mp_keep.specs.Keeper.{KeeperView, StandsTo, IsSound, StatusBy, removal_of, removal_at, slots_differ, has_reached, is_listed, index_by}
use Rattle.mp_keep.specs.Keeps.{with_order}
use Rattle.mp_keep.specs.Walks.{AtPlace, next_stage, next_side, with_closing, with_flip, closing_of, entry_without}
use Rattle.mp_keep.proofs.Finding.{is_same}
use Rattle.mp_keep.proofs.Statuses.{never, stays_scanned, stays_ordered, may_stay, reached_next, reached_past, is_second}
use Rattle.mp_keep.proofs.Removals.{found_at, find_set, differ_set, slots_set, ordered_set, index_set, index_at}
use Rattle.mp_keep.proofs.Stands.{entries_more, length_more}
use Rattle.mp_keep.proofs.Distinct.{without_lawful, lists_without}

-- the view after the keeper cleared the current words of the first nodes of a slot
abbrev pub keeper_cleared : ℕ → ℕ → View → View
keeper_cleared slot zero v = v
keeper_cleared slot (suc n) v = record (keeper_cleared slot n v) { keeping = with_event (Clears n slot) (keeper_cleared slot n v).keeping }

role_same : (slot n : ℕ) (v : View) → (keeper_cleared slot n v).role ≡ v.role
role_same slot zero v = refl
role_same slot (suc n) v = role_same slot n v

pub cleared_is : (slot n : ℕ) (v : View) → v.role ≡ role.Keeper → cleared_upto slot n v ≡ keeper_cleared slot n v
cleared_is slot zero v e = refl
cleared_is slot (suc n) v e =
    ap (view.cleared n slot) (cleared_is slot n v e)
    ∙ ap (λ (r : Role). record (keeper_cleared slot n v) { keeping = clear_by r n slot (keeper_cleared slot n v).keeping }) (role_same slot n v ∙ e)

-- where a slot is after its current words, or another's, were cleared
abbrev pub after_clears : Bool → ℕ → Status → Status
after_clears b zero st = st
after_clears b (suc n) st = cond b (cleared n (after_clears b n st)) (after_clears b n st)

abbrev nodes : ℕ → List ℕ → List ℕ
nodes zero ns = ns
nodes (suc n) ns = n ∷ nodes n ns

clears_there : (n : ℕ) (ns : List ℕ) → after_clears true n (past ns) ≡ past (nodes n ns)
clears_there zero ns = refl
clears_there (suc n) ns = ap (cleared n) (clears_there n ns)

clears_off : (n : ℕ) (st : Status) → after_clears false n st ≡ st
clears_off zero st = refl
clears_off (suc n) st = clears_off n st

pub clears_status : (slot t n : ℕ) (v : View) → status_at t (keeper_cleared slot n v) ≡ after_clears (slot == t) n (status_at t v)
clears_status slot t zero v = refl
clears_status slot t (suc n) v = ap (λ (st : Status). cond (slot == t) (cleared n st) st) (clears_status slot t n v)

-- the view after a scan that found nobody inside, by the keeper's own list of paths
abbrev pub scan_kept : ℕ → ℕ → KeeperView → View → View
scan_kept side entries k v = view.scanned side entries 0 k.order.version v

some_same : {X : Type 0} (x y : X) → Some x ≡ Some y → x ≡ y
some_same x y e = cc

-- where each slot is, once the removal at a place has come to its next stage
pub next_status : (k : KeeperView) (v : View) (place : ℕ) (s : Stage) → StandsTo k v → AtPlace k place → (removal_at k place).stage ≡ s → is_second s ≡ false → is_listed (next_stage s) ≡ is_listed s
    → (t : ℕ) → t < 15 → StatusBy (removal_of (set k.removals place (record (removal_at k place) { stage = next_stage (removal_at k place).stage })) t) (lists t k.order) (scanned (next_side (removal_at k place).stage) (status_at t v))
next_status k v place s st p e second same t low =
    subst (λ (o : Option Removal). StatusBy o (lists t k.order) (scanned (next_side r.stage) (status_at t v))) (sym (find_set k.removals place q t st.sound.distinct p.within refl))
    (by ((removal_at k place).slot == t) refl (st.slots t low))
  where
    r : Removal
    r = removal_at k place

    q : Removal
    q = record r { stage = next_stage r.stage }

    own : (t : ℕ) → r.slot ≡ t → StatusBy (removal_of k.removals t) (lists t k.order) (status_at t v) → StatusBy (Some q) (lists t k.order) (scanned (next_side r.stage) (status_at t v))
    own t e2 h =
        let found : removal_of k.removals t ≡ Some r = ap (removal_of k.removals) (sym e2) ∙ found_at k.removals place st.sound.distinct p.within in
        let g : StatusBy (Some r) (lists t k.order) (status_at t v) = subst (λ (o : Option Removal). StatusBy o (lists t k.order) (status_at t v)) found h in (
          reached_next r.stage (status_at t v) g.0 (ap is_second e ∙ second),
          g.1 ∙ ap is_listed e ∙ sym same ∙ sym (ap (λ (z : Stage). is_listed (next_stage z)) e),
        )

    by : (b : Bool) → (r.slot == t) ≡ b → StatusBy (removal_of k.removals t) (lists t k.order) (status_at t v) → StatusBy (cond b (Some q) (removal_of k.removals t)) (lists t k.order) (scanned (next_side r.stage) (status_at t v))
    by true f h = own t (is_same r.slot t f) h
    by false f h = stays_scanned (removal_of k.removals t) (lists t k.order) (next_side r.stage) (status_at t v) h

even_odd : (n : ℕ) → n % 2 ≡ 0 → (n + 1) % 2 ≡ 1
even_odd n e = omega arith

odd_even : (n : ℕ) → n % 2 ≡ 1 → (n + 1) % 2 ≡ 0
odd_even n e = omega arith

other_index : (i n : ℕ) → i ≡ n % 2 → 1 - i ≡ (n + 1) % 2
other_index i n e = omega arith

-- what each closing leaves of the keeper's own data but the flips and the list of paths
owned_set : (k : KeeperView) (place : ℕ) (q : Removal) (t : ℕ) → slots_differ k.removals ≡ true → place < length k.removals → q.slot ≡ (removal_at k place).slot
    → is_some (removal_of (set k.removals place q) t) ≡ is_some (removal_of k.removals t)
owned_set k place q t s l e = ap is_some (find_set k.removals place q t s l e) ∙ by (q.slot == t) refl
  where
    by : (c : Bool) → (q.slot == t) ≡ c → is_some (cond c (Some q) (removal_of k.removals t)) ≡ is_some (removal_of k.removals t)
    by true f = sym (ap is_some (ap (removal_of k.removals) (sym (sym e ∙ is_same q.slot t f)) ∙ found_at k.removals place s l))
    by false f = refl

-- the first look of a grace period
abbrev pub is_first : Stage → Bool
is_first Marked = true
is_first HalfA = false
is_first Unlisted = true
is_first HalfB = false
is_first Past = false

turns : (s : Stage) (n : ℕ) → is_first s ≡ true → n % 2 ≡ index_by s 0 → (n + 1) % 2 ≡ index_by (next_stage s) 0
turns Marked n f h = even_odd n h
turns HalfA n f h = never f
turns Unlisted n f h = odd_even n h
turns HalfB n f h = never f
turns Past n f h = never f

stays_turned : (s : Stage) (n : ℕ) → is_first s ≡ false → n % 2 ≡ index_by s 0 → n % 2 ≡ index_by (next_stage s) 0
stays_turned Marked n f h = never (sym f)
stays_turned HalfA n f h = h
stays_turned Unlisted n f h = never (sym f)
stays_turned HalfB n f h = h
stays_turned Past n f h = h

first_listed : (s : Stage) → is_second s ≡ false → is_listed (next_stage s) ≡ is_listed s
first_listed Marked e = refl
first_listed HalfA e = never (sym e)
first_listed Unlisted e = refl
first_listed HalfB e = refl
first_listed Past e = refl

-- the keeper's own data after a closing
pub next_sound : (k : KeeperView) (place x flips : ℕ) (by : Maker) → IsSound k → AtPlace k place → flips % 2 ≡ index_by (next_stage (removal_at k place).stage) 0 → flips ≤ length k.entries + 1
    → IsSound (record (with_closing by place x k) { flips = flips })
next_sound k place x flips by sound p turned low =
    let r : Removal = removal_at k place in
    let q : Removal = record r { stage = next_stage r.stage } in
    let versions = sound.versions in
    let many = length_more k.entries (keep.Closing (closing_of by k r x)) in record {
      lawful = sound.lawful;
      sized = sound.sized;
      owned = λ t l. sound.owned t l ∙ ap (λ (b : Bool). b || lists t k.order) (sym (owned_set k place q t sound.distinct p.within refl));
      apart = sound.apart;
      within = slots_set k.removals place q sound.within p.within refl;
      distinct = differ_set k.removals place q sound.distinct p.within refl;
      ordered = ordered_set k.removals place q sound.ordered p.within p.before p.going;
      turned = turned ∙ sym (index_set k.removals place q sound.ordered p.within p.before p.going);
      versions = omega arith;
      flipped = omega arith;
    }

index_now : (k : KeeperView) (place : ℕ) → IsSound k → AtPlace k place → k.flips % 2 ≡ index_by (removal_at k place).stage 0
index_now k place sound p = sound.turned ∙ index_at k.removals place sound.ordered p.within p.before p.going

-- the first closing of a grace period, and the flip behind it
pub flip_closes : (k : KeeperView) (v : View) (place x : ℕ) (by : Maker) → StandsTo k v → AtPlace k place → is_first (removal_at k place).stage ≡ true → is_second (removal_at k place).stage ≡ false
    → StandsTo (with_flip (with_closing by place x k)) (flipped (scan_kept (next_side (removal_at k place).stage) x k v))
flip_closes k v place x by s p f n =
    let r : Removal = removal_at k place in
    let flips = s.sound.flipped in record {
      sound = next_sound k place x (k.flips + 1) by s.sound p (turns r.stage k.flips f (index_now k place s.sound p)) (omega arith);
      keeper = s.keeper;
      order = s.order;
      slots = next_status k v place r.stage s p refl n (first_listed r.stage n);
      flips = ap (λ n. n + 1) s.flips;
      index = other_index v.keeping.index k.flips s.index;
      entries = entries_more v.keeping.events k.entries (keep.Closing (closing_of by k r x)) s.entries;
    }

-- the second closing of grace period B
pub last_closes : (k : KeeperView) (v : View) (place x : ℕ) (by : Maker) → StandsTo k v → AtPlace k place → is_first (removal_at k place).stage ≡ false → is_second (removal_at k place).stage ≡ false
    → StandsTo (with_closing by place x k) (scan_kept (next_side (removal_at k place).stage) x k v)
last_closes k v place x by s p f n =
    let r : Removal = removal_at k place in
    let flips = s.sound.flipped in record {
      sound = next_sound k place x k.flips by s.sound p (stays_turned r.stage k.flips f (index_now k place s.sound p)) (omega arith);
      keeper = s.keeper;
      order = s.order;
      slots = next_status k v place r.stage s p refl n (first_listed r.stage n);
      flips = s.flips;
      index = s.index;
      entries = entries_more v.keeping.events k.entries (keep.Closing (closing_of by k r x)) s.entries;
    }

second_past : (s : Stage) (st : Status) → s ≡ HalfA → has_reached s st ≡ true → (ns : List ℕ) × (scanned (next_side s) st ≡ past ns)
second_past s st e h =
    let r = reached_past st (ap (λ (z : Stage). has_reached z st) (sym e) ∙ h) in
    (r.0, ap (λ (z : Stage). scanned (next_side z) st) e ∙ r.1)

unlisted_status : (c : Bool) (r : Removal) (o : Option Removal) (l : Bool) (st : Status) → r.stage ≡ HalfA → (c ≡ true → o ≡ Some r) → StatusBy o l st
    → StatusBy (cond c (Some (record r { stage = next_stage r.stage })) o) (cond c false l) (ordered (cond c false l) (after_clears c 8 (scanned (next_side r.stage) st)))
unlisted_status false r o l st e f h = stays_ordered o l (scanned (next_side r.stage) st) (stays_scanned o l (next_side r.stage) st h)
unlisted_status true r o l st e f h =
    let g : StatusBy (Some r) l st = subst (λ (z : Option Removal). StatusBy z l st) (f refl) h in
    let there = second_past r.stage st e g.0 in (
      ap (λ (z : Status). has_reached (next_stage r.stage) (ordered false (after_clears true 8 z))) there.1 ∙ ap (λ (z : Stage). has_reached (next_stage z) (gone false false)) e,
      sym (ap (λ (z : Stage). is_listed (next_stage z)) e),
    )

unlisted_may : (c : Bool) (r : Removal) (o : Option Removal) (l : Bool) (st : Status) → r.stage ≡ HalfA → (c ≡ true → o ≡ Some r) → StatusBy o l st
    → MayOrder (cond c false l) (after_clears c 8 (scanned (next_side r.stage) st))
unlisted_may false r o l st e f h = may_stay o l (scanned (next_side r.stage) st) (stays_scanned o l (next_side r.stage) st h)
unlisted_may true r o l st e f h =
    let g : StatusBy (Some r) l st = subst (λ (z : Option Removal). StatusBy z l st) (f refl) h in
    let there = second_past r.stage st e g.0 in
    subst (λ (z : Status). MayOrder false (after_clears true 8 z)) (sym there.1) refl

found_slot : (k : KeeperView) (place t : ℕ) → slots_differ k.removals ≡ true → place < length k.removals → ((removal_at k place).slot == t) ≡ true → removal_of k.removals t ≡ Some (removal_at k place)
found_slot k place t d l e = ap (removal_of k.removals) (sym (is_same (removal_at k place).slot t e)) ∙ found_at k.removals place d l

-- the view once the second closing of grace period A was made, and the current words were cleared
abbrev pub swept : KeeperView → ℕ → ℕ → View → View
swept k place x v = keeper_cleared (removal_at k place).slot 8 (scan_kept (next_side (removal_at k place).stage) x k v)

-- the list of paths without the slot may be stored then
pub unlist_next : (k : KeeperView) (v : View) (place x : ℕ) (by : Maker) → StandsTo k v → AtPlace k place → (removal_at k place).stage ≡ HalfA
    → IsNext (swept k place x v) (entry_without k (removal_at k place).slot by).order
unlist_next k v place x by s p e =
    let r : Removal = removal_at k place in record {
      lawful = without_lawful k.order r.slot s.sound.lawful;
      version = ap (λ (o : Order). o.version + 1) s.order;
      slots = λ t l. subst (λ (b : Bool). MayOrder b (status_at t (swept k place x v))) (sym (lists_without k.order r.slot t s.sound.lawful))
          (subst (MayOrder (cond (r.slot == t) false (lists t k.order))) (sym (clears_status r.slot t 8 (scan_kept (next_side r.stage) x k v)))
          (unlisted_may (r.slot == t) r (removal_of k.removals t) (lists t k.order) (status_at t v) e (found_slot k place t s.sound.distinct p.within) (s.slots t l)));
    }

owned_unlisted : (c a l : Bool) → (c ≡ true → a ≡ true) → (a || l) ≡ (a || cond c false l)
owned_unlisted false a l h = refl
owned_unlisted true a l h = ap (λ (b : Bool). b || l) (h refl) ∙ sym (ap (λ (b : Bool). b || false) (h refl))

-- the second closing of grace period A, and the list of paths without the slot behind it
pub unlist_closes : (k : KeeperView) (v : View) (place x : ℕ) (by : Maker) → StandsTo k v → AtPlace k place → (removal_at k place).stage ≡ HalfA
    → StandsTo (with_order (entry_without k (removal_at k place).slot by) (with_closing by place x k)) (order_stored (entry_without k (removal_at k place).slot by) (swept k place x v))
unlist_closes k v place x by s p e =
    let r : Removal = removal_at k place in
    let q : Removal = record r { stage = next_stage r.stage } in
    let sound = s.sound in
    let flips = sound.flipped in
    let order : OrderEntry = entry_without k r.slot by in
    let off : is_first r.stage ≡ false = ap is_first e in
    let next : IsSound (record (with_closing by place x k) { flips = k.flips }) = next_sound k place x k.flips by sound p (stays_turned r.stage k.flips off (index_now k place sound p)) (omega arith) in
    let versions = sound.versions in
    let many = length_more k.entries (keep.Closing (closing_of by k r x)) in
    let more = length_more (k.entries ++ keep.Closing (closing_of by k r x) ∷ []) (keep.Order order) in
    let there : (t : ℕ) → (r.slot == t) ≡ true → is_some (removal_of k.removals t) ≡ true = λ t f. ap is_some (found_slot k place t sound.distinct p.within f) in record {
      sound = record {
        lawful = without_lawful k.order r.slot sound.lawful;
        sized = sound.sized;
        owned = λ t l. sound.owned t l ∙ owned_unlisted (r.slot == t) (is_some (removal_of k.removals t)) (lists t k.order) (there t)
            ∙ (λ i. sym (owned_set k place q t sound.distinct p.within refl) i || sym (lists_without k.order r.slot t sound.lawful) i);
        apart = sound.apart;
        within = next.within;
        distinct = next.distinct;
        ordered = next.ordered;
        turned = next.turned;
        versions = omega arith;
        flipped = omega arith;
      };
      keeper = s.keeper;
      order = refl;
      slots = λ t l. subst (λ (o : Option Removal). StatusBy o (lists t order.order) (ordered (lists t order.order) (status_at t (swept k place x v)))) (sym (find_set k.removals place q t sound.distinct p.within refl))
          (subst (λ (b : Bool). StatusBy (cond (r.slot == t) (Some q) (removal_of k.removals t)) b (ordered b (status_at t (swept k place x v)))) (sym (lists_without k.order r.slot t sound.lawful))
          (subst (λ (z : Status). StatusBy (cond (r.slot == t) (Some q) (removal_of k.removals t)) (cond (r.slot == t) false (lists t k.order)) (ordered (cond (r.slot == t) false (lists t k.order)) z)) (sym (clears_status r.slot t 8 (scan_kept (next_side r.stage) x k v)))
          (unlisted_status (r.slot == t) r (removal_of k.removals t) (lists t k.order) (status_at t v) e (found_slot k place t sound.distinct p.within) (s.slots t l))));
      flips = s.flips;
      index = s.index;
      entries = entries_more (swept k place x v).keeping.events (k.entries ++ keep.Closing (closing_of by k r x) ∷ []) (keep.Order order) (entries_more v.keeping.events k.entries (keep.Closing (closing_of by k r x)) s.entries);
    }
