-- What each kind of step tells follows from the rule.
use Rattle.std.proofs.Common.{◌≡◌, ◌≢◌, ℕ, suc, ◌+◌, ◌<◌, ◌≤◌, ◌==◌, ne_eqb, cond, true, List, [], ◌∷◌, length, ⊎_elim, sym, refl, ap, ◌∙◌, subst, arith, Option, None, Some}
use mathlib.Core.Option.{some, some-ne-none, some-injective}
use lib.ListN.{get_elem?}
use Rattle.std.specs.List.{All}
use Rattle.mp_words.specs.declared.row.Row.{Row}
use Rattle.mp_words.specs.declared.entry.RowEntry.{RowEntry}
use Rattle.mp_words.specs.declared.op.Op.TheVariants as op
use Rattle.mp_words.specs.declared.op.Op.{Op}
use Rattle.mp_words.specs.Row.{is_given}
use Rattle.mp_words.proofs.Places.{cases_lt}
use Rattle.mp_core.specs.declared.view.Section.{Section}
use Rattle.mp_core.specs.declared.view.Start.{Start}
use Rattle.mp_core.specs.declared.view.Role.TheVariants as role
use Rattle.mp_core.specs.declared.view.View.{View}
use Rattle.mp_core.specs.Core.{Core}
use Rattle.mp_core.specs.Memory.{Memory, side_at, row_at, depth_at}
use Rattle.mp_core.specs.Notes.{HasRow}
use Rattle.mp_core.specs.Status.{listed, is_used}
use Rattle.mp_core.specs.Views.{on_slot, seen_row, flying}
use Rattle.mp_core.specs.Kinds.{OrderTold, RowTold, RowMoved, status_at, MayKeep}
use Rattle.mp_rule.specs.Sequence.{is_quiet}
use Rattle.mp_rule.specs.Rule.{total, Each, tick, on_side, sits, Reaches, first_of}
use Rattle.mp_rule.specs.History.{counts, makers, ReadAt}
use Rattle.mp_rule.specs.Sums.{budget}
use Rattle.mp_core.proofs.Flights.{on_most}
use Rattle.mp_rule.specs.Holds.{start_row, Holds}
use Rattle.mp_rule.specs.Promises.{IsUntold}
use Rattle.mp_rule.proofs.Views.{le-total, by_case}
use Rattle.mp_rule.proofs.Lanes.{all_spent, out-own}
use Rattle.mp_rule.proofs.Graces.{own_status}
use Rattle.mp_rule.proofs.Kept.{reached_given, own_is}

-- one view has all of a sum
total-zero : (f : View → ℕ) (views : List View) → Each (λ _ u. f u ≡ 0) views → total f views ≡ 0
total-zero f [] h = refl
total-zero f (v ∷ views) h = let a : f v ≡ 0 = h 0 v refl in let b = total-zero f views (λ i u e. h (suc i) u e) in omega arith

pub total-alone : (f : View → ℕ) (views : List View) (v : View) → get_elem? views 0 ≡ some v → Each (λ i u. i ≢ 0 → f u ≡ 0) views → total f views ≡ f v
total-alone f [] v e h = absurd (some-ne-none v (sym e))
total-alone f (x ∷ xs) v e h =
    let a : f x ≡ f v = ap f (some-injective x v e) in
    let b = total-zero f xs (λ i u y. h (suc i) u y (λ z. absurd (omega arith))) in omega arith

-- where no lane is out, one view has all that isn't spent
only : (start : Start) (id : ℕ) (c : Core) (m : Memory) (views : List View) (f : View → ℕ) → Holds start m views → get_elem? views id ≡ some c.view → IsUntold c → c.alone ≡ true → ((u : View) → u.inside ≡ None → u.flights ≡ [] → u.entries ≡ [] → f u ≡ 0) → total f views ≡ f c.view
only start id c m views f h at untold alone none =
    let a = untold.alone alone in
    let mine = h.graces.keeper id c.view at a.0 in
    let here : get_elem? views 0 ≡ some c.view = ap (get_elem? views) (sym mine) ∙ at in
    let spent = all_spent m.index views h.lanes h.graces.keeper (out-own views id c.view mine at ∙ a.1) in
    total-alone f views c.view here (λ i u e d. let k = h.lanes.spent i u e (spent i u e d) in none u k.inside k.flights k.entries)

-- a load of the list
pub order_told : (start : Start) (id : ℕ) (c : Core) (m : Memory) (views : List View) → Holds start m views → get_elem? views id ≡ some c.view → IsUntold c → OrderTold c m.order
order_told start id c m views h at untold = let k = h.orders id c.view at in record {
  lawful = h.order;
  below = let o = h.sums.order in omega arith;
  fresh = k.to;
  last = λ al. let own = k.own (h.graces.keeper id c.view at (untold.alone al.1).0) in let to = k.to in omega arith;
  told = λ n e. absurd (none_memory n (sym untold.told ∙ e));
}
  where
    some_memory : Option Memory → Type 0
    some_memory None = ⊥
    some_memory (Some n) = Unit {0}

    none_memory : (n : Memory) → None ≡ Some n → ⊥
    none_memory n e = subst some_memory (sym e) tt

-- an entry of a version above is not there
counts_low : (s n : ℕ) (es : List RowEntry) → All (λ (e : RowEntry). e.slot ≡ s → e.row.version < n) es → counts s n es ≡ 0
counts_low s n [] h = refl
counts_low s n (e ∷ es) h =
    let z : cond (e.slot == s) (tick (e.row.version == n)) 0 ≡ 0 = by_case (λ b. cond b (tick (e.row.version == n)) 0 ≡ 0) e.slot s (λ a. ap tick (ne_eqb e.row.version n (let l = h 0 e (omega arith) a in omega arith))) (λ _. refl) in
    let r = counts_low s n es (λ k d l. h (suc k) d (omega arith)) in omega arith

-- where no lane is out, the word's version is the greatest seen
pub seen_last : (start : Start) (id : ℕ) (c : Core) (x : ℕ) (m : Memory) (views : List View) → Holds start m views → get_elem? views id ≡ some c.view → IsUntold c → c.alone ≡ true → (row_at m x).version ≡ seen_row c.view x
seen_last start id c x m views h at untold alone = ⊎_elim newer older (cases_lt (seen_row c.view x) (row_at m x).version)
  where
    older : (row_at m x).version ≤ seen_row c.view x → (row_at m x).version ≡ seen_row c.view x
    older l = let to = ((h.rows x).each id c.view at).to in omega arith

    newer : seen_row c.view x < (row_at m x).version → (row_at m x).version ≡ seen_row c.view x
    newer l =
        let v = (h.rows x).each id c.view at in
        let from = v.from in
        let one = (h.rows x).once (row_at m x).version (omega arith) (omega arith) in
        let all = only start id c m views (makers x (row_at m x).version) h at untold alone (λ u a b e. ap (counts x (row_at m x).version) e) in
        let none = counts_low x (row_at m x).version c.view.entries (λ i d k z. let y = v.own i d k z in omega arith) in absurd (omega arith)

-- a load of a row
pub row_told : (start : Start) (id : ℕ) (c : Core) (x : ℕ) (m : Memory) (views : List View) → Holds start m views → get_elem? views id ≡ some c.view → IsUntold c → RowTold c x (row_at m x)
row_told start id c x m views h at untold = record {
  lawful = h.lawful x;
  below = let o = h.sums.rows x in omega arith;
  fresh = ((h.rows x).each id c.view at).to;
  last = λ al. seen_last start id c x m views h at untold al.1;
  told = λ n e. absurd (none_memory n (sym untold.told ∙ e));
}
  where
    some_memory : Option Memory → Type 0
    some_memory None = ⊥
    some_memory (Some n) = Unit {0}

    none_memory : (n : Memory) → None ≡ Some n → ⊥
    none_memory n e = subst some_memory (sym e) tt

-- a load of a row of a slot that a section reaches: it isn't free
pub row_given : (start : Start) (id : ℕ) (v : View) (t : Section) (x : ℕ) → v.inside ≡ Some t → Reaches x t.note v → (m : Memory) (views : List View) → Holds start m views → get_elem? views id ≡ some v → is_given (row_at m x) ≡ true
row_given start id v t x is_open reach m views h at = reached_given start id v t x is_open reach m views h at

-- a load of a row by the keeper: it is free exactly where the sequence says so
pub row_used : (start : Start) (id : ℕ) (v : View) (x : ℕ) → v.role ≡ role.Keeper → (m : Memory) (views : List View) → Holds start m views → get_elem? views id ≡ some v → is_given (row_at m x) ≡ is_used (status_at x v)
row_used start id v x keeper m views h at = (h.graces.slots x).taken ∙ ap is_used (own_status (first_of start) _ views id v x (status_at x v) h.graces at keeper (own_is start id v x (status_at x v) m views h at refl))

-- a row change that found another row than the one read: its version is greater
later : (start : Start) (id : ℕ) (c : Core) (x : ℕ) (old : Row) (m : Memory) (views : List View) → Holds start m views → get_elem? views id ≡ some c.view → IsUntold c → ReadAt x (start_row start x) (row_at m x) (seen_row c.view x) views old → row_at m x ≢ old → is_given (row_at m x) ≡ true → RowMoved c x old (row_at m x)
later start id c x old m views h at untold read apart given =
    let v = (h.rows x).each id c.view at in
    let to = v.to in
    let most = read.to in
    let differ : old.version ≢ (row_at m x).version = λ e. apart (sym (read.last e)) in
    let less : old.version < (row_at m x).version = below old.version (row_at m x).version (omega arith) differ in record {
      greater = less;
      lawful = h.lawful x;
      below = let o = h.sums.rows x in omega arith;
      given = given;
      out = λ al e. let l = seen_last start id c x m views h at untold al.1 in absurd (omega arith);
      told = λ n e. absurd (none_memory n (sym untold.told ∙ e));
    }
  where
    below : (a b : ℕ) → a ≤ b → a ≢ b → a < b
    below a b l d = omega arith

    some_memory : Option Memory → Type 0
    some_memory None = ⊥
    some_memory (Some n) = Unit {0}

    none_memory : (n : Memory) → None ≡ Some n → ⊥
    none_memory n e = subst some_memory (sym e) tt

pub row_moved : (start : Start) (id : ℕ) (c : Core) (t : Section) (x : ℕ) (old : Row) → c.view.inside ≡ Some t → HasRow t.note x old → Reaches x t.note c.view → (m : Memory) (views : List View) → Holds start m views → get_elem? views id ≡ some c.view → IsUntold c → row_at m x ≢ old → RowMoved c x old (row_at m x)
row_moved start id c t x old is_open has reach m views h at untold apart =
    later start id c x old m views h at untold (((h.rows x).each id c.view at).reads.0 t is_open old has) apart (reached_given start id c.view t x is_open reach m views h at)

-- a row change with Mark
pub mark_moved : (start : Start) (id : ℕ) (c : Core) (x : ℕ) (old : Row) → c.view.role ≡ role.Keeper → c.view.keeping.last ≡ Some (record { slot = x; row = old }) → status_at x c.view ≡ listed → (m : Memory) (views : List View) → Holds start m views → get_elem? views id ≡ some c.view → IsUntold c → row_at m x ≢ old → RowMoved c x old (row_at m x)
mark_moved start id c x old keeper last own m views h at untold apart =
    later start id c x old m views h at untold (((h.rows x).each id c.view at).held (record { slot = x; row = old }) last refl) apart (row_used start id c.view x keeper m views h at ∙ ap is_used own)

-- a row change with Give and with Free is never moved
pub never_moved : (start : Start) (id : ℕ) (v : View) (x : ℕ) (old : Row) → v.role ≡ role.Keeper → v.keeping.last ≡ Some (record { slot = x; row = old }) → is_quiet (status_at x v) ≡ true → (m : Memory) (views : List View) → Holds start m views → get_elem? views id ≡ some v → row_at m x ≡ old
never_moved start id v x old keeper last quiet m views h at =
    sym ((h.graces.slots x).still id v at (record { slot = x; row = old }) last refl
    (ap is_quiet (own_status (first_of start) _ views id v x (status_at x v) h.graces at keeper (own_is start id v x (status_at x v) m views h at refl)) ∙ quiet))

abbrev NeverMoved : Op → Type 0
NeverMoved (op.Give gift) = Unit {0}
NeverMoved op.Free = Unit {0}
NeverMoved o = ⊥

pub keep_done : (start : Start) (id : ℕ) (v : View) (x : ℕ) (old : Row) (o : Op) → NeverMoved o → MayKeep o (status_at x v) → v.role ≡ role.Keeper → v.keeping.last ≡ Some (record { slot = x; row = old }) → (m : Memory) (views : List View) → Holds start m views → get_elem? views id ≡ some v → row_at m x ≡ old
keep_done start id v x old (op.Give gift) never may keeper last m views h at = never_moved start id v x old keeper last (ap is_quiet may.0) m views h at
keep_done start id v x old op.Free never may keeper last m views h at = never_moved start id v x old keeper last (ap is_quiet may) m views h at
keep_done start id v x old op.Mark never may keeper last m views h at = absurd never
keep_done start id v x old (op.Log a b) never may keeper last m views h at = absurd never
keep_done start id v x old (op.Ctrl a) never may keeper last m views h at = absurd never
keep_done start id v x old op.Expire never may keeper last m views h at = absurd never
keep_done start id v x old op.Pending never may keeper last m views h at = absurd never

-- a load of a depth: a depth is at least the view's own flights
pub depth_own : (start : Start) (id : ℕ) (v : View) (x : ℕ) (m : Memory) (views : List View) → Holds start m views → get_elem? views id ≡ some v → flying x v ≤ depth_at m x
depth_own start id v x m views h at = let c = (h.graces.slots x).counted in let l = le-total (flying x) views id v at in omega arith

-- and where no lane is out it is their number
pub depth_alone : (start : Start) (id : ℕ) (c : Core) (x : ℕ) (m : Memory) (views : List View) → Holds start m views → get_elem? views id ≡ some c.view → IsUntold c → c.alone ≡ true → depth_at m x ≡ flying x c.view
depth_alone start id c x m views h at untold alone = (h.graces.slots x).counted ∙ only start id c m views (flying x) h at untold alone (λ u a b e. ap (on_slot x) b)

-- a scan: where no lane is out and the pass has no open section, nobody is inside
pub scan_alone : (start : Start) (id : ℕ) (c : Core) (side : ℕ) (m : Memory) (views : List View) → Holds start m views → get_elem? views id ≡ some c.view → IsUntold c → c.alone ≡ true → c.view.inside ≡ None → (side_at m side).inside ≡ 0
scan_alone start id c side m views h at untold alone closed = (h.graces.sides side).counted ∙ only start id c m views (sits side) h at untold alone (λ u a b e. ap (on_side side) a) ∙ ap (on_side side) closed

-- what a fetch-and-add needs: an entry more, and a flight more, are below 2^30
pub entries_low : (start : Start) (id : ℕ) (v : View) (x : ℕ) (m : Memory) (views : List View) → Holds start m views → get_elem? views id ≡ some v → 1 ≤ v.left → ((side_at m x).entries + 1 < 1073741824) × ((side_at m x).inside ≤ (side_at m x).entries)
entries_low start id v x m views h at some_left =
    let l = le-total (λ u. u.left) views id v at in
    let o : (side_at m x).entries + total (λ u. u.left) views < 1073741824 = h.sums.entries x in (omega arith, h.sums.most x)

-- a depth is at most the units given
total-less : (f g : View → ℕ) (views : List View) → ((v : View) → f v ≤ g v) → total f views ≤ total g views
total-less f g [] h = omega arith
total-less f g (v ∷ views) h = let a = h v in let b = total-less f g views h in omega arith

pub depth_low : (start : Start) (x : ℕ) (m : Memory) (views : List View) → Holds start m views → depth_at m x ≤ start.units
depth_low start x m views h =
    let c = (h.graces.slots x).counted in
    let t = total-less (flying x) budget views (λ v. let l : flying x v ≤ length v.flights = on_most x v.flights in omega arith) in
    let b = h.sums.budget in omega arith
