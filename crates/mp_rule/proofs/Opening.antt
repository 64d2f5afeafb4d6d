-- The start: lawful words, and one view with nothing. And the end: one view is left, and the words are lawful.
use Rattle.std.proofs.Common.{◌≡◌, ◌≢◌, ◌⊎◌, inl, inr, ℕ, zero, suc, ◌<◌, ◌≤◌, ◌==◌, max, ne_eqb, not, cond, Bool, true, false, true≢false, List, [], ◌∷◌, length, sym, refl, ap, ◌∙◌, subst, arith, None, Some}
use mathlib.Core.Option.{some, some-ne-none, some-injective}
use lib.ListN.{get_elem?}
use Rattle.std.specs.List.{All}
use Rattle.mp_words.specs.declared.row.Row.{Row}
use Rattle.mp_words.specs.Row.{is_given}
use Rattle.mp_words.proofs.Places.{cases_lt}
use Rattle.mp_core.specs.declared.view.Role.{Role}
use Rattle.mp_words.specs.Facts.{IsRow}
use Rattle.mp_core.specs.declared.view.Start.{Start}
use Rattle.mp_core.specs.declared.view.View.{View}
use Rattle.mp_core.specs.declared.view.Role.TheVariants as role
use Rattle.mp_core.specs.Memory.{Memory, side_at, row_at, current_at}
use Rattle.mp_core.specs.Unpacked.{unpacked, first_status}
use Rattle.mp_core.specs.Status.{Status, unused, begins, lists, is_used}
use Rattle.mp_core.specs.Views.{on_slot, greatest, seen_row, flying}
use Rattle.mp_rule.specs.Sequence.{is_listed, is_going, is_unnamed}
use Rattle.mp_rule.specs.Rule.{Each, sits, on_side, Formed, IsFormed, IsKeeper, HasLast, TicketBelow, TicketsBelow, TicketPast, TicketsPast, Bars, Barred, Hides, Hidden, Still, ReadsAbove, AllReadsAbove, OrderAbove, OrdersAbove, ReadsSpan, AllReadsSpan, EntrySpan, AllEntriesSpan, ReadsLife, AllReadsLife, FlightLife, FlightsLife, Reads}
use Rattle.mp_rule.specs.History.{ViewAt, ReadAt, ViewOrder, OrderAt, LaneEntries}
use Rattle.mp_rule.specs.Sums.{units, room, IsEmpty}
use Rattle.mp_rule.specs.Holds.{start_row, Holds}
use Rattle.mp_rule.specs.Lawful.{IsLawful, HasRoom, seen_rows, opening_view}
use Rattle.mp_rule.proofs.Views.{le-total, by_case, all_none, opened_none, noted_none, none_held}
use Rattle.mp_rule.proofs.Sequence.{never, unlisted-unnamed}
use Rattle.mp_rule.proofs.Kept.{past_rows}
use Rattle.mp_rule.proofs.Lanes.{all_spent, out-own}
use Rattle.mp_rule.proofs.Promises.{total-alone}

alone : (P : ℕ → View → Type 0) (v : View) → P 0 v → Each P (v ∷ [])
alone P v h zero u e = subst (P 0) (some-injective v u e) h
alone P v h (suc i) u e = absurd (some-ne-none u (sym e))

-- what the first status says, of a row that is given where it is listed, and not marked where it isn't given
begins_is : (t m l : Bool) → (l ≡ true → t ≡ true) → (t ≡ false → m ≡ false) → (t ≡ is_used (begins t m l)) × (m ≡ is_going (begins t m l)) × (l ≡ is_listed (begins t m l))
begins_is false false false a b = (refl, refl, refl)
begins_is false false true a b = never (a refl)
begins_is false true l a b = absurd (true≢false (b refl))
begins_is true false false a b = (refl, refl, refl)
begins_is true false true a b = (refl, refl, refl)
begins_is true true false a b = (refl, refl, refl)
begins_is true true true a b = (refl, refl, refl)

begins_named : (n : ℕ) (t m : Bool) → (true ≡ true → t ≡ true) → is_unnamed n (begins t m true) ≡ true → ⊥
begins_named n false m a h = absurd (true≢false (sym (a refl)))
begins_named n true false a h = never h
begins_named n true true a h = never h

-- a free row isn't marked
zero_state : (n : ℕ) → not (n == 0) ≡ false → n ≡ 0
zero_state zero h = refl
zero_state (suc n) h = absurd (true≢false (sym (ap not (ne_eqb (suc n) 0 (omega arith))) ∙ h))

pub blank_row : (r : Row) → IsRow r → is_given r ≡ false → r.marked ≡ false
blank_row r l g = ap (λ (x : Row). x.marked) (l.free (zero_state r.state g))

-- the versions of the first rows
seen_past : (n s : ℕ) (rows : ℕ → Row) → n ≤ s → greatest s (seen_rows n rows) ≡ 0
seen_past zero s rows l = refl
seen_past (suc n) s rows l = ap (λ (b : Bool). cond b (max (rows n).version (greatest s (seen_rows n rows))) (greatest s (seen_rows n rows))) (ne_eqb n s (omega arith)) ∙ seen_past n s rows (omega arith)

seen_at : (n s : ℕ) (rows : ℕ → Row) → s < n → greatest s (seen_rows n rows) ≡ (rows s).version
seen_at zero s rows l = absurd (omega arith)
seen_at (suc n) s rows l = by_case (λ b. cond b (max (rows n).version (greatest s (seen_rows n rows))) (greatest s (seen_rows n rows)) ≡ (rows s).version) n s
    (λ e. let z = seen_past n s rows (omega arith) in let y = ap (λ (k : ℕ). (rows k).version) e in omega arith)
    (λ d. seen_at n s rows (omega arith))

pub opens : (start : Start) → IsLawful (unpacked start.words) → HasRoom (unpacked start.words) start.units → Holds start (unpacked start.words) (opening_view start ∷ [])
opens start lawful space = record {
  sized = lawful.sized;
  starts = alone (λ _ u. u.keeping.start ≡ start) v refl;
  graces = record {
    keeper = alone IsKeeper v (λ _. refl);
    lasts = alone HasLast v (λ l e. refl);
    stored = refl;
    formed = alone Formed v (opened_none IsFormed v refl);
    sides = λ x. let none = lawful.nobody x in record {
      counted = omega arith;
      below = alone (TicketsBelow x (side_at m x).entries) v (noted_none (TicketBelow x (side_at m x).entries) v refl refl);
      scanned = omega arith;
      over = alone (TicketsPast x []) v (opened_none (TicketPast x []) v refl);
    };
    slots = λ s. let st : Status = first_status start s in let is = begins_is (is_given (row_at m s)) (row_at m s).marked (lists s m.order) (lawful.given s) (blank_row (row_at m s) (lawful.rows s)) in let none = lawful.idle s in record {
      taken = is.0;
      marked = is.1;
      off = λ g. lawful.off s (is.1 ∙ g);
      listed = is.2;
      counted = none ∙ omega arith;
      idle = λ _. none;
      barred = alone (Barred s st) v (opened_none (Bars s st) v refl);
      hidden = alone (Hidden s st) v (opened_none (Hides s st) v refl);
      unnamed = λ n low h e. let l = lawful.named n s low e in begins_named n (is_given (row_at m s)) (row_at m s).marked (λ _. lawful.given s l) (subst (λ (b : Bool). is_unnamed n (begins (is_given (row_at m s)) (row_at m s).marked b) ≡ true) l h);
      still = alone (Still s st (row_at m s)) v (λ l e. absurd (none_held v refl l e));
    };
    marks = λ s. record { known = omega arith; read = alone (AllReadsAbove s []) v (noted_none (ReadsAbove s []) v refl refl) };
    orders = record { known = omega arith; read = alone (OrdersAbove []) v (noted_none (OrderAbove []) v refl refl) };
    spans = λ s. let g : Bool = is_going (first_status start s) in record { now = λ n l. refl; read = alone (AllReadsSpan g s (row_at m s).version []) v (noted_none (ReadsSpan g s (row_at m s).version []) v refl refl); written = alone (AllEntriesSpan g s (row_at m s).version []) v (all_none (EntrySpan g s (row_at m s).version [])) };
    lives = λ s. record { known = omega arith; read = alone (AllReadsLife s 0) v (opened_none (ReadsLife s 0) v refl); flown = alone (FlightsLife s 0) v (all_none (FlightLife s 0)) };
  };
  sums = record {
    entries = λ x. let o = space.entries x in omega arith;
    most = λ x. let z = lawful.nobody x in omega arith;
    rows = λ s. let o = space.rows s in omega arith;
    order = let o = space.order in omega arith;
    budget = omega arith;
    single = λ x t. omega arith;
  };
  lanes = record {
    range = lawful.index;
    own = alone (λ i u. i ≡ 0 → u.keeping.index ≡ m.index) v (λ _. refl);
    listed = λ l. refl;
    once = λ l. omega arith;
    spent = alone (λ _ u. u.role ≡ role.Spent → IsEmpty u) v (λ e. absurd (not_spent e));
  };
  rows = λ s. record {
    from = omega arith;
    start = λ _. refl;
    within = alone (λ _ u. All (λ e. e.slot ≡ s → ((row_at m s).version < e.row.version) × (e.row.version ≤ (row_at m s).version)) u.entries) v (λ i d l. absurd (omega arith));
    last = alone (λ _ u. All (λ e. e.slot ≡ s → e.row.version ≡ (row_at m s).version → e.row ≡ row_at m s) u.entries) v (λ i d l. absurd (omega arith));
    begins = λ i u a j d l. absurd (no_entry i u a (ap length) j l);
    follows = λ i u a j d l. absurd (no_entry i u a (ap length) j l);
    once = λ n lo hi. absurd (omega arith);
    each = alone (λ _ u. ViewAt s (row_at m s) (row_at m s) (v ∷ []) u) v record {
      from = let z = seen s in omega arith;
      to = let z = seen s in omega arith;
      own = λ i d l. absurd (omega arith);
      reads = noted_none (Reads (ReadAt s (row_at m s) (row_at m s) (seen_row v s) (v ∷ [])) s) v refl refl;
      held = λ l e _. absurd (none_held v refl l e);
    };
  };
  orders = alone (ViewOrder m.order m.order []) v record { from = omega arith; to = omega arith; own = λ _. omega arith; reads = noted_none (OrderAt m.order m.order.version []) v refl refl };
  made = alone LaneEntries v (λ d. absurd (d refl));
  lawful = lawful.rows;
  order = lawful.order;
}
  where
    v : View
    v = opening_view start

    m : Memory
    m = unpacked start.words

    no_entry : (i : ℕ) (u : View) → get_elem? (v ∷ []) i ≡ some u → (([] ≡ u.entries) → 0 ≡ length u.entries) → (j : ℕ) → j < length u.entries → ⊥
    no_entry zero u e f j l = let z = f (ap (λ (x : View). x.entries) (some-injective v u e)) in absurd (omega arith)
    no_entry (suc i) u e f j l = absurd (some-ne-none u (sym e))

    seen : (s : ℕ) → greatest s (seen_rows 15 (start_row start)) ≡ (row_at m s).version
    seen s = seen_or (cases s)
      where
        cases : (s : ℕ) → (s < 15) ⊎ (15 ≤ s)
        cases s = cases_lt s 15

        seen_or : (s < 15) ⊎ (15 ≤ s) → greatest s (seen_rows 15 (start_row start)) ≡ (row_at m s).version
        seen_or (inl l) = seen_at 15 s (start_row start) l
        seen_or (inr l) = seen_past 15 s (start_row start) l ∙ ap (λ (r : Row). r.version) (sym (past_rows m.rows s (let k = lawful.sized.rows in omega arith)))

    is_keeper : Role → Type 0
    is_keeper role.Keeper = Unit {0}
    is_keeper role.Spent = ⊥
    is_keeper (role.Lane l) = ⊥

    not_spent : role.Keeper ≡ role.Spent → ⊥
    not_spent e = subst is_keeper e tt

-- each current word is none or names a listed slot
pub named_listed : (start : Start) (m : Memory) (views : List View) → Holds start m views → (n s : ℕ) → n < 8 → current_at m n ≡ Some s → lists s m.order ≡ true
named_listed start m views h n s l e = decide (lists s m.order) refl
  where
    decide : (b : Bool) → lists s m.order ≡ b → lists s m.order ≡ true
    decide true x = x
    decide false x = let k = h.graces.slots s in absurd (k.unnamed n l (unlisted-unnamed n _ (sym k.listed ∙ x)) e)

-- where no lane is out and the keeper has no open section and no flight, the words are lawful
pub closes : (start : Start) (v : View) (m : Memory) (views : List View) → Holds start m views → get_elem? views 0 ≡ some v → v.role ≡ role.Keeper → v.keeping.out ≡ [] → v.inside ≡ None → v.flights ≡ [] → IsLawful m × HasRoom m v.left
closes start v m views h at keeper none closed landed =
    let spent = all_spent m.index views h.lanes h.graces.keeper (out-own views 0 v refl at ∙ none) in
    let empty : Each (λ i u. i ≢ 0 → IsEmpty u) views = λ i u e d. h.lanes.spent i u e (spent i u e d) in (
      record {
        sized = h.sized;
        index = h.lanes.range;
        nobody = λ x. (h.graces.sides x).counted ∙ total-alone (sits x) views v at (λ i u e d. ap (on_side x) (empty i u e d).inside) ∙ ap (on_side x) closed;
        idle = λ s. (h.graces.slots s).counted ∙ total-alone (flying s) views v at (λ i u e d. ap (on_slot s) (empty i u e d).flights) ∙ ap (on_slot s) landed;
        given = λ s l. (h.graces.slots s).taken ∙ listed_used _ (sym (h.graces.slots s).listed ∙ l);
        off = λ s g. (h.graces.slots s).off (sym (h.graces.slots s).marked ∙ g);
        named = λ n s low e. named_listed start m views h n s low e;
        rows = h.lawful;
        order = h.order;
      },
      record {
        entries = λ x. let l = le-total units views 0 v at in let o = h.sums.entries x in omega arith;
        rows = λ s. let l = le-total room views 0 v at in let o = h.sums.rows s in omega arith;
        order = let l = le-total room views 0 v at in let o = h.sums.order in omega arith;
      },
    )
  where
    listed_used : (st : Status) → is_listed st ≡ true → is_used st ≡ true
    listed_used unused e = never e
    listed_used st e = refl
