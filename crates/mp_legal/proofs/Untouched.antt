-- A live path without ANA that no line touches stays usable.
use Rattle.std.proofs.Common.{◌≡◌, ℕ, zero, suc, ◌+◌, ◌<◌, ◌≤◌, ◌==◌, ◌||◌, ◌&&◌, not, Bool, true, false, List, [], ◌∷◌, ◌++◌, inl, inr, length, map, get_or, set, Option, Some, None, Result, Ok, Err, refl, sym, ap, ◌∙◌, subst, arith, if◌then◌else◌}
use Rattle.std.specs.Prelude.{find, filter, slice_get, ◌↔◌}
use Rattle.std.specs.List.{AllByRecursion, list_any, flat_map, range_with_len, enumerate_from}
use Rattle.std.proofs.lemmas.Bool.{cases_Bool, eqb-true, eqb-false, both_ways, and_parts, not-true}
use Rattle.std.proofs.lemmas.List.{length-append, get_or-set_other}
use Rattle.std.proofs.lemmas.List.FromFn.{length-range_with_len}
use Rattle.std.proofs.lemmas.List.Quantifiers.{position-Some}
use Rattle.mp_words.specs.declared.flight.Flight.{Flight}
use Rattle.mp_words.specs.declared.near.Near.{Near}
use Rattle.mp_words.specs.declared.path.Path.{Path}
use Rattle.mp_words.specs.declared.row.Row.{Row}
use Rattle.mp_words.specs.declared.row.CState.{CState}
use Rattle.mp_words.specs.declared.row.CState.TheVariants.{New, Live, Resetting, Connecting, Deleting, DeletingNoio, Dead}
use Rattle.mp_words.specs.declared.row.Policy.{Policy}
use Rattle.mp_words.specs.declared.row.Policy.TheVariants.{Numa, RoundRobin, QueueDepth}
use Rattle.mp_words.specs.declared.order.Order.{Order}
use Rattle.mp_words.specs.declared.op.Op.{Op}
use Rattle.mp_words.specs.declared.op.Op.TheVariants as op
use Rattle.mp_words.specs.declared.op.Maker.TheVariants.{Hop}
use Rattle.mp_words.specs.declared.op.Gift.{Gift}
use Rattle.mp_words.specs.declared.op.Effect.{Effect}
use Rattle.mp_words.specs.declared.op.Effect.TheVariants as effect
use Rattle.mp_words.specs.declared.entry.RowEntry.{RowEntry}
use Rattle.mp_words.specs.declared.trying.Back.{Back}
use Rattle.mp_words.specs.declared.trying.Back.TheVariants.{Set, Unset}
use Rattle.mp_words.specs.declared.trying.TryEnd.{TryEnd}
use Rattle.mp_words.specs.declared.trying.TryEnd.TheVariants.{Sent, Listed, Failed}
use Rattle.mp_words.specs.Effect.{free_row, given_row, effect_of}
use Rattle.mp_words.specs.Order.{slots_of, next_order}
use Rattle.mp_words.specs.PathTable.{has_ctrl}
use Rattle.mp_words.specs.Row.{is_given, is_usable, takes_requests}
use Rattle.mp_words.specs.States.{optimized, non_optimized}
use Rattle.mp_words.specs.Request.{Asked, Tried, attempts_of}
use Rattle.mp_status.specs.declared.class.Class.{Class}
use Rattle.mp_status.specs.declared.class.Class.TheVariants.{Complete, Failover, Retry}
use Rattle.mp_page.specs.declared.page.Page.{Page}
use Rattle.mp_page.specs.declared.page.PageError.{PageError}
use Rattle.mp_page.specs.Gifts.{page_at, gift_of}
use Rattle.mp_policy.specs.Choices.{numa_choice, round_robin_choice, queue_depth_choice, has_usable}
use Rattle.mp_submit.specs.Choice.{choice_by as choice_on}
use Rattle.mp_topology.specs.declared.topology.Controller.{Controller}
use Rattle.mp_topology.specs.declared.topology.Topology.{Topology}
use Rattle.mp_topology.specs.Facts.{IsTopology}
use Rattle.mp_script.specs.Facts.{IsLine, AreLines, IsOver, HasAna, submits_in}
use Rattle.mp_script.specs.declared.script.LanePlan.{LanePlan}
use Rattle.mp_script.specs.declared.script.Line.{Line}
use Rattle.mp_script.specs.declared.script.Line.TheVariants as line
use Rattle.mp_script.specs.declared.script.Numbered1.{Numbered1}
use Rattle.mp_script.specs.declared.script.Script.{Script}
use Rattle.mp_script.specs.declared.script.World.{World}
use Rattle.mp_record.specs.declared.event.Event.{Event}
use Rattle.mp_record.specs.declared.event.Event.TheVariants.{Try}
use Rattle.mp_record.specs.declared.event.Said.TheVariants as said
use Rattle.mp_legal.specs.Answers.{hop_statuses, class_of_hop, through_first}
use Rattle.mp_legal.specs.Enough.{is_listed, lists}
use Rattle.mp_legal.specs.Inputs.{inputs_for}
use Rattle.mp_legal.specs.Opening.{opening, opening_rows, opening_row, named_page}
use Rattle.mp_legal.specs.PlainState.{State, row_at, request_of, entry_of, depth_of, paths_of}
use Rattle.mp_legal.specs.PlainCall.{Inputs, Call, submit, finish, change, add, remove, set_policy, reap, call}
use Rattle.mp_legal.specs.PlainChange.{changed_by, changed_path}
use Rattle.mp_legal.specs.PlainFinish.{ended, back_of}
use Rattle.mp_legal.specs.PlainKeep.{slot_with, free_slot, given, given_in, given_unless, marked, is_among, without, unlisted, freed_or_again, reaped_from, is_idle}
use Rattle.mp_legal.specs.PlainLine.{start_of, place_of, turn_step, flights_of, flights_with, by_page, adds, reads_log}
use Rattle.mp_legal.specs.PlainRun.{taken, state_after}
use Rattle.mp_legal.specs.PlainSubmit.{submitted, tried, end_of, choice_by}
use Rattle.mp_legal.specs.RunCalls.{Called, called, calls_made, turn_calls, turns_calls, request_calls, requests_calls, round_calls, rounds_calls, drain_calls, run_calls}
use Rattle.mp_legal.specs.Stepped.{Stepped, Place, maker_of, says, each}
use Rattle.mp_legal.specs.Turns.{Turn, turn_in, line_turn, round_of, longest, turns_of}
use Rattle.mp_legal.specs.Drain.{drain_place, is_sent, round, most_rounds, reaps, sends_and_finishes}
use Rattle.mp_legal.specs.Unnamed.{names, is_live, is_plain, lines_in, stays_usable}
use Rattle.mp_legal.proofs.EachCall.{all-append, of_run, unlists_each}
use Rattle.mp_legal.proofs.MadeCalls.{reaps_same}
use Rattle.mp_legal.proofs.KeptWords.{slots_next}
use Rattle.mp_legal.proofs.PlainWalk.{or_false, among_others, through_others}
use Rattle.mp_legal.proofs.Walking.{few_without}
use Rattle.mp_legal.proofs.RowMoves.{row_of}
use Rattle.mp_legal.proofs.FitMoves.{among_apart, or_cases}
use Rattle.mp_legal.proofs.FitCalls.{found_path, filter_none, found_through, or_right}
use Rattle.mp_legal.proofs.FitOpening.{row_inside}

-- ---- a path that lives

-- The row of a live path without ANA.
pub record IsPlainRow (ctrl : ℕ) (row : Row) : Type 0 where
  pub ctrl_is : row.ctrl ≡ ctrl
  pub live : row.cstate ≡ Live
  pub state_is : row.state ≡ 1
  pub open_for : row.pending ≡ false
  pub is_ready : row.ready ≡ true
  pub plain : row.ana ≡ false

-- The slot is listed, isn't under removal, and has the controller's live path without ANA.
pub record Lives (ctrl x : ℕ) (rows : List Row) (order : Order) (removals : List ℕ) : Type 0 where
  pub listed : is_among (slots_of order) x ≡ true
  pub kept : is_among removals x ≡ false
  pub few : length (slots_of order) ≤ 8
  pub len : order.len ≡ length (slots_of order)
  pub row : IsPlainRow ctrl (row_of rows x)

abbrev pub LivesAt : ℕ → ℕ → State → Type 0
LivesAt ctrl x s = Lives ctrl x s.rows s.order s.removals

row_lives : (ctrl x : ℕ) (rows : List Row) (order : Order) (removals : List ℕ) (slot : ℕ) (new : Row) → (slot ≡ x → ⊥)
    → Lives ctrl x rows order removals → Lives ctrl x (set rows slot new) order removals
row_lives ctrl x rows order removals slot new apart l = record {
  listed = l.listed;
  kept = l.kept;
  few = l.few;
  len = l.len;
  row = subst (IsPlainRow ctrl) (sym (get_or-set_other rows slot x new (free_row 0) (λ e. apart (sym e)))) l.row;
}

list_lives : (ctrl x : ℕ) (rows : List Row) (order : Order) (policy : Policy) (slots removals : List ℕ)
    → length slots ≤ 8 → is_among slots x ≡ true → Lives ctrl x rows order removals
    → Lives ctrl x rows (next_order order policy slots) removals
list_lives ctrl x rows order policy slots removals few there l =
    let are = slots_next order policy slots few in
    record {
      listed = ap (λ (xs : List ℕ). is_among xs x) are ∙ there;
      kept = l.kept;
      few = omega (arith, ap length are, few);
      len = ap length (sym are);
      row = l.row;
    }

lives_given : (ctrl x : ℕ) (rows : List Row) (order : Order) (removals : List ℕ) → Lives ctrl x rows order removals
    → is_given (row_of rows x) ≡ true
lives_given ctrl x rows order removals l = ap (λ n. not (n == 0)) l.row.state_is

-- the path is usable
usable_row : (ctrl : ℕ) (row : Row) → IsPlainRow ctrl row → is_usable row ≡ true
usable_row ctrl row p =
    λ j. (not (p.state_is j == 0) && takes_requests (p.live j) && not (p.open_for j) && p.is_ready j)
    && (p.state_is j == optimized || p.state_is j == non_optimized)

usable_among : (rows : List Row) (slots : List ℕ) (x : ℕ) → is_among slots x ≡ true → is_usable (row_of rows x) ≡ true
    → has_usable (map (λ slot. record { slot = slot; row = row_of rows slot }) slots) ≡ true
usable_among rows [] x there on = absurd cc
usable_among rows (y ∷ slots) x there on = by (y == x) refl there (λ later. usable_among rows slots x later on)
  where
    by : (b : Bool) → (y == x) ≡ b → (b || is_among slots x) ≡ true
        → (is_among slots x ≡ true → has_usable (map (λ slot. record { slot = slot; row = row_of rows slot }) slots) ≡ true)
        → (is_usable (row_of rows y) || has_usable (map (λ slot. record { slot = slot; row = row_of rows slot }) slots)) ≡ true
    by true e there later =
        ap (λ b. b || has_usable (map (λ slot. record { slot = slot; row = row_of rows slot }) slots))
        (ap (λ n. is_usable (row_of rows n)) (eqb-true y x e) ∙ on)
    by false e there later =
        or_right (is_usable (row_of rows y))
        (has_usable (map (λ slot. record { slot = slot; row = row_of rows slot }) slots)) (later there)

lives_usable : (ctrl x : ℕ) (s : State) → LivesAt ctrl x s → has_usable (paths_of s) ≡ true
lives_usable ctrl x s l = usable_among s.rows (slots_of s.order) x l.listed (usable_row ctrl (row_of s.rows x) l.row)

-- ---- calls

-- the call leaves the controller's state, timeout and path
abbrev pub Spares : ℕ → Call → Type 0
Spares ctrl (change d o) = (d == ctrl) ≡ false
Spares ctrl (remove d) = (d == ctrl) ≡ false
Spares ctrl (submit req) = Unit {0}
Spares ctrl (finish f) = Unit {0}
Spares ctrl (add gift) = Unit {0}
Spares ctrl (set_policy policy) = Unit {0}
Spares ctrl reap = Unit {0}

tried_lives : (ctrl x lane : ℕ) (s : State) (a : Asked) (end : TryEnd) → LivesAt ctrl x s
    → LivesAt ctrl x (tried lane s a end).state
tried_lives ctrl x lane s a (Sent slot version) l = l
tried_lives ctrl x lane s a Listed l = l
tried_lives ctrl x lane s a Failed l = l

ended_lives : (ctrl x : ℕ) (s : State) (f : Flight) (tries : List Tried) (statuses : List ℕ) (way : Option Back)
    → ((entry : RowEntry) → way ≡ Some (Set entry) → entry.slot ≡ x → ⊥) → LivesAt ctrl x s
    → LivesAt ctrl x (ended s f tries statuses way).state
ended_lives ctrl x s f tries statuses None apart l = l
ended_lives ctrl x s f tries statuses (Some Unset) apart l = l
ended_lives ctrl x s f tries statuses (Some (Set entry)) apart l =
    row_lives ctrl x s.rows s.order s.removals entry.slot entry.row (apart entry refl) l

back_apart : (ctrl x lane : ℕ) (s : State) (f : Flight) (hop : ℕ) (c : Class) (entry : RowEntry) → LivesAt ctrl x s
    → back_of lane s f hop c ≡ Some (Set entry) → entry.slot ≡ x → ⊥
back_apart ctrl x lane s f hop Complete entry l is here = cc
back_apart ctrl x lane s f hop Retry entry l is here = cc
back_apart ctrl x lane s f hop (Failover ana) entry l is here = by ana (row_at s f.slot).ana refl is
  where
    same : (a b : RowEntry) → Some (Set a) ≡ Some (Set b) → a ≡ b
    same a b e = cc

    its : (e : RowEntry) → Some (Set e) ≡ Some (Set entry) → e.slot ≡ entry.slot
    its e p = ap (λ (z : RowEntry). z.slot) (same e entry p)

    by : (a b : Bool) → (row_at s f.slot).ana ≡ b
        → Some (if a && b then Set (entry_of s f.slot op.Pending (Hop lane f.req hop)) else Unset) ≡ Some (Set entry)
        → ⊥
    by true true e p =
        both_ways (row_of s.rows x).ana l.row.plain
        (ap (λ n. (row_of s.rows n).ana) (sym (its (entry_of s f.slot op.Pending (Hop lane f.req hop)) p ∙ here)) ∙ e)
    by true false e p = cc
    by false b e p = cc

finish_lives : (ctrl x : ℕ) (i : Inputs) (at : Place) (s : State) (f : Flight) → LivesAt ctrl x s
    → LivesAt ctrl x (call i at s (finish f)).state
finish_lives ctrl x i at s f l =
    let tries : List Tried = (request_of s f.req).tries in
    let statuses : List ℕ = hop_statuses i.answers f.req (attempts_of tries + 1) in
    ended_lives ctrl x s f tries statuses (back_of at.lane s f (length tries) (class_of_hop statuses))
    (λ entry is here. back_apart ctrl x at.lane s f (length tries) (class_of_hop statuses) entry l is here) l

-- a path of another controller is in another slot
other_slot : (ctrl x d : ℕ) (s : State) (path : Path) → (d == ctrl) ≡ false → path.row ≡ row_at s path.slot
    → has_ctrl d path ≡ true → LivesAt ctrl x s → path.slot ≡ x → ⊥
other_slot ctrl x d s path off row is l here =
    let own : path.row.ctrl ≡ ctrl = ap (λ (r : Row). r.ctrl) (row ∙ ap (row_of s.rows) here) ∙ l.row.ctrl_is in
    eqb-false d ctrl off (sym (eqb-true path.row.ctrl d is) ∙ own)

changed_lives : (ctrl x : ℕ) (at : Place) (s : State) (path : Path) (o : Op) (e : Effect) → (path.slot ≡ x → ⊥)
    → LivesAt ctrl x s → LivesAt ctrl x (changed_by at s path o e).state
changed_lives ctrl x at s path o (effect.Changed row) apart l =
    row_lives ctrl x s.rows s.order s.removals path.slot row apart l
changed_lives ctrl x at s path o (effect.Refused to) apart l = l
changed_lives ctrl x at s path o effect.NotArmed apart l = l

change_lives : (ctrl x d : ℕ) (at : Place) (s : State) (o : Op) (found : Option Path) → (d == ctrl) ≡ false
    → find (has_ctrl d) (paths_of s) ≡ found → LivesAt ctrl x s → LivesAt ctrl x (changed_path at s o found).state
change_lives ctrl x d at s o None off is l = l
change_lives ctrl x d at s o (Some path) off is l =
    let p = found_path s (has_ctrl d) (slots_of s.order) path is in
    changed_lives ctrl x at s path o (effect_of path.row o) (other_slot ctrl x d s path off p.1 p.2 l) l

not_on : (b : Bool) → (b ≡ true → ⊥) → b ≡ false
not_on true no_way = absurd (no_way refl)
not_on false no_way = refl

marked_lives : (ctrl x d : ℕ) (at : Place) (s : State) (found : Option Path) → (d == ctrl) ≡ false
    → find (λ path. has_ctrl d path && not (is_among s.removals path.slot)) (paths_of s) ≡ found → LivesAt ctrl x s
    → LivesAt ctrl x (marked at s found).state
marked_lives ctrl x d at s None off is l = l
marked_lives ctrl x d at s (Some path) off is l =
    let p = found_path s (λ path. has_ctrl d path && not (is_among s.removals path.slot)) (slots_of s.order) path is in
    let own = (and_parts (has_ctrl d path) (not (is_among s.removals path.slot)) p.2).0 in
    let apart : path.slot ≡ x → ⊥ = other_slot ctrl x d s path off p.1 own l in
    let there =
    row_lives ctrl x s.rows s.order s.removals path.slot (entry_of s path.slot op.Mark (maker_of at)).row apart l in
    record
    { listed = there.listed; kept = none s.removals there.kept apart; few = there.few; len = there.len; row = there.row }
  where
    none : (xs : List ℕ) → is_among xs x ≡ false → (path.slot ≡ x → ⊥) → is_among (xs ++ path.slot ∷ []) x ≡ false
    none [] e apart = ap (λ b. b || false) (not_on (path.slot == x) (λ same. apart (eqb-true path.slot x same)))
    none (y ∷ xs) e apart = let parts = or_false (y == x) (is_among xs x) e in λ j. parts.0 j || none xs parts.1 apart j

given_lives : (ctrl x : ℕ) (at : Place) (s : State) (gift : Gift) (found : Option ℕ) → free_slot s ≡ found
    → LivesAt ctrl x s → LivesAt ctrl x (given_in at s gift found).state
given_lives ctrl x at s gift None free l = l
given_lives ctrl x at s gift (Some slot) free l = by (s.order.len == 8) refl
  where
    e : RowEntry
    e = entry_of s slot (op.Give gift) (maker_of at)

    seven : (n : ℕ) → n ≤ 8 → (n == 8) ≡ false → n ≤ 7
    seven n le off = let apart : n ≡ 8 → ⊥ = eqb-false n 8 off in le_seven n le apart
      where
        le_seven : (n : ℕ) → n ≤ 8 → (n ≡ 8 → ⊥) → n ≤ 7
        le_seven n le apart = omega (arith, apart)

    still : (xs : List ℕ) → is_among xs x ≡ true → is_among (xs ++ slot ∷ []) x ≡ true
    still [] there = absurd cc
    still (y ∷ xs) there =
        elim (or_cases (y == x) (is_among xs x) there)
        [ inl same ↦ ap (λ b. b || is_among (xs ++ slot ∷ []) x) same | inr rest ↦ or_right (y == x) (is_among (xs ++ slot ∷ []) x) (still xs rest) ]

    by : (b : Bool) → (s.order.len == 8) ≡ b
        → LivesAt ctrl x (if b then says at s said.OrderFull else given at s (entry_of s slot (op.Give gift) (maker_of at))).state
    by true full = l
    by false room =
        let found = position-Some (λ (row : Row). not (is_given row)) s.rows slot (free_row 0) free in
        let unused : is_given (row_of s.rows slot) ≡ false = not-true (is_given (row_of s.rows slot)) found.1 in
        let apart : slot ≡ x → ⊥ =
        λ same. both_ways (is_given (row_of s.rows x)) (ap (λ n. is_given (row_of s.rows n)) (sym same) ∙ unused)
        (lives_given ctrl x s.rows s.order s.removals l) in
        let slots : List ℕ = slots_of s.order ++ slot ∷ [] in
        let count : length slots ≡ length (slots_of s.order) + 1 = length-append (slots_of s.order) (slot ∷ []) in
        let most : s.order.len ≤ 7 = seven s.order.len (omega (arith, l.len, l.few)) room in
        list_lives ctrl x (set s.rows slot e.row) s.order s.order.policy slots s.removals
        (omega (arith, count, most, l.len)) (still (slots_of s.order) l.listed)
        (row_lives ctrl x s.rows s.order s.removals slot e.row apart l)

added_lives : (ctrl x : ℕ) (at : Place) (s : State) (gift : Gift) (found : Option ℕ) → LivesAt ctrl x s
    → LivesAt ctrl x (given_unless at s gift found).state
added_lives ctrl x at s gift (Some slot) l = l
added_lives ctrl x at s gift None l = given_lives ctrl x at s gift (free_slot s) refl l

unlist_lives : (ctrl x : ℕ) (at : Place) (s : State) (gone : List ℕ) → is_among gone x ≡ false → LivesAt ctrl x s
    → LivesAt ctrl x (each (unlisted at) s gone).state
unlist_lives ctrl x at s [] none l = l
unlist_lives ctrl x at s (slot ∷ gone) none l =
    let parts = or_false (slot == x) (is_among gone x) none in
    let slots : List ℕ = without slot (slots_of s.order) in
    let one =
    list_lives ctrl x s.rows s.order s.order.policy slots s.removals (few_without slot (slots_of s.order) l.few)
    (among_others slot x (slots_of s.order) (swap slot x parts.0) ∙ l.listed) l in
    unlist_lives ctrl x at (unlisted at s slot).state gone parts.1 one
  where
    swap : (a b : ℕ) → (a == b) ≡ false → (b == a) ≡ false
    swap a b e = by (b == a) refl
      where
        by : (c : Bool) → (b == a) ≡ c → c ≡ false
        by false f = refl
        by true f = absurd (eqb-false a b e (sym (eqb-true b a f)))

freed_lives : (ctrl x : ℕ) (at : Place) (oldest : ℕ) (found : Option ℕ) (s : State)
    → ((slot : ℕ) → found ≡ Some slot → slot ≡ x → ⊥) → LivesAt ctrl x s
    → LivesAt ctrl x (freed_or_again at oldest found s).state
freed_lives ctrl x at oldest None s apart l = l
freed_lives ctrl x at oldest (Some slot) s apart l =
    let there =
    row_lives ctrl x s.rows s.order s.removals slot (entry_of s slot op.Free (maker_of at)).row (apart slot refl) l in
    record
    { listed = there.listed; kept = none (is_among (without slot s.removals) x) refl; few = there.few; len = there.len; row = there.row }
  where
    none : (b : Bool) → is_among (without slot s.removals) x ≡ b → b ≡ false
    none false e = refl
    none true e = absurd (both_ways (is_among s.removals x) l.kept (among_apart slot x s.removals e).0)

reap_lives : (ctrl x : ℕ) (at : Place) (s : State) (slots : List ℕ) → slots ≡ s.removals → LivesAt ctrl x s
    → LivesAt ctrl x (reaped_from at s slots).state
reap_lives ctrl x at s [] is l = l
reap_lives ctrl x at s (oldest ∷ others) is l =
    let slots : List ℕ = oldest ∷ others in
    let gone : List ℕ = filter (is_among (slots_of s.order)) (through_first (is_idle s) slots) in
    let none : is_among slots x ≡ false = ap (λ (xs : List ℕ). is_among xs x) is ∙ l.kept in
    let out : is_among gone x ≡ false =
    filter_none (is_among (slots_of s.order)) (through_first (is_idle s) slots) x
    (through_others (is_idle s) x slots none) in
    freed_lives ctrl x at oldest (find (is_idle s) slots) (each (unlisted at) s gone).state
    (λ slot hit same. both_ways (is_among slots x) none (ap (is_among slots) (sym same) ∙ (found_through (is_idle s) slots slot hit).1))
    (unlist_lives ctrl x at s gone out l)

call_lives : (ctrl x : ℕ) (i : Inputs) (at : Place) (s : State) (c : Call) → Spares ctrl c → LivesAt ctrl x s
    → LivesAt ctrl x (call i at s c).state
call_lives ctrl x i at s (submit req) spares l =
    tried_lives ctrl x at.lane s (request_of s req)
    (end_of s (choice_by s.order.policy i.topology.near s (request_of s req).node)) l
call_lives ctrl x i at s (finish f) spares l = finish_lives ctrl x i at s f l
call_lives ctrl x i at s (change d o) spares l =
    change_lives ctrl x d at s o (find (has_ctrl d) (paths_of s)) spares refl l
call_lives ctrl x i at s (add gift) spares l = added_lives ctrl x at s gift (slot_with s gift.ctrl) l
call_lives ctrl x i at s (remove d) spares l =
    marked_lives ctrl x d at s (find (λ path. has_ctrl d path && not (is_among s.removals path.slot)) (paths_of s))
    spares refl l
call_lives ctrl x i at s (set_policy policy) spares l =
    list_lives ctrl x s.rows s.order policy (slots_of s.order) s.removals l.few l.listed l
call_lives ctrl x i at s reap spares l = reap_lives ctrl x at s s.removals refl l

-- ---- the run

-- The path lives before each of these calls, and behind them.
record Living (ctrl x : ℕ) (t : State) (cs : List Called) : Type 0 where
  there : LivesAt ctrl x t
  all : AllByRecursion (λ c. LivesAt ctrl x c.before) cs

living_both : (ctrl x : ℕ) (t u : State) (xs ys : List Called) → Living ctrl x t xs → Living ctrl x u ys
    → Living ctrl x u (xs ++ ys)
living_both ctrl x t u xs ys one two = record
    { there = two.there; all = all-append (λ (c : Called). LivesAt ctrl x c.before) xs ys one.all two.all }

calls_live : (ctrl x : ℕ) (i : Inputs) (at : Place) (s : State) (cs : List Call) → AllByRecursion (Spares ctrl) cs
    → LivesAt ctrl x s → Living ctrl x (each (call i at) s cs).state (calls_made i at s cs)
calls_live ctrl x i at s [] spares l = record { there = l; all = tt }
calls_live ctrl x i at s (c ∷ cs) spares l =
    let rest = calls_live ctrl x i at (call i at s c).state cs spares.1 (call_lives ctrl x i at s c spares.0 l) in
    record { there = rest.there; all = (l, rest.all) }

spares_finishes : (ctrl : ℕ) (fs : List Flight) → AllByRecursion (Spares ctrl) (map finish fs)
spares_finishes ctrl [] = tt
spares_finishes ctrl (f ∷ fs) = (tt, spares_finishes ctrl fs)

spares_submits : (ctrl : ℕ) (reqs : List ℕ) → AllByRecursion (Spares ctrl) (map submit reqs)
spares_submits ctrl [] = tt
spares_submits ctrl (r ∷ reqs) = (tt, spares_submits ctrl reqs)

spares_reaps : (ctrl : ℕ) (slots : List ℕ) → AllByRecursion (Spares ctrl) (map (λ slot. reap) slots)
spares_reaps ctrl [] = tt
spares_reaps ctrl (slot ∷ slots) = (tt, spares_reaps ctrl slots)

-- the line names the controller neither for a change nor for its log page
abbrev pub Leaves : ℕ → Line → Type 0
Leaves ctrl (line.Log d box) = (d == ctrl) ≡ false
Leaves ctrl (line.Ctrl d to) = (d == ctrl) ≡ false
Leaves ctrl (line.Anatt d) = (d == ctrl) ≡ false
Leaves ctrl (line.Remove d) = (d == ctrl) ≡ false
Leaves ctrl (line.Submit req node) = Unit {0}
Leaves ctrl (line.Finish req) = Unit {0}
Leaves ctrl line.FinishAll = Unit {0}
Leaves ctrl line.Requeue = Unit {0}
Leaves ctrl (line.Add d box) = Unit {0}
Leaves ctrl line.Reap = Unit {0}
Leaves ctrl (line.Policy policy) = Unit {0}

page_live : (ctrl x : ℕ) (i : Inputs) (at : Place) (s : State) (read : Result Page PageError) (made : Page → Call)
    → ((page : Page) → Spares ctrl (made page)) → LivesAt ctrl x s
    → Living ctrl x (each (call i at) (by_page s read made).state (by_page s read made).calls).state (calls_made i at (by_page s read made).state (by_page s read made).calls)
page_live ctrl x i at s (Ok page) made of l = calls_live ctrl x i at s (made page ∷ []) (of page, tt) l
page_live ctrl x i at s (Err error) made of l = record { there = l; all = tt }

adds_live : (ctrl x : ℕ) (i : Inputs) (at : Place) (s : State) (d : ℕ) (box : Option ℕ) → LivesAt ctrl x s
    → Living ctrl x (each (call i at) (adds i s d box).state (adds i s d box).calls).state (calls_made i at (adds i s d box).state (adds i s d box).calls)
adds_live ctrl x i at s d None l = calls_live ctrl x i at s (add (gift_of i.topology.nsid d None) ∷ []) (tt, tt) l
adds_live ctrl x i at s d (Some box) l =
    page_live ctrl x i at s (page_at i.pages box) (λ page. add (gift_of i.topology.nsid d (Some page))) (λ page. tt) l

line_live : (ctrl x : ℕ) (i : Inputs) (at : Place) (lane : ℕ) (s : State) (n : Line) → Leaves ctrl n → LivesAt ctrl x s
    → Living ctrl x (each (call i at) (start_of i lane s n).state (start_of i lane s n).calls).state (calls_made i at (start_of i lane s n).state (start_of i lane s n).calls)
line_live ctrl x i at lane s (line.Submit req node) off l =
    calls_live ctrl x i at (start_of i lane s (line.Submit req node)).state (submit req ∷ []) (tt, tt) l
line_live ctrl x i at lane s (line.Finish req) off l =
    calls_live ctrl x i at s (map finish (flights_with req (flights_of lane s)))
    (spares_finishes ctrl (flights_with req (flights_of lane s))) l
line_live ctrl x i at lane s line.FinishAll off l =
    calls_live ctrl x i at s (map finish (flights_of lane s)) (spares_finishes ctrl (flights_of lane s)) l
line_live ctrl x i at lane s line.Requeue off l =
    calls_live ctrl x i at (record s { waiting = [] }) (map submit s.waiting) (spares_submits ctrl s.waiting) l
line_live ctrl x i at lane s (line.Log d box) off l =
    page_live ctrl x i at s (page_at i.pages box) (reads_log i.topology.nsid d) (λ page. off) l
line_live ctrl x i at lane s (line.Ctrl d to) off l = calls_live ctrl x i at s (change d (op.Ctrl to) ∷ []) (off, tt) l
line_live ctrl x i at lane s (line.Anatt d) off l = calls_live ctrl x i at s (change d op.Expire ∷ []) (off, tt) l
line_live ctrl x i at lane s (line.Add d box) off l = adds_live ctrl x i at s d box l
line_live ctrl x i at lane s (line.Remove d) off l = calls_live ctrl x i at s (remove d ∷ []) (off, tt) l
line_live ctrl x i at lane s line.Reap off l = calls_live ctrl x i at s (reap ∷ []) (tt, tt) l
line_live ctrl x i at lane s (line.Policy policy) off l = calls_live ctrl x i at s (set_policy policy ∷ []) (tt, tt) l

abbrev TurnLeaves : ℕ → Option Numbered1 → Type 0
TurnLeaves ctrl None = Unit {0}
TurnLeaves ctrl (Some l) = Leaves ctrl l.line

turn_live : (ctrl x : ℕ) (i : Inputs) (lane : ℕ) (s : State) (turn : Option Numbered1) → TurnLeaves ctrl turn
    → LivesAt ctrl x s → Living ctrl x (turn_step i lane s turn).state (turn_calls i lane s turn)
turn_live ctrl x i lane s None off l =
    calls_live ctrl x i (place_of lane None) s (map finish (flights_of lane s))
    (spares_finishes ctrl (flights_of lane s)) l
turn_live ctrl x i lane s (Some n) off l = line_live ctrl x i (place_of lane (Some n)) lane s n.line off l

turns_live : (ctrl x : ℕ) (i : Inputs) (s : State) (ts : List Turn) → AllByRecursion (λ t. TurnLeaves ctrl t.line) ts
    → LivesAt ctrl x s → Living ctrl x (state_after s (taken i s ts)) (turns_calls i s ts)
turns_live ctrl x i s [] off l = record { there = l; all = tt }
turns_live ctrl x i s (t ∷ ts) off l =
    let u : State = (turn_step i t.lane s t.line).state in
    let one = turn_live ctrl x i t.lane s t.line off.0 l in
    living_both ctrl x u (state_after u (taken i u ts)) (turn_calls i t.lane s t.line) (turns_calls i u ts) one
    (turns_live ctrl x i u ts off.1 one.there)

requests_live : (ctrl x : ℕ) (i : Inputs) (s : State) (reqs : List ℕ) → LivesAt ctrl x s
    → Living ctrl x (each (sends_and_finishes i) s reqs).state (requests_calls i s reqs)
requests_live ctrl x i s [] l = record { there = l; all = tt }
requests_live ctrl x i s (req ∷ reqs) l =
    let t : State = (call i drain_place s (submit req)).state in
    let after = call_lives ctrl x i drain_place s (submit req) tt l in
    let tail =
    calls_live ctrl x i drain_place t (map finish (flights_of 16 t)) (spares_finishes ctrl (flights_of 16 t)) after in
    let u : State = (sends_and_finishes i s req).state in
    living_both ctrl x u (each (sends_and_finishes i) u reqs).state (request_calls i s req) (requests_calls i u reqs)
    (record { there = tail.there; all = (l, tail.all) }) (requests_live ctrl x i u reqs tail.there)

round_live : (ctrl x : ℕ) (i : Inputs) (s : State) → LivesAt ctrl x s
    → Living ctrl x (round i s).state (round_calls i s)
round_live ctrl x i s l = let all = requests_live ctrl x i (record s { waiting = [] }) s.waiting l in record
    { there = all.there; all = all.all }

rounds_live : (ctrl x : ℕ) (i : Inputs) (n : ℕ) (s : State) → LivesAt ctrl x s
    → AllByRecursion (λ c. LivesAt ctrl x c.before) (rounds_calls i n s)
rounds_live ctrl x i zero s l = (round_live ctrl x i s l).all
rounds_live ctrl x i (suc n) s l =
    let one = round_live ctrl x i s l in
    elim (cases_Bool (list_any is_sent (round i s).events)) [
      | inl on ↦ rw on
          (all-append (λ (c : Called). LivesAt ctrl x c.before) (round_calls i s) (rounds_calls i n (round i s).state) one.all (rounds_live ctrl x i n (round i s).state one.there))
      | inr off ↦ rw off (all-append (λ (c : Called). LivesAt ctrl x c.before) (round_calls i s) [] one.all tt)
    ]

drain_live : (ctrl x : ℕ) (i : Inputs) (s : State) → LivesAt ctrl x s
    → AllByRecursion (λ c. LivesAt ctrl x c.before) (drain_calls i s)
drain_live ctrl x i s l =
    let t : State = (reaps s).state in
    let cs : List Called = calls_made i drain_place s (map (λ slot. reap) s.removals) in
    let first = calls_live ctrl x i drain_place s (map (λ slot. reap) s.removals) (spares_reaps ctrl s.removals) l in
    let there : LivesAt ctrl x t =
    subst (LivesAt ctrl x) (ap (λ (z : Stepped). z.state) (sym (reaps_same i s s.removals))) first.there in
    all-append (λ (c : Called). LivesAt ctrl x c.before) cs (rounds_calls i (most_rounds i t) t) first.all
    (rounds_live ctrl x i (most_rounds i t) t there)

-- ---- lines of lanes are those of turns

line_there : (P : Option Numbered1 → Type 0) (lines : List Numbered1) (r : ℕ) → P None
    → AllByRecursion (λ l. P (Some l)) lines → P (slice_get lines r)
line_there P [] r none all = none
line_there P (l ∷ lines) zero none all = all.0
line_there P (l ∷ lines) (suc r) none all = line_there P lines r none all.1

of_line : (P : Option Numbered1 → Type 0) (lane : ℕ) (o : Option Numbered1) → P o
    → AllByRecursion (λ t. P t.line) (line_turn lane o)
of_line P lane None is = tt
of_line P lane (Some l) is = (is, tt)

of_turn : (P : Option Numbered1 → Type 0) (r lane : ℕ) (plan : LanePlan) → P None
    → AllByRecursion (λ l. P (Some l)) plan.lines → AllByRecursion (λ t. P t.line) (turn_in r (lane, plan))
of_turn P r lane plan none all =
    elim (cases_Bool (r == length plan.lines)) [
      | inl on ↦ rw on (none, tt)
      | inr off ↦ rw off (of_line P lane (slice_get plan.lines r) (line_there P plan.lines r none all))
    ]

of_round : (P : Option Numbered1 → Type 0) (r k : ℕ) (plans : List LanePlan) → P None
    → AllByRecursion (λ plan. AllByRecursion (λ l. P (Some l)) plan.lines) plans
    → AllByRecursion (λ t. P t.line) (flat_map (turn_in r) (enumerate_from k plans))
of_round P r k [] none all = tt
of_round P r k (p ∷ plans) none all =
    all-append (λ (t : Turn). P t.line) (turn_in r (k, p)) (flat_map (turn_in r) (enumerate_from (k + 1) plans))
    (of_turn P r k p none all.0) (of_round P r (k + 1) plans none all.1)

of_turns : (P : Option Numbered1 → Type 0) (plans : List LanePlan) (rs : List ℕ) → P None
    → AllByRecursion (λ plan. AllByRecursion (λ l. P (Some l)) plan.lines) plans
    → AllByRecursion (λ t. P t.line) (flat_map (round_of plans) rs)
of_turns P plans [] none all = tt
of_turns P plans (r ∷ rs) none all =
    all-append (λ (t : Turn). P t.line) (round_of plans r) (flat_map (round_of plans) rs)
    (of_round P r 0 plans none all) (of_turns P plans rs none all)

-- ---- what the readers give

-- the controller of a log line has ANA
has_ana_apart : (t : Topology) (ctrl d : ℕ) (c : Controller) → slice_get t.controllers ctrl ≡ Some c → c.ana ≡ false
    → HasAna true t.controllers d → (d == ctrl) ≡ false
has_ana_apart t ctrl d c is plain ana = by (d == ctrl) refl
  where
    at_place : (cs : List Controller) (n : ℕ) → slice_get cs n ≡ Some c → get_or cs n c ≡ c
    at_place [] n e = refl
    at_place (z ∷ cs) zero e = let one : Some z ≡ Some c = e in cc
    at_place (z ∷ cs) (suc n) e = at_place cs n e

    by : (b : Bool) → (d == ctrl) ≡ b → b ≡ false
    by false e = refl
    by true e =
        absurd
        (both_ways c.ana plain (ap (λ (z : Controller). z.ana) (sym (at_place t.controllers ctrl is)) ∙ ap (λ n. (get_or t.controllers n c).ana) (sym (eqb-true d ctrl e)) ∙ ana.1 c))

line_leaves : (t : Topology) (pages : ℕ) (submits : List ℕ) (keeper : Bool) (ctrl : ℕ) (c : Controller) (l : Line)
    → slice_get t.controllers ctrl ≡ Some c → c.ana ≡ false → IsLine t pages submits keeper l → names ctrl l ≡ false
    → Leaves ctrl l
line_leaves t pages submits keeper ctrl c (line.Log d box) there plain is off =
    has_ana_apart t ctrl d c there plain is.0
line_leaves t pages submits keeper ctrl c (line.Ctrl d to) there plain is off = off
line_leaves t pages submits keeper ctrl c (line.Anatt d) there plain is off = off
line_leaves t pages submits keeper ctrl c (line.Remove d) there plain is off = off
line_leaves t pages submits keeper ctrl c (line.Submit req node) there plain is off = tt
line_leaves t pages submits keeper ctrl c (line.Finish req) there plain is off = tt
line_leaves t pages submits keeper ctrl c line.FinishAll there plain is off = tt
line_leaves t pages submits keeper ctrl c line.Requeue there plain is off = tt
line_leaves t pages submits keeper ctrl c (line.Add d box) there plain is off = tt
line_leaves t pages submits keeper ctrl c line.Reap there plain is off = tt
line_leaves t pages submits keeper ctrl c (line.Policy policy) there plain is off = tt

any-append : {X : Type 0} (p : X → Bool) (xs ys : List X) → list_any p (xs ++ ys) ≡ false
    → (list_any p xs ≡ false) × (list_any p ys ≡ false)
any-append p [] ys e = (refl, e)
any-append p (x ∷ xs) ys e = let parts = or_false (p x) (list_any p (xs ++ ys)) e in let rest = any-append p xs ys
    parts.1 in ((λ j. parts.0 j || rest.0 j), rest.1)

lines_leave : (t : Topology) (pages : ℕ) (submits : List ℕ) (keeper : Bool) (ctrl : ℕ) (c : Controller)
    (lines : List Numbered1) → slice_get t.controllers ctrl ≡ Some c → c.ana ≡ false
    → AreLines t pages submits keeper lines
    → list_any (λ l. names ctrl l.line) lines ≡ false → AllByRecursion (λ l. TurnLeaves ctrl (Some l)) lines
lines_leave t pages submits keeper ctrl c [] there plain are off = tt
lines_leave t pages submits keeper ctrl c (l ∷ lines) there plain are off =
    let parts = or_false (names ctrl l.line) (list_any (λ l. names ctrl l.line) lines) off in
    (line_leaves t pages submits keeper ctrl c l.line there plain are.0 parts.0, lines_leave t pages submits keeper ctrl c lines there plain are.1 parts.1)

plans_leave : (t : Topology) (pages : ℕ) (submits : List ℕ) (ctrl : ℕ) (c : Controller) (plans : List LanePlan)
    → slice_get t.controllers ctrl ≡ Some c → c.ana ≡ false
    → AllByRecursion (λ plan. AreLines t pages submits plan.keeper plan.lines) plans
    → list_any (λ l. names ctrl l.line) (lines_in plans) ≡ false
    → AllByRecursion (λ plan. AllByRecursion (λ l. TurnLeaves ctrl (Some l)) plan.lines) plans
plans_leave t pages submits ctrl c [] there plain are off = tt
plans_leave t pages submits ctrl c (p ∷ plans) there plain are off =
    let parts = any-append (λ (l : Numbered1). names ctrl l.line) p.lines (lines_in plans) off in
    (lines_leave t pages submits p.keeper ctrl c p.lines there plain are.0 parts.0, plans_leave t pages submits ctrl c plans there plain are.1 parts.1)

-- the opening row of a live controller without ANA
live_is : (to : CState) → is_live to ≡ true → to ≡ Live
live_is Live e = refl
live_is New e = absurd cc
live_is Resetting e = absurd cc
live_is Connecting e = absurd cc
live_is Deleting e = absurd cc
live_is DeletingNoio e = absurd cc
live_is Dead e = absurd cc

plain_opens : (i : Inputs) (ctrl : ℕ) (c : Controller) → is_live c.state ≡ true → c.ana ≡ false
    → IsPlainRow ctrl (opening_row i ctrl (Some c))
plain_opens i ctrl c live plain =
    subst
    (λ (b : Bool). IsPlainRow ctrl (record (given_row 0 (gift_of i.topology.nsid ctrl (if b then Some (named_page i c.page) else None))) { cstate = c.state }))
    (sym plain)
    (record { ctrl_is = refl; live = live_is c.state live; state_is = refl; open_for = refl; is_ready = refl; plain = refl })

found_any : (p : ℕ → Bool) (xs : List ℕ) → list_any p xs ≡ true → (k : ℕ) × (k < length xs) × (p (get_or xs k 0) ≡ true)
found_any p [] e = absurd cc
found_any p (x ∷ xs) e = by (p x) refl e (found_any p xs)
  where
    by : (b : Bool) → p x ≡ b → (b || list_any p xs) ≡ true
        → (list_any p xs ≡ true → (k : ℕ) × (k < length xs) × (p (get_or xs k 0) ≡ true))
        → (k : ℕ) × (k < length (x ∷ xs)) × (p (get_or (x ∷ xs) k 0) ≡ true)
    by true is there later = (0, omega arith, is)
    by false is there later = let rest = later there in (suc rest.0, omega (arith, rest.1), rest.2)

in_range : (a n x : ℕ) → a ≤ x → x < a + n → is_among (range_with_len a n) x ≡ true
in_range a zero x low high = absurd (omega arith)
in_range a (suc n) x low high = by (a == x) refl (λ apart. in_range (a + 1) n x (omega (arith, apart)) (omega arith))
  where
    by : (b : Bool) → (a == x) ≡ b → ((a ≡ x → ⊥) → is_among (range_with_len (a + 1) n) x ≡ true)
        → (b || is_among (range_with_len (a + 1) n) x) ≡ true
    by true e later = refl
    by false e later = later (eqb-false a x e)

opening_lives : (i : Inputs) (x ctrl : ℕ) (c : Controller) → IsTopology i.topology → x < length i.topology.opening
    → get_or i.topology.opening x 0 ≡ ctrl → slice_get i.topology.controllers ctrl ≡ Some c → is_live c.state ≡ true
    → c.ana ≡ false
    → LivesAt ctrl x (opening i)
opening_lives i x ctrl c topology lt is there live plain =
    let n : ℕ = length i.topology.opening in
    let f : ℕ → Row = λ d. opening_row i d (slice_get i.topology.controllers d) in
    let count : length (range_with_len 0 n) ≡ n = length-range_with_len 0 n in
    let most = topology.opening_most in
    let slots : slots_of (opening i).order ≡ range_with_len 0 n =
    slots_next (opening i).order i.topology.policy (range_with_len 0 n) (omega (arith, count, most)) in
    let row : row_of (opening_rows i) x ≡ opening_row i ctrl (Some c) =
    row_inside f 15 15 x 0 (free_row 0) i.topology.opening lt (omega (arith, lt, most)) ∙ ap f is ∙ ap
    (opening_row i ctrl) there in
    record {
      listed = ap (λ (xs : List ℕ). is_among xs x) slots ∙ in_range 0 n x (omega arith) (omega (arith, lt));
      kept = refl;
      few = omega (arith, ap length slots, count, most);
      len = ap length (sym slots);
      row = subst (IsPlainRow ctrl) (sym row) (plain_opens i ctrl c live plain);
    }

run_live : (ctrl x : ℕ) (i : Inputs) (lanes : List LanePlan)
    → AllByRecursion (λ plan. AllByRecursion (λ l. TurnLeaves ctrl (Some l)) plan.lines) lanes
    → LivesAt ctrl x (opening i) → AllByRecursion (λ c. LivesAt ctrl x c.before) (run_calls i lanes)
run_live ctrl x i lanes off l =
    let ts : List Turn = turns_of lanes in
    let turns =
    turns_live ctrl x i (opening i) ts (of_turns (TurnLeaves ctrl) lanes (range_with_len 0 (longest lanes + 1)) tt off)
    l in
    all-append (λ (c : Called). LivesAt ctrl x c.before) (turns_calls i (opening i) ts)
    (drain_calls i (state_after (opening i) (taken i (opening i) ts))) turns.all
    (drain_live ctrl x i (state_after (opening i) (taken i (opening i) ts)) turns.there)

all_usable : (ctrl x : ℕ) (cs : List Called) → AllByRecursion (λ c. LivesAt ctrl x c.before) cs
    → AllByRecursion (λ c. has_usable (paths_of c.before) ≡ true) cs
all_usable ctrl x [] all = tt
all_usable ctrl x (c ∷ cs) all = (lives_usable ctrl x c.before all.0, all_usable ctrl x cs all.1)

plain_there : (o : Option Controller) → is_plain o ≡ true
    → (c : Controller) × (o ≡ Some c) × (is_live c.state ≡ true) × (c.ana ≡ false)
plain_there None e = absurd cc
plain_there (Some c) e = let parts = and_parts (is_live c.state) (not c.ana) e in
    (c, refl, parts.0, not-true c.ana parts.1)

pub run_usable : (world : World) (script : Script) → IsTopology world.topology
    → IsOver world.topology (length world.pages) script
    → list_any (stays_usable world.topology script.lanes) world.topology.opening ≡ true
    → AllByRecursion (λ c. has_usable (paths_of c.before) ≡ true) (run_calls (inputs_for world script) script.lanes)
run_usable world script topology over some =
    let t : Topology = world.topology in
    let i : Inputs = inputs_for world script in
    let found = found_any (stays_usable t script.lanes) t.opening some in
    let ctrl : ℕ = get_or t.opening found.0 0 in
    let parts =
    and_parts (is_plain (slice_get t.controllers ctrl))
    (not (list_any (λ (l : Numbered1). names ctrl l.line) (lines_in script.lanes))) found.2 in
    let c = plain_there (slice_get t.controllers ctrl) parts.0 in
    let off = not-true (list_any (λ (l : Numbered1). names ctrl l.line) (lines_in script.lanes)) parts.1 in
    all_usable ctrl found.0 (run_calls i script.lanes)
    (run_live ctrl found.0 i script.lanes (plans_leave t (length world.pages) (submits_in script.lanes) ctrl c.0 script.lanes c.1 c.3 over.lines off) (opening_lives i found.0 ctrl c.0 topology found.1 refl c.1 c.2 c.3))

-- ---- a try that is listed

-- Each policy chooses no path exactly where none is usable.
pub record NoneChosen : Type 0 where
  pub numa : (near : Near) (node : ℕ) (paths : List Path)
      → (numa_choice near node paths ≡ None) ↔ (has_usable paths ≡ false)
  pub round_robin : (last : Option ℕ) (paths : List Path)
      → (round_robin_choice last paths ≡ None) ↔ (has_usable paths ≡ false)
  pub queue_depth : (depth : ℕ → ℕ) (paths : List Path)
      → (queue_depth_choice depth paths ≡ None) ↔ (has_usable paths ≡ false)

none_chosen : (policy : Policy) (near : Near) (node : ℕ) (last : Option ℕ) (depth : ℕ → ℕ) (paths : List Path)
    → NoneChosen → choice_on policy near node last depth paths ≡ None → has_usable paths ≡ false
none_chosen Numa near node last depth paths law is = (law.numa near node paths).0 is
none_chosen RoundRobin near node last depth paths law is = (law.round_robin last paths).0 is
none_chosen QueueDepth near node last depth paths law is = (law.queue_depth depth paths).0 is

end_lists : (s : State) (req hop : ℕ) (choice : Option Path)
    → list_any is_listed (Try req hop (end_of s choice) ∷ []) ≡ true → choice ≡ None
end_lists s req hop None is = refl
end_lists s req hop (Some path) is = absurd cc

submit_lists : (law : NoneChosen) (near : Near) (lane : ℕ) (s : State) (req : ℕ)
    → list_any is_listed (submitted near lane s req).events ≡ true → has_usable (paths_of s) ≡ false
submit_lists law near lane s req is =
    let a : Asked = request_of s req in
    none_chosen s.order.policy near a.node (get_or s.lasts a.node None) (depth_of s) (paths_of s) law
    (end_lists s a.req (length a.tries + 1) (choice_by s.order.policy near s a.node) is)

-- a step that lists nothing
abbrev Unlisting : Stepped → Type 0
Unlisting step = list_any is_listed step.events ≡ false

changed_unlists : (at : Place) (s : State) (path : Path) (o : Op) (e : Effect) → Unlisting (changed_by at s path o e)
changed_unlists at s path o (effect.Changed row) = refl
changed_unlists at s path o (effect.Refused to) = refl
changed_unlists at s path o effect.NotArmed = refl

change_unlists : (at : Place) (s : State) (o : Op) (found : Option Path) → Unlisting (changed_path at s o found)
change_unlists at s o None = refl
change_unlists at s o (Some path) = changed_unlists at s path o (effect_of path.row o)

given_unlists : (at : Place) (s : State) (gift : Gift) (o : Option ℕ) → Unlisting (given_in at s gift o)
given_unlists at s gift None = refl
given_unlists at s gift (Some slot) =
    elim (cases_Bool (s.order.len == 8)) [ inl full ↦ rw full refl | inr room ↦ rw room refl ]

added_unlists : (at : Place) (s : State) (gift : Gift) (o : Option ℕ) → Unlisting (given_unless at s gift o)
added_unlists at s gift (Some slot) = refl
added_unlists at s gift None = given_unlists at s gift (free_slot s)

marked_unlists : (at : Place) (s : State) (o : Option Path) → Unlisting (marked at s o)
marked_unlists at s None = refl
marked_unlists at s (Some path) = refl

freed_unlists : (at : Place) (oldest : ℕ) (o : Option ℕ) (s : State) → Unlisting (freed_or_again at oldest o s)
freed_unlists at oldest None s = refl
freed_unlists at oldest (Some slot) s = refl

reap_unlists : (at : Place) (s : State) (slots : List ℕ) → Unlisting (reaped_from at s slots)
reap_unlists at s [] = refl
reap_unlists at s (oldest ∷ others) =
    let gone : List ℕ = filter (is_among (slots_of s.order)) (through_first (is_idle s) (oldest ∷ others)) in
    let first : Stepped = each (unlisted at) s gone in
    let last : Stepped = freed_or_again at oldest (find (is_idle s) (oldest ∷ others)) first.state in
    ap (λ (es : List Event). list_any is_listed (es ++ last.events)) (unlists_each at s gone).events ∙ freed_unlists at
    oldest (find (is_idle s) (oldest ∷ others)) first.state

-- where the call lists a request, no listed path is usable before it
abbrev pub ListsNone : Called → Type 0
ListsNone c = lists c ≡ true → has_usable (paths_of c.before) ≡ false

call_lists : (law : NoneChosen) (i : Inputs) (at : Place) (s : State) (c : Call) → ListsNone (called i at s c)
call_lists law i at s (submit req) is = submit_lists law i.topology.near at.lane s req is
call_lists law i at s (finish f) is = absurd (both_ways false refl is)
call_lists law i at s (change d o) is =
    absurd
    (both_ways (list_any is_listed (call i at s (change d o)).events) (change_unlists at s o (find (has_ctrl d) (paths_of s))) is)
call_lists law i at s (add gift) is =
    absurd
    (both_ways (list_any is_listed (call i at s (add gift)).events) (added_unlists at s gift (slot_with s gift.ctrl)) is)
call_lists law i at s (remove d) is =
    absurd
    (both_ways (list_any is_listed (call i at s (remove d)).events) (marked_unlists at s (find (λ path. has_ctrl d path && not (is_among s.removals path.slot)) (paths_of s))) is)
call_lists law i at s (set_policy policy) is = absurd (both_ways false refl is)
call_lists law i at s reap is =
    absurd (both_ways (list_any is_listed (call i at s reap).events) (reap_unlists at s s.removals) is)

pub run_lists_none : (law : NoneChosen) (i : Inputs) (lanes : List LanePlan)
    → AllByRecursion (λ c. lists c ≡ true → has_usable (paths_of c.before) ≡ false) (run_calls i lanes)
run_lists_none law i lanes = of_run ListsNone i lanes (λ at s c asked. call_lists law i at s c)
