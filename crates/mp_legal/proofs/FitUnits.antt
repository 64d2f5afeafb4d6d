-- Each call uses at most the units that it needs.
use Rattle.std.proofs.Common.{◌≡◌, ℕ, suc, ◌+◌, ◌≤◌, ◌==◌, ◌||◌, ◌&&◌, not, Bool, true, List, [], ◌∷◌, ◌++◌, inl, inr, length, Option, Some, None, refl, sym, ap, ◌∙◌, subst, arith}
use Rattle.std.specs.Prelude.{find, filter}
use Rattle.std.specs.List.{count_by}
use Rattle.std.proofs.lemmas.Bool.{cases_Bool, eq-eqb}
use Rattle.std.proofs.lemmas.List.{length-append}
use Rattle.mp_words.specs.declared.op.Gift.{Gift}
use Rattle.mp_words.specs.declared.path.Path.{Path}
use Rattle.mp_words.specs.Order.{slots_of}
use Rattle.mp_words.specs.PathTable.{has_ctrl}
use Rattle.mp_words.specs.Request.{Tried, attempts_of}
use Rattle.mp_words.specs.declared.trying.Back.{Back}
use Rattle.mp_record.specs.declared.event.Event.TheVariants.{Fin}
use Rattle.mp_submit.specs.Finishes.{six_of}
use Rattle.mp_script.specs.Distinct.{IsDistinct}
use Rattle.mp_legal.specs.Answers.{hop_statuses, class_of_hop, through_first}
use Rattle.mp_legal.specs.PlainState.{State, request_of, paths_of}
use Rattle.mp_legal.specs.PlainCall.{Inputs, Call, submit, finish, change, add, remove, set_policy, reap, call}
use Rattle.mp_legal.specs.PlainFinish.{back_of}
use Rattle.mp_legal.specs.PlainKeep.{slot_with, free_slot, given_in, given_unless, marked, is_among, without, unlisted, freed_or_again, reaped_from, is_idle}
use Rattle.mp_legal.specs.Stepped.{Stepped, Place, each}
use Rattle.mp_legal.specs.Units.{needs, uses, came_back}
use Rattle.mp_legal.proofs.EachCall.{unlists_each}
use Rattle.mp_legal.proofs.KeptWords.{slots_next}
use Rattle.mp_legal.proofs.PlainWalk.{among_others}
use Rattle.mp_legal.proofs.Walking.{few_without}
use Rattle.mp_legal.proofs.FitMoves.{shorter}
use Rattle.mp_legal.proofs.FitCalls.{FitsAt, Kept, kept_unlisted, apart_from, or_right, filter_once, filter_passes, through_once}

-- as many lists are made as slots leave the list
lists_made : (at : Place) (s : State) (gone : List ℕ) → IsDistinct gone
    → ((x : ℕ) → is_among gone x ≡ true → is_among (slots_of s.order) x ≡ true) → FitsAt s
    → length (each (unlisted at) s gone).orders + length (slots_of (each (unlisted at) s gone).state.order) ≡ length (slots_of s.order)
lists_made at s [] d there fits = omega arith
lists_made at s (slot ∷ gone) d there fits =
    let listed : is_among (slots_of s.order) slot ≡ true =
    there slot (ap (λ (b : Bool). b || is_among gone slot) (eq-eqb slot slot refl)) in
    let one : Kept s.rows s.order s (unlisted at s slot) = kept_unlisted s.rows s.order at s slot listed fits in
    let t : State = (unlisted at s slot).state in
    let was : length (slots_of s.order) ≤ 8 = omega (arith, fits.len, fits.list.few) in
    let slots : slots_of t.order ≡ without slot (slots_of s.order) =
    slots_next s.order s.order.policy (without slot (slots_of s.order)) (few_without slot (slots_of s.order) was) in
    let rest =
    lists_made at t gone d.1
    (λ x e. ap (λ (xs : List ℕ). is_among xs x) slots ∙ among_others slot x (slots_of s.order) (apart_from gone slot x d.0 e) ∙ there x (or_right (slot == x) (is_among gone x) e))
    one.fits in
    let fewer : length (slots_of s.order) ≡ suc (length (without slot (slots_of s.order))) =
    shorter slot (slots_of s.order) fits.list.once listed in
    let count : length (slots_of t.order) ≡ length (without slot (slots_of s.order)) = ap length slots in
    omega (arith, rest, fewer, count)

freed_rows : (at : Place) (oldest : ℕ) (o : Option ℕ) (s : State)
    → length (freed_or_again at oldest o s).rows + length (freed_or_again at oldest o s).orders ≤ 1
freed_rows at oldest None s = omega arith
freed_rows at oldest (Some slot) s = omega arith

reap_few : (at : Place) (s : State) (slots : List ℕ) → slots ≡ s.removals → FitsAt s
    → length (reaped_from at s slots).rows + length (reaped_from at s slots).orders ≤ 16
reap_few at s [] is fits = omega arith
reap_few at s (oldest ∷ others) is fits =
    let slots : List ℕ = oldest ∷ others in
    let gone : List ℕ = filter (is_among (slots_of s.order)) (through_first (is_idle s) slots) in
    let once : IsDistinct slots = subst IsDistinct (sym is) fits.once in
    let step : Stepped = each (unlisted at) s gone in
    let last : Stepped = freed_or_again at oldest (find (is_idle s) slots) step.state in
    let made =
    lists_made at s gone
    (filter_once (is_among (slots_of s.order)) (through_first (is_idle s) slots) (through_once (is_idle s) slots once))
    (λ x e. filter_passes (is_among (slots_of s.order)) (through_first (is_idle s) slots) x e) fits in
    let none : length step.rows ≡ 0 = ap length (unlists_each at s gone).rows in
    let rows : length (step.rows ++ last.rows) ≡ length step.rows + length last.rows =
    length-append step.rows last.rows in
    let orders : length (step.orders ++ last.orders) ≡ length step.orders + length last.orders =
    length-append step.orders last.orders in
    let few = freed_rows at oldest (find (is_idle s) slots) step.state in
    omega (arith, made, none, rows, orders, few, fits.len, fits.list.few)

add_few : (at : Place) (s : State) (gift : Gift) (o : Option ℕ)
    → length (given_in at s gift o).rows + length (given_in at s gift o).orders ≤ 2
add_few at s gift None = omega arith
add_few at s gift (Some slot) =
    elim (cases_Bool (s.order.len == 8)) [ inl full ↦ rw full (omega arith) | inr room ↦ rw room (omega arith) ]

added_few : (at : Place) (s : State) (gift : Gift) (o : Option ℕ)
    → length (given_unless at s gift o).rows + length (given_unless at s gift o).orders ≤ 2
added_few at s gift (Some slot) = omega arith
added_few at s gift None = add_few at s gift (free_slot s)

marked_few : (at : Place) (s : State) (o : Option Path)
    → length (marked at s o).rows + length (marked at s o).orders ≤ 1
marked_few at s None = omega arith
marked_few at s (Some path) = omega arith

back_few : (req hop count : ℕ) (statuses : List ℕ) (way : Option Back)
    → count_by came_back (Fin req hop statuses count way ∷ []) ≤ 1
back_few req hop count statuses None = omega arith
back_few req hop count statuses (Some way) = omega arith

pub uses_few : (i : Inputs) (at : Place) (s : State) (c : Call) → FitsAt s → uses c (call i at s c) ≤ needs c
uses_few i at s (submit req) fits = omega arith
uses_few i at s (finish f) fits =
    let tries : List Tried = (request_of s f.req).tries in
    let statuses : List ℕ = hop_statuses i.answers f.req (attempts_of tries + 1) in
    back_few f.req (length tries) (length statuses) (six_of statuses)
    (back_of at.lane s f (length tries) (class_of_hop statuses))
uses_few i at s (change ctrl o) fits = omega arith
uses_few i at s (add gift) fits = added_few at s gift (slot_with s gift.ctrl)
uses_few i at s (remove ctrl) fits =
    marked_few at s (find (λ path. has_ctrl ctrl path && not (is_among s.removals path.slot)) (paths_of s))
uses_few i at s (set_policy policy) fits = omega arith
uses_few i at s reap fits = reap_few at s s.removals refl fits
