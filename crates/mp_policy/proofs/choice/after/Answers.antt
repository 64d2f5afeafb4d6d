use Rattle.std.proofs.Common.{◌≡◌, ◌∙◌, ◌≤◌, length, sym, ap, arith}
use Rattle.std.specs.List.{position_or_len}
use Rattle.mp_words.specs.PathTable.{paths_of, has_slot}
use Rattle.mp_policy.specs.Choices.{choice_after, next_choice, round_robin_choice, walk_from}
use Rattle.mp_policy.specs.Walks.{walk_after, after_walk}
use Rattle.mp_policy.proofs.Walks.{walked, found_at, slot_at, missed}
use Rattle.mp_policy.proofs.choice.after.Goals as goal

pub returns-then-place-count : goal.returns-then-place-count
returns-then-place-count c =
    let paths = paths_of c.args.reading.now in
    let slot = c.in-Some.slot in
    let p = c.position-place.result in
    let path = c.path_at-path.result in
    let at = c.path_at-path.ensures.path in
    let below = c.path_at-path.ensures.within in
    let is = c.position-place.ensures in
    let walk : walk_after p paths ≡ walk_from path.slot paths =
    ap (λ k. walk_after k paths) is ∙ ap (λ s. walk_from s paths) (sym (slot_at slot paths p path is below at)) in
    c.after_walk.ensures ∙ ap (after_walk path) (c.walk.ensures ∙ walked (walk_after p paths) _) ∙ ap (next_choice path) walk
    ∙ sym (ap (λ o. choice_after o paths) (found_at slot paths p path is below at)) ∙ ap (λ o. round_robin_choice o paths) (sym c.in-Some.is)

pub returns-else-place-count : goal.returns-else-place-count
returns-else-place-count c =
    let paths = paths_of c.args.reading.now in
    let slot = c.in-Some.slot in
    let past : length paths ≤ position_or_len (has_slot slot) paths = (let l = c.count.ensures.length in let is = c.position-place.ensures in omega arith) in
    c.nearest_of_both-else-place-count.ensures ∙ sym (ap (λ o. choice_after o paths) (missed slot paths past)) ∙ ap (λ o. round_robin_choice o paths) (sym c.in-Some.is)
