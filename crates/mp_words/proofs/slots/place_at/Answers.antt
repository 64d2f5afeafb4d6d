use Rattle.std.proofs.Common.{◌≡◌, ◌∙◌, ◌<◌, ◌+◌, inl, inr, ◌==◌, ℕ, true, false, take, length, get_or, sym, arith}
use Rattle.std.proofs.lemmas.List.{length-take, get_or-take}
use Rattle.std.proofs.lemmas.Grind.{get_or_default_zero}
use Rattle.std.proofs.lemmas.Bool.Decides.{nat_tests}
use Rattle.mp_words.proofs.Places.{place_hit, place_miss, cases_lt}
use Rattle.mp_words.proofs.slots.place_at.Goals as goal

pub returns-then-get : goal.returns-then-get
returns-then-get c =
    let slots = c.args.slots.now in
    let k = c.loop-place.place in
    let len : length (take c.args.len slots) ≡ c.args.len = omega (arith, length-take c.args.len slots) in
    let is : get_or slots k 0 ≡ c.args.slot = sym (c.index-slots-place.is ∙ get_or_default_zero slots k c.index-slots-place.result (omega arith)) ∙ cc in
    let hit : (get_or (take c.args.len slots) k 0 == c.args.slot) ≡ true = rw (get_or-take c.args.len slots k 0 (omega arith), is) (grind (arith, nat_tests)) in
    sym (place_hit c.args.slot (take c.args.len slots) k (omega arith) (λ j below. rw (get_or-take c.args.len slots j 0 (omega arith)) (c.loop-place.invariant.0 j below)) hit)

pub returns : goal.returns
returns c =
    let slots = c.args.slots.now in
    let len : length (take c.args.len slots) ≡ c.args.len = omega (arith, length-take c.args.len slots, c.loop-place.invariant.1) in
    let r = place_miss c.args.slot (take c.args.len slots) (λ j below. rw (get_or-take c.args.len slots j 0 (omega arith)) (c.loop-place.invariant.0 j (omega arith))) in
    omega arith

pub loop-place-preserved : goal.loop-place-preserved
loop-place-preserved c = (
  λ j below.
      let slots = c.args.slots.now in
      let k = c.loop-place.place in
      let is = c.index-slots-place.is ∙ get_or_default_zero slots k c.index-slots-place.result (omega arith) in
      let apart : (get_or slots k 0 == c.args.slot) ≡ false = grind (arith, nat_tests) in
      more slots k c.args.slot c.loop-place.invariant.0 apart j below,
  c.loop-place.invariant.1,
)
  where
    more : (xs : _) (k s : ℕ) → ((j : ℕ) → j < k → (get_or xs j 0 == s) ≡ false) → (get_or xs k 0 == s) ≡ false → (j : ℕ) → j < k + 1 → (get_or xs j 0 == s) ≡ false
    more xs k s before here j below = elim (cases_lt j k) [ inl l ↦ before j l | inr l ↦ (let e : j ≡ k = omega arith in rw e here) ]
