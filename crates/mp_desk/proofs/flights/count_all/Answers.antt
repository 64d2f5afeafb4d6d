use Rattle.std.proofs.Common.{ap, sym, ◌∙◌, ◌≡◌, ◌+◌, ◌++◌, ◌∷◌, [], ℕ, true, false, cond, length, inl, inr, take, arith}
use mir.Val.{bool_byte}
use Rattle.std.proofs.lemmas.Bool.{cases_Bool}
use Rattle.std.proofs.lemmas.List.{take_all, take_more}
use Rattle.mp_desk.specs.Indexed.{flying, flying_of, is_at, is_there}
use Rattle.mp_desk.proofs.Indexed.{count_more, one_there, none_there}
use Rattle.mp_desk.proofs.flights.count_all.Goals as goal
use Rattle.mp_desk.proofs.flights.count_all.Goals.{then-is_there, else-is_there}

pub returns-then-not-twice : goal.returns-then-not-twice
returns-then-not-twice c =
    let placed = c.requires.placed c.if-not-twice.true in
    let sent = c.args.sent.now in
    let named = ap (λ m. length (flying_of m (flying sent))) c.in-Some.is in
    let at = sym (ap (is_at sent c.at.result) c.in-Some.is) ∙ sym c.is_at.ensures in
    elim (cases_Bool c.is_at.result) [
      | inl has ↦ c.from.ensures ∙ ap bool_byte has ∙ sym (named ∙ one_there c.args.index.now 0 c.at.result c.in-Some.req sent placed (omega (arith, c.at.ensures)) (at ∙ has))
      | inr hasnt ↦ c.from.ensures ∙ ap bool_byte hasnt ∙ sym (named ∙ ap length (none_there c.args.index.now 0 c.at.result c.in-Some.req sent placed (omega (arith, c.at.ensures)) (at ∙ hasnt)))
    ]

pub overflow_add-count : goal.overflow_add-count
overflow_add-count c = omega (arith, c.loop-place.invariant.1, c.loop-place-test.true)

-- one place more
more : (c : goal.Joined-is_there) → length (flying_of c.args.named.now (flying (take (c.loop-place.place-index + 1) c.args.sent.now))) ≡ c.loop-place.count + cond (is_there c.args.named.now c.place-item.result) 1 0
more c =
    count_more c.args.named.now c.loop-place.place-index c.args.sent.now c.place-item.result (take_more c.args.sent.now c.loop-place.place-index c.place-item.result c.loop-place-test.true ∙ ap (λ o. take c.loop-place.place-index c.args.sent.now ++ o ∷ []) (sym c.place-item.is))
    ∙ ap (λ (n : ℕ). n + cond (is_there c.args.named.now c.place-item.result) 1 0) (sym c.loop-place.invariant.0)

pub loop-place-preserved : goal.loop-place-preserved
loop-place-preserved c =
    let all = more c in
    elim c.if-is_there.branch [
      | then-is_there w ↦ let has : is_there c.args.named.now c.place-item.result ≡ true = sym c.is_there.ensures ∙ w.if-is_there.true in
          let e = rw has at all in (omega (arith, e, w.count-is), omega (arith, w.count-is, c.loop-place.invariant.1))
      | else-is_there w ↦ let hasnt : is_there c.args.named.now c.place-item.result ≡ false = sym c.is_there.ensures ∙ w.if-is_there.false in
          let e = rw hasnt at all in (omega (arith, e, w.count-is), omega (arith, w.count-is, c.loop-place.invariant.1))
    ]

pub returns : goal.returns
returns c = c.loop-place.invariant.0 ∙ ap (λ l. length (flying_of c.args.named.now (flying l))) (take_all c.loop-place.place-index c.args.sent.now c.loop-place-test.false)
