use Rattle.std.proofs.Common.{◌≡◌, ◌<◌, [], ◌∷◌, map, None, Some, refl, sym, ap, ◌∙◌, rules, arith, ◌%◌, ◌^◌, bit_and}
use Rattle.std.proofs.lemmas.Grind.{common_steps}
use Rattle.mp_words.specs.OrderWord.{listed_in_order, word_places, policy_of, slot_or_zero}
use Rattle.mp_words.specs.WordBits.{word_bits}
use Rattle.mp_words.proofs.Orders.{none_of, some_of}
use Rattle.mp_words.proofs.order.order_from.Goals as goal

pub returns-in_err-len : goal.returns-in_err-len
returns-in_err-len c =
    let r : c.from_residual-in_err-len.result ≡ None = search rules in
    let p : (c.place_in-first.result ∷ c.place_in-second.result ∷ c.place_in-third.result ∷ c.place_in-fourth.result ∷ c.place_in-fifth.result ∷ c.place_in-sixth.result ∷ c.place_in-seventh.result ∷ c.place_in-eighth.result ∷ []) ≡ word_places c.args.word = rw c.place_in-first.ensures.value (rw c.place_in-second.ensures.value (rw c.place_in-third.ensures.value (rw c.place_in-fourth.ensures.value (rw c.place_in-fifth.ensures.value (rw c.place_in-sixth.ensures.value (rw c.place_in-seventh.ensures.value (rw c.place_in-eighth.ensures.value (refl)))))))) in
    let e : listed_in_order (c.place_in-first.result ∷ c.place_in-second.result ∷ c.place_in-third.result ∷ c.place_in-fourth.result ∷ c.place_in-fifth.result ∷ c.place_in-sixth.result ∷ c.place_in-seventh.result ∷ c.place_in-eighth.result ∷ []) ≡ None = search rules in
    r ∙ sym (none_of c.args.word (sym (ap listed_in_order p) ∙ e))

pub returns : goal.returns
returns c =
    let p : (c.place_in-first.result ∷ c.place_in-second.result ∷ c.place_in-third.result ∷ c.place_in-fourth.result ∷ c.place_in-fifth.result ∷ c.place_in-sixth.result ∷ c.place_in-seventh.result ∷ c.place_in-eighth.result ∷ []) ≡ word_places c.args.word = rw c.place_in-first.ensures.value (rw c.place_in-second.ensures.value (rw c.place_in-third.ensures.value (rw c.place_in-fourth.ensures.value (rw c.place_in-fifth.ensures.value (rw c.place_in-sixth.ensures.value (rw c.place_in-seventh.ensures.value (rw c.place_in-eighth.ensures.value (refl)))))))) in
    let e : listed_in_order (c.place_in-first.result ∷ c.place_in-second.result ∷ c.place_in-third.result ∷ c.place_in-fourth.result ∷ c.place_in-fifth.result ∷ c.place_in-sixth.result ∷ c.place_in-seventh.result ∷ c.place_in-eighth.result ∷ []) ≡ Some c.in_ok-len.len = search rules in
    let s : (c.slot_or_zero.result ∷ c.slot_or_zero-2.result ∷ c.slot_or_zero-3.result ∷ c.slot_or_zero-4.result ∷ c.slot_or_zero-5.result ∷ c.slot_or_zero-6.result ∷ c.slot_or_zero-7.result ∷ c.slot_or_zero-8.result ∷ []) ≡ map slot_or_zero (word_places c.args.word) = rw c.slot_or_zero.ensures (rw c.slot_or_zero-2.ensures (rw c.slot_or_zero-3.ensures (rw c.slot_or_zero-4.ensures (rw c.slot_or_zero-5.ensures (rw c.slot_or_zero-6.ensures (rw c.slot_or_zero-7.ensures (rw c.slot_or_zero-8.ensures (rw c.place_in-first.ensures.value (rw c.place_in-second.ensures.value (rw c.place_in-third.ensures.value (rw c.place_in-fourth.ensures.value (rw c.place_in-fifth.ensures.value (rw c.place_in-sixth.ensures.value (rw c.place_in-seventh.ensures.value (rw c.place_in-eighth.ensures.value (refl)))))))))))))))) in
    let v : bit_and c.args.word 1073741823 ≡ c.args.word % 2 ^ 30 = grind (arith, common_steps) in
    let l : word_bits 30 2 c.args.word < 3 = grind (arith, common_steps) in
    let y : c.in_ok-policy.policy ≡ policy_of (word_bits 30 2 c.args.word) = grind (arith, common_steps) in
    rw s (some_of c.args.word (bit_and c.args.word 1073741823) c.in_ok-policy.policy c.in_ok-len.len v l y (sym (ap listed_in_order p) ∙ e))
