use Rattle.std.proofs.Common.{◌≡◌, ℕ, arith, string_bytes, sym, ap, get_or}
use Rattle.mp_words.specs.declared.answers.Answer.{Answer}
use Rattle.mp_script.specs.Written.{line_text, answer_words}
use Rattle.mp_script.proofs.WrittenParts.{text_more}
use Rattle.mp_script.proofs.writing.put_answers.Goals as goal

pub loop-place-preserved : goal.loop-place-preserved
loop-place-preserved c =
    let answer : Answer = record { req = c.at-req.result.0; attempt = c.at-req.result.1; status = c.at-req.result.2 } in
    let is : get_or c.args.answers.now c.loop-place.place answer ≡ answer = ap (λ (t : ℕ × ℕ × ℕ). record { req = t.0; attempt = t.1; status = t.2 }) (sym (c.at-req.ensures.answer answer)) in
    text_more (λ a. line_text (answer_words a)) c.args.answers.now c.loop-place.place answer (string_bytes c.args.text.now) (string_bytes c.loop-place.text) _
    (omega (arith, c.loop-place-test.true)) is c.loop-place.invariant c.in_ok-put_answer.ensures
