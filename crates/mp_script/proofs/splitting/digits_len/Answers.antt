use Rattle.std.proofs.Common.{◌≡◌, true, get_or, sym, ◌∙◌}
use Rattle.mp_script.specs.Splitting.{is_digit}
use Rattle.mp_script.proofs.Pieces.{digits_text, digits_more}
use Rattle.mp_script.proofs.splitting.digits_len.Goals as goal

pub returns-then-is_end-clause-word : goal.returns-then-is_end-clause-word
returns-then-is_end-clause-word c = digits_text c.args.word.now c.loop-i.i c.loop-i.n c.loop-i.invariant

pub loop-i-preserved : goal.loop-i-preserved
loop-i-preserved c =
    let digit : is_digit (get_or c.args.word.now c.loop-i.i 0) ≡ true = sym c.is_ascii_digit.ensures.value ∙ c.if-not-is_ascii_digit.false in
    rw c.from.ensures (digits_more c.args.word.now c.loop-i.i c.loop-i.n c.loop-i-test.true c.loop-i.invariant digit)
