use Rattle.std.proofs.Common.{◌<◌, arith}
use Rattle.mp_script.proofs.Pieces.{digits_first, digits_behind}
use Rattle.mp_script.proofs.splitting.split_digits.Goals as goal

pub returns-clause-word : goal.returns-clause-word
returns-clause-word c =
    let some : 0 < c.digits_len-len.result.0 = omega (arith, c.if-len-eq0.false) in
    rw (c.split_at.ensures.front, c.split_at.ensures.back) (digits_first c.args.bytes.now c.digits_len-len.result.0 some c.digits_len-len.ensures.within c.digits_len-len.ensures.word (λ _. c.digits_len-len.ensures.ends some))

pub returns-clause-behind : goal.returns-clause-behind
returns-clause-behind c = rw c.split_at.ensures.back (digits_behind c.args.bytes.now c.digits_len-len.result.0 c.digits_len-len.ensures.word)
