use Rattle.std.proofs.Common.{take, arith}
use Rattle.mp_line.proofs.Decimals.{digit-more}
use Rattle.mp_line.proofs.line.place_three_digits.Goals as goal

pub returns-clause-bytes : goal.returns-clause-bytes
returns-clause-bytes c = digit-more c.args.n (take c.args.at c.args.line.now) (take c.place_two_digits-at.result c.place_two_digits-at.new.line) (take c.place_byte.result c.place_byte.new.line) (omega arith) (omega arith) c.place_two_digits-at.ensures.bytes c.place_byte.ensures.bytes
