use Rattle.std.proofs.Common.{arith}
use Rattle.mp_words.proofs.ToldTries.{attempts-few}
use Rattle.mp_words.proofs.request.Request.attempts.Goals as goal

pub returns-clause-most : goal.returns-clause-most
returns-clause-most c = omega (arith, c.self.invariant.0, c.self.invariant.1, attempts-few c.self.inside.tries.items c.self.invariant.2)
