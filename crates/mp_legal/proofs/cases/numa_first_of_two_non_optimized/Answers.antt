use Rattle.std.proofs.Common.{refl}
use Rattle.std.specs.Fmt.{digits, padded_integral, char_count}
use Rattle.mp_legal.proofs.cases.numa_first_of_two_non_optimized.Goals as goal

pub returns : goal.returns
unfolding digits padded_integral char_count
returns c = refl
