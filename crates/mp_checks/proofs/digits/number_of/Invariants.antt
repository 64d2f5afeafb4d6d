use Rattle.std.proofs.Common.{◌≡◌, ◌<◌, ◌^◌, drop}
use Rattle.mp_checks.specs.Digits.{digits_from}
use Rattle.mp_checks.proofs.digits.number_of.Given as goal

abbrev pub invariant-loop-b : goal.invariant-loop-b
invariant-loop-b l = record {
  digits : digits_from l.n (drop l.b-index l.word) ≡ digits_from 0 l.word;
  small : l.n < 10 ^ l.b-index;
}
