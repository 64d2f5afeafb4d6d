use Rattle.std.proofs.Common.{◌≡◌, ◌<◌, ◌^◌, drop}
use Rattle.mp_words.specs.Status.{hex_from}
use Rattle.mp_words.proofs.status.status_in.Given as goal

abbrev pub invariant-loop-b : goal.invariant-loop-b
invariant-loop-b l = record {
  digits : hex_from l.status (drop l.b-index l.word) ≡ hex_from 0 l.word;
  small : l.status < 16 ^ l.b-index;
}
