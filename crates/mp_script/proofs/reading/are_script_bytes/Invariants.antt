use Rattle.std.proofs.Common.{◌≡◌, take}
use Rattle.std.specs.List.{list_all}
use Rattle.mp_script.specs.Splitting.{is_script_byte}
use Rattle.mp_script.proofs.reading.are_script_bytes.Given as goal

abbrev pub invariant-loop-b : goal.invariant-loop-b
invariant-loop-b l = l.good ≡ list_all is_script_byte (take l.b-index l.bytes)
