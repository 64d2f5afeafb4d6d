use Rattle.std.proofs.Common.{◌≡◌, ◌≤◌, ◌++◌, take, codes}
use Rattle.std.specs.List.{flat_map}
use Rattle.std.specs.Fmt.{decimal}
use Rattle.mp_line.proofs.list.place_joined.Given as goal

-- the numbers so far stand in the text and the line, each behind a comma
abbrev pub invariant-loop-n : goal.invariant-loop-n
invariant-loop-n l = record {
  bytes : l.text.items ++ take l.at l.line ≡ l.initial.text.items ++ take l.initial.at l.initial.line ++ flat_map (λ other. codes "," ++ decimal other) (take l.n-index l.rest);
  room : l.at ≤ 128;
}
