use Rattle.std.proofs.Common.{◌≡◌, ◌≤◌, ◌+◌, ◌*◌, ◌++◌, length, take, codes}
use Rattle.std.specs.List.{flat_map}
use Rattle.mp_words.specs.Status.{status_word}
use Rattle.mp_line.proofs.line.place_statuses.Given as goal

-- those so far stand in the line, each behind a comma
abbrev pub invariant-loop-status : goal.invariant-loop-status
invariant-loop-status l = record {
  bytes : take l.at l.line ≡ take l.initial.at l.initial.line ++ flat_map (λ other. codes "," ++ status_word other) (take l.status-index l.rest);
  end : l.at ≡ l.initial.at + 5 * l.status-index;
  room : l.initial.at + 26 ≤ 128;
  few : length l.rest ≤ 5;
}
