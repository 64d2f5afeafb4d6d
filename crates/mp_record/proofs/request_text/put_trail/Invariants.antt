use Rattle.std.proofs.Common.{◌≡◌, ◌++◌}
use Rattle.mp_line.specs.Words.{joined}
use Rattle.mp_record.specs.RunText.{as_written}
use Rattle.mp_record.proofs.Joined.{has_items}
use Rattle.mp_record.proofs.Trails.{trail_of}
use Rattle.mp_record.proofs.request_text.put_trail.Given as goal

-- the names of the tries so far stand in the text
abbrev pub invariant-loop-place : goal.invariant-loop-place
invariant-loop-place l = record {
  text : l.text.items ≡ l.initial.text.items ++ joined as_written (trail_of l.topology l.rows l.tries.items l.place);
  further : l.further ≡ has_items (trail_of l.topology l.rows l.tries.items l.place);
}
