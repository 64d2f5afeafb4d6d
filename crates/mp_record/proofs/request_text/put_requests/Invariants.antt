use Rattle.std.proofs.Common.{◌≡◌, ◌++◌, take}
use Rattle.std.specs.List.{flat_map}
use Rattle.mp_record.specs.NotedText.{asked_line}
use Rattle.mp_record.proofs.request_text.put_requests.Given as goal

-- the lines so far stand in the text
abbrev pub invariant-loop-request : goal.invariant-loop-request
invariant-loop-request l = l.text.items ≡ l.initial.text.items ++ flat_map (asked_line l.topology l.rows) (take l.request-index l.requests)
