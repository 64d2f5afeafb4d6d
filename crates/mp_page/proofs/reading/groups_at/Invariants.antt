use Rattle.std.proofs.Common.{◌≡◌, ◌-◌, ◌+◌, ◌++◌, length}
use Rattle.mp_checks.specs.Checks.{first_fault}
use Rattle.mp_page.specs.Page.{groups_checks, groups_of}
use Rattle.mp_page.proofs.reading.groups_at.Given as goal

abbrev pub invariant-loop : goal.invariant-loop
invariant-loop l = record {
  whole : l.offset + length l.rest ≡ 16 + length l.bytes;
  fault : first_fault (groups_checks l.max (l.count - l.counter) l.offset l.rest) ≡ first_fault (groups_checks l.max l.count 16 l.bytes);
  found : l.groups.items ++ groups_of (l.count - l.counter) l.rest ≡ groups_of l.count l.bytes;
}
