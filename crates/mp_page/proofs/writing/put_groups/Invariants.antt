use Rattle.std.proofs.Common.{◌≡◌, ◌++◌, take}
use Rattle.std.specs.List.{flat_map, All}
use Rattle.mp_page.specs.Written.{group_bytes, Fits}
use Rattle.mp_page.proofs.writing.put_groups.Given as goal

abbrev pub invariant-loop-group : goal.invariant-loop-group
invariant-loop-group l = record {
  bytes : l.out.items ≡ l.fn.out.items ++ flat_map group_bytes (take l.group-index l.groups);
  fits : All Fits (take l.group-index l.groups);
}
