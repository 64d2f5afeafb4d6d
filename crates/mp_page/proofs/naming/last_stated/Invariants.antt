use Rattle.std.proofs.Common.{◌≡◌, None, filter, option_map, take}
use Rattle.std.specs.List.{last_or}
use Rattle.mp_page.specs.Gifts
use Rattle.mp_page.proofs.naming.last_stated.Given as goal

abbrev pub invariant-loop-group : goal.invariant-loop-group
invariant-loop-group l = l.stated ≡ option_map (λ group. group.state) (last_or None (filter (Gifts.names l.nsid) (take l.group-index l.groups)))
