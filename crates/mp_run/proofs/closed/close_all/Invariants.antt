use Rattle.std.proofs.Common.{◌≡◌, ◌++◌, true, map}
use Rattle.std.specs.List.{flat_map, AllByRecursion}
use Rattle.mp_record.specs.RunView.{events_of}
use Rattle.mp_run.specs.Closing.{ended_at, notes_at, rows_at}
use Rattle.mp_run.proofs.closed.close_all.Given as goal

abbrev pub invariant-loop-lane : goal.invariant-loop-lane
invariant-loop-lane l =
    AllByRecursion (λ v. v.over ≡ true) l.lane-iterator.rest.items
    × (map events_of l.closed.notes.items ++ map notes_at l.lane-iterator.rest.items ≡ map notes_at l.fn.lanes.items)
    × (l.closed.rows.items ++ flat_map rows_at l.lane-iterator.rest.items ≡ flat_map rows_at l.fn.lanes.items)
    × (l.closed.ended.items ++ flat_map ended_at l.lane-iterator.rest.items ≡ flat_map ended_at l.fn.lanes.items)
