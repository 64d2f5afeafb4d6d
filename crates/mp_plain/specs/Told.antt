-- What the lane that steps knows, and the start.
use Rattle.atomic_table.specs.Seated.{TableId}
use Rattle.mp_core.specs.Core.{Core}
use Rattle.mp_core.specs.Unpacked.{unpacked}
use Rattle.mp_plain.specs.declared.ledger.Opening.{Opening}
use Rattle.mp_plain.specs.declared.plain.Plain.{Plain}
use Rattle.mp_plain.specs.Lanes.{core_at, seats_begun}

-- what the lane that steps knows: its view, those of the others, and the words, which are told
abbrev pub told_core : Plain → Core
told_core p = core_at p.ledger.seat.table_id p.lane p.ledger.seat.me.0.seats (unpacked p.words)

-- what lane 0 knows at the start
abbrev pub core_begun : TableId → Opening → Core
core_begun home o = core_at home 0 (seats_begun o) (unpacked o.words)
