-- The slots of the opening's list.
use Rattle.std.specs.Prelude.{ℕ, nat_lt, if◌then◌else◌}

-- the slot of a place of a list of the first slots, or slot 0 past its length
abbrev pub slot_before : ℕ → ℕ → ℕ
slot_before len place = if nat_lt place len then place else 0
