-- A row change of a controller's path.
use Rattle.std.specs.Prelude.{ℕ, find, Option, Some, None}
use Rattle.mp_words.specs.declared.op.Op.{Op}
use Rattle.mp_words.specs.declared.op.Effect.{Effect}
use Rattle.mp_words.specs.declared.op.Effect.TheVariants as effect
use Rattle.mp_record.specs.declared.event.Said.TheVariants as said
use Rattle.mp_words.specs.Effect.{effect_of}
use Rattle.mp_words.specs.declared.path.Path.{Path}
use Rattle.mp_words.specs.PathTable.{has_ctrl}
use Rattle.mp_legal.specs.PlainState.{State, paths_of}
use Rattle.mp_legal.specs.Stepped.{Stepped, Place, maker_of, says, makes}

-- a row change of a path, with this effect
abbrev pub changed_by : Place → State → Path → Op → Effect → Stepped
changed_by at s path op (effect.Changed row) =
    makes at s (record { slot = path.slot; row = row; op = op; by = maker_of at }) (said.Changed path.slot row.version)
changed_by at s path op (effect.Refused cstate) = says at s (said.Refused path.slot path.row.version cstate)
changed_by at s path op effect.NotArmed = says at s (said.NotArmed path.slot path.row.version)

-- a row change of a path, where there is one
abbrev pub changed_path : Place → State → Op → Option Path → Stepped
changed_path at s op None = says at s (said.NoPath s.order.version)
changed_path at s op (Some path) = changed_by at s path op (effect_of path.row op)

-- a row change of the controller's first listed path
abbrev pub changed : Place → State → ℕ → Op → Stepped
changed at s ctrl op = changed_path at s op (find (has_ctrl ctrl) (paths_of s))
