-- The words of the table before the first step of a run.
use Rattle.std.specs.Prelude.{replicate, None}
use Rattle.mp_core.specs.Memory.{Memory, no_side}
use Rattle.mp_legal.specs.PlainState.{State}

-- the words of the table before any step, unpacked: the state's list of paths and rows, side index 0, two sides that
-- nobody has entered, no flight on a slot, and no current path at a node
abbrev pub memory_of : State → Memory
memory_of s = record {
  index = 0;
  sides = replicate 2 no_side;
  order = s.order;
  rows = s.rows;
  depths = replicate 15 0;
  currents = replicate 8 None;
}
