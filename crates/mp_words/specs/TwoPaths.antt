-- A worked case: two live, optimized and ready paths of controllers without ANA, listed under NUMA.
use Rattle.std.specs.Prelude.{true, false, [], ◌∷◌}
use Rattle.mp_words.specs.declared.row.Row.{Row}
use Rattle.mp_words.specs.declared.row.CState.TheVariants.{Live}
use Rattle.mp_words.specs.declared.row.Policy.TheVariants.{Numa}
use Rattle.mp_words.specs.declared.order.Order.{Order}
use Rattle.mp_words.specs.States.{optimized}
use Rattle.mp_words.specs.Order.{order_of}

-- The first version of the row of a live, optimized and ready path of controller 0.
abbrev pub first_path : Row
first_path = record {
  version = 0;
  ctrl = 0;
  cstate = Live;
  state = optimized;
  pending = false;
  ready = true;
  armed = false;
  marked = false;
  ana = false;
}

-- The first version of the row of a live, optimized and ready path of controller 1.
abbrev pub second_path : Row
second_path = record first_path { ctrl = 1 }

-- The first version of an order that lists slots 0 and 1 under NUMA.
abbrev pub two_paths : Order
two_paths = order_of 0 Numa (0 ∷ 1 ∷ [])
