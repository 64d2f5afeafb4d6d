use Rattle.mp_legal.proofs.DeskTurns.{lane_elsewhere}
use Rattle.mp_legal.proofs.desk_turns.the_other_lanes_still_sit.Goals as goal

pub returns : goal.returns
returns c = λ step calls p q r s before since m x l h apart none away next. lane_elsewhere step calls p q r s before since m x l h apart none away next
