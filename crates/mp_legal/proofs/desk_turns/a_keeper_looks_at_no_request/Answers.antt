use Rattle.mp_legal.proofs.DeskTurns.{keeper_still}
use Rattle.mp_legal.proofs.desk_turns.a_keeper_looks_at_no_request.Goals as goal

pub returns : goal.returns
returns c = λ k m x y h removals flips. keeper_still k m x y h removals flips
