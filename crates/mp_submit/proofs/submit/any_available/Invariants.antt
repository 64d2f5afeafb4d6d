use Rattle.std.proofs.Common.{◌≡◌, take}
use Rattle.std.specs.List.{list_any}
use Rattle.mp_words.specs.Row.{is_available}
use Rattle.mp_words.specs.declared.path.Path.{Path}
use Rattle.mp_words.specs.PathTable.{paths_of}
use Rattle.mp_submit.proofs.submit.any_available.Given as goal

abbrev pub invariant-loop-place : goal.invariant-loop-place
invariant-loop-place l = l.found ≡ list_any (λ (path : Path). is_available path.row) (take l.place (paths_of l.reading))
