-- The statuses that a script gives to the attempts of a request.
use Rattle.std.specs.Prelude.{ℕ, List}
use Rattle.mp_words.specs.declared.answers.Answer.{Answer}
use Rattle.mp_words.specs.Answers.{answer_for}
use Rattle.mp_status.specs.Hop.{hop_statuses as statuses_from}
pub use Rattle.mp_status.specs.Hop.{through_first, ends_hop, class_of_hop}

-- The statuses of a hop from an attempt on: of the next six, those through the first that isn't retried.
abbrev pub hop_statuses : List Answer → ℕ → ℕ → List ℕ
hop_statuses answers req attempt = statuses_from (answer_for answers req) attempt
