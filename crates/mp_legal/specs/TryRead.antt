-- What tries read.
use Rattle.std.specs.Prelude.{ℕ, ◌==◌, List, map, filter, Option}
use Rattle.mp_words.specs.declared.note.Note.{Note}
use Rattle.mp_words.specs.declared.order.Order.{Order}
use Rattle.mp_words.specs.declared.path.Path.{Path}
use Rattle.mp_words.specs.PathTable.{paths_of}
use Rattle.mp_words.specs.RequestView.{RequestView}

-- What a try reads: its lane, the list, and the listed paths with their rows.
pub record TryRead : Type 0 where
  pub lane : ℕ
  pub order : Option Order
  pub paths : List Path

-- what a note tells of it
abbrev pub read_of : Note → TryRead
read_of n = record { lane = n.lane; order = n.order; paths = paths_of n.reading }

-- what the tries of a request read, in order
abbrev pub notes_of : RequestView → List TryRead
notes_of request = map (λ t. read_of t.note) request.tries

-- what was read for the request of a number, in order
abbrev pub notes_for : ℕ → List (ℕ × TryRead) → List TryRead
notes_for req reads = map (λ r. r.1) (filter (λ r. r.0 == req) reads)
