-- The parts of a status that decide what follows: NVM Express Base Specification 2.0, "Status Field Definition".
use Rattle.std.specs.Prelude.{ℕ}

-- The status of a command that succeeded.
abbrev pub success : ℕ
success = 0

-- The status code type of a path's statuses, in bits 10 to 8.
abbrev pub path_related : ℕ
path_related = 3

-- Type and code, in bits 10 to 0, of a path on which the namespace is lost for good: 301h.
abbrev pub persistent_loss : ℕ
persistent_loss = 769

-- Type and code, in bits 10 to 0, of a path on which the namespace is inaccessible for now: 302h.
abbrev pub inaccessible : ℕ
inaccessible = 770

-- Type and code, in bits 10 to 0, of a path that is going from one ANA state to another: 303h.
abbrev pub transition : ℕ
transition = 771

-- How many retries are made on one path.
abbrev pub most_retries : ℕ
most_retries = 5
