-- The forms in memory as clauses see them.
use Rattle.std.specs.Prelude.{ℕ, List}
use Rattle.mp_io.specs.Files.{Files}

-- A folder in memory: its files, the calls that fail, how many calls and faults there were, how many bytes the last
-- read was given, the names that were read in turn, and the names of the reads that failed.
pub record FolderView : Type 0 where
  pub files : Files
  pub fail : List ℕ
  pub calls : ℕ
  pub faults : ℕ
  pub given : ℕ
  pub asked : List (List ℕ)
  pub failed : List (List ℕ)

-- A sink in memory: the bytes taken, the calls that fail with how many bytes each takes, how many calls and faults
-- there were, where the number of calls stops at the greatest u32, and how many puts there were, without a bound.
pub record SinkView : Type 0 where
  pub bytes : List ℕ
  pub fail : List (ℕ × ℕ)
  pub calls : ℕ
  pub faults : ℕ
  pub puts : ℕ
