use Rattle.mp_words.proofs.Paths.{first_with, none_with}
use Rattle.mp_words.proofs.place_laws.paths_are_found.Goals as goal

pub returns-clause-first : goal.returns-clause-first
returns-clause-first c = λ ctrl paths path is. first_with ctrl paths path is

pub returns-clause-none : goal.returns-clause-none
returns-clause-none c = λ ctrl paths is. none_with ctrl paths is
