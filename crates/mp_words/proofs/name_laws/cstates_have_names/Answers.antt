use Rattle.mp_words.proofs.NameLaws.{cstate_found, cstate_is_named}
use Rattle.mp_words.proofs.name_laws.cstates_have_names.Goals as goal

pub returns-clause-found : goal.returns-clause-found
returns-clause-found c = λ cstate. cstate_found cstate

pub returns-clause-named : goal.returns-clause-named
returns-clause-named c = λ word cstate named. cstate_is_named word cstate named
