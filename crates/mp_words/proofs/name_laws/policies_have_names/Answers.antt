use Rattle.mp_words.proofs.NameLaws.{policy_found, policy_is_named}
use Rattle.mp_words.proofs.name_laws.policies_have_names.Goals as goal

pub returns-clause-found : goal.returns-clause-found
returns-clause-found c = λ policy. policy_found policy

pub returns-clause-named : goal.returns-clause-named
returns-clause-named c = λ word policy named. policy_is_named word policy named
