use Rattle.mp_words.proofs.Places.{at_place, place_hit, place_miss}
use Rattle.mp_words.proofs.place_laws.slots_have_places.Goals as goal

pub returns-clause-stands : goal.returns-clause-stands
returns-clause-stands c = λ slot slots below. at_place slot slots below

pub returns-clause-first : goal.returns-clause-first
returns-clause-first c = λ slot slots k below others own. place_hit slot slots k below others own

pub returns-clause-missing : goal.returns-clause-missing
returns-clause-missing c = λ slot slots others. place_miss slot slots others
