use Rattle.mp_run.proofs.texts.text_of.Goals as goal

pub returns-in-Serial-clause-before : goal.returns-in-Serial-clause-before
returns-in-Serial-clause-before g c = λ files i told is. rw c.in-Serial.is (c.serial.ensures.before files i told is)
