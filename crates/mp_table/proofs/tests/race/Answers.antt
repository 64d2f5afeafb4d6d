use Rattle.mp_table.proofs.tests.race.Goals as goal

pub returns-in_err-lost-clause-p_sits : goal.returns-in_err-lost-clause-p_sits
returns-in_err-lost-clause-p_sits c r n out k = c.reset-2.ensures.sits r n out (c.read_first.ensures.sits r n out k)

pub returns-clause-p_sits : goal.returns-clause-p_sits
returns-clause-p_sits c r n out k = c.reset-2.ensures.sits r n out (c.read_first.ensures.sits r n out k)
