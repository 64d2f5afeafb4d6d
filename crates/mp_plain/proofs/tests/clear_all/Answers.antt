use Rattle.mp_plain.proofs.tests.clear_all.Goals as goal

pub returns : goal.returns
returns c = λ n o st h. c.clear-8.ensures n o _ (c.clear-7.ensures n o _ (c.clear-6.ensures n o _ (c.clear-5.ensures n o _ (c.clear-4.ensures n o _ (c.clear-3.ensures n o _ (c.clear-2.ensures n o _ (c.clear.ensures n o st h)))))))
