use Rattle.std.proofs.Common.{ap, ◌∙◌}
use Rattle.mp_script.specs.declared.numbers.Numbers.{Numbers}
use Rattle.mp_script.proofs.Counted.{counted_0, counted_1, counted_2, counted_3}
use Rattle.mp_script.proofs.shapes.shape_of.Goals as goal

pub returns-in-None-split_number-clause-numbers : goal.returns-in-None-split_number-clause-numbers
returns-in-None-split_number-clause-numbers c = counted_0 _ _ _ (c.cut-in-None-split_number.ensures.line ∙ c.shape_0.ensures)

pub returns-in-None-split_number-2-clause-numbers : goal.returns-in-None-split_number-2-clause-numbers
returns-in-None-split_number-2-clause-numbers c = counted_1 _ _ _ _ (c.cut-in-None-split_number-2.ensures.line ∙ c.shape_1.ensures)
    (ap (λ (n : Numbers). n.first) c.cut-in-None-split_number-2.ensures.numbers ∙ c.in-Some-split_number.ensures.number)

pub returns-in-None-split_word-clause-numbers : goal.returns-in-None-split_word-clause-numbers
returns-in-None-split_word-clause-numbers c = counted_2 _ _ _ _ _ (c.cut-in-None-split_word.ensures.line ∙ c.shape_2.ensures)
    (ap (λ (n : Numbers). n.first) c.cut-in-None-split_word.ensures.numbers ∙ c.in-Some-split_number.ensures.number)
    (ap (λ (n : Numbers). n.second) c.cut-in-None-split_word.ensures.numbers ∙ c.in-Some-split_number-2.ensures.number)

pub returns-in-None-split_word-2-clause-numbers : goal.returns-in-None-split_word-2-clause-numbers
returns-in-None-split_word-2-clause-numbers c = counted_3 _ _ _ _ _ _ (c.cut-in-None-split_word-2.ensures.line ∙ c.shape_3.ensures)
    (ap (λ (n : Numbers). n.first) c.cut-in-None-split_word-2.ensures.numbers ∙ c.in-Some-split_number.ensures.number)
    (ap (λ (n : Numbers). n.second) c.cut-in-None-split_word-2.ensures.numbers ∙ c.in-Some-split_number-2.ensures.number)
