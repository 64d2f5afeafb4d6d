use Rattle.mp_words.proofs.Behinds.{behind_none, behind_some, behind_new}
use Rattle.mp_words.proofs.later.Later.behind.Goals as goal

pub returns-then-self-eq0-clause-told : goal.returns-then-self-eq0-clause-told
returns-then-self-eq0-clause-told c = λ ps t. behind_none c.args.self c.args.place ps c.if-place-eq15.true c.if-self-eq0.true t

pub returns-else-self-eq0-clause-told : goal.returns-else-self-eq0-clause-told
returns-else-self-eq0-clause-told c = λ ps t. behind_some c.args.self c.args.place ps c.if-place-eq15.true c.if-self-eq0.false t

pub returns-else-self-place-eq1-clause-told : goal.returns-else-self-place-eq1-clause-told
returns-else-self-place-eq1-clause-told c = λ ps t. behind_new c.args.self c.args.place ps c.requires.place c.if-place-eq15.false c.if-self-place-eq1.false t
