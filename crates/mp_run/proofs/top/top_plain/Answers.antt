use Rattle.std.proofs.Common.{map, string_bytes}
use Rattle.mp_run.specs.Forms.{form_of}
use Rattle.mp_run.proofs.TopLaws.{told_long, long_told}
use Rattle.mp_run.proofs.Accepting.{told_done}
use Rattle.mp_run.proofs.Spending.{spent_told, told_spent}
use Rattle.mp_run.proofs.top.top_plain.Goals as goal

pub returns-clause-too_long : goal.returns-clause-too_long
returns-clause-too_long g c = λ files i told is.
    told_long files (form_of (map string_bytes c.args.words.now)) _ _ c.answer.result i (c.answer.ensures.told files told) is

pub returns-clause-long_is_refused : goal.returns-clause-long_is_refused
returns-clause-long_is_refused g c = λ files i told long.
    long_told files (form_of (map string_bytes c.args.words.now)) _ _ c.answer.result i (c.answer.ensures.told files told) long

pub returns-clause-complete : goal.returns-clause-complete
returns-clause-complete g c = λ files told accepts reads writes.
    told_done files (form_of (map string_bytes c.args.words.now)) _ _ c.answer.result accepts (c.answer.ensures.told files told)
    (λ i is. reads (c.answer.ensures.read_fault i is))
    (λ is. writes (c.answer.ensures.write_fault is))

pub returns-clause-spent : goal.returns-clause-spent
returns-clause-spent g c = λ files lane told is.
    told_spent files (form_of (map string_bytes c.args.words.now)) _ _ c.answer.result lane (c.answer.ensures.told files told) is

pub returns-clause-spent_is_refused : goal.returns-clause-spent_is_refused
returns-clause-spent_is_refused g c = λ files lane told spends.
    spent_told files (form_of (map string_bytes c.args.words.now)) _ _ c.answer.result lane (c.answer.ensures.told files told) spends
