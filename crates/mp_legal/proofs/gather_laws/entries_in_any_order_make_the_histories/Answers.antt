use Rattle.mp_legal.proofs.AnyOrder.{opened_at_0, versions_same, histories_same}
use Rattle.mp_legal.proofs.gather_laws.entries_in_any_order_make_the_histories.Goals as goal

pub returns-clause-begin : goal.returns-clause-begin
returns-clause-begin c opened rows are = opened_at_0 0 opened rows are

pub returns-clause-versions : goal.returns-clause-versions
returns-clause-versions c opened rows entries fifteen are same = versions_same opened rows entries fifteen are same

pub returns-clause-histories : goal.returns-clause-histories
returns-clause-histories c opened rows entries are same = histories_same 0 opened rows entries are same
