use Rattle.std.proofs.Common.{rules, append_assoc}
use Rattle.mp_record.proofs.request_text.put_request.Goals as goal

pub returns : goal.returns
returns c = search (rules, append_assoc)
