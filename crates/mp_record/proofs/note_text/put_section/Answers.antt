use Rattle.std.proofs.Common.{rules, append_assoc}
use Rattle.mp_record.proofs.note_text.put_section.Goals as goal

pub returns : goal.returns
returns c = search (rules, append_assoc)
