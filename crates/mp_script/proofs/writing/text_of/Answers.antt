use Rattle.std.proofs.Common.{rules}
use Rattle.mp_script.specs.Written.{line_text, answer_words, plan_lines}
use Rattle.mp_script.proofs.WrittenParts.{text_joined}
use Rattle.mp_script.proofs.writing.text_of.Goals as goal

pub returns : goal.returns
returns c = rw (← text_joined line_text answer_words (plan_lines c.args.topology.now) c.args.script.now.answers c.args.script.now.lanes) (search rules)
