use Rattle.std.proofs.Common.{[], ◌∷◌, string_bytes}
use Rattle.std.proofs.lemmas.Result.{on_ok_weaker}
use Rattle.mp_script.specs.Written.{line_text, line_words, lane_words}
use Rattle.mp_script.proofs.WrittenParts.{text_behind}
use Rattle.mp_script.proofs.writing.put_plan.Goals as goal

pub returns : goal.returns
returns c = on_ok_weaker c.put_lines.result
    (text_behind line_text (λ n. line_words c.args.topology.now n.line) c.args.plan.now.lines c.as_slice.result.now (string_bytes c.args.text.now) (string_bytes c.put_word.new.text) _
    (c.lane_name.result.now ∷ []) (lane_words c.args.plan.now.keeper) c.lane_name.ensures c.in_ok-put_word.ensures c.as_slice.ensures)
    c.put_lines.ensures
