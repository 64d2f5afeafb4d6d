use Rattle.std.proofs.Common.{◌≡◌, ◌++◌, string_bytes, take}
use Rattle.std.specs.List.{flat_map}
use Rattle.mp_script.specs.Written.{line_text, line_words}
use Rattle.mp_script.proofs.writing.put_lines.Given as goal

-- the lines so far stand in the text
abbrev pub invariant-loop-numbered : goal.invariant-loop-numbered
invariant-loop-numbered l = string_bytes l.text ≡ string_bytes l.initial.text ++ flat_map (λ n. line_text (line_words l.topology n.line)) (take l.numbered-index l.lines)
