use Rattle.std.proofs.Common.{◌≡◌, ◌++◌, string_bytes, take}
use Rattle.std.specs.List.{flat_map}
use Rattle.mp_script.specs.Written.{line_text, answer_words}
use Rattle.mp_script.proofs.writing.put_answers.Given as goal

-- the answers so far stand in the text
abbrev pub invariant-loop-place : goal.invariant-loop-place
invariant-loop-place l = string_bytes l.text ≡ string_bytes l.initial.text ++ flat_map (λ a. line_text (answer_words a)) (take l.place l.answers)
