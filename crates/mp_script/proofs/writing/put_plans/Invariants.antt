use Rattle.std.proofs.Common.{◌≡◌, ◌++◌, string_bytes, take}
use Rattle.std.specs.List.{flat_map}
use Rattle.mp_script.specs.Written.{line_text, plan_lines}
use Rattle.mp_script.proofs.writing.put_plans.Given as goal

-- the lanes so far stand in the text
abbrev pub invariant-loop-plan : goal.invariant-loop-plan
invariant-loop-plan l = string_bytes l.text ≡ string_bytes l.initial.text ++ flat_map (λ p. flat_map line_text (plan_lines l.topology p)) (take l.plan-index l.plans)
