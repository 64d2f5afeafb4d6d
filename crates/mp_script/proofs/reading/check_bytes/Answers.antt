use Rattle.std.proofs.Common.{rules, refl, sym, ◌∙◌}
use Rattle.mp_checks.proofs.CheckLaws.{each_more, each_stops}
use Rattle.mp_script.specs.Lines.{byte_checks}
use Rattle.mp_script.proofs.Steps.{bytes_all}
use Rattle.mp_script.proofs.reading.check_bytes.Goals as goal

pub returns-then-not-is_script_byte : goal.returns-then-not-is_script_byte
unfolding byte_checks
returns-then-not-is_script_byte c = λ n. each_stops byte_checks c.args.bytes.now c.loop-i.i _ 0 _ c.loop-i-test.true refl c.loop-i.invariant (search rules)

pub loop-i-preserved : goal.loop-i-preserved
unfolding byte_checks
loop-i-preserved c = each_more byte_checks c.args.bytes.now c.loop-i.i _ 0 c.loop-i-test.true refl c.loop-i.invariant (search rules)

pub returns-then-are_script_bytes : goal.returns-then-are_script_bytes
returns-then-are_script_bytes c = (bytes_all 0 c.args.bytes.now (sym c.are_script_bytes.ensures ∙ c.if-are_script_bytes.true), refl)
