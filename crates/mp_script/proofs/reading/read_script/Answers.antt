use Rattle.mp_script.specs.Script.{checks, script_of, script_in}
use Rattle.mp_script.specs.Facts.{IsScript, IsOver}
use Rattle.mp_script.specs.Splitting.{lines_of}
use Rattle.mp_script.specs.declared.errors.ScriptError.TheVariants.{NoMemory}
use Rattle.mp_checks.proofs.CheckLaws.{reads_answers}
use Rattle.mp_script.proofs.ReadFacts.{read_least, read_facts, ok_each}
use Rattle.mp_script.proofs.reading.read_script.Goals as goal

pub returns-clause-exact : goal.returns-clause-exact
unfolding script_in
returns-clause-exact c = reads_answers NoMemory c.checked_script.result (checks c.args.topology.now c.args.pages c.args.bytes.now) (script_of c.args.topology.now.controllers (lines_of c.args.bytes.now)) c.checked_script.ensures

pub returns-clause-least : goal.returns-clause-least
returns-clause-least c = read_least c.args.topology.now c.args.pages c.args.bytes.now c.checked_script.result _ c.checked_script.ensures

pub returns-clause-read : goal.returns-clause-read
returns-clause-read c = (ok_each c.checked_script.result IsScript (IsOver c.args.topology.now c.args.pages) (read_facts c.args.topology.now c.args.pages c.args.bytes.now c.checked_script.result c.checked_script.ensures)).0

pub returns-clause-over : goal.returns-clause-over
returns-clause-over c = (ok_each c.checked_script.result IsScript (IsOver c.args.topology.now c.args.pages) (read_facts c.args.topology.now c.args.pages c.args.bytes.now c.checked_script.result c.checked_script.ensures)).1
