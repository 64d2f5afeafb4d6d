use Rattle.mp_script.proofs.Entries.{inserted}
use Rattle.mp_script.proofs.answered.Answered.put.Goals.{in-Ok, in-Err}
use Rattle.mp_script.proofs.answered.Answered.put.Goals as goal

pub invariant_of-self : goal.invariant_of-self
invariant_of-self c = elim c.match-insert.branch [
  | in-Ok w ↦ (inserted c.args.answer c.args.self.now c.self.inside.found.entries c.insert.new.self.entries c.get.result c.self.invariant c.requires.answer c.self.view_is c.requires.apart c.get.ensures.number w.in-Ok.ensures.entries).1
  | in-Err w ↦ rw w.in-Err.ensures.err c.self.invariant
]

pub returns : goal.returns
returns c = elim c.match-insert.branch [
  | in-Ok w ↦ rw w.result-is (inserted c.args.answer c.args.self.now c.self.inside.found.entries c.insert.new.self.entries c.get.result c.self.invariant c.requires.answer c.self.view_is c.requires.apart c.get.ensures.number w.in-Ok.ensures.entries).0
  | in-Err w ↦ rw w.result-is tt
]
