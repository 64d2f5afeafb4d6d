use Rattle.std.proofs.Common.{ap, ◌∙◌}
use Rattle.std.specs.List.{list_any}
use Rattle.mp_words.specs.Answers.{is_of}
use Rattle.mp_script.proofs.Entries.{lookup_is}
use Rattle.mp_script.proofs.answered.Answered.has.Goals as goal

pub returns : goal.returns
returns c = c.contains_key.ensures ∙ lookup_is c.args.req c.args.attempt c.self.inside.found.entries c.self.invariant.keyed ∙ ap (list_any (is_of c.args.req c.args.attempt)) c.self.view_is
