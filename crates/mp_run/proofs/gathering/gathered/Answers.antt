use Rattle.std.proofs.Common.{◌≡◌, ◌++◌, List, map, ap, ◌∙◌, subst, sym}
use Rattle.std.specs.List.{AllByRecursion}
use Rattle.mp_words.specs.declared.entry.RowEntry.{RowEntry}
use Rattle.mp_words.specs.RequestView.{RequestView}
use Rattle.mp_script.specs.Distinct.{IsDistinct}
use Rattle.mp_core.specs.Memory.{Memory}
use Rattle.mp_legal.specs.Gathering.{AreVersions}
use Rattle.mp_legal.specs.Inputs.{inputs_of}
use Rattle.mp_run.specs.Closing.{requests_of}
use Rattle.mp_run.proofs.OpeningBegins.{opening_begins}
use Rattle.mp_run.proofs.gathering.gathered.Goals as goal

pub gather-requires-clause-opening : goal.gather-requires-clause-opening
gather-requires-clause-opening c =
    subst (λ (m : Memory). AllByRecursion (λ row. row.version ≡ 0) m.rows) (sym c.in_ok-words.ensures.words) (opening_begins (inputs_of c.args.world.now))

pub gather-requires-clause-versions : goal.gather-requires-clause-versions
gather-requires-clause-versions c =
    subst AreVersions (sym (c.in_ok-entries.ensures ∙ ap (λ (rows : List RowEntry). c.in_ok-closed.closed.rows.items ++ rows) c.into_vec-2.ensures ∙ ap (λ (rows : List RowEntry). rows ++ c.args.runner.drain.rows.items) c.in_ok-closed.ensures.rows)) c.requires.versions

pub gather-requires-clause-numbers : goal.gather-requires-clause-numbers
gather-requires-clause-numbers c =
    let waiting : c.take_all.result.items ++ c.into_vec.result.items ≡ c.args.runner.list ++ c.args.runner.drain.ended.items = (λ j. c.take_all.ensures.taken j ++ c.into_vec.ensures j) in
    let all : c.in_ok-requests.requests.items ≡ requests_of c.args.runner = c.in_ok-requests.ensures ∙ (λ j. c.in_ok-closed.ensures.ended j ++ waiting j) in
    subst (λ (rs : List RequestView). IsDistinct (map (λ r. r.id) rs)) (sym all) c.requires.once
