use Rattle.std.proofs.Common.{◌≡◌, ◌+◌, ◌++◌, ◌∷◌, ◌==◌, [], true, List, ap, ◌∙◌, arith}
use Rattle.std.specs.List.{count_by}
use Rattle.mp_words.specs.declared.entry.RowEntry.{RowEntry}
use Rattle.mp_legal.specs.Gathering.{count_of, is_version}
use Rattle.mp_legal.proofs.Tested.{version_more, count_more, all_slots}
use Rattle.mp_legal.proofs.tests.add_each.Goals as goal

pub loop-number-preserved : goal.loop-number-preserved
loop-number-preserved c = record {
  versions = λ slot v few.
      ap (λ (es : List RowEntry). count_by (is_version slot v) es) c.in_ok-push.ensures.items
      ∙ version_more c.loop-number.all.items c.args.all.now.items c.entry.result c.loop-number.number c.args.version slot v c.entry.ensures.slot c.entry.ensures.version (c.loop-number.invariant.versions slot v few);
  counts = λ slot few.
      ap (λ (es : List RowEntry). count_of slot es) c.in_ok-push.ensures.items
      ∙ count_more c.loop-number.all.items c.args.all.now.items c.entry.result c.loop-number.number slot c.entry.ensures.slot (c.loop-number.invariant.counts slot few);
}

pub returns-clause-versions : goal.returns-clause-versions
returns-clause-versions c slot v few =
    c.loop-number.invariant.versions slot v few ∙ ap (λ n. count_by (is_version slot v) c.args.all.now.items + n) (all_slots slot c.loop-number.number (c.args.version == v) few (omega arith))

pub returns-clause-counts : goal.returns-clause-counts
returns-clause-counts c slot few =
    c.loop-number.invariant.counts slot few ∙ ap (λ n. count_of slot c.args.all.now.items + n) (all_slots slot c.loop-number.number true few (omega arith))
