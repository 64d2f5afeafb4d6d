use Rattle.std.proofs.Common.{◌≡◌, ◌∙◌, true, sym, ap, arith}
use Rattle.std.proofs.lemmas.List.Sums.{position_or_len_is}
use Rattle.std.proofs.lemmas.Bool.Decides.{nat_tests}
use Rattle.mp_words.specs.Effect.{free_row}
use Rattle.mp_words.specs.declared.path.Path.{Path}
use Rattle.mp_words.specs.PathTable.{paths_of, has_slot}
use Rattle.mp_policy.proofs.listed.position.Goals as goal

pub returns-then-get : goal.returns-then-get
returns-then-get c =
    let paths = paths_of c.args.reading.now in
    let path = c.path_at-path.result in
    let k = c.loop-place.place in
    let within = c.path_at-path.ensures.within in
    let hit : has_slot c.args.slot path ≡ true = grind (arith, nat_tests) in
    sym (position_or_len_is (has_slot c.args.slot) paths k path (omega arith) (λ j l. c.loop-place.invariant j path l) (λ l. ap (has_slot c.args.slot) (sym c.path_at-path.ensures.path) ∙ hit))

pub returns : goal.returns
returns c =
    let paths = paths_of c.args.reading.now in
    let d : Path = record { slot = 0; row = free_row 0 } in
    let all = c.count-count.ensures.length in
    sym (position_or_len_is (has_slot c.args.slot) paths c.count-count.result d (omega arith) (λ j l. c.loop-place.invariant j d (omega arith)) (λ l. absurd (omega arith)))
