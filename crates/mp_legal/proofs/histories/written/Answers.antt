use Rattle.std.proofs.Common.{◌≡◌, ◌++◌, ◌∷◌, ◌+◌, ◌-◌, ◌<◌, suc, [], List, ap, ◌∙◌, sym, map, take, get_or, set, length, arith}
use Rattle.std.proofs.lemmas.List.{take_more, take_all, length-map, get_or_default}
use Rattle.mp_words.specs.declared.entry.RowEntry.{RowEntry}
use Rattle.mp_words.specs.RowWord.{row_in}
use Rattle.mp_legal.specs.Gathering.{count_of}
use Rattle.mp_legal.specs.Placing.{firsts, written_in}
use Rattle.mp_legal.proofs.Blanks.{places, room_at}
use Rattle.mp_legal.proofs.EachVersion.{version_fits, histories_are}
use Rattle.mp_legal.proofs.Placed.{blanks_are, written_more}
use Rattle.mp_legal.proofs.histories.written.Goals as goal

pub loop-entry-init : goal.loop-entry-init
loop-entry-init c = c.in_ok-all.ensures ∙ blanks_are c.args.entries.now (firsts 0 (map row_in c.args.words.now))

pub index_mut-requires : goal.index_mut-requires
index_mut-requires c =
    let words = c.args.words.now in
    let all = c.args.entries.now in
    omega (arith, ap length c.loop-entry.invariant, places (written_in all (take c.loop-entry.entry-index all)) 0 (map row_in words), length-map words row_in, c.get-slot.ensures.below)

pub set-requires : goal.set-requires
set-requires c =
    let words = c.args.words.now in
    let all = c.args.entries.now in
    let e = c.entry-item.result in
    let hs = c.loop-entry.all.items in
    let at = c.get-slot.result in
    let done = take c.loop-entry.entry-index all in
    let few : at < 15 = c.get-slot.ensures.below in
    let slot : 0 + at ≡ e.slot = omega (arith, c.get-slot.ensures.number) in
    let place : at < length (map row_in words) = omega (arith, length-map words row_in, few) in
    let low : at < length hs = omega (arith, ap length c.loop-entry.invariant, places (written_in all done) 0 (map row_in words), place) in
    let own : c.index_mut.result.now ≡ get_or hs at [] = c.index_mut.ensures.value ∙ get_or_default hs at c.index_mut.result.now [] low in
    let fits = version_fits all c.loop-entry.entry-index e c.requires c.loop-entry-test.true c.entry-item.is (omega (arith, few, slot)) in
    let room : length c.index_mut.result.now ≡ suc (count_of e.slot all) =
    ap length (own ∙ ap (λ (gs : List (List RowEntry)). get_or gs at []) c.loop-entry.invariant) ∙ room_at 0 (map row_in words) all done at place ∙ ap (λ s. suc (count_of s all)) slot in
    omega (arith, room, fits.1)

pub loop-entry-preserved : goal.loop-entry-preserved
loop-entry-preserved c =
    let words = c.args.words.now in
    let all = c.args.entries.now in
    let e = c.entry-item.result in
    let hs = c.loop-entry.all.items in
    let at = c.get-slot.result in
    let i = c.loop-entry.entry-index in
    let done = take i all in
    let few : at < 15 = c.get-slot.ensures.below in
    let slot : at ≡ e.slot = c.get-slot.ensures.number in
    let place : at < length (map row_in words) = omega (arith, length-map words row_in, few) in
    let low : at < length hs = omega (arith, ap length c.loop-entry.invariant, places (written_in all done) 0 (map row_in words), place) in
    let own : c.index_mut.result.now ≡ get_or hs at [] = c.index_mut.ensures.value ∙ get_or_default hs at c.index_mut.result.now [] low in
    let fits = version_fits all i e c.requires c.loop-entry-test.true c.entry-item.is (omega (arith, few, slot)) in
    let version : e.row.version ≡ suc (e.row.version - 1) = omega (arith, fits.0) in
    let taken : take (i + 1) all ≡ done ++ e ∷ [] = take_more all i e c.loop-entry-test.true ∙ ap (λ (x : RowEntry). done ++ x ∷ []) (sym c.entry-item.is) in
    ap (set hs at) (c.set.ensures ∙ ap (λ (es : List RowEntry). set es e.row.version e) own)
    ∙ ap (λ (gs : List (List RowEntry)). set gs at (set (get_or gs at []) e.row.version e)) c.loop-entry.invariant
    ∙ written_more 0 (map row_in words) all done e at (e.row.version - 1) (omega (arith, slot)) place version (omega (arith, fits.0, fits.1))
    ∙ ap (λ (es : List RowEntry). map (written_in all es) (firsts 0 (map row_in words))) (sym taken)

pub returns : goal.returns
returns c =
    let words = c.args.words.now in
    let all = c.args.entries.now in
    c.loop-entry.invariant
    ∙ ap (λ (es : List RowEntry). map (written_in all es) (firsts 0 (map row_in words))) (take_all c.loop-entry.entry-index all (omega arith))
    ∙ histories_are 0 (map row_in words) all c.requires (omega (arith, length-map words row_in))
