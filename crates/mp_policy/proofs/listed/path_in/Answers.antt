use Rattle.std.proofs.Common.{◌≡◌, ◌<◌, ℕ, List, length, take, get_or, arith, refl, sym, ◌∙◌}
use Rattle.std.proofs.lemmas.List.{length-map, length-take, get_or-map, get_or-take}
use Rattle.std.proofs.lemmas.Slice.Zip.{get_or-zip, length-zip}
use Rattle.std.specs.Prelude.{zip}
use Rattle.mp_words.specs.declared.row.Row.{Row}
use Rattle.mp_words.specs.declared.path.Path.{Path}
use Rattle.mp_words.specs.PathTable.{path_of}
use Rattle.mp_policy.proofs.listed.path_in.Goals as goal

pub returns : goal.returns
returns c =
    let slots = c.args.slots.now in
    let rows = c.args.rows.now in
    let s = c.index-slots-place.result in
    let r = c.index-rows-place.result in
    let pairs : List (ℕ × Row) = zip slots rows in
    let all : length pairs ≡ 8 = length-zip slots rows ∙ rw (c.type_inv.slots, c.type_inv.rows) refl in
    let front : length (take c.args.len pairs) ≡ c.args.len = omega (arith, length-take c.args.len pairs) in
    let inside : c.args.place < length (take c.args.len pairs) = omega arith in
    let d : Path = record { slot = get_or slots c.args.place s; row = get_or rows c.args.place r } in
    let pair : get_or pairs c.args.place (s, r) ≡ (get_or slots c.args.place s, get_or rows c.args.place r) = get_or-zip slots rows c.args.place (s, r) (omega arith) (omega arith) in
    record {
      path = sym (get_or-map path_of (take c.args.len pairs) c.args.place (s, r) d inside ∙ rw (get_or-take c.args.len pairs c.args.place (s, r) c.requires.listed, pair) refl);
      within = rw length-map inside;
    }
