use Rattle.std.proofs.Common.{◌≡◌, ◌++◌, map, ap, sym, subst, ◌∙◌}
use Rattle.std.specs.Prelude.{OnOk}
use Rattle.std.proofs.lemmas.List.Folds.{flat_map-map}
use Rattle.mp_record.specs.Kept.{told}
use Rattle.mp_record.specs.NotedText.{noted_event, noted_events}
use Rattle.mp_record.proofs.notes.LaneNotes.put.Goals as goal

pub returns : goal.returns
returns c =
    let ks = c.as_slice.result.now in
    let apart = c.as_slice-2.result.now in
    let is : c.args.self.now.events ≡ map (told apart) ks =
    ap (λ v. v.events) (sym c.self.view_is) ∙ ap (λ es. map (told es) c.self.inside.kept.items) (sym c.as_slice-2.ensures.value)
    ∙ ap (λ xs. map (told apart) xs) (sym c.as_slice.ensures.value) in
    let all = ap (noted_events c.args.notes) is ∙ flat_map-map (noted_event c.args.notes) (told apart) ks in
    subst (λ lines. OnOk c.put_each.result (c.put_each.new.text.items ≡ c.args.text.now.items ++ lines)) (sym all) c.put_each.ensures
