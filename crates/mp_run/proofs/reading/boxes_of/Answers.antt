use Rattle.std.proofs.Common.{◌≤◌, ℕ, All, List, length, sym, subst}
use Rattle.std.proofs.lemmas.List.Elements.{All-map}
use Rattle.mp_run.proofs.reading.boxes_of.Goals as goal

pub returns-in-Ok-clause-pages : goal.returns-in-Ok-clause-pages
returns-in-Ok-clause-pages c =
    subst (λ (pages : List (List ℕ)). All (λ page. length page ≤ 65536) pages) (sym c.from_vec.ensures) (All-map (λ page. length page ≤ 65536) (λ v. v.items) c.in-Ok.boxes.items c.in-Ok.ensures.pages)
