use Rattle.std.proofs.Common.{◌≡◌, ◌≤◌, ℕ, All, List, map, length, Vec, Global, sym, subst, arith}
use Rattle.std.proofs.lemmas.List.{get_or-map, length-map}
use Rattle.mp_run.proofs.texts.text_of_boxes.Goals as goal

-- what holds of each page holds of its bytes in the vector
pages_short : (boxes : List (Vec ℕ Global)) (pages : List (List ℕ)) → map (λ v. v.items) boxes ≡ pages → All (λ page. length page ≤ 65536) pages → All (λ (v : Vec ℕ Global). length v.items ≤ 65536) boxes
pages_short boxes pages e all k d low =
    let short = subst (λ (ps : List (List ℕ)). All (λ page. length page ≤ 65536) ps) (sym e) all in
    let len = length-map boxes (λ (v : Vec ℕ Global). v.items) in
    subst (λ (page : List ℕ). length page ≤ 65536) (get_or-map (λ (v : Vec ℕ Global). v.items) boxes k d d.items low) (short k d.items (omega arith))

pub page_text-requires : goal.page_text-requires
page_text-requires c = pages_short c.as_slice.result.now _ c.as_slice.ensures c.in_ok-boxes.ensures.pages
