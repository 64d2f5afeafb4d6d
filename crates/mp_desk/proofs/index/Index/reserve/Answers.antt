use Rattle.std.proofs.Common.{◌≡◌, ◌++◌, ◌-◌, ◌≤◌, ℕ, List, Bool, true, false, cond, take, replicate, length, vec_len, ap, ◌∙◌, arith}
use Rattle.std.specs.Prelude.{slice_index}
use Rattle.std.specs.Result.{is_ok}
use Rattle.std.proofs.lemmas.List.{take_all}
use Rattle.mp_desk.proofs.Indexed.{filled}
use Rattle.mp_desk.proofs.index.Index.reserve.Goals as goal

-- whether it was filled up or not
either : (done : Bool) (old new : List ℕ) (more number : ℕ) → length old ≤ 65536 → new ≡ cond done (take 65536 old ++ replicate more 0) old → slice_index new number ≡ slice_index old number
either true old new more number le is = ap (λ (l : List ℕ). slice_index l number) (is ∙ ap (λ (l : List ℕ). l ++ replicate more 0) (take_all 65536 old le)) ∙ filled old more number
either false old new more number le is = ap (λ (l : List ℕ). slice_index l number) is

pub returns-clause-same : goal.returns-clause-same
returns-clause-same c number =
    let le : length c.self.inside.places.items ≤ 65536 = omega (arith, c.self.invariant) in
    either (is_ok c.resize.result) c.self.inside.places.items c.resize.new.self.items (65536 - vec_len c.self.inside.places) number le c.resize.ensures.items
    ∙ ap (λ (l : List ℕ). slice_index l number) c.self.view_is
