-- The first path of a controller.
use Rattle.std.proofs.Common.{inl, inr, ◌≡◌, ℕ, false, List, [], ◌∷◌, Some, None, refl, ap}
use Rattle.std.specs.List.{list_any}
use Rattle.std.proofs.lemmas.Bool.{cases_Bool}
use Rattle.mp_words.specs.declared.path.Path.{Path}
use Rattle.mp_words.specs.PathTable.{has_ctrl, path_with, IsFirstWith}

-- a path behind another that isn't the controller's
behind : (ctrl : ℕ) (other : Path) (paths : List Path) (path : Path) → has_ctrl ctrl other ≡ false → IsFirstWith ctrl paths path → IsFirstWith ctrl (other ∷ paths) path
behind ctrl other paths path e is = record {
  before = other ∷ is.before;
  after = is.after;
  parts = ap (λ rest. other ∷ rest) is.parts;
  others = rw e is.others;
  own = is.own;
}

pub first_with : (ctrl : ℕ) (paths : List Path) (path : Path) → path_with ctrl paths ≡ Some path → IsFirstWith ctrl paths path
first_with ctrl [] path is = absurd (cc)
first_with ctrl (p ∷ paths) path is = elim (cases_Bool (has_ctrl ctrl p)) [
  | inl e ↦
      let f : Some p ≡ Some path = rw e at is in
      let g : p ≡ path = cc in
      record { before = []; after = paths; parts = ap (λ q. q ∷ paths) g; others = refl; own = rw (← g) e }
  | inr e ↦ behind ctrl p paths path e (first_with ctrl paths path (rw e at is))
]

pub none_with : (ctrl : ℕ) (paths : List Path) → path_with ctrl paths ≡ None → list_any (has_ctrl ctrl) paths ≡ false
none_with ctrl [] is = refl
none_with ctrl (p ∷ paths) is = elim (cases_Bool (has_ctrl ctrl p)) [
  | inl e ↦ let f : Some p ≡ None = rw e at is in absurd (cc)
  | inr e ↦ rw e (none_with ctrl paths (rw e at is))
]
