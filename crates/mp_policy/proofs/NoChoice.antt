-- When no path is chosen.
use Rattle.std.proofs.Common.{◌≡◌, ◌↔◌, ℕ, Bool, true, false, ◌&&◌, ◌||◌, ◌==◌, List, [], ◌∷◌, ◌++◌, inl, inr, Option, Some, None, filter, refl, sym, ◌∙◌, ap, append_assoc, append-nil}
use Rattle.std.specs.Option.{option_or, option_map}
use Rattle.std.proofs.lemmas.Bool.{cases_Bool}
use Rattle.mp_words.specs.Row.{is_usable, is_enabled}
use Rattle.mp_words.specs.declared.path.Path.{Path}
use Rattle.mp_words.specs.PathTable.{is_in}
use Rattle.mp_policy.specs.Choices.{first_nearest, nearest_choice, has_usable}
use Rattle.mp_policy.specs.Nearer.{nearer_of}
use Rattle.mp_policy.proofs.Least.{IsLeastOf, least_more}

-- a list has a first nearest path but where it is empty
least_of : (d : Path → ℕ) (done rest : List Path) (best : Option Path) → IsLeastOf d done best → first_nearest d (done ++ rest) ≡ None → done ++ rest ≡ []
least_of d done [] best h none = rw append-nil (h.empty (h.is ∙ rw append-nil at none))
least_of d done (p ∷ rest) best h none =
    let e : done ++ p ∷ rest ≡ (done ++ p ∷ []) ++ rest = sym (append_assoc done (p ∷ []) rest) in
    e ∙ least_of d (done ++ p ∷ []) rest (Some (nearer_of d best p)) (least_more d done best p h) (ap (first_nearest d) (sym e) ∙ none)

pub nearest_none : (d : Path → ℕ) (paths : List Path) → first_nearest d paths ≡ None → paths ≡ []
nearest_none d paths none = least_of d [] paths None (record { is = refl; empty = λ e. refl }) none

-- a path is usable where it is enabled and in one of two states
usable_in : (p : Path) → is_usable p.row ≡ (is_in 1 p || is_in 2 p)
usable_in p = split (is_enabled p.row) (p.row.state == 1) (p.row.state == 2)
  where
    split : (e a b : Bool) → (e && (a || b)) ≡ ((e && a) || (e && b))
    split true a b = refl
    split false a b = refl

or_false : (a b : Bool) → (a || b) ≡ false → (a ≡ false) × (b ≡ false)
or_false true b e = absurd cc
or_false false b e = (refl, e)

cons_not : (p : Path) (ps : List Path) → p ∷ ps ≡ [] → ⊥
cons_not p ps e = cc

-- without a path in one state the first of a list isn't in it
pub filter_first : (test : Path → Bool) (p : Path) (ps : List Path) → filter test (p ∷ ps) ≡ [] → (test p ≡ false) × (filter test ps ≡ [])
filter_first test p ps e =
    elim (cases_Bool (test p)) [
      | inl on ↦ absurd (cons_not p (filter test ps) (rw on at e))
      | inr off ↦ (off, rw off at e)
    ]

pub none_usable : (paths : List Path) → filter (is_in 1) paths ≡ [] → filter (is_in 2) paths ≡ [] → has_usable paths ≡ false
none_usable [] a b = refl
none_usable (p ∷ ps) a b =
    let x = filter_first (is_in 1) p ps a in
    let y = filter_first (is_in 2) p ps b in
    rw (usable_in p, x.0, y.0) (none_usable ps x.1 y.1)

pub usable_none : (paths : List Path) → has_usable paths ≡ false → (filter (is_in 1) paths ≡ []) × (filter (is_in 2) paths ≡ [])
usable_none [] e = (refl, refl)
usable_none (p ∷ ps) e =
    let parts = or_false (is_usable p.row) (has_usable ps) e in
    let which = or_false (is_in 1 p) (is_in 2 p) (sym (usable_in p) ∙ parts.0) in
    let rest = usable_none ps parts.1 in
    (rw which.0 rest.0, rw which.1 rest.1)

pub or_none : (a b : Option Path) → option_or a b ≡ None → (a ≡ None) × (b ≡ None)
or_none None b e = (refl, e)
or_none (Some p) b e = absurd cc

-- no path is chosen exactly where none is usable
pub nearest_choice-none : (d : Path → ℕ) (paths : List Path) → (nearest_choice d paths ≡ None) ↔ (has_usable paths ≡ false)
nearest_choice-none d paths = (
  λ none.
      let both = or_none (first_nearest d (filter (is_in 1) paths)) (first_nearest d (filter (is_in 2) paths)) none in
      none_usable paths (nearest_none d (filter (is_in 1) paths) both.0) (nearest_none d (filter (is_in 2) paths) both.1),
  λ unusable. let both = usable_none paths unusable in rw (both.0, both.1) refl,
)

-- a path has a slot
pub slot_none : (o : Option Path) → (option_map (λ (path : Path). path.slot) o ≡ None) ↔ (o ≡ None)
slot_none None = (λ e. refl, λ e. refl)
slot_none (Some p) = (λ e. absurd cc, λ e. absurd cc)
