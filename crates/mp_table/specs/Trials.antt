-- What a pass has between two calls of a trial.
use Rattle.std.specs.Prelude.{◌≡◌, ℕ, ◌+◌, List, [], None, Some}
use Rattle.mp_core.specs.declared.view.Section.{Section}
use Rattle.mp_core.specs.declared.view.Role.{Role}
use Rattle.mp_core.specs.declared.view.View.{View}

-- It is this role's, has so many units, no open section and no flight, and these lanes are out.
pub record Idle (r : Role) (n : ℕ) (out : List ℕ) (v : View) : Type 0 where
  pub role : v.role ≡ r
  pub left : v.left ≡ n
  pub inside : v.inside ≡ None
  pub flights : v.flights ≡ []
  pub lanes : v.keeping.out ≡ out

-- The same, with this open section.
pub record Sits (r : Role) (n : ℕ) (out : List ℕ) (s : Section) (v : View) : Type 0 where
  pub role : v.role ≡ r
  pub left : v.left ≡ n
  pub inside : v.inside ≡ Some s
  pub flights : v.flights ≡ []
  pub lanes : v.keeping.out ≡ out

-- Where the pass is idle it stays so, with the same units.
abbrev pub StaysIdle : View → View → Type 0
StaysIdle v w = (r : Role) (n : ℕ) (out : List ℕ) → Idle r n out v → Idle r n out w

-- Where the pass is idle it enters this section, for a unit.
abbrev pub SitsDown : Section → View → View → Type 0
SitsDown s v w = (r : Role) (n : ℕ) (out : List ℕ) → Idle r (n + 1) out v → Sits r n out s w

-- Where the pass has this section it comes to have that one, with the same units.
abbrev pub StaysIn : Section → Section → View → View → Type 0
StaysIn s t v w = (r : Role) (n : ℕ) (out : List ℕ) → Sits r n out s v → Sits r n out t w

-- Where the pass has this section it leaves it, and is idle.
abbrev pub StandsUp : Section → View → View → Type 0
StandsUp s v w = (r : Role) (n : ℕ) (out : List ℕ) → Sits r n out s v → Idle r n out w
