-- The sums over all views, and the lanes that are out.
use Rattle.std.specs.Prelude.{◌≡◌, ℕ, ◌+◌, ◌<◌, ◌≤◌, ◌==◌, List, [], ◌∷◌, length, Option, None, Some, cond}
use Rattle.mp_words.specs.declared.note.Note.{Note}
use Rattle.mp_core.specs.declared.view.Section.{Section}
use Rattle.mp_core.specs.declared.view.Role.{Role}
use Rattle.mp_core.specs.declared.view.Role.TheVariants as role
use Rattle.mp_core.specs.declared.view.View.{View}
use Rattle.mp_rule.specs.Rule.{Cells, total, Each, tick}

-- the units that a view has left
abbrev pub units : View → ℕ
units v = v.left

-- one where there is an open section that has tried no row change
abbrev pub untried : Option Section → ℕ
untried None = 0
untried (Some t) = cond t.tried 0 1

-- how many versions a view may still make: one for each unit, and one for an open section that has tried no row
-- change
abbrev pub room : View → ℕ
room v = v.left + untried v.inside

-- one where there is an open section that has sent nothing
abbrev pub unsent : Option Section → ℕ
unsent None = 0
unsent (Some t) = cond t.sent 0 1

-- the flights of a view, with its units left and an open section that has sent nothing
abbrev pub budget : View → ℕ
budget v = length v.flights + unsent v.inside + v.left

-- one where the note has this side and ticket
abbrev pub on_ticket : ℕ → ℕ → Note → ℕ
on_ticket x t n = cond (n.side == x) (tick (n.ticket == t)) 0

-- one where there is an open section with this side and ticket
abbrev pub in_open : ℕ → ℕ → Option Section → ℕ
in_open x t None = 0
in_open x t (Some s) = on_ticket x t s.note

-- how many of these finished notes have this side and ticket
abbrev pub in_done : ℕ → ℕ → List Note → ℕ
in_done x t [] = 0
in_done x t (n ∷ ns) = on_ticket x t n + in_done x t ns

-- how many notes of a view have this side and ticket
abbrev pub tickets : ℕ → ℕ → View → ℕ
tickets x t v = in_open x t v.inside + in_done x t v.done

-- What stays below its bound over all views: entries, versions, flights, and the notes of one side and ticket, of
-- which there is one at most.
pub record Sums (given : ℕ) (cells : Cells) (views : List View) : Type 0 where
  pub entries : (x : ℕ) → cells.entries x + total units views < 1073741824
  pub most : (x : ℕ) → cells.inside x ≤ cells.entries x
  pub rows : (s : ℕ) → (cells.rows s).version + total room views < 1073741824
  pub order : cells.order.version + total room views < 1073741824
  pub budget : total budget views ≤ given
  pub single : (x t : ℕ) → total (tickets x t) views ≤ 1

-- the lanes that are out, by the first view
abbrev pub out : List View → List ℕ
out [] = []
out (v ∷ views) = v.keeping.out

-- how often the lane stands in the list
abbrev pub times : ℕ → List ℕ → ℕ
times l [] = 0
times l (x ∷ xs) = tick (x == l) + times l xs

-- one where the role is that of this lane
abbrev pub lane_of : ℕ → Role → ℕ
lane_of l (role.Lane k) = tick (k == l)
lane_of l role.Keeper = 0
lane_of l role.Spent = 0

-- one where the view is that of this lane
abbrev pub is_lane : ℕ → View → ℕ
is_lane l v = lane_of l v.role

-- A view that has nothing: no units, section, notes, flights or entries.
pub record IsEmpty (v : View) : Type 0 where
  pub left : v.left ≡ 0
  pub inside : v.inside ≡ None
  pub done : v.done ≡ []
  pub flights : v.flights ≡ []
  pub entries : v.entries ≡ []

-- The side index is the keeper's own, and the lanes that are out are those of the views that aren't spent, each once.
-- A spent view has nothing.
pub record Lanes (index : ℕ) (views : List View) : Type 0 where
  pub range : index < 2
  pub own : Each (λ i v. i ≡ 0 → v.keeping.index ≡ index) views
  pub listed : (l : ℕ) → times l (out views) ≡ total (is_lane l) views
  pub once : (l : ℕ) → times l (out views) ≤ 1
  pub spent : Each (λ _ v. v.role ≡ role.Spent → IsEmpty v) views
