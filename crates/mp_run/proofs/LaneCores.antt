-- What the other lanes know at their turns, once one lane has made a call.
use Rattle.std.proofs.Common.{◌≡◌, ℕ, ◌<◌, List, length, set, get_or, ap, ◌∙◌, arith, get_or-set_other}
use Rattle.std.proofs.lemmas.Grind.{get_or-set_at}
use Rattle.std.proofs.lemmas.List.{get_or_default, length-set}
use Rattle.mp_core.specs.declared.view.Keeping.{Keeping}
use Rattle.mp_core.specs.declared.view.View.{View}
use Rattle.mp_core.specs.Core.{Core}
use Rattle.mp_core.specs.Memory.{Memory}
use Rattle.mp_core.specs.Seats.{turned, with_keeping, no_view}

-- the views beside that of a lane at its turn
abbrev seats : Keeping → Core → List View
seats k c = set c.others c.lane (with_keeping k c.view)

pub others_length : (k : Keeping) (lane : ℕ) (c : Core) (m : Memory) → length (turned k lane c m).others ≡ length c.others
others_length k lane c m = length-set (seats k c) lane (no_view k) ∙ length-set c.others c.lane (with_keeping k c.view)

-- the lane that stepped knows what it knew
pub own_view : (k : Keeping) (lane : ℕ) (b : Core) (m : Memory) → lane ≡ b.lane → b.lane < length b.others → (turned k lane b m).view ≡ b.view
own_view k lane b m is below = ap (with_keeping b.view.keeping) (get_or-set_at b.others b.lane lane (with_keeping k b.view) (no_view b.view.keeping) is below)

-- another lane knows what it knew, but for the keeper's part
pub other_view : (k l : Keeping) (lane other : ℕ) (c b : Core) (m n : Memory) → b.others ≡ (turned k lane c m).others → b.lane ≡ lane → (other ≡ lane → ⊥) → other < length c.others
    → (turned l other b n).view ≡ with_keeping b.view.keeping (turned k other c m).view
other_view k l lane other c b m n others is apart below =
    let lt : other < length (seats k c) = omega (arith, length-set c.others c.lane (with_keeping k c.view)) in
    ap (with_keeping b.view.keeping)
    (get_or-set_other b.others b.lane other (with_keeping l b.view) (no_view b.view.keeping) (λ e. apart (e ∙ is))
    ∙ ap (λ (vs : List View). get_or vs other (no_view b.view.keeping)) others
    ∙ get_or-set_other (seats k c) lane other (no_view k) (no_view b.view.keeping) apart
    ∙ get_or_default (seats k c) other (no_view b.view.keeping) (no_view c.view.keeping) lt)
