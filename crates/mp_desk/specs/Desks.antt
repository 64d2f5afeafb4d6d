-- A desk as it is kept, and how its calls are told.
use Rattle.std.specs.Prelude.{◌≤◌, ℕ, List, ◌∷◌, [], ◌++◌, Result}
use Rattle.mp_words.specs.RequestView.{RequestView}
use Rattle.mp_core.specs.Core.{Core}
use Rattle.mp_keep.specs.Keeper.{KeeperView, StandsTo}
use Rattle.mp_submit.specs.declared.submit.Submitted.{Submitted}
use Rattle.mp_submit.specs.declared.submit.Submitted.TheVariants.{Sent, Listed, Failed}
use Rattle.mp_desk.specs.declared.desk.Desk.{Desk}
use Rattle.mp_desk.specs.declared.flying.Flying.{Flying}
use Rattle.mp_desk.specs.declared.halt.Halt.{Halt}
use Rattle.mp_desk.specs.DeskView.{DeskView}
use Rattle.mp_desk.specs.Calls.{Means, Stand, DeskCall, CallTo, CallsTo, StopTo, StopsTo, BreakTo, BreaksTo, Does, IfWant, Sits, KeepsPass, TakesFlying, After, FlightStays, FlightEnds, FlightFalls, FlightDrops}

-- what a desk has
abbrev pub desk_of : Desk → DeskView
desk_of d = record { flying = d.flights.flying; out = d.out.items; ended = d.ended.items; events = d.notes.events; rows = d.rows.items; keeps = d.notes.keeps }

-- There is room for what one call adds.
pub record HasRoom (d : Desk) : Type 0 where
  pub flights : 1 ≤ d.flights.spare
  pub out : 1 ≤ d.out.spare
  pub ended : 1 ≤ d.ended.spare
  pub notes : 2 ≤ d.notes.spare
  pub rows : 1 ≤ d.rows.spare

-- the desk after a submit of a request was answered so
abbrev pub placed : Submitted → RequestView → DeskView → DeskView
placed (Sent f) r d = record d { flying = d.flying ++ record { flight = f; request = r } ∷ [] }
placed Listed r d = record d { out = d.out ++ r ∷ [] }
placed Failed r d = record d { ended = d.ended ++ r ∷ [] }

-- where a lane stands with this keeper
abbrev pub stand : Core → DeskView → KeeperView → Stand
stand c d k = record { core = c; desk = d; keeper = k }

-- What a call did of a lane that steps beside a keeper.
abbrev pub DoesCall : {T : Type 0} → Result T Halt → Means → DeskCall → Core → Core → DeskView → DeskView → Type 0
DoesCall result w c a b d e = (k : KeeperView) → Does result (CallTo w c (stand a d k) (stand b e k)) (StopTo w c (stand a d k) (stand b e k))

-- What calls did, one after the other, of a lane that steps beside a keeper.
abbrev pub DoesCalls : {T : Type 0} → Result T Halt → Means → List DeskCall → Core → Core → DeskView → DeskView → Type 0
DoesCalls result w cs a b d e = (k : KeeperView) → Does result (CallsTo w cs (stand a d k) (stand b e k)) (StopsTo w cs (stand a d k) (stand b e k))

-- What a call did of the keeper's.
abbrev pub KeeperDoes : {T : Type 0} → Result T Halt → Means → DeskCall → Stand → Stand → Type 0
KeeperDoes result w c p q = Does result (CallTo w c p q) (StopTo w c p q)

-- A keeper that stands to the steps before a call stands to them after it.
abbrev pub KeepsStand : Core → Core → Type 0
KeepsStand a b = (k : KeeperView) → StandsTo k a.view → StandsTo k b.view

-- However a call ends, the pass sits at its desk then.
pub record Leaves (a b : Core) (e : DeskView) : Type 0 where
  pub sits : Sits b e
  pub kept : KeepsPass a b

-- However a call of the keeper's ends, the pass sits at its desk then, and the keeper stands to its steps.
pub record KeeperLeaves (a b : Core) (e : DeskView) (l : KeeperView) : Type 0 where
  pub sits : Sits b e
  pub kept : KeepsPass a b
  pub stands : StandsTo l b.view

-- A flight was taken from a desk at which the pass sat.
pub record IsTaken (f : Flying) (c : Core) (d : DeskView) : Type 0 where
  pub whole : DeskView
  pub sits : Sits c whole
  pub takes : TakesFlying f whole d

-- What the finish of a flight did that was taken from the desk.
abbrev pub DoesFlight : {T : Type 0} → Result T Halt → Means → Flying → Core → Core → DeskView → DeskView → Type 0
DoesFlight result w f a b d e = (k : KeeperView) → Does result
    ((1 ≤ a.view.left) × (n : ℕ) × After n (FlightStays w f) (FlightEnds w f) (stand a d k) (stand b e k))
    ((n : ℕ) × After n (FlightStays w f) (FlightFalls f) (stand a d k) (stand b e k))

-- What a call did for which memory ran out, of a lane that steps beside a keeper.
abbrev pub BreaksCall : {T : Type 0} → Result T Halt → Means → DeskCall → Core → Core → DeskView → DeskView → Type 0
BreaksCall result w c a b d e = (k : KeeperView) → IfWant result (BreakTo w c (stand a d k) (stand b e k))

-- What calls did of which one broke off for want of memory, of a lane that steps beside a keeper.
abbrev pub BreaksCalls : {T : Type 0} → Result T Halt → Means → List DeskCall → Core → Core → DeskView → DeskView → Type 0
BreaksCalls result w cs a b d e = (k : KeeperView) → IfWant result (BreaksTo w cs (stand a d k) (stand b e k))

-- What a call of the keeper's did for which memory ran out.
abbrev pub KeeperBreaks : {T : Type 0} → Result T Halt → Means → DeskCall → Stand → Stand → Type 0
KeeperBreaks result w c p q = IfWant result (BreakTo w c p q)

-- What the finish of a flight did that was taken from the desk, where memory ran out.
abbrev pub BreaksFlight : {T : Type 0} → Result T Halt → Means → Flying → Core → Core → DeskView → DeskView → Type 0
BreaksFlight result w f a b d e = (k : KeeperView) → IfWant result ((n : ℕ) × After n (FlightStays w f) (FlightDrops f) (stand a d k) (stand b e k))
