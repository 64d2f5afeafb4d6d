-- The flights of a lane with their requests as they are kept: in places of which some are empty, with an index of their
-- requests' numbers.
use Rattle.std.specs.Prelude.{◌≡◌, ◌≤◌, ◌<◌, ◌+◌, ◌==◌, ℕ, suc, Bool, true, false, List, [], ◌∷◌, ◌++◌, length, take, nat_lt, Option, Some, None, slice_index, slice_index_or, slice_set, if◌then◌else◌}
use Rattle.mp_desk.specs.declared.flying.Flying.{Flying}
use Rattle.mp_desk.specs.DeskView.{flying_with}

-- the flights with their requests, in the order sent, and for how many more there is room
pub record FlightsView : Type 0 where
  pub flying : List Flying
  pub spare : ℕ

-- the flights that are there, in the order sent
abbrev pub flying : List (Option Flying) → List Flying
flying [] = []
flying (None ∷ places) = flying places
flying (Some f ∷ places) = f ∷ flying places

-- the index has the place of each flight that is there, where the first place is this one
abbrev pub ArePlaced : List ℕ → ℕ → List (Option Flying) → Type 0
ArePlaced index place [] = Unit {0}
ArePlaced index place (None ∷ places) = ArePlaced index (suc place) places
ArePlaced index place (Some f ∷ places) = (slice_index index f.flight.req ≡ place) × ArePlaced index (suc place) places

-- The index has the place of each flight, unless a number flies twice; no flight stands before the first place; and so
-- many are there.
pub record AreKept (index : List ℕ) (sent : List (Option Flying)) (first count : ℕ) (twice : Bool) : Type 0 where
  pub placed : twice ≡ false → ArePlaced index 0 sent
  pub before : flying (take first sent) ≡ []
  pub within : first ≤ length sent
  pub count_is : count ≡ length (flying sent)

-- for how many flights there is room, by the places of the index and the room for more places
abbrev pub room_of : ℕ → ℕ → ℕ
room_of numbers room = if nat_lt numbers 65536 then 0 else room

-- a flight is of this number, where one is named
abbrev pub is_named : Option ℕ → ℕ → Bool
is_named None req = true
is_named (Some named) req = req == named

-- the flights of a number, where one is named, or all
abbrev pub flying_of : Option ℕ → List Flying → List Flying
flying_of None fs = fs
flying_of (Some req) fs = flying_with req fs

-- a flight of the number is there
abbrev pub is_there : Option ℕ → Option Flying → Bool
is_there named None = false
is_there named (Some f) = is_named named f.flight.req

-- a flight of the number stands at a place
abbrev pub is_at : List (Option Flying) → ℕ → Option ℕ → Bool
is_at sent place named = is_there named (slice_index_or sent place None)

-- No flight of the number stands before the place, and where none stands there, none is there at all.
pub record IsFirst (named : Option ℕ) (sent : List (Option Flying)) (place : ℕ) : Type 0 where
  pub before : flying_of named (flying (take place sent)) ≡ []
  pub none : is_at sent place named ≡ false → flying_of named (flying sent) ≡ []

-- The first flight of the number was taken from these.
pub record TakesFirst (named : Option ℕ) (f : Flying) (old new : List Flying) : Type 0 where
  pub before : List Flying
  pub after : List Flying
  pub was : old ≡ before ++ f ∷ after
  pub is : new ≡ before ++ after
  pub none : flying_of named before ≡ []
  pub named_so : is_named named f.flight.req ≡ true

-- The first flight of the number was taken, or there is none.
abbrev pub IsTaken : Option ℕ → Option Flying → List Flying → List Flying → Type 0
IsTaken named None old new = (flying_of named old ≡ []) × (new ≡ old)
IsTaken named (Some f) old new = TakesFirst named f old new

-- A flight of the number stood at the place, and its place is empty now, or none stood there.
abbrev pub IsTakenAt : Option ℕ → ℕ → List (Option Flying) → List (Option Flying) → Option Flying → Type 0
IsTakenAt named place old new None = (is_at old place named ≡ false) × (new ≡ old)
IsTakenAt named place old new (Some f) =
    (place < length old) × (slice_index_or old place None ≡ Some f) × (new ≡ slice_set old place None) × (is_named named f.flight.req ≡ true)

-- the first place once one is taken: behind it, where it was the first of all
abbrev pub first_behind : Option ℕ → ℕ → ℕ → ℕ
first_behind None first place = place + 1
first_behind (Some req) first place = first
