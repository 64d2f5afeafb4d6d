-- What a kept event tells.
use Rattle.std.specs.Prelude.{ℕ, ◌+◌, ◌<◌, ◌≤◌, List, [], ◌∷◌, ◌≡◌, length, map, take, drop, Option, Some, None}
use Rattle.std.specs.List.{slice_index_or}
use Rattle.mp_words.specs.declared.note.Note.{Note}
use Rattle.mp_words.specs.declared.trying.Back.TheVariants as way
use Rattle.mp_words.specs.Like.{at_ticket}
use Rattle.mp_record.specs.declared.event.Event.{Event}
use Rattle.mp_record.specs.declared.event.Event.TheVariants as event
use Rattle.mp_record.specs.declared.event.Said.TheVariants as word
use Rattle.mp_record.specs.declared.kept.Kept.{Kept}
use Rattle.mp_record.specs.declared.kept.Kept.TheVariants as kept

-- a note with another current path
abbrev pub at_current : Option (Option ℕ) → Note → Note
at_current current n = record n { current = current }

-- an event with another ticket and another current path, where it is a section
abbrev pub retold : ℕ → Option (Option ℕ) → Event → Event
retold ticket current (event.Sec note moved) = event.Sec (at_ticket ticket (at_current current note)) moved
retold ticket current (event.At line said) = event.At line said
retold ticket current (event.Try req hop end) = event.Try req hop end
retold ticket current (event.Fin req hop statuses count back) = event.Fin req hop statuses count back

-- the event that a kept one tells, beside those that stand apart
abbrev pub told : List Event → Kept → Event
told apart (kept.Apart place) = slice_index_or apart place (event.At 0 word.Idle)
told apart (kept.Section like ticket current) = retold ticket current (slice_index_or apart like (event.At 0 word.Idle))
told apart (kept.At line said) = event.At line said
told apart (kept.Try req hop end) = event.Try req hop end
told apart (kept.Done count req hop statuses) = event.Fin req hop statuses count None
told apart (kept.Unset count req hop statuses) = event.Fin req hop statuses count (Some way.Unset)

-- the place of a kept event, where it has one, is below this
abbrev pub IsBelow : ℕ → Kept → Type 0
IsBelow n (kept.Apart place) = place < n
IsBelow n (kept.Section like ticket current) = like < n
IsBelow n (kept.At line said) = Unit {0}
IsBelow n (kept.Try req hop end) = Unit {0}
IsBelow n (kept.Done count req hop statuses) = Unit {0}
IsBelow n (kept.Unset count req hop statuses) = Unit {0}

-- the places of all these are below this
abbrev pub AreBelow : ℕ → List Kept → Type 0
AreBelow n [] = Unit {0}
AreBelow n (k ∷ ks) = IsBelow n k × AreBelow n ks

-- the event is a section
abbrev pub IsSection : Event → Type 0
IsSection (event.Sec note moved) = Unit {0}
IsSection (event.At line said) = ⊥
IsSection (event.Try req hop end) = ⊥
IsSection (event.Fin req hop statuses count back) = ⊥

-- the place of an event apart is from m on, and what a section is like is a section
abbrev pub IsInOrder : List Event → ℕ → Kept → Type 0
IsInOrder apart m (kept.Apart place) = m ≤ place
IsInOrder apart m (kept.Section like ticket current) = IsSection (slice_index_or apart like (event.At 0 word.Idle))
IsInOrder apart m (kept.At line said) = Unit {0}
IsInOrder apart m (kept.Try req hop end) = Unit {0}
IsInOrder apart m (kept.Done count req hop statuses) = Unit {0}
IsInOrder apart m (kept.Unset count req hop statuses) = Unit {0}

-- the least place that the next event apart may have
abbrev pub past : ℕ → Kept → ℕ
past m (kept.Apart place) = place + 1
past m (kept.Section like ticket current) = m
past m (kept.At line said) = m
past m (kept.Try req hop end) = m
past m (kept.Done count req hop statuses) = m
past m (kept.Unset count req hop statuses) = m

-- the places of the events apart rise from m on, and what sections are like are sections
abbrev pub AreInOrder : List Event → ℕ → List Kept → Type 0
AreInOrder apart m [] = Unit {0}
AreInOrder apart m (k ∷ ks) = IsInOrder apart m k × AreInOrder apart (past m k) ks

-- none is a section, and the place of an event apart is from m on and below n
abbrev pub IsPlainIn : ℕ → ℕ → Kept → Type 0
IsPlainIn n m (kept.Apart place) = (m ≤ place) × (place < n)
IsPlainIn n m (kept.Section like ticket current) = ⊥
IsPlainIn n m (kept.At line said) = Unit {0}
IsPlainIn n m (kept.Try req hop end) = Unit {0}
IsPlainIn n m (kept.Done count req hop statuses) = Unit {0}
IsPlainIn n m (kept.Unset count req hop statuses) = Unit {0}

-- none of these is a section, and the places of the events apart rise from m on, below n
abbrev pub ArePlainIn : ℕ → ℕ → List Kept → Type 0
ArePlainIn n m [] = Unit {0}
ArePlainIn n m (k ∷ ks) = IsPlainIn n m k × ArePlainIn n (past m k) ks

-- The places of the events apart that the first i of the kept ones name are the first w by now. Behind them all is as
-- it was, and each kept event tells what it told.
pub record IsPacking (ks : List Kept) (es : List Event) (i w : ℕ) (now : List Kept) (apart : List Event) : Type 0 where
  pub told : map (told apart) now ≡ map (told es) ks
  pub front : ArePlainIn w 0 (take i now)
  pub rest : ArePlainIn (length apart) w (drop i now)
  pub within : w ≤ length apart
