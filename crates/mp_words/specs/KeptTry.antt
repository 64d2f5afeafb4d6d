-- What a kept try tells.
use Rattle.std.specs.Prelude.{ℕ, ◌≡◌, ◌+◌, ◌<◌, List, [], ◌∷◌, None}
use Rattle.std.specs.List.{slice_index_or}
use Rattle.mp_words.specs.declared.note.Note.{Note}
use Rattle.mp_words.specs.declared.trying.Try.{Try}
use Rattle.mp_words.specs.declared.trying.TryEnd.TheVariants as end
use Rattle.mp_words.specs.declared.kept_try.KeptTry.{KeptTry}
use Rattle.mp_words.specs.declared.kept_try.KeptTry.TheVariants as kept
use Rattle.mp_words.specs.Like.{at_ticket}

-- a note of nothing
abbrev pub no_note : Note
no_note = record { lane = 0; side = 0; ticket = 0; order = None; reading = record { len = 0; slots = []; rows = [] }; read = []; current = None; depths = [] }

-- what stands for a try that isn't there
abbrev pub no_try : Try
no_try = record { hop = 0; end = end.Listed; note = no_note; statuses = []; count = 0; back = None }

-- a listed try with this number, and otherwise as another try but for the ticket
abbrev pub as_again : ℕ → ℕ → Try → Try
as_again hop ticket t = record { hop = hop; end = end.Listed; note = at_ticket ticket t.note; statuses = t.statuses; count = 0; back = None }

-- the try that a kept one tells, beside those that are kept whole
abbrev pub told : List Try → KeptTry → Try
told whole (kept.Whole place) = slice_index_or whole place no_try
told whole (kept.Again hop ticket like) = as_again hop ticket (slice_index_or whole like no_try)

-- of n whole tries m are told by now, and these tell the rest, each in its turn; one that is like another comes behind it
abbrev pub AreFit : ℕ → ℕ → List KeptTry → Type 0
AreFit n m [] = m ≡ n
AreFit n m (kept.Whole place ∷ ks) = (place ≡ m) × AreFit n (m + 1) ks
AreFit n m (kept.Again hop ticket like ∷ ks) = (like < m) × AreFit n m ks

-- a kept try that is like one of the first n whole ones
abbrev pub IsAgain : ℕ → KeptTry → Type 0
IsAgain n (kept.Whole place) = ⊥
IsAgain n (kept.Again hop ticket like) = like < n
