-- What fits: the paths of a state, a list of paths, and the history of a slot.
use Rattle.std.specs.Prelude.{◌≡◌, ℕ, suc, ◌+◌, ◌≤◌, nat_lt, true, List, [], ◌∷◌, IfSome, Ok, if◌then◌else◌}
use Rattle.mp_words.specs.declared.row.Row.{Row}
use Rattle.mp_words.specs.declared.order.Order.{Order}
use Rattle.mp_words.specs.declared.op.Op.TheVariants as op
use Rattle.mp_words.specs.declared.op.Effect.TheVariants as effect
use Rattle.mp_words.specs.declared.entry.RowEntry.{RowEntry}
use Rattle.mp_words.specs.declared.entry.OrderEntry.{OrderEntry}
use Rattle.mp_words.specs.declared.entry.KeepEntry.{KeepEntry}
use Rattle.mp_words.specs.declared.entry.KeepEntry.TheVariants as keep
use Rattle.mp_words.specs.Effect.{effect_of, Suits, IsState}
use Rattle.mp_words.specs.Order.{slots_of}
use Rattle.mp_words.specs.Row.{is_given}
use Rattle.mp_record.specs.declared.event.Event.{Event}
use Rattle.mp_record.specs.declared.event.Event.TheVariants.{Sec, At, Try, Fin}
use Rattle.mp_record.specs.declared.event.Said.{Said}
use Rattle.mp_record.specs.declared.event.Said.TheVariants as said
use Rattle.mp_page.specs.declared.page.Page.{Page}
use Rattle.mp_page.specs.Gifts.{page_at, state_for}
use Rattle.mp_topology.specs.Facts.{IsTopology}
use Rattle.mp_script.specs.Distinct.{IsDistinct}
use Rattle.mp_legal.specs.PlainState.{State, row_at, depth_of}
use Rattle.mp_legal.specs.PlainCall.{Inputs}
use Rattle.mp_legal.specs.PlainKeep.{is_among}

-- What holds of inputs that were read: a topology that was read, and each ANA state that a page states is from 1 to 15.
pub record AreRead (i : Inputs) : Type 0 where
  pub topology : IsTopology i.topology
  pub stated : (box : ℕ) (page : Page) → page_at i.pages box ≡ Ok page → IfSome (state_for page i.topology.nsid) IsState

-- The list has at most eight slots, each once.
pub record ListFits (order : Order) : Type 0 where
  pub few : order.len ≤ 8
  pub once : IsDistinct (slots_of order)

-- the keeper's entry fits, if it is a list of paths
abbrev pub EntryFits : KeepEntry → Type 0
EntryFits (keep.Order e) = ListFits e.order
EntryFits (keep.Closing c) = Unit {0}

-- The list fits, each listed slot has a path, and no two slots have paths of the same controller.
pub record PathsFit (s : State) : Type 0 where
  pub list : ListFits s.order
  pub listed : (slot : ℕ) → is_among (slots_of s.order) slot ≡ true → is_given (row_at s slot) ≡ true
  pub apart : (slot other : ℕ) → is_given (row_at s slot) ≡ true → is_given (row_at s other) ≡ true
      → (row_at s slot).ctrl ≡ (row_at s other).ctrl → slot ≡ other

-- The entry follows on the row: it is the effect of its operation, one version later; the operation suits the row, and
-- only a marked slot is freed.
pub record Follows (row : Row) (e : RowEntry) : Type 0 where
  pub made : effect_of row e.op ≡ effect.Changed e.row
  pub next : e.row.version ≡ row.version + 1
  pub suits : Suits row e.op
  pub marks : e.op ≡ op.Free → row.marked ≡ true

-- These entries follow on the row, each on the row of the one before it.
abbrev pub AllFollow : Row → List RowEntry → Type 0
AllFollow row [] = Unit {0}
AllFollow row (e ∷ entries) = Follows row e × AllFollow e.row entries

-- The history of a slot: version 0, and then entries that follow.
abbrev pub IsHistory : List RowEntry → Type 0
IsHistory [] = ⊥
IsHistory (first ∷ entries) = (first.row.version ≡ 0) × AllFollow first.row entries

-- by how many of these lists, one after another behind this one, a slot leaves the list: they are the shorter ones
abbrev pub unlistings : Order → List OrderEntry → ℕ
unlistings order [] = 0
unlistings order (e ∷ entries) =
    if nat_lt e.order.len order.len then suc (unlistings e.order entries) else unlistings e.order entries

-- if the entry frees its slot, nothing flies on the slot in this state
abbrev pub FreesIdle : State → RowEntry → Type 0
FreesIdle s e = e.op ≡ op.Free → depth_of s e.slot ≡ 0

-- what a line says of flips, if it frees a slot, is this number
abbrev pub SaysFlips : ℕ → Said → Type 0
SaysFlips flips (said.Freed slot version told) = told ≡ flips
SaysFlips flips _ = Unit {0}

-- what an event tells of flips, if it frees a slot, is this number
abbrev pub TellsFlips : ℕ → Event → Type 0
TellsFlips flips (At line said) = SaysFlips flips said
TellsFlips flips (Try req hop end) = Unit {0}
TellsFlips flips (Sec note moved) = Unit {0}
TellsFlips flips (Fin req hop statuses count back) = Unit {0}
