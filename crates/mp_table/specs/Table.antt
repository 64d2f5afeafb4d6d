-- What holds of the 42 words and of what all passes know, between any two steps, and what a step has to keep.
use Rattle.std.specs.Prelude.{◌≡◌, ℕ, ◌<◌, true, List, length, slice_index, slice_set}
use mathlib.Core.Option.{some}
use lib.ListN.{get_elem?}
use Rattle.mp_words.specs.declared.flight.Flight.{Flight}
use Rattle.mp_words.specs.declared.words.Words.{Words}
use Rattle.mp_core.specs.declared.view.Start.{Start}
use Rattle.mp_core.specs.declared.view.View.{View}
use Rattle.mp_core.specs.Memory.{Memory}
use Rattle.mp_core.specs.Unpacked.{unpacked}
use Rattle.mp_core.specs.Views.{has_flight}
use Rattle.mp_rule.specs.Holds.{Holds}
use Rattle.mp_plain.specs.Packed.{IsPacked}
use Rattle.mp_table.specs.Words.{words_of, said}
use Rattle.mp_table.specs.Known.{RowsFit}

-- There are 42 words, each is a packing, and the rule holds of what they say and of what all passes know.
pub record Kept (start : Start) (words : List ℕ) (views : List View) : Type 0 where
  pub count : length words ≡ 42
  pub packed : IsPacked (words_of words)
  pub units : start.units < 1073741824
  pub rule : Holds start (said words) views

-- Whatever the words and the other views are when the word i becomes f of what it was, there is a view of the pass
-- after, with which all that holds between steps is kept, and what is told of the number found holds.
abbrev pub Keeps : ℕ → View → ℕ → (ℕ → ℕ) → (ℕ → View → Type 0) → Type 0
Keeps id v i f tells =
    (start : Start) (words : List ℕ) (views : List View) → Kept start words views → get_elem? views id ≡ some v →
    slice_index words i < 18446744073709551616 →
    (w : View) × Kept start (slice_set words i (f (slice_index words i))) (slice_set views id w) × RowsFit w × tells (slice_index words i) w

-- The rule holds of what the words say and of what all passes know, among them this one.
abbrev pub RuleHolds : Words → View → Type 0
RuleHolds w v = (views : List View) × (id : ℕ) × Holds v.keeping.start (unpacked w) views × (get_elem? views id ≡ some v)

-- There are words, those of one moment, of which the rule holds with what this pass knows.
abbrev pub Told : View → Type 0
Told v = (w : Words) × IsPacked w × RuleHolds w v

-- A fact of every moment of the table at which a pass knows this: of what the words say, and of what all passes know.
abbrev pub AtEach : View → (Memory → List View → Type 0) → Type 0
AtEach v P =
    (start : Start) (words : List ℕ) (views : List View) (id : ℕ) → Kept start words views →
    get_elem? views id ≡ some v → P (said words) views

-- No pass has a request on the slot.
abbrev pub NoRequestOn : ℕ → Memory → List View → Type 0
NoRequestOn slot m views =
    (i : ℕ) (v : View) (f : Flight) → get_elem? views i ≡ some v → has_flight f v ≡ true → f.slot ≡ slot → ⊥
