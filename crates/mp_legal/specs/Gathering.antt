-- The parts of a run, put together: which entries a slot has, and in which order they and the requests stand.
use Rattle.std.specs.Prelude.{◌≡◌, ℕ, ◌==◌, ◌&&◌, ◌<◌, nat_le, Bool, List, [], ◌∷◌, map, filter, count_by, if◌then◌else◌}
use Rattle.std.specs.List.{enumerate_from, range_with_len, flat_map, AllByRecursion}
use Rattle.mp_words.specs.declared.entry.RowEntry.{RowEntry}
use Rattle.mp_words.specs.declared.words.Words.{Words}
use Rattle.mp_words.specs.Request.{Asked}
use Rattle.mp_core.specs.Unpacked.{unpacked}
use Rattle.mp_legal.specs.Opening.{opening_entry}

-- the entry is of this slot
abbrev pub is_of : ℕ → RowEntry → Bool
is_of slot e = e.slot == slot

-- how many entries a slot has
abbrev pub count_of : ℕ → List RowEntry → ℕ
count_of slot entries = count_by (is_of slot) entries

-- the entry is this version of this slot
abbrev pub is_version : ℕ → ℕ → RowEntry → Bool
is_version slot version e = (e.slot == slot) && (e.row.version == version)

-- Each slot's entries have the versions 1, 2 and on, each once.
abbrev pub AreVersions : List RowEntry → Type 0
AreVersions entries =
    (slot version : ℕ) → slot < 15
    → count_by (is_version slot version) entries ≡ (if nat_le 1 version && nat_le version (count_of slot entries) then 1 else 0)

-- The rows of the words have version 0.
abbrev pub BeginAt0 : Words → Type 0
BeginAt0 words = AllByRecursion (λ row. row.version ≡ 0) (unpacked words).rows

-- the entries of the rows of the words, by slot
abbrev pub first_entries : Words → List RowEntry
first_entries words = map opening_entry (enumerate_from 0 (unpacked words).rows)

-- all row entries of a slot: this one, and then the slot's other entries by version, from 1 on
abbrev pub history : List RowEntry → RowEntry → List RowEntry
history entries first =
    first ∷ flat_map (λ version. filter (is_version first.slot version) entries) (range_with_len 1 (count_of first.slot entries))

-- The requests stand by number, each once.
abbrev pub AreNumbered : List Asked → Type 0
AreNumbered [] = Unit {0}
AreNumbered (a ∷ requests) = AllByRecursion (λ b. a.req < b.req) requests × AreNumbered requests

-- The lists have the same items, each as often, in whatever order.
abbrev pub HaveSameItems : {X : Type 0} → List X → List X → Type 0
HaveSameItems {X} xs ys = (p : X → Bool) → count_by p xs ≡ count_by p ys
