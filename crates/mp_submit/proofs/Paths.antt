-- The paths of a reading, one by one.
use Rattle.std.proofs.Common.{◌≡◌, ◌∙◌, ℕ, zero, suc, ◌<◌, List, [], ◌∷◌, length, take, map, get_or, refl, sym, arith}
use Rattle.std.specs.Prelude.{zip}
use Rattle.std.specs.List.{AllByRecursion}
use Rattle.mp_words.specs.declared.row.Row.{Row}
use Rattle.mp_words.specs.declared.reading.Reading.{Reading}
use Rattle.mp_words.specs.Effect.{free_row}
use Rattle.mp_words.specs.declared.path.Path.{Path}
use Rattle.mp_words.specs.PathTable.{path_of, paths_of}
use Rattle.mp_core.specs.Reads.{slot_of, row_of_place}

zip_all : (P : Path → Type 0) (n : ℕ) (xs : List ℕ) (ys : List Row) → ((k : ℕ) → k < n → P (record { slot = get_or xs k 0; row = get_or ys k (free_row 0) })) → AllByRecursion P (map path_of (take n (zip xs ys)))
zip_all P zero xs ys h = tt
zip_all P (suc n) [] ys h = tt
zip_all P (suc n) (x ∷ xs) [] h = tt
zip_all P (suc n) (x ∷ xs) (y ∷ ys) h = (h 0 (omega arith), zip_all P n xs ys (λ k l. h (suc k) (omega arith)))

pub paths_all : (P : Path → Type 0) (r : Reading) → ((k : ℕ) → k < r.len → P (record { slot = slot_of r k; row = row_of_place r k })) → AllByRecursion P (paths_of r)
paths_all P r h = zip_all P r.len r.slots r.rows h

zip_map : (f : ℕ → Row) (n : ℕ) (xs : List ℕ) (ys : List Row) → length xs ≡ length ys → ((k : ℕ) → k < n → k < length xs → get_or ys k (free_row 0) ≡ f (get_or xs k 0)) → map path_of (take n (zip xs ys)) ≡ map (λ (s : ℕ). record { slot = s; row = f s }) (take n xs)
zip_map f zero xs ys e h = refl
zip_map f (suc n) [] ys e h = refl
zip_map f (suc n) (x ∷ xs) [] e h = absurd (omega arith)
zip_map f (suc n) (x ∷ xs) (y ∷ ys) e h = λ i. record { slot = x; row = h 0 (omega arith) (omega arith) i } ∷ zip_map f n xs ys (omega arith) (λ k l m. h (suc k) (omega arith) (omega arith)) i

pub paths_same : (f : ℕ → Row) (r : Reading) → length r.slots ≡ 8 → length r.rows ≡ 8 → ((k : ℕ) → k < r.len → row_of_place r k ≡ f (slot_of r k)) → paths_of r ≡ map (λ (s : ℕ). record { slot = s; row = f s }) (take r.len r.slots)
paths_same f r slots rows h = zip_map f r.len r.slots r.rows (slots ∙ sym rows) (λ k l m. h k l)
