-- What a clearing leaves of the current words and of the view.
use Rattle.std.proofs.Common.{◌≡◌, ℕ, zero, suc, ◌==◌, ◌&&◌, Bool, true, false, List, [], ◌∷◌, length, map, set, get_or, Option, None, Some, refl, ap, ◌∙◌, arith}
use Rattle.std.proofs.lemmas.List.{length-map}
use Rattle.mp_words.specs.declared.row.Policy.{Policy}
use Rattle.mp_words.specs.declared.row.Policy.TheVariants.{Numa, RoundRobin, QueueDepth}
use Rattle.mp_words.specs.declared.row.Row.{Row}
use Rattle.mp_words.specs.declared.op.Op.TheVariants as op
use Rattle.mp_words.specs.States.{optimized}
use Rattle.mp_words.specs.Row.{is_enabled}
use Rattle.mp_words.specs.Effect.{Clears, every_one, the_slots, none, unless_slot, cleared, clears_of}
use Rattle.mp_core.specs.declared.view.View.{View}
use Rattle.mp_core.specs.declared.view.Keeping.{Keeping}
use Rattle.mp_core.specs.declared.view.Role.{Role}
use Rattle.mp_core.specs.declared.view.Role.TheVariants as role
use Rattle.mp_core.specs.Memory.{Memory}
use Rattle.mp_core.specs.Views.{clear_by}
use Rattle.mp_change.specs.Clears.{cleared_upto, clears_in, clears_view}
use Rattle.mp_legal.specs.ToldState.{lasts_by}

abbrev emptied_upto : ℕ → List (Option ℕ) → List (Option ℕ)
emptied_upto zero xs = xs
emptied_upto (suc n) xs = set (emptied_upto n xs) n None

abbrev slots_upto : ℕ → ℕ → List (Option ℕ) → List (Option ℕ)
slots_upto slot zero xs = xs
slots_upto slot (suc n) xs = set (slots_upto slot n xs) n (unless_slot slot (get_or (slots_upto slot n xs) n None))

-- all of eight places are made none
emptied_eight : (xs : List (Option ℕ)) → length xs ≡ 8 → emptied_upto 8 xs ≡ map (λ last. None) xs
emptied_eight [] e = absurd (omega arith)
emptied_eight (a ∷ []) e = absurd (omega arith)
emptied_eight (a ∷ b ∷ []) e = absurd (omega arith)
emptied_eight (a ∷ b ∷ c ∷ []) e = absurd (omega arith)
emptied_eight (a ∷ b ∷ c ∷ d ∷ []) e = absurd (omega arith)
emptied_eight (a ∷ b ∷ c ∷ d ∷ f ∷ []) e = absurd (omega arith)
emptied_eight (a ∷ b ∷ c ∷ d ∷ f ∷ g ∷ []) e = absurd (omega arith)
emptied_eight (a ∷ b ∷ c ∷ d ∷ f ∷ g ∷ h ∷ []) e = absurd (omega arith)
emptied_eight (a ∷ b ∷ c ∷ d ∷ f ∷ g ∷ h ∷ k ∷ []) e = refl
emptied_eight (a ∷ b ∷ c ∷ d ∷ f ∷ g ∷ h ∷ k ∷ l ∷ xs) e = absurd (omega arith)

-- all of eight places are cleared of a slot
slots_eight : (slot : ℕ) (xs : List (Option ℕ)) → length xs ≡ 8 → slots_upto slot 8 xs ≡ map (unless_slot slot) xs
slots_eight slot [] e = absurd (omega arith)
slots_eight slot (a ∷ []) e = absurd (omega arith)
slots_eight slot (a ∷ b ∷ []) e = absurd (omega arith)
slots_eight slot (a ∷ b ∷ c ∷ []) e = absurd (omega arith)
slots_eight slot (a ∷ b ∷ c ∷ d ∷ []) e = absurd (omega arith)
slots_eight slot (a ∷ b ∷ c ∷ d ∷ f ∷ []) e = absurd (omega arith)
slots_eight slot (a ∷ b ∷ c ∷ d ∷ f ∷ g ∷ []) e = absurd (omega arith)
slots_eight slot (a ∷ b ∷ c ∷ d ∷ f ∷ g ∷ h ∷ []) e = absurd (omega arith)
slots_eight slot (a ∷ b ∷ c ∷ d ∷ f ∷ g ∷ h ∷ k ∷ []) e = refl
slots_eight slot (a ∷ b ∷ c ∷ d ∷ f ∷ g ∷ h ∷ k ∷ l ∷ xs) e = absurd (omega arith)

-- a clearing of the words is one of the current words
pub clears_words : (c : Clears) (slot : ℕ) (m : Memory) → length m.currents ≡ 8 → clears_in c slot m ≡ record m { currents = cleared c slot m.currents }
clears_words every_one slot m e = λ i. record m { currents = emptied_eight m.currents e i }
clears_words the_slots slot m e = λ i. record m { currents = slots_eight slot m.currents e i }
clears_words none slot m e = refl

pub cleared_length : (c : Clears) (slot : ℕ) (xs : List (Option ℕ)) → length (cleared c slot xs) ≡ length xs
cleared_length every_one slot xs = length-map xs (λ last. None)
cleared_length the_slots slot xs = length-map xs (unless_slot slot)
cleared_length none slot xs = refl

-- the last choices after a clearing are those of the current words after it
pub lasts_cleared : (p : Policy) (c : Clears) (slot : ℕ) (xs : List (Option ℕ)) → cleared c slot (lasts_by p xs) ≡ lasts_by p (cleared c slot xs)
lasts_cleared RoundRobin c slot xs = refl
lasts_cleared Numa every_one slot xs = refl
lasts_cleared Numa the_slots slot xs = refl
lasts_cleared Numa none slot xs = refl
lasts_cleared QueueDepth every_one slot xs = refl
lasts_cleared QueueDepth the_slots slot xs = refl
lasts_cleared QueueDepth none slot xs = refl

-- a clearing leaves all but the keeper's part
pub clears_flights : (c : Clears) (slot : ℕ) (v : View) → (clears_view c slot v).flights ≡ v.flights
clears_flights every_one slot v = refl
clears_flights the_slots slot v = refl
clears_flights none slot v = refl

pub clears_left : (c : Clears) (slot : ℕ) (v : View) → (clears_view c slot v).left ≡ v.left
clears_left every_one slot v = refl
clears_left the_slots slot v = refl
clears_left none slot v = refl

pub clears_inside : (c : Clears) (slot : ℕ) (v : View) → (clears_view c slot v).inside ≡ v.inside
clears_inside every_one slot v = refl
clears_inside the_slots slot v = refl
clears_inside none slot v = refl

clear_start : (r : Role) (node slot : ℕ) (k : Keeping) → (clear_by r node slot k).start ≡ k.start
clear_start role.Keeper node slot k = refl
clear_start (role.Lane lane) node slot k = refl
clear_start role.Spent node slot k = refl

upto_start : (slot n : ℕ) (v : View) → (cleared_upto slot n v).keeping.start ≡ v.keeping.start
upto_start slot zero v = refl
upto_start slot (suc n) v = clear_start (cleared_upto slot n v).role n slot (cleared_upto slot n v).keeping ∙ upto_start slot n v

pub clears_start : (c : Clears) (slot : ℕ) (v : View) → (clears_view c slot v).keeping.start ≡ v.keeping.start
clears_start every_one slot v = refl
clears_start the_slots slot v = upto_start slot 8 v
clears_start none slot v = refl

-- what was cleared of a slot is so still
unless_twice : (slot : ℕ) (last : Option ℕ) → unless_slot slot (unless_slot slot last) ≡ unless_slot slot last
unless_twice slot None = refl
unless_twice slot (Some last) = by (last == slot) refl
  where
    by : (b : Bool) → (last == slot) ≡ b → unless_slot slot (unless_slot slot (Some last)) ≡ unless_slot slot (Some last)
    by true e = rw e refl
    by false e = rw (e, e) refl

slots_twice : (slot : ℕ) (xs : List (Option ℕ)) → cleared the_slots slot (cleared the_slots slot xs) ≡ cleared the_slots slot xs
slots_twice slot [] = refl
slots_twice slot (x ∷ xs) = λ i. unless_twice slot x i ∷ slots_twice slot xs i

none_cleared : (slot : ℕ) (xs : List (Option ℕ)) → cleared the_slots slot (cleared every_one slot xs) ≡ cleared every_one slot xs
none_cleared slot [] = refl
none_cleared slot (x ∷ xs) = ap (λ ys. None ∷ ys) (none_cleared slot xs)

-- after pending was set no last choice names the slot
pub pending_twice : (slot : ℕ) (row : Row) (xs : List (Option ℕ)) → cleared the_slots slot (cleared (clears_of op.Pending row) slot xs) ≡ cleared (clears_of op.Pending row) slot xs
pending_twice slot row xs = by (is_enabled row && (row.state == optimized)) refl
  where
    by : (b : Bool) → (is_enabled row && (row.state == optimized)) ≡ b → cleared the_slots slot (cleared (clears_of op.Pending row) slot xs) ≡ cleared (clears_of op.Pending row) slot xs
    by true e = rw e (none_cleared slot xs)
    by false e = rw e (slots_twice slot xs)
