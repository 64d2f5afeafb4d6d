-- The plain run's walk over the slots under removal, slot by slot.
use Rattle.std.proofs.Common.{◌≡◌, ℕ, ◌==◌, ◌||◌, not, Bool, true, false, List, [], ◌∷◌, cond, Some, refl, sym, ap, ◌∙◌, eqb-true, eq-eqb, append_assoc, if◌then◌else◌}
use Rattle.std.specs.Prelude.{filter, find}
use Rattle.mp_words.specs.Order.{slots_of}
use Rattle.mp_legal.specs.Answers.{through_first}
use Rattle.mp_legal.specs.PlainKeep.{is_among, without, is_idle, unlisted, freed, freed_or_again}
use Rattle.mp_legal.specs.PlainState.{State}
use Rattle.mp_legal.specs.Stepped.{Stepped, Place, joined, and_then, each}

-- the walk over these slots; the flights on the oldest are told where none is idle
abbrev pub walked_from : Place → State → ℕ → List ℕ → Stepped
walked_from at s oldest slots =
    and_then (each (unlisted at) s (filter (is_among (slots_of s.order)) (through_first (is_idle s) slots))) (freed_or_again at oldest (find (is_idle s) slots))

joined_in : (f : Stepped) (g : Stepped) (next : State → Stepped) → and_then (joined f g) next ≡ joined f (and_then g next)
joined_in f g next = λ i. record {
  state = (next g.state).state;
  rows = append_assoc f.rows g.rows (next g.state).rows i;
  orders = append_assoc f.orders g.orders (next g.state).orders i;
  events = append_assoc f.events g.events (next g.state).events i;
}

-- the walk, by whether the first slot is idle
abbrev walked_by : Place → State → ℕ → ℕ → List ℕ → Bool → Stepped
walked_by at s oldest slot slots idle =
    and_then (each (unlisted at) s (filter (is_among (slots_of s.order)) (if idle then slot ∷ [] else slot ∷ through_first (is_idle s) slots))) (freed_or_again at oldest (cond idle (Some slot) (find (is_idle s) slots)))

-- the first slot is listed: it is unlisted, and the walk begins anew
pub walk_listed : (at : Place) (s : State) (oldest slot : ℕ) (slots : List ℕ) → is_among (slots_of s.order) slot ≡ true → is_among (slots_of (unlisted at s slot).state.order) slot ≡ false
    → filter (is_among (slots_of (unlisted at s slot).state.order)) (through_first (is_idle s) slots) ≡ filter (is_among (slots_of s.order)) (through_first (is_idle s) slots)
    → walked_from at s oldest (slot ∷ slots) ≡ joined (unlisted at s slot) (walked_from at (unlisted at s slot).state oldest (slot ∷ slots))
walk_listed at s oldest slot slots there gone same = by (is_idle s slot)
  where
    by : (b : Bool) → walked_by at s oldest slot slots b ≡ joined (unlisted at s slot) (walked_by at (unlisted at s slot).state oldest slot slots b)
    by true =
        ap (λ (c : Bool). and_then (each (unlisted at) s (cond c (slot ∷ []) [])) (freed_or_again at oldest (Some slot))) there
        ∙ joined_in (unlisted at s slot) (each (unlisted at) (unlisted at s slot).state []) (freed_or_again at oldest (Some slot))
        ∙ ap (λ (c : Bool). joined (unlisted at s slot) (and_then (each (unlisted at) (unlisted at s slot).state (cond c (slot ∷ []) [])) (freed_or_again at oldest (Some slot)))) (sym gone)
    by false =
        let rest : List ℕ = filter (is_among (slots_of s.order)) (through_first (is_idle s) slots) in
        let after : List ℕ = filter (is_among (slots_of (unlisted at s slot).state.order)) (through_first (is_idle s) slots) in
        let next : State → Stepped = freed_or_again at oldest (find (is_idle s) slots) in
        ap (λ (c : Bool). and_then (each (unlisted at) s (cond c (slot ∷ rest) rest)) next) there
        ∙ joined_in (unlisted at s slot) (each (unlisted at) (unlisted at s slot).state rest) next
        ∙ ap (λ (xs : List ℕ). joined (unlisted at s slot) (and_then (each (unlisted at) (unlisted at s slot).state xs) next)) (sym same)
        ∙ ap (λ (c : Bool). joined (unlisted at s slot) (and_then (each (unlisted at) (unlisted at s slot).state (cond c (slot ∷ after) after)) next)) (sym gone)

-- the first slot isn't listed, nor idle
pub walk_past : (at : Place) (s : State) (oldest slot : ℕ) (slots : List ℕ) → is_among (slots_of s.order) slot ≡ false → is_idle s slot ≡ false → walked_from at s oldest (slot ∷ slots) ≡ walked_from at s oldest slots
walk_past at s oldest slot slots gone busy =
    ap (walked_by at s oldest slot slots) busy
    ∙ ap (λ (c : Bool). and_then (each (unlisted at) s (cond c (slot ∷ filter (is_among (slots_of s.order)) (through_first (is_idle s) slots)) (filter (is_among (slots_of s.order)) (through_first (is_idle s) slots)))) (freed_or_again at oldest (find (is_idle s) slots))) gone

-- the first slot isn't listed, and it is idle
pub walk_idle : (at : Place) (s : State) (oldest slot : ℕ) (slots : List ℕ) → is_among (slots_of s.order) slot ≡ false → is_idle s slot ≡ true → walked_from at s oldest (slot ∷ slots) ≡ freed at s slot
walk_idle at s oldest slot slots gone idle =
    ap (walked_by at s oldest slot slots) idle
    ∙ ap (λ (c : Bool). and_then (each (unlisted at) s (cond c (slot ∷ []) [])) (freed_or_again at oldest (Some slot))) gone

other_way : (m n : ℕ) → (m == n) ≡ false → (n == m) ≡ false
other_way m n e = by (n == m) refl
  where
    by : (b : Bool) → (n == m) ≡ b → b ≡ false
    by false f = refl
    by true f = sym (eq-eqb m n (sym (eqb-true n m f))) ∙ e

pub or_false : (b c : Bool) → (b || c) ≡ false → (b ≡ false) × (c ≡ false)
or_false false false e = (refl, refl)
or_false false true e = absurd cc
or_false true c e = absurd cc

-- a slot that was left out is in the list no more
pub among_without : (slot : ℕ) (slots : List ℕ) → is_among (without slot slots) slot ≡ false
among_without slot [] = refl
among_without slot (s ∷ slots) = by (s == slot) refl (among_without slot slots)
  where
    by : (b : Bool) → (s == slot) ≡ b → is_among (without slot slots) slot ≡ false → is_among (cond (not b) (s ∷ without slot slots) (without slot slots)) slot ≡ false
    by true e later = later
    by false e later = λ i. e i || later i

-- the other slots are where they were
pub among_others : (slot other : ℕ) (slots : List ℕ) → (other == slot) ≡ false → is_among (without slot slots) other ≡ is_among slots other
among_others slot other [] apart = refl
among_others slot other (s ∷ slots) apart = by (s == slot) refl (among_others slot other slots apart)
  where
    by : (b : Bool) → (s == slot) ≡ b → is_among (without slot slots) other ≡ is_among slots other → is_among (cond (not b) (s ∷ without slot slots) (without slot slots)) other ≡ ((s == other) || is_among slots other)
    by true e later = later ∙ ap (λ (b : Bool). b || is_among slots other) (sym (ap (λ (n : ℕ). n == other) (eqb-true s slot e) ∙ other_way other slot apart))
    by false e later = ap (λ (b : Bool). (s == other) || b) later

-- the other slots that are listed
pub filter_others : (slot : ℕ) (slots others : List ℕ) → is_among others slot ≡ false → filter (is_among (without slot slots)) others ≡ filter (is_among slots) others
filter_others slot slots [] none = refl
filter_others slot slots (o ∷ others) none =
    let apart = or_false (o == slot) (is_among others slot) none in
    λ i. cond (among_others slot o slots apart.0 i) (o ∷ filter_others slot slots others apart.1 i) (filter_others slot slots others apart.1 i)

-- a slot that isn't one of these isn't one of the first of them
pub through_others : (p : ℕ → Bool) (slot : ℕ) (others : List ℕ) → is_among others slot ≡ false → is_among (through_first p others) slot ≡ false
through_others p slot [] none = refl
through_others p slot (o ∷ others) none =
    let apart = or_false (o == slot) (is_among others slot) none in by (p o) apart.0 (through_others p slot others apart.1)
  where
    by : (b : Bool) → (o == slot) ≡ false → is_among (through_first p others) slot ≡ false → is_among (if b then o ∷ [] else o ∷ through_first p others) slot ≡ false
    by true e later = λ i. e i || false
    by false e later = λ i. e i || later i

-- a slot that isn't one of these is left out already
pub without_none : (slot : ℕ) (others : List ℕ) → is_among others slot ≡ false → without slot others ≡ others
without_none slot [] none = refl
without_none slot (o ∷ others) none =
    let apart = or_false (o == slot) (is_among others slot) none in
    λ i. cond (not (apart.0 i)) (o ∷ without_none slot others apart.1 i) (without_none slot others apart.1 i)
