-- What an index finds, and what is taken.
use Rattle.std.proofs.Common.{◌≡◌, ℕ, zero, suc, ◌+◌, ◌<◌, ◌≤◌, Bool, true, false, ◌==◌, List, [], ◌∷◌, ◌++◌, inl, inr, length, replicate, get_or, set, take, drop, Option, Some, None, refl, sym, ap, ◌∙◌, cond, eq-eqb, arith}
use Rattle.std.specs.Prelude.{slice_index}
use Rattle.std.proofs.lemmas.Bool.{cases_Bool, eqb-true}
use Rattle.std.proofs.lemmas.List.{length-append, length-set, take-append-le}
use Rattle.mp_desk.specs.declared.flying.Flying.{Flying}
use Rattle.mp_desk.specs.DeskView.{flying_with}
use Rattle.mp_desk.specs.Indexed.{AreKept, ArePlaced, first_behind, flying, flying_of, is_there}

none_taken : (n : ℕ) → flying (take n []) ≡ []
none_taken zero = refl
none_taken (suc n) = refl

-- no flight from a place on is of a number of an earlier place
pub none_flies : (index : List ℕ) (place req : ℕ) (sent : List (Option Flying)) → ArePlaced index place sent → slice_index index req < place → flying_with req (flying sent) ≡ []
none_flies index place req [] placed before = refl
none_flies index place req (None ∷ sent) placed before = none_flies index (suc place) req sent placed (omega arith)
none_flies index place req (Some f ∷ sent) placed before =
    elim (cases_Bool (f.flight.req == req)) [
      | inl same_one ↦ let same : slice_index index f.flight.req ≡ slice_index index req = ap (slice_index index) (eqb-true f.flight.req req same_one) in
          absurd (omega (arith, placed.0))
      | inr other_one ↦ rw other_one (none_flies index (suc place) req sent placed.1 (omega arith))
    ]

-- before the place that the index has of a number, none of it flies
pub none_before : (index : List ℕ) (place n req : ℕ) (sent : List (Option Flying)) → ArePlaced index place sent → slice_index index req ≡ place + n → flying_with req (flying (take n sent)) ≡ []
none_before index place n req [] placed is = ap (flying_with req) (none_taken n)
none_before index place zero req (o ∷ sent) placed is = refl
none_before index place (suc n) req (None ∷ sent) placed is = none_before index (suc place) n req sent placed (omega arith)
none_before index place (suc n) req (Some f ∷ sent) placed is =
    elim (cases_Bool (f.flight.req == req)) [
      | inl same_one ↦ let same : slice_index index f.flight.req ≡ slice_index index req = ap (slice_index index) (eqb-true f.flight.req req same_one) in
          absurd (omega (arith, placed.0))
      | inr other_one ↦ rw other_one (none_before index (suc place) n req sent placed.1 (omega arith))
    ]

-- where none of the number stands at its place, none flies
pub none_there : (index : List ℕ) (place n req : ℕ) (sent : List (Option Flying)) → ArePlaced index place sent → slice_index index req ≡ place + n → is_there (Some req) (get_or sent n None) ≡ false → flying_with req (flying sent) ≡ []
none_there index place n req [] placed is hasnt = refl
none_there index place zero req (None ∷ sent) placed is hasnt = none_flies index (suc place) req sent placed (omega arith)
none_there index place zero req (Some f ∷ sent) placed is hasnt = rw hasnt (none_flies index (suc place) req sent placed.1 (omega arith))
none_there index place (suc n) req (None ∷ sent) placed is hasnt = none_there index (suc place) n req sent placed (omega arith) hasnt
none_there index place (suc n) req (Some f ∷ sent) placed is hasnt =
    elim (cases_Bool (f.flight.req == req)) [
      | inl same_one ↦ let same : slice_index index f.flight.req ≡ slice_index index req = ap (slice_index index) (eqb-true f.flight.req req same_one) in
          absurd (omega (arith, placed.0))
      | inr other_one ↦ rw other_one (none_there index (suc place) n req sent placed.1 (omega arith) hasnt)
    ]

-- where one stands at its place, it is the only one
pub one_there : (index : List ℕ) (place n req : ℕ) (sent : List (Option Flying)) → ArePlaced index place sent → slice_index index req ≡ place + n → is_there (Some req) (get_or sent n None) ≡ true → length (flying_with req (flying sent)) ≡ 1
one_there index place n req [] placed is has = absurd cc
one_there index place zero req (None ∷ sent) placed is has = absurd cc
one_there index place zero req (Some f ∷ sent) placed is has = let rest = none_flies index (suc place) req sent placed.1 (omega arith) in rw (has, rest) refl
one_there index place (suc n) req (None ∷ sent) placed is has = one_there index (suc place) n req sent placed (omega arith) has
one_there index place (suc n) req (Some f ∷ sent) placed is has =
    elim (cases_Bool (f.flight.req == req)) [
      | inl same_one ↦ let same : slice_index index f.flight.req ≡ slice_index index req = ap (slice_index index) (eqb-true f.flight.req req same_one) in
          absurd (omega (arith, placed.0))
      | inr other_one ↦ rw other_one (one_there index (suc place) n req sent placed.1 (omega arith) has)
    ]

-- the flight that is there, or this one
abbrev flying_or : Flying → Option Flying → Flying
flying_or f None = f
flying_or f (Some g) = g

-- the flights about the one at a place
pub splits : (n : ℕ) (sent : List (Option Flying)) (f : Flying) → get_or sent n None ≡ Some f → flying sent ≡ flying (take n sent) ++ f ∷ flying (drop (suc n) sent)
splits n [] f there = absurd cc
splits zero (None ∷ sent) f there = absurd cc
splits zero (Some g ∷ sent) f there = ap (λ (h : Flying). h ∷ flying sent) (ap (flying_or g) there)
splits (suc n) (None ∷ sent) f there = splits n sent f there
splits (suc n) (Some g ∷ sent) f there = ap (λ (fs : List Flying). g ∷ fs) (splits n sent f there)

-- and without it
pub taken : (n : ℕ) (sent : List (Option Flying)) → n < length sent → flying (set sent n None) ≡ flying (take n sent) ++ flying (drop (suc n) sent)
taken n [] within = absurd (omega arith)
taken zero (o ∷ sent) within = refl
taken (suc n) (None ∷ sent) within = taken n sent (omega arith)
taken (suc n) (Some g ∷ sent) within = ap (λ (fs : List Flying). g ∷ fs) (taken n sent (omega arith))

pub taken-length : (n : ℕ) (sent : List (Option Flying)) (f : Flying) → get_or sent n None ≡ Some f → length (flying (set sent n None)) + 1 ≡ length (flying sent)
taken-length n [] f there = absurd cc
taken-length zero (None ∷ sent) f there = absurd cc
taken-length zero (Some g ∷ sent) f there = omega arith
taken-length (suc n) (None ∷ sent) f there = taken-length n sent f there
taken-length (suc n) (Some g ∷ sent) f there = let more = taken-length n sent f there in omega arith

-- before a place at which none was, none is
pub still_none : (k n : ℕ) (sent : List (Option Flying)) → flying (take k sent) ≡ [] → flying (take k (set sent n None)) ≡ []
still_none zero n sent none = refl
still_none (suc k) n [] none = none
still_none (suc k) zero (None ∷ sent) none = none
still_none (suc k) zero (Some f ∷ sent) none = absurd cc
still_none (suc k) (suc n) (None ∷ sent) none = still_none k n sent none
still_none (suc k) (suc n) (Some f ∷ sent) none = absurd cc

-- nor behind it once it is taken
behind_suc : (n : ℕ) (sent : List (Option Flying)) → flying (take n sent) ≡ [] → flying (take (suc n) (set sent n None)) ≡ []
behind_suc n [] none = none_taken (suc n)
behind_suc zero (o ∷ sent) none = refl
behind_suc (suc n) (None ∷ sent) none = behind_suc n sent none
behind_suc (suc n) (Some f ∷ sent) none = absurd cc

pub none_behind : (n : ℕ) (sent : List (Option Flying)) → flying (take n sent) ≡ [] → flying (take (n + 1) (set sent n None)) ≡ []
none_behind n sent none =
    let one : n + 1 ≡ suc n = omega arith in
    ap (λ (m : ℕ). flying (take m (set sent n None))) one ∙ behind_suc n sent none

pub placed_none : (index : List ℕ) (place n : ℕ) (sent : List (Option Flying)) → ArePlaced index place sent → ArePlaced index place (set sent n None)
placed_none index place n [] placed = tt
placed_none index place zero (None ∷ sent) placed = placed
placed_none index place zero (Some f ∷ sent) placed = placed.1
placed_none index place (suc n) (None ∷ sent) placed = placed_none index (suc place) n sent placed
placed_none index place (suc n) (Some f ∷ sent) placed = (placed.0, placed_none index (suc place) n sent placed.1)

-- one flight more
pub placed_put : (old new : List ℕ) (place req at : ℕ) (sent : List (Option Flying)) → ArePlaced old place sent → flying_with req (flying sent) ≡ []
    → ((number : ℕ) → slice_index new number ≡ cond (number == req) at (slice_index old number)) → ArePlaced new place sent
placed_put old new place req at [] placed none put = tt
placed_put old new place req at (None ∷ sent) placed none put = placed_put old new (suc place) req at sent placed none put
placed_put old new place req at (Some f ∷ sent) placed none put =
    elim (cases_Bool (f.flight.req == req)) [
      | inl same_one ↦ let e = rw same_one at none in absurd cc
      | inr other_one ↦ let same : slice_index new f.flight.req ≡ slice_index old f.flight.req = put f.flight.req ∙ rw other_one refl in
          (same ∙ placed.0, placed_put old new (suc place) req at sent placed.1 (rw other_one at none) put)
    ]

pub placed_more : (index : List ℕ) (place : ℕ) (sent : List (Option Flying)) (f : Flying) → ArePlaced index place sent → slice_index index f.flight.req ≡ place + length sent
    → ArePlaced index place (sent ++ Some f ∷ [])
placed_more index place [] f placed is = (omega arith, tt)
placed_more index place (None ∷ sent) f placed is = placed_more index (suc place) sent f placed (omega arith)
placed_more index place (Some g ∷ sent) f placed is = (placed.0, placed_more index (suc place) sent f placed.1 (omega arith))

pub flying-append : (sent more : List (Option Flying)) → flying (sent ++ more) ≡ flying sent ++ flying more
flying-append [] more = refl
flying-append (None ∷ sent) more = flying-append sent more
flying-append (Some f ∷ sent) more = ap (λ (fs : List Flying). f ∷ fs) (flying-append sent more)

-- an index of the same places
pub placed_same : (old new : List ℕ) (place : ℕ) (sent : List (Option Flying)) → ArePlaced old place sent → ((number : ℕ) → slice_index new number ≡ slice_index old number) → ArePlaced new place sent
placed_same old new place [] placed same = tt
placed_same old new place (None ∷ sent) placed same = placed_same old new (suc place) sent placed same
placed_same old new place (Some f ∷ sent) placed same = (same f.flight.req ∙ placed.0, placed_same old new (suc place) sent placed.1 same)

-- a place that is not there is 0
pub filled : (index : List ℕ) (more number : ℕ) → get_or (index ++ replicate more 0) number 0 ≡ get_or index number 0
filled [] zero number = refl
filled [] (suc more) zero = refl
filled [] (suc more) (suc number) = filled [] more number
filled (n ∷ index) more zero = refl
filled (n ∷ index) more (suc number) = filled index more number

-- no more fly than places are
pub flying-length-le : (sent : List (Option Flying)) → length (flying sent) ≤ length sent
flying-length-le [] = omega arith
flying-length-le (None ∷ sent) = let more = flying-length-le sent in omega arith
flying-length-le (Some f ∷ sent) = let more = flying-length-le sent in omega arith

-- of none there is none
pub none_of : (named : Option ℕ) → flying_of named [] ≡ []
none_of None = refl
none_of (Some req) = refl

-- none up to a place, and none at it
step_suc : (named : Option ℕ) (n : ℕ) (sent : List (Option Flying)) → flying_of named (flying (take n sent)) ≡ [] → is_there named (get_or sent n None) ≡ false → flying_of named (flying (take (suc n) sent)) ≡ []
step_suc named n [] before hasnt = ap (flying_of named) (none_taken (suc n)) ∙ none_of named
step_suc None zero (None ∷ sent) before hasnt = refl
step_suc (Some req) zero (None ∷ sent) before hasnt = refl
step_suc None zero (Some f ∷ sent) before hasnt = absurd cc
step_suc (Some req) zero (Some f ∷ sent) before hasnt = rw hasnt refl
step_suc named (suc n) (None ∷ sent) before hasnt = step_suc named n sent before hasnt
step_suc None (suc n) (Some f ∷ sent) before hasnt = absurd cc
step_suc (Some req) (suc n) (Some f ∷ sent) before hasnt =
    elim (cases_Bool (f.flight.req == req)) [
      | inl same_one ↦ let e = rw same_one at before in absurd cc
      | inr other_one ↦ rw other_one (step_suc (Some req) n sent (rw other_one at before) hasnt)
    ]

pub step_none : (named : Option ℕ) (n : ℕ) (sent : List (Option Flying)) → flying_of named (flying (take n sent)) ≡ [] → is_there named (get_or sent n None) ≡ false → flying_of named (flying (take (n + 1) sent)) ≡ []
step_none named n sent before hasnt =
    let one : n + 1 ≡ suc n = omega arith in
    ap (λ (m : ℕ). flying_of named (flying (take m sent))) one ∙ step_suc named n sent before hasnt

pub with-append : (req : ℕ) (fs gs : List Flying) → flying_with req (fs ++ gs) ≡ flying_with req fs ++ flying_with req gs
with-append req [] gs = refl
with-append req (f ∷ fs) gs =
    elim (cases_Bool (f.flight.req == req)) [
      | inl same_one ↦ rw same_one (ap (λ (l : List Flying). f ∷ l) (with-append req fs gs))
      | inr other_one ↦ rw other_one (with-append req fs gs)
    ]

pub of-append : (named : Option ℕ) (fs gs : List Flying) → flying_of named (fs ++ gs) ≡ flying_of named fs ++ flying_of named gs
of-append None fs gs = refl
of-append (Some req) fs gs = with-append req fs gs

-- how many of the number one place has
pub count_one : (named : Option ℕ) (o : Option Flying) → length (flying_of named (flying (o ∷ []))) ≡ cond (is_there named o) 1 0
count_one None None = refl
count_one (Some req) None = refl
count_one None (Some f) = refl
count_one (Some req) (Some f) =
    elim (cases_Bool (f.flight.req == req)) [
      | inl same_one ↦ rw same_one refl
      | inr other_one ↦ rw other_one refl
    ]

pub count_more : (named : Option ℕ) (n : ℕ) (sent : List (Option Flying)) (o : Option Flying) → take (n + 1) sent ≡ take n sent ++ o ∷ []
    → length (flying_of named (flying (take (n + 1) sent))) ≡ length (flying_of named (flying (take n sent))) + cond (is_there named o) 1 0
count_more named n sent o more =
    ap (λ (l : List (Option Flying)). length (flying_of named (flying l))) more
    ∙ ap (λ (l : List Flying). length (flying_of named l)) (flying-append (take n sent) (o ∷ []))
    ∙ ap length (of-append named (flying (take n sent)) (flying (o ∷ [])))
    ∙ length-append (flying_of named (flying (take n sent))) (flying_of named (flying (o ∷ [])))
    ∙ ap (λ (m : ℕ). length (flying_of named (flying (take n sent))) + m) (count_one named o)

-- it is there, and isn't
pub has_not : {b : Bool} → {X : Type 0} → b ≡ true → b ≡ false → X
has_not has hasnt = absurd (let bad : true ≡ false = sym has ∙ hasnt in cc)

-- where no flight of the number stands before a place
pub none_all : (named : Option ℕ) (first n : ℕ) (sent : List (Option Flying)) → flying_of named (flying (take n sent)) ≡ [] → flying (take first sent) ≡ [] → flying (take (first_behind named first n) (set sent n None)) ≡ []
none_all None first n sent before none = none_behind n sent before
none_all (Some req) first n sent before none = still_none first n sent none

pub within_all : (named : Option ℕ) (first n : ℕ) (sent : List (Option Flying)) → n < length sent → first ≤ length sent → first_behind named first n ≤ length (set sent n None)
within_all None first n sent within le = omega (arith, length-set sent n None)
within_all (Some req) first n sent within le = omega (arith, length-set sent n None)

-- one flight more is kept, of a number that flies already, or whose place was put
pub kept_before : (first : ℕ) (sent : List (Option Flying)) (f : Flying) → flying (take first sent) ≡ [] → first ≤ length sent → flying (take first (sent ++ Some f ∷ [])) ≡ []
kept_before first sent f none le = ap flying (take-append-le first sent (Some f ∷ []) le) ∙ none

pub count_push : (sent : List (Option Flying)) (f : Flying) → length (flying (sent ++ Some f ∷ [])) ≡ length (flying sent) + 1
count_push sent f = ap length (flying-append sent (Some f ∷ [])) ∙ length-append (flying sent) (f ∷ [])

pub length_push : (sent : List (Option Flying)) (f : Flying) → length (sent ++ Some f ∷ []) ≡ length sent + 1
length_push sent f = length-append sent (Some f ∷ [])

pub kept_twice : (index : List ℕ) (sent : List (Option Flying)) (first count : ℕ) (twice : Bool) (f : Flying) → AreKept index sent first count twice → AreKept index (sent ++ Some f ∷ []) first (count + 1) true
kept_twice index sent first count twice f kept = record {
  placed = λ once. has_not refl once;
  before = kept_before first sent f kept.before kept.within;
  within = omega (arith, kept.within, length_push sent f);
  count_is = omega (arith, kept.count_is, count_push sent f);
}

pub kept_once : (old new : List ℕ) (sent : List (Option Flying)) (first count : ℕ) (twice : Bool) (f : Flying) → AreKept old sent first count twice
    → is_there (Some f.flight.req) (get_or sent (slice_index old f.flight.req) None) ≡ false
    → ((number : ℕ) → slice_index new number ≡ cond (number == f.flight.req) (length sent) (slice_index old number)) → AreKept new (sent ++ Some f ∷ []) first (count + 1) twice
kept_once old new sent first count twice f kept hasnt put = record {
  placed = λ once.
      let req = f.flight.req in
      let none = none_there old 0 (slice_index old req) req sent (kept.placed once) (omega arith) hasnt in
      let at : slice_index new req ≡ 0 + length sent = put req ∙ rw (eq-eqb req req refl) (omega arith) in
      placed_more new 0 sent f (placed_put old new 0 req (length sent) sent (kept.placed once) none put) at;
  before = kept_before first sent f kept.before kept.within;
  within = omega (arith, kept.within, length_push sent f);
  count_is = omega (arith, kept.count_is, count_push sent f);
}
