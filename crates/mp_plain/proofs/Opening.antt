-- The rule holds at the start, where each lane was split off.
use Rattle.std.proofs.Common.{◌≡◌, ◌≢◌, ℕ, zero, suc, ◌+◌, ◌-◌, ◌*◌, ◌<◌, ◌≤◌, ◌==◌, ne_eqb, List, [], ◌∷◌, ◌++◌, length, get_or, replicate, set, sym, refl, ap, ◌∙◌, subst, arith, Option, None, Some}
use Rattle.std.proofs.lemmas.List.{set-get_or}
use mathlib.Core.Option.{some, some-ne-none, some-injective}
use lib.ListN.{get_elem?}
use Rattle.mp_words.specs.declared.flight.Flight.{Flight}
use Rattle.mp_core.specs.declared.view.Keeping.{Keeping}
use Rattle.mp_core.specs.declared.view.Section.{Section}
use Rattle.mp_core.specs.declared.view.Seats.{Seats}
use Rattle.mp_core.specs.declared.view.Start.{Start}
use Rattle.mp_core.specs.declared.view.View.{View}
use Rattle.mp_core.specs.Memory.{Memory, row_at}
use Rattle.mp_core.specs.Seats.{seats_of, with_keeping, no_view}
use Rattle.mp_core.specs.Unpacked.{unpacked}
use Rattle.mp_core.specs.Views.{seen_row, kept_part, new_part}
use Rattle.mp_rule.specs.Holds.{Holds, start_row}
use Rattle.mp_rule.specs.Lawful.{IsLawful, HasRoom, opening_view}
use Rattle.mp_rule.specs.Rule.{Each, tick}
use Rattle.mp_rule.specs.Sums.{times}
use Rattle.mp_rule.proofs.Kept.{k6}
use Rattle.mp_rule.proofs.Lanes.{times-snoc}
use Rattle.mp_rule.proofs.Opening.{opens}
use Rattle.mp_rule.proofs.Views.{each_snoc, set-twice}
use Rattle.atomic_table.specs.Seated.{TableId}
use Rattle.mp_plain.specs.declared.ledger.Opening.{Opening}
use Rattle.mp_plain.specs.declared.ledger.Ruled.{Ruled}
use Rattle.mp_plain.specs.Lanes.{start_of, begun, lane_begun, lanes_to, parts_to, ruled_begun, core_at}
use Rattle.mp_plain.specs.Stands.{Mirrors, Stands}
use Rattle.mp_plain.proofs.Lanes.{mirror}

-- the units of so many lanes
abbrev units_for : ℕ → ℕ → ℕ
units_for a zero = 0
units_for a (suc n) = units_for a n + a

-- the keeper's view once the lanes below this one were split off, with so many units
abbrev keeper_to : Opening → ℕ → ℕ → View
keeper_to o j n = record (opening_view (start_of o)) { left = n; keeping = record (begun (start_of o)) { out = lanes_to j } }

-- a lane that wasn't split off is not out
times_to : (j lane : ℕ) → j ≤ lane → times lane (lanes_to j) ≡ 0
times_to zero lane low = refl
times_to (suc j) lane low =
    let s = times-snoc lane (lanes_to j) j in
    let r = times_to j lane (omega arith) in
    let none : tick (j == lane) ≡ 0 = ap tick (ne_eqb j lane (omega arith)) in
    omega arith

split_one : (o : Opening) (j i : ℕ) → Holds (start_of o) (unpacked o.words) (keeper_to o j (units_for o.allowance (suc i)) ∷ parts_to o j) → Holds (start_of o) (unpacked o.words) (keeper_to o (suc j) (units_for o.allowance i) ∷ parts_to o (suc j))
split_one o j i h =
    let v : View = keeper_to o j (units_for o.allowance (suc i)) in
    let is : units_for o.allowance (suc i) - o.allowance ≡ units_for o.allowance i = omega arith in
    subst (λ (n : ℕ). Holds (start_of o) (unpacked o.words) (keeper_to o (suc j) n ∷ parts_to o (suc j))) is
    (k6 (start_of o) 0 v j o.allowance refl (omega arith) (times_to j j (omega arith)) (unpacked o.words) (v ∷ parts_to o j) h refl)

split_all : (o : Opening) (i j : ℕ) → i + j ≡ 17 → Holds (start_of o) (unpacked o.words) (keeper_to o j (units_for o.allowance i) ∷ parts_to o j) → Holds (start_of o) (unpacked o.words) (keeper_to o 17 0 ∷ parts_to o 17)
split_all o zero j e h = let is : j ≡ 17 = omega arith in subst (λ (n : ℕ). Holds (start_of o) (unpacked o.words) (keeper_to o n 0 ∷ parts_to o n)) is h
split_all o (suc i) j e h = split_all o i (suc j) (omega arith) (split_one o j i h)

-- a part at the start
pub record IsFirst (a : ℕ) (w : View) : Type 0 where
  pub left : w.left ≡ a
  pub inside : w.inside ≡ None
  pub flights : w.flights ≡ []

all_first : (o : Opening) (n : ℕ) → Each (λ _ w. IsFirst o.allowance w) (parts_to o n)
all_first o zero = λ i w at. absurd (some-ne-none w (sym at))
all_first o (suc n) = each_snoc (λ _ w. IsFirst o.allowance w) (parts_to o n) (new_part n o.allowance (opening_view (start_of o))) (all_first o n) (λ j. record { left = refl; inside = refl; flights = refl })

all_same : (n : ℕ) (x v : View) (i : ℕ) → get_elem? (replicate n x) i ≡ some v → x ≡ v
all_same zero x v i at = absurd (some-ne-none v (sym at))
all_same (suc n) x v zero at = some-injective x v at
all_same (suc n) x v (suc i) at = all_same n x v i at

-- what the lanes have seen is not newer than the words
begun_seen : (o : Opening) → Holds (start_of o) (unpacked o.words) (opening_view (start_of o) ∷ []) → (s : ℕ) → seen_row (lane_begun o) s ≤ (row_at (unpacked o.words) s).version
begun_seen o h s = ((h.rows s).each 0 (opening_view (start_of o)) refl).to

pub begun_stands : (o : Opening) → IsLawful (unpacked o.words) → HasRoom (unpacked o.words) (17 * o.allowance) → Stands (unpacked o.words) (ruled_begun o)
begun_stands o lawful space =
    let first = opens (start_of o) lawful space in
    let from : Holds (start_of o) (unpacked o.words) (keeper_to o 0 (units_for o.allowance 17) ∷ []) = (let is : 17 * o.allowance ≡ units_for o.allowance 17 = omega arith in subst (λ (n : ℕ). Holds (start_of o) (unpacked o.words) (keeper_to o 0 n ∷ [])) is first) in
    record {
      holds = split_all o 17 0 refl from;
      room = let e = space.entries 0 in omega arith;
      seats = refl;
      parts = refl;
      mirrors = λ i v w x y. subst (λ (u : View). Mirrors (start_of o) (unpacked o.words) u w) (all_same 17 (lane_begun o) v i x)
          (let k = all_first o 17 i w y in record {
            keeper = refl;
            keeping = refl;
            left = k.left;
            inside = k.inside;
            flights = k.flights;
            order = omega arith;
            rows = begun_seen o first;
          });
    }

-- the lanes' views, as the lane that steps knows them
pub seats_known : (home : TableId) (lane : ℕ) (m : Memory) (r : Ruled) → lane < 17 → Stands m r → seats_of (begun r.seats.keeping.start) (core_at home lane r.seats m) ≡ r.seats
seats_known home lane m r low h =
    let k : Keeping = begun r.seats.keeping.start in
    let v : View = get_or r.seats.lanes lane (no_view r.seats.keeping) in
    let own : with_keeping k v ≡ v = (λ i. record v { keeping = sym (mirror m r lane low h).keeping i }) in
    let lanes : set (set r.seats.lanes lane (no_view k)) lane (with_keeping k v) ≡ r.seats.lanes = set-twice r.seats.lanes lane (no_view k) (with_keeping k v) ∙ ap (set r.seats.lanes lane) own ∙ set-get_or r.seats.lanes lane (no_view r.seats.keeping) in
    λ i. record { lanes = lanes i; keeping = r.seats.keeping }
