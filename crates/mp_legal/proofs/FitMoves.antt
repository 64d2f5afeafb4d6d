-- What holds of the paths of a state between calls, and what moves keep of it.
use Rattle.std.proofs.Common.{◌≡◌, ℕ, zero, suc, ◌+◌, ◌<◌, ◌≤◌, ◌==◌, ◌||◌, ◌⊎◌, not, Bool, true, false, List, [], ◌∷◌, ◌++◌, inl, inr, length, filter, get_or, set, cond, refl, sym, ap, ◌∙◌, subst, arith}
use Rattle.std.specs.List.{AllByRecursion, count_by, sum_by}
use Rattle.std.proofs.lemmas.Bool.{eqb-true, eqb-false, both_ways}
use Rattle.std.proofs.lemmas.Bool.Decides.{nat_tests}
use Rattle.std.proofs.lemmas.List.{length-set}
use Rattle.std.proofs.lemmas.List.Sums.{sum_by-cons}
use Rattle.mp_words.specs.declared.flight.Flight.{Flight}
use Rattle.mp_words.specs.declared.row.Row.{Row}
use Rattle.mp_words.specs.declared.row.Policy.{Policy}
use Rattle.mp_words.specs.declared.order.Order.{Order}
use Rattle.mp_words.specs.Order.{slots_of, next_order}
use Rattle.mp_words.specs.Row.{is_given}
use Rattle.mp_script.specs.Distinct.{IsDistinct}
use Rattle.mp_legal.specs.Fitting.{ListFits}
use Rattle.mp_legal.specs.PlainKeep.{is_among, without}
use Rattle.mp_legal.proofs.KeptWords.{slots_next}
use Rattle.mp_legal.proofs.PlainWalk.{or_false, among_without, without_none}
use Rattle.mp_legal.proofs.RowMoves.{row_of, row_set, KeepsRow}

-- Between calls: the list fits, each listed slot has a path, no two paths are of one controller, each slot under removal
-- stands once among them and has a marked path, and each flight's slot has a path.
pub record Fitting (rows : List Row) (order : Order) (removals : List ℕ) (flights : List (List Flight)) : Type 0 where
  pub sized : length rows ≡ 15
  pub len : order.len ≡ length (slots_of order)
  pub list : ListFits order
  pub listed : (slot : ℕ) → is_among (slots_of order) slot ≡ true → is_given (row_of rows slot) ≡ true
  pub apart : (slot other : ℕ) → is_given (row_of rows slot) ≡ true → is_given (row_of rows other) ≡ true
      → (row_of rows slot).ctrl ≡ (row_of rows other).ctrl → slot ≡ other
  pub removing : (slot : ℕ) → is_among removals slot ≡ true
      → (is_given (row_of rows slot) ≡ true) × ((row_of rows slot).marked ≡ true)
  pub once : IsDistinct removals
  pub flying : (lane : ℕ) → AllByRecursion (λ f. is_given (row_of rows f.slot) ≡ true) (get_or flights lane [])

pub or_cases : (a b : Bool) → (a || b) ≡ true → (a ≡ true) ⊎ (b ≡ true)
or_cases true b e = inl refl
or_cases false b e = inr e

-- ---- slots in lists

pub among-append : (xs : List ℕ) (n slot : ℕ) → is_among (xs ++ n ∷ []) slot ≡ true
    → (is_among xs slot ≡ true) ⊎ (n ≡ slot)
among-append [] n slot e =
    elim (or_cases (n == slot) false e) [ inl same ↦ inr (eqb-true n slot same) | inr none ↦ absurd cc ]
among-append (x ∷ xs) n slot e =
    elim (or_cases (x == slot) (is_among (xs ++ n ∷ []) slot) e) [
      | inl same ↦ inl (ap (λ (b : Bool). b || is_among xs slot) same)
      | inr rest ↦ elim (among-append xs n slot rest) [
        | inl there ↦ inl (by (x == slot) (is_among xs slot) there)
        | inr is ↦ inr is
      ]
    ]
  where
    by : (a b : Bool) → b ≡ true → (a || b) ≡ true
    by true b e = refl
    by false b e = e

eq_swap : (a b : ℕ) → (a == b) ≡ false → (b == a) ≡ false
eq_swap a b e = grind (arith, nat_tests)

not_among : (xs : List ℕ) (n x : ℕ) → is_among xs x ≡ false → (n == x) ≡ false → is_among (xs ++ n ∷ []) x ≡ false
not_among [] n x none off = ap (λ (b : Bool). b || false) off
not_among (y ∷ xs) n x none off = let parts = or_false (y == x) (is_among xs x) none in λ j. parts.0 j || not_among xs n
    x parts.1 off j

pub distinct_more : (xs : List ℕ) (n : ℕ) → IsDistinct xs → is_among xs n ≡ false → IsDistinct (xs ++ n ∷ [])
distinct_more [] n d new = (refl, tt)
distinct_more (x ∷ xs) n d new =
    let parts = or_false (x == n) (is_among xs n) new in
    (not_among xs n x d.0 (eq_swap x n parts.0), distinct_more xs n d.1 parts.1)

among_kept : (slot other : ℕ) (xs : List ℕ) → is_among (without slot xs) other ≡ true → is_among xs other ≡ true
among_kept slot other [] e = e
among_kept slot other (x ∷ xs) e = by (x == slot) e (among_kept slot other xs)
  where
    more : (a b : Bool) → b ≡ true → (a || b) ≡ true
    more true b e = refl
    more false b e = e

    by : (b : Bool) → is_among (cond (not b) (x ∷ without slot xs) (without slot xs)) other ≡ true
        → (is_among (without slot xs) other ≡ true → is_among xs other ≡ true)
        → ((x == other) || is_among xs other) ≡ true
    by true e later = more (x == other) (is_among xs other) (later e)
    by false e later = elim (or_cases (x == other) (is_among (without slot xs) other) e) [
      | inl same ↦ ap (λ (c : Bool). c || is_among xs other) same
      | inr rest ↦ more (x == other) (is_among xs other) (later rest)
    ]

pub among_apart : (slot other : ℕ) (xs : List ℕ) → is_among (without slot xs) other ≡ true
    → (is_among xs other ≡ true) × (slot ≡ other → ⊥)
among_apart slot other xs e =
    (among_kept slot other xs e, λ same. both_ways (is_among (without slot xs) other) (ap (is_among (without slot xs)) (sym same) ∙ among_without slot xs) e)

pub distinct_without : (slot : ℕ) (xs : List ℕ) → IsDistinct xs → IsDistinct (without slot xs)
distinct_without slot [] d = tt
distinct_without slot (x ∷ xs) d = by (x == slot) refl (distinct_without slot xs d.1)
  where
    none : (b : Bool) → is_among (without slot xs) x ≡ b → b ≡ false
    none false e = refl
    none true e = absurd (both_ways (is_among xs x) d.0 (among_kept slot x xs e))

    by : (b : Bool) → (x == slot) ≡ b → IsDistinct (without slot xs)
        → IsDistinct (cond (not b) (x ∷ without slot xs) (without slot xs))
    by true e rest = rest
    by false e rest = (none (is_among (without slot xs) x) refl, rest)

-- a slot that stands once, taken out, makes the list shorter by one
pub shorter : (slot : ℕ) (xs : List ℕ) → IsDistinct xs → is_among xs slot ≡ true
    → length xs ≡ suc (length (without slot xs))
shorter slot [] d there = absurd cc
shorter slot (x ∷ xs) d there = by (x == slot) refl there (shorter slot xs d.1)
  where
    by : (b : Bool) → (x == slot) ≡ b → (b || is_among xs slot) ≡ true
        → (is_among xs slot ≡ true → length xs ≡ suc (length (without slot xs)))
        → suc (length xs) ≡ suc (length (cond (not b) (x ∷ without slot xs) (without slot xs)))
    by true e there later = let same : x ≡ slot = eqb-true x slot e in ap (λ (ys : List ℕ). suc (length ys))
        (sym (without_none slot xs (ap (is_among xs) (sym same) ∙ d.0)))
    by false e there later = ap suc (later there)

-- ---- flights

pub flying_set : (P : Flight → Type 0) (fs : List (List Flight)) (lane l : ℕ) (xs : List Flight) → AllByRecursion P xs
    → AllByRecursion P (get_or fs l []) → AllByRecursion P (get_or (set fs lane xs) l [])
flying_set P [] lane l xs new old = old
flying_set P (f ∷ fs) zero zero xs new old = new
flying_set P (f ∷ fs) zero (suc l) xs new old = old
flying_set P (f ∷ fs) (suc lane) zero xs new old = old
flying_set P (f ∷ fs) (suc lane) (suc l) xs new old = flying_set P fs lane l xs new old

pub all_map : {X : Type 0} (P Q : X → Type 0) (xs : List X) → ((x : X) → P x → Q x) → AllByRecursion P xs
    → AllByRecursion Q xs
all_map P Q [] f all = tt
all_map P Q (x ∷ xs) f all = (f x all.0, all_map P Q xs f all.1)

pub all_filter : {X : Type 0} (P : X → Type 0) (p : X → Bool) (xs : List X) → AllByRecursion P xs
    → AllByRecursion P (filter p xs)
all_filter P p [] all = tt
all_filter P p (x ∷ xs) all = by (p x) (all_filter P p xs all.1)
  where
    by : (b : Bool) → AllByRecursion P (filter p xs) → AllByRecursion P (cond b (x ∷ filter p xs) (filter p xs))
    by true rest = (all.0, rest)
    by false rest = rest

-- where nothing flies on a slot, each flight is on another
none_count : (slot : ℕ) (fs : List Flight) → count_by (λ (f : Flight). f.slot == slot) fs ≡ 0
    → AllByRecursion (λ (f : Flight). slot ≡ f.slot → ⊥) fs
none_count slot [] e = tt
none_count slot (f ∷ fs) e =
    by (f.slot == slot) refl (sum_by-cons (λ (g : Flight). cond (g.slot == slot) 1 0) f fs) (none_count slot fs)
  where
    by : (b : Bool) → (f.slot == slot) ≡ b
        → count_by (λ (g : Flight). g.slot == slot) (f ∷ fs) ≡ cond b 1 0 + count_by (λ (g : Flight). g.slot == slot) fs
        → (count_by (λ (g : Flight). g.slot == slot) fs ≡ 0 → AllByRecursion (λ (g : Flight). slot ≡ g.slot → ⊥) fs)
        → AllByRecursion (λ (g : Flight). slot ≡ g.slot → ⊥) (f ∷ fs)
    by true is whole rest = absurd (omega (arith, e, whole))
    by false is whole rest = ((λ same. eqb-false f.slot slot is (sym same)), rest (omega (arith, e, whole)))

pub none_on : (slot : ℕ) (flights : List (List Flight)) (lane : ℕ)
    → sum_by (λ (fs : List Flight). count_by (λ (f : Flight). f.slot == slot) fs) flights ≡ 0
    → AllByRecursion (λ (f : Flight). slot ≡ f.slot → ⊥) (get_or flights lane [])
none_on slot [] lane e = tt
none_on slot (fs ∷ flights) zero e =
    let whole = sum_by-cons (λ (gs : List Flight). count_by (λ (f : Flight). f.slot == slot) gs) fs flights in
    none_count slot fs (omega (arith, e, whole))
none_on slot (fs ∷ flights) (suc lane) e =
    let whole = sum_by-cons (λ (gs : List Flight). count_by (λ (f : Flight). f.slot == slot) gs) fs flights in
    none_on slot flights lane (omega (arith, e, whole))

-- ---- moves

-- the list of the next order
pub record Lists (order : Order) (policy : Policy) (slots : List ℕ) : Type 0 where
  pub slots_are : slots_of (next_order order policy slots) ≡ slots
  pub len : (next_order order policy slots).len ≡ length (slots_of (next_order order policy slots))
  pub fits : ListFits (next_order order policy slots)

pub lists : (order : Order) (policy : Policy) (slots : List ℕ) → length slots ≤ 8 → IsDistinct slots
    → Lists order policy slots
lists order policy slots few d =
    let are = slots_next order policy slots few in
    record
    { slots_are = are; len = ap length (sym are); fits = record { few = few; once = subst IsDistinct (sym are) d } }

-- a row is changed and keeps its path
pub fit_keep : (rows : List Row) (order : Order) (removals : List ℕ) (flights : List (List Flight)) (slot : ℕ)
    (new : Row) → slot < length rows → KeepsRow (row_of rows slot) new
    → Fitting rows order removals flights → Fitting (set rows slot new) order removals flights
fit_keep rows order removals flights slot new lt keeps fit =
    let after : List Row = set rows slot new in
    let given : (x : ℕ) → is_given (row_of after x) ≡ is_given (row_of rows x) =
    λ x. row_set (λ r. is_given r ≡ is_given (row_of rows x)) rows slot x new lt
    (λ same. keeps.given ∙ ap (λ n. is_given (row_of rows n)) same) (λ apart. refl) in
    let ctrl : (x : ℕ) → (row_of after x).ctrl ≡ (row_of rows x).ctrl =
    λ x. row_set (λ r. r.ctrl ≡ (row_of rows x).ctrl) rows slot x new lt
    (λ same. keeps.ctrl ∙ ap (λ n. (row_of rows n).ctrl) same) (λ apart. refl) in
    let marked : (x : ℕ) → (row_of rows x).marked ≡ true → (row_of after x).marked ≡ true =
    λ x was. row_set (λ r. r.marked ≡ true) rows slot x new lt
    (λ same. keeps.marked (ap (λ n. (row_of rows n).marked) same ∙ was)) (λ apart. was) in
    record {
      sized = length-set rows slot new ∙ fit.sized;
      len = fit.len;
      list = fit.list;
      listed = λ x there. given x ∙ fit.listed x there;
      apart = λ x y gx gy same. fit.apart x y (sym (given x) ∙ gx) (sym (given y) ∙ gy) (sym (ctrl x) ∙ same ∙ ctrl y);
      removing = λ x there. (given x ∙ (fit.removing x there).0, marked x (fit.removing x there).1);
      once = fit.once;
      flying =
          λ lane. all_map (λ (f : Flight). is_given (row_of rows f.slot) ≡ true)
          (λ (f : Flight). is_given (row_of after f.slot) ≡ true) (get_or flights lane []) (λ f was. given f.slot ∙ was)
          (fit.flying lane);
    }

-- another list of given slots
pub fit_list : (rows : List Row) (order : Order) (policy : Policy) (slots removals : List ℕ)
    (flights : List (List Flight)) → length slots ≤ 8 → IsDistinct slots
    → ((slot : ℕ) → is_among slots slot ≡ true → is_given (row_of rows slot) ≡ true)
    → Fitting rows order removals flights → Fitting rows (next_order order policy slots) removals flights
fit_list rows order policy slots removals flights few d given fit =
    let l = lists order policy slots few d in
    record {
      sized = fit.sized;
      len = l.len;
      list = l.fits;
      listed = λ slot there. given slot (ap (λ (xs : List ℕ). is_among xs slot) (sym l.slots_are) ∙ there);
      apart = fit.apart;
      removing = fit.removing;
      once = fit.once;
      flying = fit.flying;
    }

-- a marked slot is under removal
pub fit_mark : (rows : List Row) (order : Order) (removals : List ℕ) (flights : List (List Flight)) (slot : ℕ)
    → is_given (row_of rows slot) ≡ true → (row_of rows slot).marked ≡ true → is_among removals slot ≡ false
    → Fitting rows order removals flights → Fitting rows order (removals ++ slot ∷ []) flights
fit_mark rows order removals flights slot given marked new fit = record {
  sized = fit.sized;
  len = fit.len;
  list = fit.list;
  listed = fit.listed;
  apart = fit.apart;
  removing = λ x there. elim (among-append removals slot x there) [
    | inl was ↦ fit.removing x was
    | inr same ↦
        (ap (λ n. is_given (row_of rows n)) (sym same) ∙ given, ap (λ n. (row_of rows n).marked) (sym same) ∙ marked)
  ];
  once = distinct_more removals slot fit.once new;
  flying = fit.flying;
}

-- a free slot gets a path of a controller that has none
pub fit_give : (rows : List Row) (order : Order) (removals : List ℕ) (flights : List (List Flight)) (slot : ℕ)
    (new : Row) → slot < length rows → is_given (row_of rows slot) ≡ false → is_given new ≡ true
    → ((x : ℕ) → is_given (row_of rows x) ≡ true → (row_of rows x).ctrl ≡ new.ctrl → ⊥)
    → Fitting rows order removals flights → Fitting (set rows slot new) order removals flights
fit_give rows order removals flights slot new lt free given none fit =
    let after : List Row = set rows slot new in
    let still : (x : ℕ) → is_given (row_of rows x) ≡ true → is_given (row_of after x) ≡ true =
    λ x was. row_set (λ r. is_given r ≡ true) rows slot x new lt (λ same. given) (λ apart. was) in
    let other : (x : ℕ) → is_given (row_of rows x) ≡ true → slot ≡ x → ⊥ =
    λ x was same. both_ways (is_given (row_of rows x)) (ap (λ n. is_given (row_of rows n)) (sym same) ∙ free) was in
    record {
      sized = length-set rows slot new ∙ fit.sized;
      len = fit.len;
      list = fit.list;
      listed = λ x there. still x (fit.listed x there);
      apart =
          λ x y gx gy same. row_set (λ r. is_given r ≡ true → r.ctrl ≡ (row_of after y).ctrl → x ≡ y) rows slot x new lt
          (λ here g c. row_set (λ r. is_given r ≡ true → new.ctrl ≡ r.ctrl → x ≡ y) rows slot y new lt (λ too h d. sym here ∙ too) (λ off h d. absurd (none y h (sym d))) gy c)
          (λ off g c. row_set (λ r. is_given r ≡ true → (row_of rows x).ctrl ≡ r.ctrl → x ≡ y) rows slot y new lt (λ too h d. absurd (none x g d)) (λ out h d. fit.apart x y g h d) gy c)
          gx same;
      removing =
          λ x there.
          (still x (fit.removing x there).0, row_set (λ r. r.marked ≡ true) rows slot x new lt (λ same. absurd (other x (fit.removing x there).0 same)) (λ apart. (fit.removing x there).1));
      once = fit.once;
      flying =
          λ lane. all_map (λ (f : Flight). is_given (row_of rows f.slot) ≡ true)
          (λ (f : Flight). is_given (row_of after f.slot) ≡ true) (get_or flights lane []) (λ f was. still f.slot was)
          (fit.flying lane);
    }

-- a slot that isn't listed, and on which nothing flies, is freed
pub fit_free : (rows : List Row) (order : Order) (removals : List ℕ) (flights : List (List Flight)) (slot : ℕ)
    (new : Row) → slot < length rows → is_given new ≡ false → is_among (slots_of order) slot ≡ false
    → ((lane : ℕ) → AllByRecursion (λ (f : Flight). slot ≡ f.slot → ⊥) (get_or flights lane []))
    → Fitting rows order removals flights → Fitting (set rows slot new) order (without slot removals) flights
fit_free rows order removals flights slot new lt free gone idle fit =
    let after : List Row = set rows slot new in
    let still : (x : ℕ) → (slot ≡ x → ⊥) → is_given (row_of rows x) ≡ true → is_given (row_of after x) ≡ true =
    λ x off was. row_set (λ r. is_given r ≡ true) rows slot x new lt (λ same. absurd (off same)) (λ apart. was) in
    let never : is_given new ≡ true → ⊥ = λ g. both_ways (is_given new) free g in
    record {
      sized = length-set rows slot new ∙ fit.sized;
      len = fit.len;
      list = fit.list;
      listed =
          λ x there. still x
          (λ same. both_ways (is_among (slots_of order) x) (ap (is_among (slots_of order)) (sym same) ∙ gone) there)
          (fit.listed x there);
      apart =
          λ x y gx gy same. row_set (λ r. is_given r ≡ true → r.ctrl ≡ (row_of after y).ctrl → x ≡ y) rows slot x new lt
          (λ here g c. absurd (never g))
          (λ off g c. row_set (λ r. is_given r ≡ true → (row_of rows x).ctrl ≡ r.ctrl → x ≡ y) rows slot y new lt (λ too h d. absurd (never h)) (λ out h d. fit.apart x y g h d) gy c)
          gx same;
      removing =
          λ x there. let it = among_apart slot x removals there in
          (still x it.1 (fit.removing x it.0).0, row_set (λ r. r.marked ≡ true) rows slot x new lt (λ same. absurd (it.1 same)) (λ apart. (fit.removing x it.0).1));
      once = distinct_without slot removals fit.once;
      flying = λ lane. both (get_or flights lane []) (idle lane) (fit.flying lane) still;
    }
  where
    both : (fs : List Flight) → AllByRecursion (λ (f : Flight). slot ≡ f.slot → ⊥) fs
        → AllByRecursion (λ (f : Flight). is_given (row_of rows f.slot) ≡ true) fs
        → ((x : ℕ) → (slot ≡ x → ⊥) → is_given (row_of rows x) ≡ true → is_given (row_of (set rows slot new) x) ≡ true)
        → AllByRecursion (λ (f : Flight). is_given (row_of (set rows slot new) f.slot) ≡ true) fs
    both [] off was still = tt
    both (f ∷ fs) off was still = (still f.slot off.0 was.0, both fs off.1 was.1 still)

-- other flights, all on given slots
pub fit_flights : (rows : List Row) (order : Order) (removals : List ℕ) (flights : List (List Flight)) (lane : ℕ)
    (fs : List Flight) → AllByRecursion (λ f. is_given (row_of rows f.slot) ≡ true) fs
    → Fitting rows order removals flights → Fitting rows order removals (set flights lane fs)
fit_flights rows order removals flights lane fs all fit = record {
  sized = fit.sized;
  len = fit.len;
  list = fit.list;
  listed = fit.listed;
  apart = fit.apart;
  removing = fit.removing;
  once = fit.once;
  flying = λ l. flying_set (λ f. is_given (row_of rows f.slot) ≡ true) flights lane l fs all (fit.flying l);
}
