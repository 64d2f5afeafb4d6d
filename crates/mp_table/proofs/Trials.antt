-- What the trials look up.
use Rattle.std.proofs.Common.{◌≡◌, ℕ, zero, suc, ◌+◌, ◌<◌, ◌≤◌, ◌==◌, cond, false, true, List, [], ◌∷◌, ◌++◌, length, take, get_or, replicate, not, sym, refl, ap, ◌∙◌, ◌-◌, subst, arith, ne_eqb, eq-eqb, Option, None, Some, get_or-set_same}
use mathlib.Core.Logic.{dite}
use native.Mathlib.Decide.{ℕ_discrete}
use Rattle.std.proofs.lemmas.List.Elements.{filter-append}
use Rattle.atomic_table.specs.Seated.{TableId}
use Rattle.mp_core.specs.declared.view.Role.TheVariants as role
use Rattle.mp_core.specs.declared.view.View.{View}
use Rattle.mp_core.specs.Views.{kept_part, new_part, joined, without_lane}
use Rattle.mp_rule.specs.Rule.{tick}
use Rattle.mp_rule.specs.Sums.{times}
use Rattle.mp_rule.proofs.Lanes.{times-snoc}
use Rattle.mp_plain.specs.Lanes.{lanes_to}
use Rattle.mp_table.specs.declared.pass.Pass.{Pass}
use Rattle.mp_table.specs.Trials.{Idle}
use Rattle.mp_table.specs.Jobs.{IsReady, AllReady}
use Rattle.mp_words.specs.declared.row.Row.{Row}
use Rattle.mp_words.specs.declared.order.Order.{Order}
use Rattle.mp_words.specs.declared.note.Note.{Note}
use Rattle.mp_words.specs.Effect.{free_row}
use Rattle.mp_words.specs.Facts.{IsOrder}
use Rattle.mp_words.specs.Places.{place_of}
use Rattle.mp_core.specs.Notes.{HasRow, order_noted, row_noted}
use Rattle.mp_core.proofs.Reading.{same_is}

place_first : (n : ℕ) (xs : List ℕ) → 1 ≤ n → 1 ≤ length xs → place_of (get_or xs 0 0) (take n xs) ≡ 0
place_first n [] some more = absurd (omega arith)
place_first zero (x ∷ xs) some more = absurd (omega arith)
place_first (suc n) (x ∷ xs) some more = λ i. cond (same_is x i) 0 (place_of x (take n xs) + 1)

-- the row of the first path of a list was loaded
pub first_read : (o : Order) (n : Note) (slot : ℕ) (row : Row) → IsOrder o → 1 ≤ o.len → slot ≡ get_or o.slots 0 0 → HasRow (row_noted slot row (order_noted o n)) slot row
first_read o n slot row lawful some is =
    let eight = lawful.places in
    let at : place_of slot (take o.len o.slots) ≡ 0 = subst (λ (x : ℕ). place_of x (take o.len o.slots) ≡ 0) (sym is) (place_first o.len o.slots some (omega arith)) in
    record {
      listed = omega arith;
      loaded = get_or-set_same (replicate 8 false) (place_of slot (take o.len o.slots)) true false (omega arith);
      is = get_or-set_same (replicate 8 (free_row 0)) (place_of slot (take o.len o.slots)) row (free_row 0) (omega arith);
    }

snoc_last : {X : Type 0} → (xs : List X) (x d : X) → get_or (xs ++ x ∷ []) (length xs) d ≡ x
snoc_last [] x d = refl
snoc_last (y ∷ xs) x d = snoc_last xs x d

snoc_else : {X : Type 0} → (xs : List X) (x d : X) (i : ℕ) → i < length xs → get_or (xs ++ x ∷ []) i d ≡ get_or xs i d
snoc_else [] x d i low = absurd (omega arith)
snoc_else (y ∷ xs) x d zero low = refl
snoc_else (y ∷ xs) x d (suc i) low = snoc_else xs x d i (omega arith)

pub snoc_length : {X : Type 0} → (xs : List X) (x : X) → length (xs ++ x ∷ []) ≡ length xs + 1
snoc_length [] x = refl
snoc_length (y ∷ xs) x = let s = snoc_length xs x in omega arith

-- one pass more
pub ready_more : (z : TableId) (n units : ℕ) (js : List (Option Pass)) (j : Option Pass) → AllReady z n units js → IsReady z n units j → AllReady z (n + 1) units (js ++ j ∷ [])
ready_more z n units js j all one = record {
  length_is = snoc_length js j ∙ ap (λ k. k + 1) all.length_is;
  each = λ i d l. dite (ℕ_discrete i n)
      (λ e. subst (λ (k : ℕ). IsReady z k units (get_or (js ++ j ∷ []) k d)) (sym e) (subst (IsReady z n units) (sym (subst (λ (k : ℕ). get_or (js ++ j ∷ []) k d ≡ j) all.length_is (snoc_last js j d))) one))
      (λ e. let low : i < n = omega arith in let len = all.length_is in subst (IsReady z i units) (sym (snoc_else js j d i (omega arith))) (all.each i d low));
}

-- one pass less
pub ready_less : (z : TableId) (units : ℕ) (old js : List (Option Pass)) (j : Option Pass) → old ≡ js ++ j ∷ [] → AllReady z (length old) units old → IsReady z (length js) units j × AllReady z (length js) units js
ready_less z units old js j e all =
    let len : length old ≡ length js + 1 = ap length e ∙ snoc_length js j in (
      subst (IsReady z (length js) units) (ap (λ (xs : List (Option Pass)). get_or xs (length js) j) e ∙ snoc_last js j j) (all.each (length js) j (omega arith)),
      record { length_is = refl; each = λ i d l. subst (IsReady z i units) (ap (λ (xs : List (Option Pass)). get_or xs i d) e ∙ snoc_else js j d i l) (all.each i d (omega arith)) },
    )

pub the_pass : (p q : Pass) → Some p ≡ Some q → p ≡ q
the_pass p q e = ap or_pass e
  where
    or_pass : Option Pass → Pass
    or_pass None = p
    or_pass (Some x) = x

-- the keeper's pass after one more was split off
pub split_more : (n : ℕ) (v w : View) → n < 100 → w ≡ kept_part n 1 v → Idle role.Keeper (100 - n) (lanes_to n) v → Idle role.Keeper (100 - (n + 1)) (lanes_to (n + 1)) w
split_more n v w low e k =
    let less = ap (λ (u : View). u.left) e in
    let was = k.left in
    let next : suc n ≡ n + 1 = omega arith in
    record {
      role = ap (λ (u : View). u.role) e ∙ k.role;
      left = omega arith;
      inside = ap (λ (u : View). u.inside) e ∙ k.inside;
      flights = ap (λ (u : View). u.flights) e ∙ k.flights;
      lanes = ap (λ (u : View). u.keeping.out) e ∙ ap (λ (out : List ℕ). out ++ n ∷ []) k.lanes ∙ ap lanes_to next;
    }

pub new_idle : (n units : ℕ) (v w : View) → w ≡ new_part n units v → Idle (role.Lane n) units [] w
new_idle n units v w e = record {
  role = ap (λ (u : View). u.role) e;
  left = ap (λ (u : View). u.left) e;
  inside = ap (λ (u : View). u.inside) e;
  flights = ap (λ (u : View). u.flights) e;
  lanes = ap (λ (u : View). u.keeping.out) e;
}

fresh_to : (n lane : ℕ) → n ≤ lane → times lane (lanes_to n) ≡ 0
fresh_to zero lane low = refl
fresh_to (suc n) lane low =
    let s = times-snoc lane (lanes_to n) n in
    let r = fresh_to n lane (omega arith) in
    let none : tick (n == lane) ≡ 0 = ap tick (ne_eqb n lane (omega arith)) in
    omega arith

-- a lane that wasn't split off isn't out
pub split_fresh : (n : ℕ) (v : View) (k : ℕ) → Idle role.Keeper k (lanes_to n) v → times n v.keeping.out ≡ 0
split_fresh n v k h = ap (times n) h.lanes ∙ fresh_to n n (omega arith)

all_left : (n lane : ℕ) → n ≤ lane → without_lane (role.Lane lane) (lanes_to n) ≡ lanes_to n
all_left zero lane low = refl
all_left (suc n) lane low = filter-append (λ l. not (l == lane)) (lanes_to n) (n ∷ []) ∙ (λ i. all_left n lane (omega arith) i ++ cond (not (ne_eqb n lane (λ e. absurd (omega arith)) i)) (n ∷ []) [])

nil_right : (xs : List ℕ) → xs ++ [] ≡ xs
nil_right [] = refl
nil_right (x ∷ xs) = λ i. x ∷ nil_right xs i

last_left : (n : ℕ) → without_lane (role.Lane n) (lanes_to n ++ n ∷ []) ≡ lanes_to n
last_left n = filter-append (λ l. not (l == n)) (lanes_to n) (n ∷ []) ∙ (λ i. all_left n n (omega arith) i ++ cond (not (eq-eqb n n refl i)) (n ∷ []) []) ∙ nil_right (lanes_to n)

-- the keeper's pass after the last one was joined
pub join_last : (n : ℕ) (v w u : View) → u ≡ joined v w → Idle role.Keeper 84 (lanes_to (n + 1)) v → Idle (role.Lane n) 0 [] w → Idle role.Keeper 84 (lanes_to n) u
join_last n v w u e k l =
    let sum = ap (λ (x : View). x.left) e in
    let a = k.left in
    let b = l.left in
    let next : n + 1 ≡ suc n = omega arith in
    record {
      role = ap (λ (x : View). x.role) e ∙ k.role;
      left = omega arith;
      inside = ap (λ (x : View). x.inside) e ∙ k.inside;
      flights = ap (λ (x : View). x.flights) e ∙ k.flights;
      lanes = ap (λ (x : View). x.keeping.out) e ∙ (λ i. without_lane (l.role i) (k.lanes i)) ∙ ap (λ (m : ℕ). without_lane (role.Lane n) (lanes_to m)) next ∙ last_left n;
    }
