-- The index and the lanes that are out, at each kind of step.
use Rattle.std.proofs.Common.{◌≡◌, ◌≢◌, ℕ, zero, suc, ◌+◌, ◌<◌, ◌≤◌, ◌==◌, eq-eqb, ne_eqb, not, cond, List, [], ◌∷◌, ◌++◌, filter, set, sym, refl, ap, ◌∙◌, subst, arith}
use mathlib.Core.Logic.{dite}
use mathlib.Core.Option.{some, some-ne-none, some-injective}
use native.Mathlib.Decide.{ℕ_discrete}
use lib.ListN.{get_elem?}
use Rattle.mp_core.specs.declared.view.Role.{Role}
use Rattle.mp_core.specs.declared.view.Role.TheVariants as role
use Rattle.mp_core.specs.declared.view.View.{View}
use Rattle.mp_core.specs.Views.{joined, spent, without_lane}
use Rattle.mp_rule.specs.Rule.{total, Each, tick, IsKeeper}
use Rattle.mp_rule.specs.Sums.{out, times, lane_of, is_lane, IsEmpty, Lanes}
use Rattle.mp_rule.proofs.Views.{total-set, total-snoc, le-total, each_set, each_behind, by_case}

pub out-same : (l : List View) (id : ℕ) (v w : View) → get_elem? l id ≡ some v → (id ≡ 0 → w.keeping.out ≡ v.keeping.out) → out (set l id w) ≡ out l
out-same [] id v w e same = refl
out-same (x ∷ xs) zero v w e same = same refl ∙ ap (λ (u : View). u.keeping.out) (sym (some-injective x v e))
out-same (x ∷ xs) (suc id) v w e same = refl

pub out-own : (l : List View) (id : ℕ) (v : View) → id ≡ 0 → get_elem? l id ≡ some v → out l ≡ v.keeping.out
out-own [] id v is at = absurd (some-ne-none v (sym at))
out-own (x ∷ xs) zero v is at = ap (λ (u : View). u.keeping.out) (some-injective x v at)
out-own (x ∷ xs) (suc id) v is at = absurd (omega arith)

out-set : (l : List View) (id : ℕ) (v w : View) → id ≡ 0 → get_elem? l id ≡ some v → out (set l id w) ≡ w.keeping.out
out-set [] id v w is at = absurd (some-ne-none v (sym at))
out-set (x ∷ xs) zero v w is at = refl
out-set (x ∷ xs) (suc id) v w is at = absurd (omega arith)

out-behind : (l : List View) (id : ℕ) (v w : View) → get_elem? l id ≡ some v → out (l ++ w ∷ []) ≡ out l
out-behind [] id v w at = absurd (some-ne-none v (sym at))
out-behind (x ∷ xs) id v w at = refl

-- one view changes: the same role and lanes, and the index of the keeper's
pub lanes_step : (index new : ℕ) (views : List View) (id : ℕ) (v w : View) → Lanes index views → get_elem? views id ≡ some v → w.role ≡ v.role → (id ≡ 0 → w.keeping.out ≡ v.keeping.out) → new < 2 → (id ≡ 0 → w.keeping.index ≡ new) → ((j : ℕ) → j ≢ id → j ≡ 0 → new ≡ index) → (IsEmpty v → IsEmpty w) → Lanes new (set views id w)
lanes_step index new views id v w k at same outs range own others empty = record {
  range = range;
  own = each_set (λ i u. i ≡ 0 → u.keeping.index ≡ new) views id w (λ j u d a z. k.own j u a z ∙ sym (others j d z)) own;
  listed = λ l. let t = total-set (is_lane l) views id v w at in let r : is_lane l w ≡ is_lane l v = ap (lane_of l) same in let o = k.listed l in ap (times l) (out-same views id v w at outs) ∙ o ∙ omega arith;
  once = λ l. subst (λ (xs : List ℕ). times l xs ≤ 1) (sym (out-same views id v w at outs)) (k.once l);
  spent = each_set (λ _ u. u.role ≡ role.Spent → IsEmpty u) views id w (λ j u d a. k.spent j u a) (λ e. empty (k.spent id v at (sym same ∙ e)));
}

pub lanes_view : (index : ℕ) (views : List View) (id : ℕ) (v w : View) → Lanes index views → get_elem? views id ≡ some v → w.role ≡ v.role → w.keeping.out ≡ v.keeping.out → w.keeping.index ≡ v.keeping.index → (IsEmpty v → IsEmpty w) → Lanes index (set views id w)
lanes_view index views id v w k at same outs indexes empty = lanes_step index index views id v w k at same (λ _. outs) k.range (λ z. indexes ∙ k.own id v at z) (λ _ _ _. refl) empty

pub times-snoc : (l : ℕ) (xs : List ℕ) (x : ℕ) → times l (xs ++ x ∷ []) ≡ times l xs + tick (x == l)
times-snoc l [] x = omega arith
times-snoc l (y ∷ xs) x = let r = times-snoc l xs x in omega arith

-- a split: a lane that isn't out goes out
pub lanes_split : (index : ℕ) (views : List View) (id : ℕ) (v left right : View) (lane : ℕ) → Lanes index views → get_elem? views id ≡ some v → id ≡ 0 → times lane v.keeping.out ≡ 0 → left.role ≡ v.role → left.keeping.out ≡ v.keeping.out ++ lane ∷ [] → left.keeping.index ≡ v.keeping.index → (v.role ≡ role.Spent → ⊥) → right.role ≡ role.Lane lane → Lanes index (set views id left ++ right ∷ [])
lanes_split index views id v left right lane k at mine fresh same outs indexes whole lane_is =
    let l : List View = set views id left in
    let here : get_elem? l id ≡ some left = there views id left v at in
    let is : out (l ++ right ∷ []) ≡ v.keeping.out ++ lane ∷ [] = out-behind l id left right here ∙ out-set views id v left mine at ∙ outs in
    let was = out-own views id v mine at in record {
      range = k.range;
      own = each_behind (λ i u. i ≡ 0 → u.keeping.index ≡ index) l id left right here (each_set (λ i u. i ≡ 0 → u.keeping.index ≡ index) views id left (λ j u d a. k.own j u a) (λ z. indexes ∙ k.own id v at z)) (λ j d z. absurd (d z));
      listed = λ x.
          let t = total-set (is_lane x) views id v left at in
          let s = total-snoc (is_lane x) l right in
          let r : is_lane x left ≡ is_lane x v = ap (lane_of x) same in
          let q : is_lane x right ≡ tick (lane == x) = ap (lane_of x) lane_is in
          let o : times x v.keeping.out ≡ total (is_lane x) views = ap (times x) (sym was) ∙ k.listed x in
          let p = times-snoc x v.keeping.out lane in
          ap (times x) is ∙ p ∙ omega arith;
      once = λ x. subst (λ (xs : List ℕ). times x xs ≤ 1) (sym is)
          (let p = times-snoc x v.keeping.out lane in
          let o : times x v.keeping.out ≤ 1 = subst (λ (xs : List ℕ). times x xs ≤ 1) was (k.once x) in
          dite (ℕ_discrete lane x)
          (λ e. let z : times x v.keeping.out ≡ 0 = ap (λ (y : ℕ). times y v.keeping.out) (sym e) ∙ fresh in let one : tick (lane == x) ≡ 1 = ap tick (eq-eqb lane x e) in omega arith)
          (λ d. let none : tick (lane == x) ≡ 0 = ap tick (ne_eqb lane x d) in omega arith));
      spent = each_behind (λ _ u. u.role ≡ role.Spent → IsEmpty u) l id left right here (each_set (λ _ u. u.role ≡ role.Spent → IsEmpty u) views id left (λ j u d a. k.spent j u a) (λ e. absurd (whole (sym same ∙ e)))) (λ j d e. absurd (not_spent (sym lane_is ∙ e)));
    }
  where
    there : (l : List View) (id : ℕ) (w v : View) → get_elem? l id ≡ some v → get_elem? (set l id w) id ≡ some w
    there [] id w v e = absurd (some-ne-none v (sym e))
    there (x ∷ xs) zero w v e = refl
    there (x ∷ xs) (suc id) w v e = there xs id w v e

    is_one : Role → Type 0
    is_one (role.Lane l) = Unit {0}
    is_one role.Keeper = ⊥
    is_one role.Spent = ⊥

    not_spent : role.Lane lane ≡ role.Spent → ⊥
    not_spent e = subst is_one e tt

-- a join: the other's lane is in again
without_other : (lane x : ℕ) (xs : List ℕ) → lane ≢ x → times x (filter (λ l. not (l == lane)) xs) ≡ times x xs
without_other lane x [] d = refl
without_other lane x (y ∷ ys) d = let r = without_other lane x ys d in
    by_case (λ b. times x (cond (not b) (y ∷ filter (λ l. not (l == lane)) ys) (filter (λ l. not (l == lane)) ys)) ≡ tick (y == x) + times x ys) y lane
    (λ e. let z : tick (y == x) ≡ 0 = ap tick (ne_eqb y x (λ f. d (sym e ∙ f))) in omega arith)
    (λ _. omega arith)

without_same : (lane : ℕ) (xs : List ℕ) → times lane (filter (λ l. not (l == lane)) xs) ≡ 0
without_same lane [] = refl
without_same lane (y ∷ ys) = let r = without_same lane ys in
    by_case (λ b. times lane (cond (not b) (y ∷ filter (λ l. not (l == lane)) ys) (filter (λ l. not (l == lane)) ys)) ≡ 0) y lane
    (λ _. r)
    (λ d. let z : tick (y == lane) ≡ 0 = ap tick (ne_eqb y lane d) in omega arith)

left_out : (w : Role) (xs : List ℕ) (n : ℕ) (x : ℕ) → (w ≡ role.Keeper → ⊥) → times x xs ≡ n + lane_of x w → times x xs ≤ 1 → times x (without_lane w xs) ≡ n
left_out role.Keeper xs n x lane e le = absurd (lane refl)
left_out role.Spent xs n x lane e le = omega arith
left_out (role.Lane k) xs n x lane e le = dite (ℕ_discrete k x)
    (λ same. let one : tick (k == x) ≡ 1 = ap tick (eq-eqb k x same) in let z = without_same k xs in ap (λ (y : ℕ). times y (filter (λ l. not (l == k)) xs)) (sym same) ∙ z ∙ omega arith)
    (λ apart. let none : tick (k == x) ≡ 0 = ap tick (ne_eqb k x apart) in let o = without_other k x xs apart in o ∙ omega arith)

left_once : (w : Role) (xs : List ℕ) (x : ℕ) → times x xs ≤ 1 → times x (without_lane w xs) ≤ 1
left_once role.Keeper xs x le = le
left_once role.Spent xs x le = le
left_once (role.Lane k) xs x le = dite (ℕ_discrete k x)
    (λ same. let z = without_same k xs in subst (λ (y : ℕ). times y (filter (λ l. not (l == k)) xs) ≤ 1) same (omega arith))
    (λ apart. let o = without_other k x xs apart in omega arith)

pub lanes_join : (index : ℕ) (views : List View) (id other : ℕ) (v w : View) → Lanes index views → get_elem? views id ≡ some v → other ≢ id → get_elem? (set views id (joined v w)) other ≡ some w → id ≡ 0 → (w.role ≡ role.Keeper → ⊥) → (v.role ≡ role.Spent → ⊥) → Lanes index (set (set views id (joined v w)) other (spent w))
lanes_join index views id other v w k at apart there mine lane whole =
    let both : View = joined v w in
    let l : List View = set views id both in
    let is : out (set l other (spent w)) ≡ without_lane w.role v.keeping.out = out-same l other w (spent w) there (λ z. absurd (apart (z ∙ sym mine))) ∙ out-set views id v both mine at in
    let was = out-own views id v mine at in record {
      range = k.range;
      own = each_set (λ i u. i ≡ 0 → u.keeping.index ≡ index) l other (spent w) (λ j u _ e. each_set (λ i u. i ≡ 0 → u.keeping.index ≡ index) views id both (λ j u d a. k.own j u a) (k.own id v at) j u e) (λ z. absurd (apart (z ∙ sym mine)));
      listed = λ x.
          let t = total-set (is_lane x) views id v both at in
          let s = total-set (is_lane x) l other w (spent w) there in
          let o : times x v.keeping.out ≡ total (is_lane x) views = ap (times x) (sym was) ∙ k.listed x in
          let le : times x v.keeping.out ≤ 1 = subst (λ (xs : List ℕ). times x xs ≤ 1) was (k.once x) in
          ap (times x) is ∙ left_out w.role v.keeping.out _ x lane (omega arith) le;
      once = λ x. subst (λ (xs : List ℕ). times x xs ≤ 1) (sym is) (left_once w.role v.keeping.out x (subst (λ (xs : List ℕ). times x xs ≤ 1) was (k.once x)));
      spent = each_set (λ _ u. u.role ≡ role.Spent → IsEmpty u) l other (spent w) (λ j u _ e. each_set (λ _ u. u.role ≡ role.Spent → IsEmpty u) views id both (λ j u d a. k.spent j u a) (λ e. absurd (whole e)) j u e) (λ _. record { left = refl; inside = refl; done = refl; flights = refl; entries = refl });
    }

-- where no lane is out, each other view is spent
pub all_spent : (index : ℕ) (views : List View) → Lanes index views → Each IsKeeper views → out views ≡ [] → Each (λ i v. i ≢ 0 → v.role ≡ role.Spent) views
all_spent index views k keeper none i v a d = by v.role refl
  where
    by : (r : Role) → v.role ≡ r → v.role ≡ role.Spent
    by role.Spent e = e
    by role.Keeper e = absurd (d (keeper i v a e))
    by (role.Lane l) e =
        let one : is_lane l v ≡ 1 = ap (lane_of l) e ∙ ap tick (eq-eqb l l refl) in
        let le = le-total (is_lane l) views i v a in
        let z : times l (out views) ≡ 0 = ap (times l) none in
        let o = k.listed l in absurd (omega arith)
