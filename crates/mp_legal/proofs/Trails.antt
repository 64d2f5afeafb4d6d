-- The entries that were made so far, and where they lead.
use Rattle.std.proofs.Common.{◌≡◌, ℕ, suc, ◌+◌, ◌*◌, ◌<◌, ◌==◌, Bool, true, false, List, [], ◌∷◌, ◌++◌, inl, inr, length, filter, set, nat_lt, cond, refl, sym, ap, ◌∙◌, subst, arith, append-nil, if◌then◌else◌}
use Rattle.std.specs.List.{AllByRecursion}
use Rattle.std.proofs.lemmas.Bool.{cases_Bool, eqb-true, eq-eqb}
use Rattle.std.proofs.lemmas.List.Elements.{filter-append}
use Rattle.mp_words.specs.declared.row.Row.{Row}
use Rattle.mp_words.specs.declared.order.Order.{Order}
use Rattle.mp_words.specs.declared.entry.RowEntry.{RowEntry}
use Rattle.mp_words.specs.declared.entry.OrderEntry.{OrderEntry}
use Rattle.mp_legal.specs.Fitting.{Follows, AllFollow, ListFits, unlistings}
use Rattle.mp_legal.proofs.EachCall.{all-append}
use Rattle.mp_legal.proofs.RowMoves.{row_of, row_set}

-- the entries of a slot
abbrev pub of_slot : ℕ → List RowEntry → List RowEntry
of_slot slot rs = filter (λ e. e.slot == slot) rs

-- the row that entries lead to
abbrev pub last_row : Row → List RowEntry → Row
last_row row [] = row
last_row row (e ∷ es) = last_row e.row es

-- the list that entries lead to
abbrev pub last_order : Order → List OrderEntry → Order
last_order order [] = order
last_order order (e ∷ es) = last_order e.order es

-- The entries so far: those of each slot follow on its first row and lead to its row, and those of the list fit, lead to
-- the list, and tell the flips.
pub record Trail (first : List Row) (o : Order) (rows : List Row) (order : Order) (flips : ℕ) (rs : List RowEntry)
    (os : List OrderEntry) : Type 0 where
  pub follow : (slot : ℕ) → AllFollow (row_of first slot) (of_slot slot rs)
  pub last : (slot : ℕ) → last_row (row_of first slot) (of_slot slot rs) ≡ row_of rows slot
  pub lists : AllByRecursion (λ e. ListFits e.order) os
  pub ends : last_order o os ≡ order
  pub counted : flips ≡ 2 * unlistings o os

follow-append : (row : Row) (es : List RowEntry) (e : RowEntry) → AllFollow row es → Follows (last_row row es) e
    → AllFollow row (es ++ e ∷ [])
follow-append row [] e all next = (next, tt)
follow-append row (x ∷ es) e all next = (all.0, follow-append x.row es e all.1 next)

last-append : (row : Row) (es : List RowEntry) (e : RowEntry) → last_row row (es ++ e ∷ []) ≡ e.row
last-append row [] e = refl
last-append row (x ∷ es) e = last-append x.row es e

order-append : (o : Order) (es : List OrderEntry) (e : OrderEntry) → last_order o (es ++ e ∷ []) ≡ e.order
order-append o [] e = refl
order-append o (x ∷ es) e = order-append x.order es e

unlistings-append : (o : Order) (es : List OrderEntry) (e : OrderEntry)
    → unlistings o (es ++ e ∷ []) ≡ unlistings o es + cond (nat_lt e.order.len (last_order o es).len) 1 0
unlistings-append o [] e = by (nat_lt e.order.len o.len)
  where
    by : (b : Bool) → (if b then 1 else 0) ≡ 0 + cond b 1 0
    by true = refl
    by false = refl
unlistings-append o (x ∷ es) e = by (nat_lt x.order.len o.len) (unlistings-append x.order es e)
  where
    by : (b : Bool)
        → unlistings x.order (es ++ e ∷ []) ≡ unlistings x.order es + cond (nat_lt e.order.len (last_order x.order es).len) 1 0
        → (if b then suc (unlistings x.order (es ++ e ∷ [])) else unlistings x.order (es ++ e ∷ [])) ≡ (if b then suc (unlistings x.order es) else unlistings x.order es) + cond (nat_lt e.order.len (last_order x.order es).len) 1 0
    by true rest = omega (arith, rest)
    by false rest = rest

-- an entry of another slot
of_other : (slot : ℕ) (rs : List RowEntry) (e : RowEntry) → (e.slot == slot) ≡ false
    → of_slot slot (rs ++ e ∷ []) ≡ of_slot slot rs
of_other slot rs e off =
    filter-append (λ (x : RowEntry). x.slot == slot) rs (e ∷ []) ∙ ap
    (λ (b : Bool). of_slot slot rs ++ cond b (e ∷ []) []) off ∙ append-nil (of_slot slot rs)

of_own : (slot : ℕ) (rs : List RowEntry) (e : RowEntry) → (e.slot == slot) ≡ true
    → of_slot slot (rs ++ e ∷ []) ≡ of_slot slot rs ++ e ∷ []
of_own slot rs e on =
    filter-append (λ (x : RowEntry). x.slot == slot) rs (e ∷ []) ∙ ap
    (λ (b : Bool). of_slot slot rs ++ cond b (e ∷ []) []) on

-- one more row entry
pub trail_row : (first : List Row) (o : Order) (rows : List Row) (order : Order) (flips : ℕ) (rs : List RowEntry)
    (os : List OrderEntry) (e : RowEntry)
    → e.slot < length rows → Follows (row_of rows e.slot) e → Trail first o rows order flips rs os
    → Trail first o (set rows e.slot e.row) order flips (rs ++ e ∷ []) os
trail_row first o rows order flips rs os e lt next t = record {
  follow = λ slot. elim (cases_Bool (e.slot == slot)) [
    | inl on ↦ let same : e.slot ≡ slot = eqb-true e.slot slot on in
        subst (AllFollow (row_of first slot)) (sym (of_own slot rs e on))
        (follow-append (row_of first slot) (of_slot slot rs) e (t.follow slot) (subst (λ (r : Row). Follows r e) (ap (row_of rows) same ∙ sym (t.last slot)) next))
    | inr off ↦ subst (AllFollow (row_of first slot)) (sym (of_other slot rs e off)) (t.follow slot)
  ];
  last = λ slot. row_set (λ r. last_row (row_of first slot) (of_slot slot (rs ++ e ∷ [])) ≡ r) rows e.slot slot e.row lt
      (λ same. ap (last_row (row_of first slot)) (of_own slot rs e (eq-eqb e.slot slot same)) ∙ last-append (row_of first slot) (of_slot slot rs) e)
      (λ apart. elim (cases_Bool (e.slot == slot)) [
        | inl on ↦ absurd (apart (eqb-true e.slot slot on))
        | inr off ↦ ap (last_row (row_of first slot)) (of_other slot rs e off) ∙ t.last slot
      ]);
  lists = t.lists;
  ends = t.ends;
  counted = t.counted;
}

-- one more list
pub trail_order : (first : List Row) (o : Order) (rows : List Row) (order : Order) (flips more : ℕ) (rs : List RowEntry)
    (os : List OrderEntry) (e : OrderEntry)
    → ListFits e.order → more ≡ flips + 2 * cond (nat_lt e.order.len order.len) 1 0
    → Trail first o rows order flips rs os → Trail first o rows e.order more rs (os ++ e ∷ [])
trail_order first o rows order flips more rs os e fits is t = record {
  follow = t.follow;
  last = t.last;
  lists = all-append (λ (x : OrderEntry). ListFits x.order) os (e ∷ []) t.lists (fits, tt);
  ends = order-append o os e;
  counted =
      let all : unlistings o (os ++ e ∷ []) ≡ unlistings o os + cond (nat_lt e.order.len order.len) 1 0 =
      unlistings-append o os e ∙ ap (λ (x : Order). unlistings o os + cond (nat_lt e.order.len x.len) 1 0) t.ends in
      let was = t.counted in
      is ∙ twice (cond (nat_lt e.order.len order.len) 1 0) was ∙ ap (λ n. 2 * n) (sym all);
}
  where
    twice : (n : ℕ) → flips ≡ 2 * unlistings o os → flips + 2 * n ≡ 2 * (unlistings o os + n)
    twice n was = omega arith
