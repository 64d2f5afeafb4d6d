-- What round robin chooses behind a listed last choice, and without one.
use Rattle.std.proofs.Common.{◌≡◌, ◌∙◌, ◌+◌, ℕ, suc, Bool, true, false, List, [], ◌∷◌, ◌++◌, ◌⊎◌, inl, inr, filter, find, Option, Some, None, refl, sym, ap, arith, take, drop}
use Rattle.std.specs.Prelude.{not}
use Rattle.std.specs.List.{list_any, last_or, before_first, after_first, prefix_len}
use Rattle.std.specs.Option.{option_or}
use Rattle.std.proofs.lemmas.Bool.{cases_Bool}
use Rattle.std.proofs.lemmas.Bool.Decides.{nat_tests}
use Rattle.mp_words.specs.declared.path.Path.{Path}
use Rattle.mp_words.specs.States.{optimized, non_optimized}
use Rattle.mp_words.specs.PathTable.{is_in, has_slot}
use Rattle.mp_policy.specs.Choices.{if_in, next_choice, walk_from, choice_after, round_robin_choice}
use Rattle.mp_policy.specs.Means.{IsWalk, IsFirstIn, IsLastIn, IsAgain, IsLesserNext, IsNextChoice, IsNearestChoice, is_listed}
use Rattle.mp_policy.proofs.Least.{chosen}
use Rattle.mp_policy.proofs.FirstNearest.{which, nearest_choice-is}

some_one : (x y : Path) → Some x ≡ Some y → x ≡ y
some_one x y e = cc

some_none : (x : Path) → Some x ≡ None → ⊥
some_none x e = cc

-- a search that finds nothing
pub none_in : (test : Path → Bool) (xs : List Path) → find test xs ≡ None → list_any test xs ≡ false
none_in test [] e = refl
none_in test (x ∷ xs) e = by (test x) refl e (λ h. none_in test xs h)
  where
    by : (b : Bool) → test x ≡ b → find test (x ∷ xs) ≡ None → (find test xs ≡ None → list_any test xs ≡ false) → list_any test (x ∷ xs) ≡ false
    by true is e later = absurd (some_none x (rw is at e))
    by false is e later = rw is (later (rw is at e))

none_found : (test : Path → Bool) (xs : List Path) → list_any test xs ≡ false → find test xs ≡ None
none_found test [] e = refl
none_found test (x ∷ xs) e = by (test x) refl e (λ h. none_found test xs h)
  where
    by : (b : Bool) → test x ≡ b → list_any test (x ∷ xs) ≡ false → (list_any test xs ≡ false → find test xs ≡ None) → find test (x ∷ xs) ≡ None
    by true is e later = absurd (let h : true ≡ false = rw is at e in cc)
    by false is e later = rw is (later (rw is at e))

-- a search that finds a path
first_in : (state : ℕ) (xs : List Path) (path : Path) → find (is_in state) xs ≡ Some path → IsFirstIn state xs path
first_in state [] path e = absurd cc
first_in state (x ∷ xs) path e =
    elim (chosen (is_in state x) x path (find (is_in state) xs) e) [
      | inl here ↦ record { before = []; after = xs; parts = ap (λ p. p ∷ xs) here.1; others = refl; own = ap (is_in state) (sym here.1) ∙ here.0 }
      | inr later ↦
          let rest = first_in state xs path later.1 in
          record { before = x ∷ rest.before; after = rest.after; parts = ap (λ ps. x ∷ ps) rest.parts; others = rw later.0 rest.others; own = rest.own }
    ]

-- the last that passes, or the one given where none does
record LastOr (state : ℕ) (given : Option Path) (xs : List Path) (path : Path) : Type 0 where
  which : IsLastIn state xs path ⊎ ((list_any (is_in state) xs ≡ false) × (given ≡ Some path))

last_in : (state : ℕ) (given : Option Path) (xs : List Path) (path : Path) → last_or given (filter (is_in state) xs) ≡ Some path → LastOr state given xs path
last_in state given [] path e = record { which = inr (refl, e) }
last_in state given (x ∷ xs) path e = by (is_in state x) refl e (λ g h. last_in state g xs path h)
  where
    behind : IsLastIn state xs path → IsLastIn state (x ∷ xs) path
    behind r = record { before = x ∷ r.before; after = r.after; parts = ap (λ ps. x ∷ ps) r.parts; others = r.others; own = r.own }

    from_this : is_in state x ≡ true → IsLastIn state xs path ⊎ ((list_any (is_in state) xs ≡ false) × (Some x ≡ Some path)) → LastOr state given (x ∷ xs) path
    from_this is (inl r) = record { which = inl (behind r) }
    from_this is (inr r) =
        let same = some_one x path r.1 in
        record { which = inl (record { before = []; after = xs; parts = ap (λ p. p ∷ xs) same; others = r.0; own = ap (is_in state) (sym same) ∙ is }) }

    from_given : is_in state x ≡ false → IsLastIn state xs path ⊎ ((list_any (is_in state) xs ≡ false) × (given ≡ Some path)) → LastOr state given (x ∷ xs) path
    from_given is (inl r) = record { which = inl (behind r) }
    from_given is (inr r) = record { which = inr (rw is r.0, r.1) }

    by : (b : Bool) → is_in state x ≡ b → last_or given (filter (is_in state) (x ∷ xs)) ≡ Some path
        → ((g : Option Path) → last_or g (filter (is_in state) xs) ≡ Some path → LastOr state g xs path) → LastOr state given (x ∷ xs) path
    by true is h later = from_this is (later (Some x) (rw is at h)).which
    by false is h later = from_given is (later given (rw is at h)).which

again : (state : ℕ) (last path : Path) → if_in state last ≡ Some path → IsAgain state last path
again state last path e =
    elim (chosen (is_in state last) last path None e) [ inl here ↦ (sym here.1, here.0) | inr later ↦ absurd (some_none path (sym later.1)) ]

not_again : (state : ℕ) (last : Path) → if_in state last ≡ None → is_in state last ≡ false
not_again state last e = elim (cases_Bool (is_in state last)) [
  | inl on ↦ absurd (some_none last (rw on at e))
  | inr off ↦ off
]

last_some : (x : Path) (xs : List Path) → last_or (Some x) xs ≡ None → ⊥
last_some x [] e = cc
last_some x (y ∷ ys) e = last_some y ys e

none_last : (test : Path → Bool) (xs : List Path) → last_or None (filter test xs) ≡ None → list_any test xs ≡ false
none_last test [] e = refl
none_last test (x ∷ xs) e = by (test x) refl e (λ h. none_last test xs h)
  where
    by : (b : Bool) → test x ≡ b → last_or None (filter test (x ∷ xs)) ≡ None → (last_or None (filter test xs) ≡ None → list_any test xs ≡ false) → list_any test (x ∷ xs) ≡ false
    by true is h later = absurd (last_some x (filter test xs) (rw is at h))
    by false is h later = rw is (later (rw is at h))

last_of_walk : (walk : List Path) (path : Path) → LastOr non_optimized None walk path → IsLastIn non_optimized walk path
last_of_walk walk path r = elim r.which [ inl is ↦ is | inr none ↦ absurd (some_none path (sym none.1)) ]

lesser : (last : Path) (walk : List Path) (path : Path) → list_any (is_in optimized) walk ≡ false → is_in optimized last ≡ false
    → option_or (last_or None (filter (is_in non_optimized) walk)) (if_in non_optimized last) ≡ Some path → IsLesserNext last walk path
lesser last walk path none off e =
    elim (which (last_or None (filter (is_in non_optimized) walk)) (if_in non_optimized last) path e) [
      | inl met ↦ record { none = none; not_last = off; takes = inl (last_of_walk walk path (last_in non_optimized None walk path met)) }
      | inr other ↦ record { none = none; not_last = off; takes = inr (none_last (is_in non_optimized) walk other.0, again non_optimized last path other.1) }
    ]

next_is : (last : Path) (walk : List Path) (path : Path) → next_choice last walk ≡ Some path → IsNextChoice last walk path
next_is last walk path e =
    elim (which (find (is_in optimized) walk) (option_or (if_in optimized last) (option_or (last_or None (filter (is_in non_optimized) walk)) (if_in non_optimized last))) path e) [
      | inl first ↦ inl (first_in optimized walk path first)
      | inr other ↦ inr (elim (which (if_in optimized last) (option_or (last_or None (filter (is_in non_optimized) walk)) (if_in non_optimized last)) path other.1) [
        | inl own ↦ inl (none_in (is_in optimized) walk other.0, again optimized last path own)
        | inr less ↦ inr (lesser last walk path (none_in (is_in optimized) walk other.0) (not_again optimized last less.0) less.1)
      ])
    ]

-- what stands before and behind the first path of a slot
record Around (slot : ℕ) (before after : List Path) (last : Path) : Type 0 where
  found : find (has_slot slot) (before ++ last ∷ after) ≡ Some last
  front : before_first (has_slot slot) (before ++ last ∷ after) ≡ before
  back : after_first (has_slot slot) (before ++ last ∷ after) ≡ after

front_more : (n : ℕ) (y : Path) (ys before : List Path) → take n ys ≡ before → take (1 + n) (y ∷ ys) ≡ y ∷ before
front_more n y ys before e = let one : 1 + n ≡ suc n = omega arith in rw one (ap (λ ps. y ∷ ps) e)

back_more : (n : ℕ) (y : Path) (ys after : List Path) → drop (n + 1) ys ≡ after → drop (1 + n + 1) (y ∷ ys) ≡ after
back_more n y ys after e = let two : 1 + n + 1 ≡ suc (n + 1) = omega arith in rw two e

around : (slot : ℕ) (before after : List Path) (last : Path) → list_any (has_slot slot) before ≡ false → has_slot slot last ≡ true → Around slot before after last
around slot [] after last others own = record { found = rw own refl; front = rw own refl; back = rw own refl }
around slot (y ∷ ys) after last others own = by (has_slot slot y) refl others (λ h. around slot ys after last h own)
  where
    by : (b : Bool) → has_slot slot y ≡ b → list_any (has_slot slot) (y ∷ ys) ≡ false → (list_any (has_slot slot) ys ≡ false → Around slot ys after last) → Around slot (y ∷ ys) after last
    by true is e later = absurd (let h : true ≡ false = rw is at e in cc)
    by false is e later = let r = later (rw is at e) in record {
      found = rw is r.found;
      front = rw is (front_more (prefix_len (λ p. not (has_slot slot p)) (ys ++ last ∷ after)) y (ys ++ last ∷ after) ys r.front);
      back = rw is (back_more (prefix_len (λ p. not (has_slot slot p)) (ys ++ last ∷ after)) y (ys ++ last ∷ after) after r.back);
    }

-- round robin behind a listed last choice
pub takes_the_next : (slot : ℕ) (paths walk : List Path) (last path : Path) → IsWalk slot paths walk last → round_robin_choice (Some slot) paths ≡ Some path → IsNextChoice last walk path
takes_the_next slot paths walk last path w e =
    let own : has_slot slot last ≡ true = (let is = w.own in grind (arith, nat_tests)) in
    let r = around slot w.before w.after last w.others own in
    let steps : walk_from slot (w.before ++ last ∷ w.after) ≡ walk = ap (λ ps. ps ++ before_first (has_slot slot) (w.before ++ last ∷ w.after)) r.back ∙ ap (λ ps. w.after ++ ps) r.front ∙ sym w.goes in
    let at : choice_after (find (has_slot slot) paths) paths ≡ next_choice last walk =
    ap (λ ps. choice_after (find (has_slot slot) ps) ps) w.parts ∙ ap (λ o. choice_after o (w.before ++ last ∷ w.after)) r.found
    ∙ ap (λ s. next_choice last (walk_from s (w.before ++ last ∷ w.after))) w.own ∙ ap (next_choice last) steps in
    next_is last walk path (sym at ∙ e)

-- round robin without one
pub begins_with_the_first : (last : Option ℕ) (paths : List Path) (path : Path) → is_listed last paths ≡ false → round_robin_choice last paths ≡ Some path → IsNearestChoice (λ other. 0) paths path
begins_with_the_first None paths path unlisted e = nearest_choice-is (λ other. 0) paths path e
begins_with_the_first (Some slot) paths path unlisted e =
    nearest_choice-is (λ other. 0) paths path (sym (ap (λ o. choice_after o paths) (none_found (has_slot slot) paths unlisted)) ∙ e)
