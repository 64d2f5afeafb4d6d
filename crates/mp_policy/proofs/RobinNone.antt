-- When round robin chooses no path.
use Rattle.std.specs.Prelude.{◌≡◌, ◌↔◌, ℕ, suc, ◌+◌, not, take, drop, Bool, true, false, List, [], ◌∷◌, ◌++◌, Option, Some, None, filter, find, refl}
use Rattle.std.specs.List.{last_or, prefix_len, before_first, after_first}
use Rattle.std.proofs.Common.{inl, inr, ap, sym, ◌∙◌, arith}
use Rattle.std.proofs.lemmas.Bool.{cases_Bool}
use Rattle.mp_words.specs.declared.path.Path.{Path}
use Rattle.mp_words.specs.PathTable.{is_in, has_slot}
use Rattle.mp_policy.specs.Choices.{has_usable, walk_from, if_in, next_choice, choice_after, round_robin_choice}
use Rattle.mp_policy.proofs.NoChoice.{or_none, filter_first, none_usable, usable_none, nearest_choice-none}
use Rattle.mp_policy.proofs.Walks.{same_slot}

none_both : (test : Path → Bool) (xs ys : List Path) → filter test (xs ++ ys) ≡ [] → (filter test xs ≡ []) × (filter test ys ≡ [])
none_both test [] ys e = (refl, e)
none_both test (x ∷ xs) ys e = let h = filter_first test x (xs ++ ys) e in let r = none_both test xs ys h.1 in (rw h.0 r.0, r.1)

both_none : (test : Path → Bool) (xs ys : List Path) → filter test xs ≡ [] → filter test ys ≡ [] → filter test (xs ++ ys) ≡ []
both_none test [] ys a b = b
both_none test (x ∷ xs) ys a b = let h = filter_first test x xs a in rw h.0 (both_none test xs ys h.1 b)

find_nothing : (test : Path → Bool) (xs : List Path) → filter test xs ≡ [] → find test xs ≡ None
find_nothing test [] e = refl
find_nothing test (x ∷ xs) e = let h = filter_first test x xs e in rw h.0 (find_nothing test xs h.1)

nothing_found : (test : Path → Bool) (xs : List Path) → find test xs ≡ None → filter test xs ≡ []
nothing_found test [] e = refl
nothing_found test (x ∷ xs) e = by (test x) refl e (λ h. nothing_found test xs h)
  where
    by : (b : Bool) → test x ≡ b → find test (x ∷ xs) ≡ None → (find test xs ≡ None → filter test xs ≡ []) → filter test (x ∷ xs) ≡ []
    by true is none later = absurd (some_none x (rw is at none))
      where
        some_none : (p : Path) → Some p ≡ None → ⊥
        some_none p h = cc
    by false is none later = rw is (later (rw is at none))

last_some : (x : Path) (xs : List Path) → last_or (Some x) xs ≡ None → ⊥
last_some x [] e = cc
last_some x (y ∷ ys) e = last_some y ys e

last_none : (xs : List Path) → last_or None xs ≡ None → xs ≡ []
last_none [] e = refl
last_none (x ∷ xs) e = absurd (last_some x xs e)

not_in : (k : ℕ) (p : Path) → if_in k p ≡ None → is_in k p ≡ false
not_in k p e = elim (cases_Bool (is_in k p)) [
  | inl on ↦ absurd (let h : Some p ≡ None = rw on at e in cc)
  | inr off ↦ off
]

one_not : (test : Path → Bool) (p : Path) (xs : List Path) → test p ≡ false → filter test xs ≡ [] → filter test (p ∷ xs) ≡ []
one_not test p xs off e = rw off e

later_parts : (n : ℕ) (x y : Path) (ys : List Path) → ys ≡ take n ys ++ x ∷ drop (n + 1) ys → y ∷ ys ≡ take (1 + n) (y ∷ ys) ++ x ∷ drop (1 + n + 1) (y ∷ ys)
later_parts n x y ys e =
    let two : 1 + n + 1 ≡ suc (n + 1) = omega arith in
    let one : 1 + n ≡ suc n = omega arith in
    rw two (rw one (ap (λ ps. y ∷ ps) e))

-- the first that passes, with what stands before and after it
parts_of : (test : Path → Bool) (xs : List Path) (x : Path) → find test xs ≡ Some x → xs ≡ before_first test xs ++ x ∷ after_first test xs
parts_of test [] x e = absurd cc
parts_of test (y ∷ ys) x e = by (test y) refl e (λ h. parts_of test ys x h)
  where
    by : (b : Bool) → test y ≡ b → find test (y ∷ ys) ≡ Some x → (find test ys ≡ Some x → ys ≡ before_first test ys ++ x ∷ after_first test ys)
        → y ∷ ys ≡ before_first test (y ∷ ys) ++ x ∷ after_first test (y ∷ ys)
    by true is found later = let same : y ≡ x = (let h : Some y ≡ Some x = rw is at found in cc) in rw is (ap (λ p. p ∷ ys) same)
    by false is found later = rw is (later_parts (prefix_len (λ p. not (test p)) ys) x y ys (later (rw is at found)))

passes : (test : Path → Bool) (xs : List Path) (x : Path) → find test xs ≡ Some x → test x ≡ true
passes test [] x e = absurd cc
passes test (y ∷ ys) x e = by (test y) refl e (λ h. passes test ys x h)
  where
    by : (b : Bool) → test y ≡ b → find test (y ∷ ys) ≡ Some x → (find test ys ≡ Some x → test x ≡ true) → test x ≡ true
    by true is found later = let same : y ≡ x = (let h : Some y ≡ Some x = rw is at found in cc) in ap test (sym same) ∙ is
    by false is found later = later (rw is at found)

-- from a last choice with these before and behind it
next_none : (last : Path) (before after : List Path) → (next_choice last (after ++ before) ≡ None) ↔ (has_usable (before ++ last ∷ after) ≡ false)
next_none last before after = (
  λ none.
      let a = or_none (find (is_in 1) (after ++ before)) _ none in
      let b = or_none (if_in 1 last) _ a.1 in
      let c = or_none (last_or None (filter (is_in 2) (after ++ before))) (if_in 2 last) b.1 in
      let one = none_both (is_in 1) after before (nothing_found (is_in 1) (after ++ before) a.0) in
      let two = none_both (is_in 2) after before (last_none (filter (is_in 2) (after ++ before)) c.0) in
      none_usable (before ++ last ∷ after)
      (both_none (is_in 1) before (last ∷ after) one.1 (one_not (is_in 1) last after (not_in 1 last b.0) one.0))
      (both_none (is_in 2) before (last ∷ after) two.1 (one_not (is_in 2) last after (not_in 2 last c.1) two.0)),
  λ unusable.
      let both = usable_none (before ++ last ∷ after) unusable in
      let one = none_both (is_in 1) before (last ∷ after) both.0 in
      let two = none_both (is_in 2) before (last ∷ after) both.1 in
      let here = filter_first (is_in 1) last after one.1 in
      let there = filter_first (is_in 2) last after two.1 in
      rw (
        find_nothing (is_in 1) (after ++ before) (both_none (is_in 1) after before here.1 one.0),
        both_none (is_in 2) after before there.1 two.0,
        here.0,
        there.0,
      ) refl,
)

-- round robin chooses no path exactly where none is usable
pub round_robin_none : (last : Option ℕ) (paths : List Path) → (round_robin_choice last paths ≡ None) ↔ (has_usable paths ≡ false)
round_robin_none None paths = nearest_choice-none (λ path. 0) paths
round_robin_none (Some slot) paths = by (find (has_slot slot) paths) refl
  where
    by : (found : Option Path) → find (has_slot slot) paths ≡ found → (choice_after (find (has_slot slot) paths) paths ≡ None) ↔ (has_usable paths ≡ false)
    by None is = rw is (nearest_choice-none (λ path. 0) paths)
    by (Some last) is =
        let same : last.slot ≡ slot = same_slot last.slot slot (passes (has_slot slot) paths last is) in
        let parts = parts_of (has_slot slot) paths last is in
        let law = next_none last (before_first (has_slot slot) paths) (after_first (has_slot slot) paths) in
        let moved : next_choice last (walk_from last.slot paths) ≡ next_choice last (walk_from slot paths) = ap (λ s. next_choice last (walk_from s paths)) same in
        rw is (λ none. ap has_usable parts ∙ law.0 (sym moved ∙ none), λ unusable. moved ∙ law.1 (sym (ap has_usable parts) ∙ unusable))
