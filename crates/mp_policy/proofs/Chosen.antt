-- What holds of all paths holds of the one that is chosen, which is usable; and equal distances choose alike.
use Rattle.std.proofs.Common.{◌≡◌, ◌∙◌, ◌+◌, ℕ, zero, suc, Bool, true, false, ◌&&◌, ◌||◌, ◌==◌, cond, nat_le, List, [], ◌∷◌, ◌++◌, take, drop, find, filter, Option, Some, None, refl, sym, ap, subst, ◌⊎◌, inl, inr}
use Rattle.std.specs.List.{AllByRecursion, list_all, last_or, after_first, before_first, position_or_len}
use Rattle.std.specs.Option.{option_or}
use Rattle.std.proofs.lemmas.Bool.{cases_Bool}
use Rattle.mp_words.specs.Row.{is_usable, is_enabled}
use Rattle.mp_words.specs.declared.path.Path.{Path}
use Rattle.mp_words.specs.PathTable.{is_in, has_slot}
use Rattle.mp_policy.specs.Choices.{first_nearest, is_nearest, nearest_choice, next_choice, choice_after, round_robin_choice, walk_from, if_in}
use Rattle.mp_policy.proofs.Least.{chosen}

usable : (P : Path → Type 0) → Path → Type 0
usable P p = P p × (is_usable p.row ≡ true)

in_usable : (e a b : Bool) → ((e && a) ≡ true) ⊎ ((e && b) ≡ true) → (e && (a || b)) ≡ true
in_usable true true b h = refl
in_usable true false true h = refl
in_usable true false false (inl h) = h
in_usable true false false (inr h) = h
in_usable false a b (inl h) = h
in_usable false a b (inr h) = h

pub one_usable : (p : Path) → is_in 1 p ≡ true → is_usable p.row ≡ true
one_usable p h = in_usable (is_enabled p.row) (p.row.state == 1) (p.row.state == 2) (inl h)

pub two_usable : (p : Path) → is_in 2 p ≡ true → is_usable p.row ≡ true
two_usable p h = in_usable (is_enabled p.row) (p.row.state == 1) (p.row.state == 2) (inr h)

pub find_has : (P : Path → Type 0) (test : Path → Bool) (xs : List Path) (p : Path) → AllByRecursion P xs → find test xs ≡ Some p → P p × (test p ≡ true)
find_has P test [] p all h = absurd cc
find_has P test (x ∷ xs) p all h =
    elim (chosen (test x) x p (find test xs) h) [
      | inl w ↦ (subst P w.1 all.0, ap test (sym w.1) ∙ w.0)
      | inr w ↦ find_has P test xs p all.1 w.1
    ]

pub filter_has : (P Q : Path → Type 0) (test : Path → Bool) → ((p : Path) → P p → test p ≡ true → Q p) → (xs : List Path) → AllByRecursion P xs → AllByRecursion Q (filter test xs)
filter_has P Q test gives [] all = tt
filter_has P Q test gives (x ∷ xs) all =
    elim (cases_Bool (test x)) [
      | inl on ↦ rw on (gives x all.0 on, filter_has P Q test gives xs all.1)
      | inr off ↦ rw off (filter_has P Q test gives xs all.1)
    ]

last_has : (P : Path → Type 0) (o : Option Path) (xs : List Path) (p : Path) → ((q : Path) → o ≡ Some q → P q) → AllByRecursion P xs → last_or o xs ≡ Some p → P p
last_has P o [] p first all h = first p h
last_has P o (x ∷ xs) p first all h = last_has P (Some x) xs p (λ q e. subst P (inj x q e) all.0) all.1 h
  where
    inj : (a b : Path) → Some a ≡ Some b → a ≡ b
    inj a b e = cc

append_has : (P : Path → Type 0) (xs ys : List Path) → AllByRecursion P xs → AllByRecursion P ys → AllByRecursion P (xs ++ ys)
append_has P [] ys a b = b
append_has P (x ∷ xs) ys a b = (a.0, append_has P xs ys a.1 b)

take_has : (P : Path → Type 0) (n : ℕ) (xs : List Path) → AllByRecursion P xs → AllByRecursion P (take n xs)
take_has P zero xs a = tt
take_has P (suc n) [] a = tt
take_has P (suc n) (x ∷ xs) a = (a.0, take_has P n xs a.1)

drop_has : (P : Path → Type 0) (n : ℕ) (xs : List Path) → AllByRecursion P xs → AllByRecursion P (drop n xs)
drop_has P zero xs a = a
drop_has P (suc n) [] a = tt
drop_has P (suc n) (x ∷ xs) a = drop_has P n xs a.1

or_has : (P : Path → Type 0) (a b : Option Path) (p : Path) → ((q : Path) → a ≡ Some q → P q) → ((q : Path) → b ≡ Some q → P q) → option_or a b ≡ Some p → P p
or_has P None b p x y h = y p h
or_has P (Some q) b p x y h = x p h

if_has : (P : Path → Type 0) (b : Bool) (x p : Path) → (b ≡ true → P x) → cond b (Some x) None ≡ Some p → P p
if_has P true x p gives h = subst P (inj x p h) (gives refl)
  where
    inj : (a b : Path) → Some a ≡ Some b → a ≡ b
    inj a b e = cc
if_has P false x p gives h = absurd cc

abbrev Good : (Path → Type 0) → Path → Type 0
Good P p = P p × (is_usable p.row ≡ true)

pub nearest_has : (P : Path → Type 0) (d : Path → ℕ) (paths : List Path) (p : Path) → AllByRecursion P paths → nearest_choice d paths ≡ Some p → P p × (is_usable p.row ≡ true)
nearest_has P d paths p all h =
    or_has (Good P) (first_nearest d (filter (is_in 1) paths)) (first_nearest d (filter (is_in 2) paths)) p
    (λ q e. (find_has (Good P) (is_nearest d (filter (is_in 1) paths)) (filter (is_in 1) paths) q (filter_has P (Good P) (is_in 1) (λ r a b. (a, one_usable r b)) paths all) e).0)
    (λ q e. (find_has (Good P) (is_nearest d (filter (is_in 2) paths)) (filter (is_in 2) paths) q (filter_has P (Good P) (is_in 2) (λ r a b. (a, two_usable r b)) paths all) e).0)
    h

next_has : (P : Path → Type 0) (last : Path) (walk : List Path) (p : Path) → P last → AllByRecursion P walk → next_choice last walk ≡ Some p → P p × (is_usable p.row ≡ true)
next_has P last walk p own all h =
    or_has (Good P) (find (is_in 1) walk) (option_or (if_in 1 last) (option_or (last_or None (filter (is_in 2) walk)) (if_in 2 last))) p
    (λ q e. let f = find_has P (is_in 1) walk q all e in (f.0, one_usable q f.1))
    (λ q e. or_has (Good P) (if_in 1 last) (option_or (last_or None (filter (is_in 2) walk)) (if_in 2 last)) q
    (λ r f. if_has (Good P) (is_in 1 last) last r (λ on. (own, one_usable last on)) f)
    (λ r f. or_has (Good P) (last_or None (filter (is_in 2) walk)) (if_in 2 last) r
    (λ s g. last_has (Good P) None (filter (is_in 2) walk) s (λ t k. absurd cc) (filter_has P (Good P) (is_in 2) (λ t a b. (a, two_usable t b)) walk all) g)
    (λ s g. if_has (Good P) (is_in 2 last) last s (λ on. (own, two_usable last on)) g)
    f)
    e)
    h

pub round_has : (P : Path → Type 0) (last : Option ℕ) (paths : List Path) (p : Path) → AllByRecursion P paths → round_robin_choice last paths ≡ Some p → P p × (is_usable p.row ≡ true)
round_has P None paths p all h = nearest_has P (λ q. 0) paths p all h
round_has P (Some slot) paths p all h = from (find (has_slot slot) paths) refl h
  where
    from : (o : Option Path) → find (has_slot slot) paths ≡ o → choice_after o paths ≡ Some p → P p × (is_usable p.row ≡ true)
    from None e g = nearest_has P (λ q. 0) paths p all g
    from (Some last) e g =
        next_has P last (walk_from last.slot paths) p (find_has P (has_slot slot) paths last all e).0 (append_has P (after_first (has_slot last.slot) paths) (before_first (has_slot last.slot) paths) (drop_has P (position_or_len (has_slot last.slot) paths + 1) paths all) (take_has P (position_or_len (has_slot last.slot) paths) paths all)) g

-- equal distances
all_alike : (d e : Path → ℕ) (n k : ℕ) (xs : List Path) → n ≡ k → AllByRecursion (λ p. d p ≡ e p) xs → list_all (λ o. nat_le n (d o)) xs ≡ list_all (λ o. nat_le k (e o)) xs
all_alike d e n k [] same all = refl
all_alike d e n k (x ∷ xs) same all = λ i. nat_le (same i) (all.0 i) && all_alike d e n k xs same all.1 i

find_alike : (t u : Path → Bool) (xs : List Path) → AllByRecursion (λ p. t p ≡ u p) xs → find t xs ≡ find u xs
find_alike t u [] all = refl
find_alike t u (x ∷ xs) all = λ i. cond (all.0 i) (Some x) (find_alike t u xs all.1 i)

map_has : (P Q : Path → Type 0) → ((p : Path) → P p → Q p) → (xs : List Path) → AllByRecursion P xs → AllByRecursion Q xs
map_has P Q gives [] all = tt
map_has P Q gives (x ∷ xs) all = (gives x all.0, map_has P Q gives xs all.1)

first_alike : (d e : Path → ℕ) (xs : List Path) → AllByRecursion (λ p. d p ≡ e p) xs → first_nearest d xs ≡ first_nearest e xs
first_alike d e xs all = find_alike (is_nearest d xs) (is_nearest e xs) xs (map_has (λ p. d p ≡ e p) (λ p. is_nearest d xs p ≡ is_nearest e xs p) (λ p same. all_alike d e (d p) (e p) xs same all) xs all)

-- distances that agree on the usable paths choose alike
pub nearest_alike : (d e : Path → ℕ) (paths : List Path) → AllByRecursion (λ p. is_usable p.row ≡ true → d p ≡ e p) paths → nearest_choice d paths ≡ nearest_choice e paths
nearest_alike d e paths all = λ i. option_or
    (first_alike d e (filter (is_in 1) paths) (filter_has (λ p. is_usable p.row ≡ true → d p ≡ e p) (λ p. d p ≡ e p) (is_in 1) (λ p same on. same (one_usable p on)) paths all) i)
    (first_alike d e (filter (is_in 2) paths) (filter_has (λ p. is_usable p.row ≡ true → d p ≡ e p) (λ p. d p ≡ e p) (is_in 2) (λ p same on. same (two_usable p on)) paths all) i)
