-- The last group that names a namespace, among one more.
use Rattle.std.proofs.Common.{◌≡◌, ◌↔◌, ℕ, ◌+◌, ◌<◌, Bool, true, false, List, [], ◌∷◌, ◌++◌, length, get_or, take, Option, Some, None, filter, option_map, refl}
use Rattle.std.specs.List.{last_or, AllByRecursion}
use Rattle.std.proofs.lemmas.List.{take_more, append-nil}
use Rattle.std.proofs.lemmas.List.Elements.{filter-append}
use Rattle.mp_page.specs.declared.page.Group.{Group}
use Rattle.mp_page.specs.Gifts.{names}

last_or-more : {X : Type 0} (o : Option X) (xs : List X) (x : X) → last_or o (xs ++ x ∷ []) ≡ Some x
last_or-more o [] x = refl
last_or-more o (y ∷ xs) x = last_or-more (Some y) xs x

abbrev stated : ℕ → List Group → Option ℕ
stated nsid groups = option_map (λ group. group.state) (last_or None (filter (names nsid) groups))

pub stated_here : (nsid : ℕ) (groups : List Group) (i : ℕ) (group d : Group) → i < length groups → group ≡ get_or groups i d → names nsid group ≡ true
    → stated nsid (take (i + 1) groups) ≡ Some group.state
stated_here nsid groups i group d lt is named =
    rw (take_more groups i d lt, ← is, filter-append (names nsid) (take i groups) (group ∷ []), named, last_or-more None (filter (names nsid) (take i groups)) group) refl

pub stated_before : (nsid : ℕ) (groups : List Group) (i : ℕ) (group d : Group) → i < length groups → group ≡ get_or groups i d → names nsid group ≡ false
    → stated nsid (take (i + 1) groups) ≡ stated nsid (take i groups)
stated_before nsid groups i group d lt is named =
    rw (take_more groups i d lt, ← is, filter-append (names nsid) (take i groups) (group ∷ []), named, append-nil) refl

none_named : (nsid : ℕ) (groups : List Group) → AllByRecursion (λ group. names nsid group ≡ false) groups → filter (names nsid) groups ≡ []
none_named nsid [] none = refl
none_named nsid (group ∷ groups) none = rw none.0 (none_named nsid groups none.1)

pub last_states : (nsid : ℕ) (groups before after : List Group) (group : Group) → groups ≡ before ++ group ∷ after → names nsid group ≡ true → AllByRecursion (λ other. names nsid other ≡ false) after
    → stated nsid groups ≡ Some group.state
last_states nsid groups before after group is named none =
    rw (is, filter-append (names nsid) before (group ∷ after), named, none_named nsid after none, last_or-more None (filter (names nsid) before) group) refl

last_or-some : {X : Type 0} (x : X) (xs : List X) → last_or (Some x) xs ≡ None → ⊥
last_or-some x [] h = absurd cc
last_or-some x (y ∷ xs) h = last_or-some y xs h

no_last : {X : Type 0} (p : X → Bool) (xs : List X) → last_or None (filter p xs) ≡ None → AllByRecursion (λ x. p x ≡ false) xs
no_last p [] h = tt
no_last p (x ∷ xs) h = by_test (p x) refl (no_last p xs)
  where
    by_test : (b : Bool) → p x ≡ b → (last_or None (filter p xs) ≡ None → AllByRecursion (λ y. p y ≡ false) xs) → AllByRecursion (λ y. p y ≡ false) (x ∷ xs)
    by_test true is more = absurd (last_or-some x (filter p xs) (rw is at h))
    by_test false is more = (is, more (rw is at h))

no_state : (o : Option Group) → option_map (λ group. group.state) o ≡ None → o ≡ None
no_state None h = refl
no_state (Some group) h = absurd cc

pub none_states : (nsid : ℕ) (groups : List Group) → (stated nsid groups ≡ None) ↔ AllByRecursion (λ group. names nsid group ≡ false) groups
none_states nsid groups =
    (λ h. no_last (names nsid) groups (no_state (last_or None (filter (names nsid) groups)) h), λ none. rw (none_named nsid groups none) refl)
