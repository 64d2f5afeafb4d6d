-- The controllers' paths, by the keeper's data and by the plain state.
use Rattle.std.proofs.Common.{◌≡◌, ℕ, ◌<◌, ◌==◌, ◌&&◌, ◌||◌, not, Bool, true, false, List, [], ◌∷◌, length, map, get_or, nat_lt, cond, Option, Some, None, is_some, refl, sym, ap, ◌∙◌, subst, arith, eqb-true, eq-eqb, if◌then◌else◌}
use Rattle.std.specs.Prelude.{find, position}
use Rattle.std.specs.List.{list_all, position_or_len}
use Rattle.std.proofs.lemmas.Bool.Decides.{nat_tests}
use Rattle.std.proofs.lemmas.List.Sums.{fails_before_first}
use Rattle.std.proofs.lemmas.List.Quantifiers.{position-Some}
use Rattle.std.proofs.Math.ListN.{get_or-map}
use Rattle.mp_words.specs.declared.path.Path.{Path}
use Rattle.mp_words.specs.declared.row.Row.{Row}
use Rattle.mp_words.specs.Effect.{free_row}
use Rattle.mp_words.specs.Order.{slots_of}
use Rattle.mp_words.specs.PathTable.{has_ctrl}
use Rattle.mp_words.specs.Row.{is_given}
use Rattle.mp_core.specs.Memory.{Memory, row_at}
use Rattle.mp_core.specs.Status.{has, lists}
use Rattle.mp_keep.specs.declared.removal.Removal.{Removal}
use Rattle.mp_keep.specs.Keeper.{KeeperView, IsSound, owner_at, owner_of, removal_of}
use Rattle.mp_keep.specs.Keeps.{path_slot, slot_with}
use Rattle.mp_legal.specs.PlainKeep.{is_among}
use Rattle.mp_legal.specs.PlainState.{paths_of}
use Rattle.mp_legal.specs.ToldKeeper.{KeepsAt}
use Rattle.mp_legal.specs.ToldState.{Beside, state_in}

never : {A : Type 0} (b : Bool) → b ≡ true → b ≡ false → A
never true e f = absurd cc
never false e f = absurd cc

-- the slot is under removal
pub among_removed : (rs : List Removal) (slot : ℕ) → is_among (map (λ (r : Removal). r.slot) rs) slot ≡ is_some (removal_of rs slot)
among_removed [] slot = refl
among_removed (r ∷ rs) slot = by (r.slot == slot) (among_removed rs slot)
  where
    by : (b : Bool) → is_among (map (λ (r : Removal). r.slot) rs) slot ≡ is_some (removal_of rs slot) → (b || is_among (map (λ (r : Removal). r.slot) rs) slot) ≡ is_some (cond b (Some r) (removal_of rs slot))
    by true later = refl
    by false later = later

-- a listed slot is one of the table's
pub listed_below : (slots : List ℕ) (slot : ℕ) → list_all (λ s. nat_lt s 15) slots ≡ true → has slot slots ≡ true → slot < 15
listed_below [] slot all there = absurd cc
listed_below (s ∷ slots) slot all there = by (s == slot) refl (nat_lt s 15) refl all there (listed_below slots slot)
  where
    by : (b : Bool) → (s == slot) ≡ b → (c : Bool) → nat_lt s 15 ≡ c → (c && list_all (λ s. nat_lt s 15) slots) ≡ true → (b || has slot slots) ≡ true
        → (list_all (λ s. nat_lt s 15) slots ≡ true → has slot slots ≡ true → slot < 15) → slot < 15
    by b e false f all there later = absurd cc
    by true e true f all there later = subst (λ n. n < 15) (eqb-true s slot e) (grind (arith, nat_tests))
    by false e true f all there later = later all there

-- the controller of a slot is that of its row
pub owner_is : (k : KeeperView) (m : Memory) (slot : ℕ) → k.owners ≡ map owner_of m.rows → owner_at k slot ≡ owner_of (row_at m slot)
owner_is k m slot e = ap (λ (os : List (Option ℕ)). get_or os slot None) e ∙ get_or-map owner_of m.rows slot (free_row 0)

inj : (c d : ℕ) → Some c ≡ Some d → c ≡ d
inj c d e = cc

given_owner : (row : Row) (ctrl : ℕ) → is_some (owner_of row) ≡ true → (row.ctrl == ctrl) ≡ true → owner_of row ≡ Some ctrl
given_owner row ctrl given same = by (is_given row) given
  where
    by : (b : Bool) → is_some (if b then Some row.ctrl else None) ≡ true → (if b then Some row.ctrl else None) ≡ Some ctrl
    by true g = ap Some (eqb-true row.ctrl ctrl same)
    by false g = absurd cc

owner_ctrl : (row : Row) (ctrl : ℕ) → owner_of row ≡ Some ctrl → (row.ctrl == ctrl) ≡ true
owner_ctrl row ctrl e = by (is_given row) e
  where
    by : (b : Bool) → (if b then Some row.ctrl else None) ≡ Some ctrl → (row.ctrl == ctrl) ≡ true
    by true g = eq-eqb row.ctrl ctrl (inj row.ctrl ctrl g)
    by false g = absurd cc

-- the test of the plain run's, at a slot
abbrev pub is_free_path : List ℕ → ℕ → Path → Bool
is_free_path removals ctrl path = has_ctrl ctrl path && not (is_among removals path.slot)

abbrev pub path_at : Memory → ℕ → Path
path_at m slot = record { slot = slot; row = row_at m slot }

find_none : (test : Path → Bool) (f : ℕ → Path) (ys : List ℕ) → ((y : ℕ) → has y ys ≡ true → test (f y) ≡ false) → find test (map f ys) ≡ None
find_none test f [] all = refl
find_none test f (y ∷ ys) all =
    let here : test (f y) ≡ false = all y (ap (λ (b : Bool). b || has y ys) (eq-eqb y y refl)) in
    ap (λ (b : Bool). cond b (Some (f y)) (find test (map f ys))) here ∙ find_none test f ys (λ z at. all z (more (y == z) (has z ys) at))
  where
    more : (b c : Bool) → c ≡ true → (b || c) ≡ true
    more true c e = refl
    more false c e = e

find_only : (test : Path → Bool) (f : ℕ → Path) (ys : List ℕ) (slot : ℕ) → has slot ys ≡ true → test (f slot) ≡ true → ((y : ℕ) → has y ys ≡ true → test (f y) ≡ true → y ≡ slot) → find test (map f ys) ≡ Some (f slot)
find_only test f [] slot there is only = absurd cc
find_only test f (y ∷ ys) slot there is only = by (test (f y)) refl (y == slot) refl there (λ at. find_only test f ys slot at is (λ z at. only z (more (y == z) (has z ys) at)))
  where
    more : (b c : Bool) → c ≡ true → (b || c) ≡ true
    more true c e = refl
    more false c e = e

    by : (b : Bool) → test (f y) ≡ b → (c : Bool) → (y == slot) ≡ c → (c || has slot ys) ≡ true → (has slot ys ≡ true → find test (map f ys) ≡ Some (f slot)) → cond b (Some (f y)) (find test (map f ys)) ≡ Some (f slot)
    by true e c g there later = ap (λ (z : ℕ). Some (f z)) (only y (ap (λ (d : Bool). d || has y ys) (eq-eqb y y refl)) e)
    by false e true g there later = never (test (f y)) (ap (λ (z : ℕ). test (f z)) (eqb-true y slot g) ∙ is) e
    by false e false g there later = later there

cond_none : (b : Bool) (i : ℕ) → cond b (Some i) None ≡ None → b ≡ false
cond_none false i h = refl
cond_none true i h = absurd cc

pub none_at : {X : Type 0} (p : X → Bool) (xs : List X) (i : ℕ) (d : X) → i < length xs → position p xs ≡ None → p (get_or xs i d) ≡ false
none_at p xs i d lt none =
    let past = cond_none (nat_lt (position_or_len p xs) (length xs)) (position_or_len p xs) none in
    fails_before_first p xs i d (grind (arith, nat_tests, lt, past))

no_path : (k : KeeperView) (ctrl : ℕ) → slot_with k ctrl ≡ None → path_slot k ctrl ≡ None
no_path k ctrl e = rw e refl

one_path : (k : KeeperView) (ctrl slot : ℕ) → slot_with k ctrl ≡ Some slot → path_slot k ctrl ≡ (if is_some (removal_of k.removals slot) then None else Some slot)
one_path k ctrl slot e = rw e refl

owner_found : (p : Option ℕ → Bool) (ctrl : ℕ) (owners : List (Option ℕ)) (slot : ℕ) → position p owners ≡ Some slot → p None ≡ false → ((c : ℕ) → p (Some c) ≡ (c == ctrl)) → get_or owners slot None ≡ Some ctrl
owner_found p ctrl owners slot e none some =
    let found = position-Some p owners slot None e in
    by (get_or owners slot None) found.1
  where
    by : (o : Option ℕ) → p o ≡ true → o ≡ Some ctrl
    by None h = never (p None) h none
    by (Some c) h = ap Some (eqb-true c ctrl (sym (some c) ∙ h))

owner_unfound : (p : Option ℕ → Bool) (ctrl : ℕ) (owners : List (Option ℕ)) (slot : ℕ) → position p owners ≡ None → ((c : ℕ) → p (Some c) ≡ (c == ctrl)) → slot < length owners → get_or owners slot None ≡ Some ctrl → ⊥
owner_unfound p ctrl owners slot e some lt is =
    never (p (get_or owners slot None)) (ap p is ∙ some ctrl ∙ eq-eqb ctrl ctrl refl) (none_at p owners slot None lt e)

-- the slot that a controller has is its own
pub with_owner_at : (k : KeeperView) (ctrl slot : ℕ) → slot_with k ctrl ≡ Some slot → owner_at k slot ≡ Some ctrl
with_owner_at k ctrl slot e = owner_found _ ctrl k.owners slot e refl (λ c. refl)

pub without_owner_at : (k : KeeperView) (ctrl slot : ℕ) → slot_with k ctrl ≡ None → slot < length k.owners → owner_at k slot ≡ Some ctrl → ⊥
without_owner_at k ctrl slot e lt is = owner_unfound _ ctrl k.owners slot e (λ c. refl) lt is

with_below : (k : KeeperView) (ctrl slot : ℕ) → slot_with k ctrl ≡ Some slot → slot < length k.owners
with_below k ctrl slot e = (position-Some _ k.owners slot None e).0

-- what is known where the keeper's data agree with the words
record Agrees (k : KeeperView) (m : Memory) (x : Beside) : Type 0 where
  sound : IsSound k
  keeps : KeepsAt k (state_in m x)

and_true : (b c : Bool) → (b && c) ≡ true → (b ≡ true) × (c ≡ true)
and_true true true e = (refl, refl)
and_true true false e = absurd cc
and_true false c e = absurd cc

not_true : (b : Bool) → not b ≡ true → b ≡ false
not_true false e = refl
not_true true e = absurd cc

or_right : (b c : Bool) → c ≡ true → (b || c) ≡ true
or_right true c e = refl
or_right false c e = e

or_left : (b c : Bool) → (b || c) ≡ true → b ≡ false → c ≡ true
or_left true c e f = absurd cc
or_left false c e f = e

-- a listed slot whose row has the controller is the controller's
listed_owner : (k : KeeperView) (m : Memory) (x : Beside) (ctrl slot : ℕ) → Agrees k m x → has slot (slots_of k.order) ≡ true → has_ctrl ctrl (path_at m slot) ≡ true → owner_at k slot ≡ Some ctrl
listed_owner k m x ctrl slot a there same =
    let below = listed_below (slots_of k.order) slot a.keeps.within there in
    let given : is_some (owner_at k slot) ≡ true = a.sound.owned slot below ∙ or_right (is_some (removal_of k.removals slot)) (lists slot k.order) there in
    let at = owner_is k m slot a.keeps.owners in
    at ∙ given_owner (row_at m slot) ctrl (ap (λ (o : Option ℕ). is_some o) (sym at) ∙ given) same

-- no listed path that isn't under removal is the controller's
none_listed : (k : KeeperView) (m : Memory) (x : Beside) (ctrl : ℕ) → Agrees k m x → ((slot : ℕ) → slot < 15 → owner_at k slot ≡ Some ctrl → is_some (removal_of k.removals slot) ≡ true)
    → find (is_free_path (map (λ (r : Removal). r.slot) k.removals) ctrl) (map (path_at m) (slots_of k.order)) ≡ None
none_listed k m x ctrl a all =
    find_none (is_free_path (map (λ (r : Removal). r.slot) k.removals) ctrl) (path_at m) (slots_of k.order) (λ y there. by y there (is_free_path (map (λ (r : Removal). r.slot) k.removals) ctrl (path_at m y)) refl)
  where
    by : (y : ℕ) → has y (slots_of k.order) ≡ true → (b : Bool) → is_free_path (map (λ (r : Removal). r.slot) k.removals) ctrl (path_at m y) ≡ b → b ≡ false
    by y there false e = refl
    by y there true e =
        let both = and_true (has_ctrl ctrl (path_at m y)) (not (is_among (map (λ (r : Removal). r.slot) k.removals) y)) e in
        let owner = listed_owner k m x ctrl y a there both.0 in
        let removed = all y (listed_below (slots_of k.order) y a.keeps.within there) owner in
        never (is_some (removal_of k.removals y)) removed (sym (among_removed k.removals y) ∙ not_true (is_among (map (λ (r : Removal). r.slot) k.removals) y) both.1)

-- the one listed path of the controller's, where it isn't under removal
one_listed : (k : KeeperView) (m : Memory) (x : Beside) (ctrl slot : ℕ) → Agrees k m x → slot < 15 → owner_at k slot ≡ Some ctrl → is_some (removal_of k.removals slot) ≡ false
    → find (is_free_path (map (λ (r : Removal). r.slot) k.removals) ctrl) (map (path_at m) (slots_of k.order)) ≡ Some (path_at m slot)
one_listed k m x ctrl slot a below owner kept =
    let removals : List ℕ = map (λ (r : Removal). r.slot) k.removals in
    let there : lists slot k.order ≡ true = or_left (is_some (removal_of k.removals slot)) (lists slot k.order) (sym (a.sound.owned slot below) ∙ ap (λ (o : Option ℕ). is_some o) owner) kept in
    let same : has_ctrl ctrl (path_at m slot) ≡ true = owner_ctrl (row_at m slot) ctrl (sym (owner_is k m slot a.keeps.owners) ∙ owner) in
    let free : is_among removals slot ≡ false = among_removed k.removals slot ∙ kept in
    find_only (is_free_path removals ctrl) (path_at m) (slots_of k.order) slot there ((λ i. same i && not (free i)) ∙ refl)
    (λ y at is. a.sound.apart y slot ctrl (listed_owner k m x ctrl y a at (and_true (has_ctrl ctrl (path_at m y)) (not (is_among removals y)) is).0) owner)

-- the path that the plain run finds is the slot's that the keeper does
pub record SamePath (k : KeeperView) (m : Memory) (x : Beside) (ctrl : ℕ) : Type 0 where
  pub none : path_slot k ctrl ≡ None → find (is_free_path (state_in m x).removals ctrl) (paths_of (state_in m x)) ≡ None
  pub some : (slot : ℕ) → path_slot k ctrl ≡ Some slot → find (is_free_path (state_in m x).removals ctrl) (paths_of (state_in m x)) ≡ Some (path_at m slot)

pub same_path : (k : KeeperView) (m : Memory) (x : Beside) (ctrl : ℕ) → IsSound k → KeepsAt k (state_in m x) → SamePath k m x ctrl
same_path k m x ctrl sound keeps = by (slot_with k ctrl) refl
  where
    a : Agrees k m x
    a = record { sound = sound; keeps = keeps }

    here : find (is_free_path (state_in m x).removals ctrl) (paths_of (state_in m x)) ≡ find (is_free_path (map (λ (r : Removal). r.slot) k.removals) ctrl) (map (path_at m) (slots_of k.order))
    here = λ i. find (is_free_path (keeps.removals i) ctrl) (map (path_at m) (slots_of (keeps.order i)))

    differ : (slot : ℕ) → None ≡ Some slot → ⊥
    differ slot e = cc

    is_slot : (s t : ℕ) → Some s ≡ Some t → s ≡ t
    is_slot s t e = cc

    within : (slot : ℕ) → slot < length k.owners → slot < 15
    within slot lt = let sized = sound.sized in omega arith

    below : (slot : ℕ) → slot < 15 → slot < length k.owners
    below slot lt = let sized = sound.sized in omega arith

    removed : (s : ℕ) → owner_at k s ≡ Some ctrl → s < 15 → path_slot k ctrl ≡ (if is_some (removal_of k.removals s) then None else Some s) → (b : Bool) → is_some (removal_of k.removals s) ≡ b → SamePath k m x ctrl
    removed s owner lt is true e = record {
      none = λ h. here ∙ none_listed k m x ctrl a (λ slot at other. ap (λ (z : ℕ). is_some (removal_of k.removals z)) (sound.apart slot s ctrl other owner) ∙ e);
      some = λ slot h. absurd (differ slot (sym (is ∙ ap (λ (b : Bool). if b then None else Some s) e) ∙ h));
    }
    removed s owner lt is false e = record {
      none = λ h. absurd (differ s (sym h ∙ is ∙ ap (λ (b : Bool). if b then None else Some s) e));
      some = λ slot h. here ∙ one_listed k m x ctrl s a lt owner e ∙ ap (λ (z : ℕ). Some (path_at m z)) (is_slot s slot (sym (is ∙ ap (λ (b : Bool). if b then None else Some s) e) ∙ h));
    }

    by : (o : Option ℕ) → slot_with k ctrl ≡ o → SamePath k m x ctrl
    by None e = record {
      none = λ h. here ∙ none_listed k m x ctrl a (λ slot lt owner. absurd (without_owner_at k ctrl slot e (below slot lt) owner));
      some = λ slot h. absurd (differ slot (sym (no_path k ctrl e) ∙ h));
    }
    by (Some s) e =
        let owner = with_owner_at k ctrl s e in
        let lt = within s (with_below k ctrl s e) in
        removed s owner lt (one_path k ctrl s e) (is_some (removal_of k.removals s)) refl
