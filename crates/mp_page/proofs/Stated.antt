-- A stated state is one that a page may have.
use Rattle.std.proofs.Common.{◌≡◌, ℕ, ◌≤◌, Bool, true, false, List, [], ◌∷◌, drop, Option, Some, None, Ok, filter, option_map, refl}
use Rattle.std.specs.Prelude.{IfSome}
use Rattle.std.specs.List.{last_or, AllByRecursion}
use Rattle.mp_page.specs.declared.page.Group.{Group}
use Rattle.mp_page.specs.declared.page.Page.{Page}
use Rattle.mp_page.specs.Page.{page_in}
use Rattle.mp_page.specs.Grammar.{group_size, AreGroups, IsPage}
use Rattle.mp_page.specs.Gifts.{names, state_for}
use Rattle.mp_page.proofs.Refused.{page_read}

abbrev IsState : ℕ → Type 0
IsState state = (1 ≤ state) × (state ≤ 15)

each_state : (max : ℕ) (rest : List ℕ) (groups : List Group) → AreGroups max rest groups → AllByRecursion (λ group. IsState group.state) groups
each_state max rest [] are = tt
each_state max rest (group ∷ groups) are = ((are.0.state_from, are.0.state_to), each_state max (drop (group_size group) rest) groups are.1)

last_holds : {X : Type 0} (P : X → Type 0) (p : X → Bool) (xs : List X) (o : Option X) → AllByRecursion P xs → IfSome o P → IfSome (last_or o (filter p xs)) P
last_holds P p [] o each some = some
last_holds P p (x ∷ xs) o each some = by_test (p x) refl (last_holds P p xs (Some x) each.1 each.0) (last_holds P p xs o each.1 some)
  where
    by_test : (b : Bool) → p x ≡ b → IfSome (last_or (Some x) (filter p xs)) P → IfSome (last_or o (filter p xs)) P → IfSome (last_or o (filter p (x ∷ xs))) P
    by_test true is here later = rw is here
    by_test false is here later = rw is later

state_holds : (o : Option Group) → IfSome o (λ group. IsState group.state) → IfSome (option_map (λ group. group.state) o) IsState
state_holds None h = h
state_holds (Some group) h = h

pub state_in_range : (max : ℕ) (bytes : List ℕ) (page : Page) (nsid : ℕ) → page_in max bytes ≡ Ok page → IfSome (state_for page nsid) (λ state. (1 ≤ state) × (state ≤ 15))
state_in_range max bytes page nsid h =
    let is : IsPage max bytes page = (page_read max bytes page).0 h in
    state_holds (last_or None (filter (names nsid) page.groups)) (last_holds (λ group. IsState group.state) (names nsid) page.groups None (each_state max (drop 16 bytes) page.groups is.groups) tt)
