-- The pages that lines name.
use Rattle.std.proofs.Common.{◌≡◌, ℕ, zero, suc, ◌≤◌, List, [], ◌∷◌, map, Option, None, Some, IfSome, Result, Ok, Err, refl, arith}
use Rattle.std.specs.List.{slice_get}
use Rattle.mp_page.specs.declared.page.Page.{Page}
use Rattle.mp_page.specs.declared.page.PageError.{PageError}
use Rattle.mp_page.specs.declared.page.PageError.TheVariants as refusal
use Rattle.mp_words.specs.Effect.{IsState}
use Rattle.mp_page.specs.Gifts.{changing, gift_of, page_at, stated_gift, state_for}
use Rattle.mp_core.specs.Kinds.{IsStated}

-- a box that isn't there
pub no_page : (read : List ℕ → Result Page PageError) (pages : List (List ℕ)) (n : ℕ) → slice_get pages n ≡ None → page_at (map read pages) n ≡ Err (refusal.ShortHeader 0)
no_page read [] n is = refl
no_page read (bytes ∷ pages) zero is = absurd cc
no_page read (bytes ∷ pages) (suc n) is = no_page read pages n is

-- a page was read of some bytes
pub read_of_some : (read : List ℕ → Result Page PageError) (pages : List (List ℕ)) (n : ℕ) (page : Page) → page_at (map read pages) n ≡ Ok page → (bytes : List ℕ) × (read bytes ≡ Ok page)
read_of_some read [] n page is = absurd cc
read_of_some read (bytes ∷ pages) zero page is = (bytes, is)
read_of_some read (bytes ∷ pages) (suc n) page is = read_of_some read pages n page is

-- a stated state is in range
pub stated_by : (o : Option ℕ) → IfSome o (λ state. (1 ≤ state) × (state ≤ 15)) → IsStated o
stated_by None is = tt
stated_by (Some state) is = is

-- what a new path begins with is in a stated state, or inaccessible
pub gift_state : (nsid ctrl : ℕ) (page : Page) → IfSome (state_for page nsid) (λ state. (1 ≤ state) × (state ≤ 15)) → IsState (gift_of nsid ctrl (Some page)).state
gift_state nsid ctrl page h = by (state_for page nsid) h
  where
    by : (o : Option ℕ) → IfSome o (λ state. (1 ≤ state) × (state ≤ 15)) → IsState (stated_gift ctrl (changing page) o).state
    by None h = (omega arith, omega arith)
    by (Some state) h = h
