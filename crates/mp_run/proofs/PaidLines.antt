-- Lines that are paid for.
use Rattle.std.proofs.Common.{[], ◌≡◌, ℕ, zero, suc, ◌≤◌, List, ◌∷◌, map, Option, None, Some, IfSome, Result, Ok}
use Rattle.mp_page.specs.declared.page.Page.{Page}
use Rattle.mp_page.specs.declared.page.PageError.{PageError}
use Rattle.mp_page.specs.Gifts.{page_at}
use Rattle.mp_core.specs.Kinds.{IsStated}

-- a page was read of some bytes
pub read_of_some : (read : List ℕ → Result Page PageError) (pages : List (List ℕ)) (n : ℕ) (page : Page) → page_at (map read pages) n ≡ Ok page → (bytes : List ℕ) × (read bytes ≡ Ok page)
read_of_some read [] n page is = absurd cc
read_of_some read (bytes ∷ pages) zero page is = (bytes, is)
read_of_some read (bytes ∷ pages) (suc n) page is = read_of_some read pages n page is

-- a stated state is in range
pub stated_by : (o : Option ℕ) → IfSome o (λ state. (1 ≤ state) × (state ≤ 15)) → IsStated o
stated_by None is = tt
stated_by (Some state) is = is
