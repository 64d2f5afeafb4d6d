-- What a log page 0Ch says of a path to a namespace (NVM Express Base Specification 2.0, "Asymmetric Namespace
-- Access"), and what a new path begins with.
use Rattle.std.specs.Prelude.{ℕ, Bool, true, false, ◌==◌, List, [], filter, Option, Some, None, option_map, Result, Err, slice_index_or}
use Rattle.std.specs.List.{list_any, last_or}
use Rattle.mp_words.specs.declared.op.Gift.{Gift}
use Rattle.mp_words.specs.States.{optimized, inaccessible, change}
use Rattle.mp_page.specs.declared.page.Group.{Group}
use Rattle.mp_page.specs.declared.page.Page.{Page}
use Rattle.mp_page.specs.declared.page.PageError.{PageError}
use Rattle.mp_page.specs.declared.page.PageError.TheVariants as refusal

-- the descriptor names this namespace
abbrev pub names : ℕ → Group → Bool
names nsid group = list_any (λ n. n == nsid) group.nsids

-- the state of the last descriptor that names the namespace
abbrev pub state_for : Page → ℕ → Option ℕ
state_for page nsid = option_map (λ group. group.state) (last_or None (filter (names nsid) page.groups))

-- some descriptor is in the state change
abbrev pub changing : Page → Bool
changing page = list_any (λ group. group.state == change) page.groups

-- a page without descriptors
abbrev pub empty_page : Page
empty_page = record { changes = 0; groups = [] }

-- the page of a box, or why it has none; a box that isn't there is empty
abbrev pub page_at : List (Result Page PageError) → ℕ → Result Page PageError
page_at pages box = slice_index_or pages box (Err (refusal.ShortHeader 0))

-- a path of a controller without ANA
abbrev pub plain_gift : ℕ → Gift
plain_gift ctrl = record { ctrl = ctrl; ana = false; state = optimized; pending = false; armed = false }

-- a path with ANA: in the state that is stated, else inaccessible and pending
abbrev pub stated_gift : ℕ → Bool → Option ℕ → Gift
stated_gift ctrl armed (Some state) = record { ctrl = ctrl; ana = true; state = state; pending = false; armed = armed }
stated_gift ctrl armed None = record { ctrl = ctrl; ana = true; state = inaccessible; pending = true; armed = armed }

-- what a new path begins with, by its page if its controller has ANA
abbrev pub gift_of : ℕ → ℕ → Option Page → Gift
gift_of nsid ctrl None = plain_gift ctrl
gift_of nsid ctrl (Some page) = stated_gift ctrl (changing page) (state_for page nsid)
