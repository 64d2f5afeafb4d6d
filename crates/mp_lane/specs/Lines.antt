-- How the lines of a lane start.
use Rattle.std.specs.Prelude.{ℕ, true, false, Bool, List, [], ◌∷◌, map, length, Option, Some, None, Result, Ok, Err}
use Rattle.mp_words.specs.declared.answers.Answer.{Answer}
use Rattle.mp_words.specs.declared.near.Near.{Near}
use Rattle.mp_words.specs.declared.op.Op.TheVariants as op
use Rattle.mp_words.specs.RequestView.{RequestView}
use Rattle.mp_record.specs.declared.event.Said.{Said}
use Rattle.mp_record.specs.declared.event.Said.TheVariants as said
use Rattle.mp_page.specs.declared.page.Page.{Page}
use Rattle.mp_page.specs.declared.page.PageError.{PageError}
use Rattle.mp_page.specs.declared.page.PageError.TheVariants as refusal
use Rattle.mp_page.specs.Gifts.{page_at, gift_of, state_for, changing}
use Rattle.mp_page.specs.Page.{page_in}
use Rattle.mp_script.specs.declared.script.Line.{Line}
use Rattle.mp_script.specs.declared.script.Line.TheVariants as line
use Rattle.mp_script.specs.declared.script.World.{World}
use Rattle.mp_desk.specs.declared.flying.Flying.{Flying}
use Rattle.mp_desk.specs.DeskView.{flying_with}
use Rattle.mp_desk.specs.Calls.{DeskCall, Means, submit, finish, change, add, remove, set_policy, reap}

-- By what the lines of a lane go: how far nodes are from each other, the namespace, the page of each box or why it has
-- none, and the scripted statuses.
pub record Reads : Type 0 where
  pub near : Near
  pub nsid : ℕ
  pub pages : List (Result Page PageError)
  pub answers : List Answer

-- by what the lines go over a world with these scripted statuses
abbrev pub reads_of : World → List Answer → Reads
reads_of world answers = record { near = world.topology.near; nsid = world.topology.nsid; pages = map (page_in world.topology.anagrpmax) world.pages; answers = answers }

-- by what the calls of a line go
abbrev pub means_of : Reads → ℕ → Means
means_of i line = record { near = i.near; answers = i.answers; line = line }

-- How a line starts: what it says before its calls, and the calls.
pub record LineStart : Type 0 where
  pub said : List Said
  pub calls : List DeskCall

-- a line of one call that speaks for itself
abbrev pub one_call : DeskCall → LineStart
one_call c = record { said = []; calls = c ∷ [] }

-- these flights are finished, in the order sent
abbrev pub finishes : List Flying → LineStart
finishes flying = record { said = said.Finish (length flying) ∷ []; calls = map finish flying }

-- a new request
abbrev pub new_request : ℕ → ℕ → RequestView
new_request req node = record { id = req; node = node; tries = []; spare = 0 }

-- what a line says of a refused page
abbrev pub page_said : PageError → Said
page_said (refusal.ShortHeader offset) = said.Page 1 offset
page_said (refusal.ShortDescriptor offset) = said.Page 2 offset
page_said (refusal.GroupZero offset) = said.Page 3 offset
page_said (refusal.GroupAbove offset) = said.Page 4 offset
page_said (refusal.StateBad offset) = said.Page 5 offset
page_said (refusal.ShortList offset) = said.Page 6 offset
page_said refusal.NoMemory = said.Page 7 0

-- the call that a page makes, or its refusal
abbrev pub by_page : Result Page PageError → (Page → DeskCall) → LineStart
by_page (Ok page) made = one_call (made page)
by_page (Err error) made = record { said = page_said error ∷ []; calls = [] }

-- a log page is read for a controller
abbrev pub reads_log : ℕ → ℕ → Page → DeskCall
reads_log nsid ctrl page = change ctrl (op.Log (state_for page nsid) (changing page))

-- a new path of a controller, by its page if its line names one
abbrev pub adds : Reads → ℕ → Option ℕ → LineStart
adds i ctrl None = one_call (add (gift_of i.nsid ctrl None))
adds i ctrl (Some box) = by_page (page_at i.pages box) (λ page. add (gift_of i.nsid ctrl (Some page)))

-- how a line starts, with this list, at a desk with these flights
abbrev pub start_of : Reads → List RequestView → List Flying → Line → LineStart
start_of i list flying (line.Submit req node) = record { said = said.Submit ∷ []; calls = submit (new_request req node) ∷ [] }
start_of i list flying (line.Finish req) = finishes (flying_with req flying)
start_of i list flying line.FinishAll = finishes flying
start_of i list flying line.Requeue = record { said = said.Requeue (length list) ∷ []; calls = map submit list }
start_of i list flying (line.Log ctrl box) = by_page (page_at i.pages box) (reads_log i.nsid ctrl)
start_of i list flying (line.Ctrl ctrl cstate) = one_call (change ctrl (op.Ctrl cstate))
start_of i list flying (line.Anatt ctrl) = one_call (change ctrl op.Expire)
start_of i list flying (line.Add ctrl box) = adds i ctrl box
start_of i list flying (line.Remove ctrl) = one_call (remove ctrl)
start_of i list flying line.Reap = one_call reap
start_of i list flying (line.Policy policy) = one_call (set_policy policy)

-- the line is one of the keeper's
abbrev pub is_keepers : Line → Bool
is_keepers (line.Add ctrl box) = true
is_keepers (line.Remove ctrl) = true
is_keepers line.Reap = true
is_keepers (line.Policy policy) = true
is_keepers (line.Submit req node) = false
is_keepers line.Requeue = false
is_keepers (line.Finish req) = false
is_keepers line.FinishAll = false
is_keepers (line.Log ctrl box) = false
is_keepers (line.Ctrl ctrl cstate) = false
is_keepers (line.Anatt ctrl) = false
