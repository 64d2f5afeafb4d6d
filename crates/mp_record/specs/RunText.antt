-- The text of a run.
use Rattle.std.specs.Prelude.{ℕ, ◌==◌, Bool, not, ◌&&◌, List, [], ◌∷◌, ◌++◌, filter, codes, slice_get, slice_index_or, Option, Some, None, if◌then◌else◌}
use Rattle.std.specs.List.{flat_map, enumerate_from, last_or}
use Rattle.std.specs.Fmt.{decimal}
use Rattle.mp_words.specs.declared.entry.RowEntry.{RowEntry}
use Rattle.mp_words.specs.declared.entry.OrderEntry.{OrderEntry}
use Rattle.mp_words.specs.declared.entry.KeepEntry.{KeepEntry}
use Rattle.mp_words.specs.declared.entry.KeepEntry.TheVariants as keep
use Rattle.mp_words.specs.declared.trying.TryEnd.{TryEnd}
use Rattle.mp_words.specs.declared.trying.TryEnd.TheVariants as end
use Rattle.mp_words.specs.declared.trying.Outcome.{Outcome}
use Rattle.mp_words.specs.declared.trying.Outcome.TheVariants.{Waiting, Sent, Done, Failed}
use Rattle.mp_words.specs.Row.{is_given}
use Rattle.mp_words.specs.Order.{slots_of}
use Rattle.mp_words.specs.Request.{Tried, Asked, attempts_of, outcome_of}
use Rattle.mp_topology.specs.declared.topology.Topology.{Topology}
use Rattle.mp_record.specs.declared.event.Event.{Event}
use Rattle.mp_record.specs.RunView.{RunView}
use Rattle.mp_line.specs.Words.{one_number, two_numbers, list_word}
use Rattle.mp_record.specs.Words.{maker_word, path_word}
use Rattle.mp_words.specs.Names.{status_word, policy_word}
use Rattle.mp_topology.specs.Names.{name_of}
use Rattle.mp_record.specs.NoteText.{closing_line}
use Rattle.mp_record.specs.EventText.{events_text}

-- the namespace and the opening policy
abbrev pub head_line : Topology → List ℕ
head_line t = one_number (codes "head") t.nsid ++ codes " " ++ policy_word t.policy ++ codes "\n"

-- one version of a slot's row
abbrev pub row_line : Topology → RowEntry → List ℕ
row_line t e =
    two_numbers (codes "row") e.slot e.row.version ++ codes " " ++ maker_word e.by ++ codes " " ++ path_word t e.row ++ codes "\n"

-- every version is written but a free one of the opening
abbrev pub is_written : RowEntry → Bool
is_written e = not (not (is_given e.row) && (e.row.version == 0))

-- the versions of one slot's row
abbrev pub rows_text : Topology → List RowEntry → List ℕ
rows_text t entries = flat_map (row_line t) (filter is_written entries)

-- one version of the order
abbrev pub order_line : OrderEntry → List ℕ
order_line e =
    one_number (codes "order") e.order.version ++ codes " " ++ maker_word e.by ++ codes " " ++ policy_word e.order.policy ++ codes " "
    ++ list_word decimal (slots_of e.order) ++ codes "\n"

-- what the keeper made
abbrev pub keep_line : KeepEntry → List ℕ
keep_line (keep.Order e) = order_line e
keep_line (keep.Closing c) = closing_line c

-- the word of a lane's block
abbrev pub lane_word : Option ℕ → ℕ → List ℕ
lane_word None lane = codes "lane"
lane_word (Some keeper) lane = if keeper == lane then codes "keeper" else codes "lane"

-- a lane's block
abbrev pub lane_text : Option ℕ → ℕ × List Event → List ℕ
lane_text keeper lane = one_number (lane_word keeper lane.0) lane.0 ++ codes "\n" ++ events_text lane.1

-- the name of the controller of a version of a row
abbrev pub version_name : Topology → Option RowEntry → List ℕ
version_name t None = []
version_name t (Some e) = name_of t e.row.ctrl

-- the name of the controller that a try was sent to, if it was sent
abbrev pub try_names : Topology → List (List RowEntry) → TryEnd → List (List ℕ)
try_names t rows (end.Sent slot version) = version_name t (slice_get (slice_index_or rows slot []) version) ∷ []
try_names t rows end.Listed = []
try_names t rows end.Failed = []

-- the names of the controllers that a request was sent to
abbrev pub trail : Topology → List (List RowEntry) → List Tried → List (List ℕ)
trail t rows tries = flat_map (λ tried. try_names t rows tried.end) tries

-- a name as it stands
abbrev pub as_written : List ℕ → List ℕ
as_written name = name

-- how a request ended, or that it is listed; one that is still on its path, as no run leaves one, is `sent`
abbrev pub outcome_word : Outcome → List ℕ
outcome_word (Done status) = codes "done " ++ status_word status
outcome_word Failed = codes "failed"
outcome_word Waiting = codes "listed"
outcome_word Sent = codes "sent"

-- a request: its number, its node, the controllers that it was sent to, how it ended and after how many attempts
abbrev pub request_line : Topology → List (List RowEntry) → Asked → List ℕ
request_line t rows a =
    two_numbers (codes "request") a.req a.node ++ codes " " ++ list_word as_written (trail t rows a.tries) ++ codes " "
    ++ one_number (outcome_word (outcome_of (last_or None a.tries))) (attempts_of a.tries) ++ codes "\n"

-- the text of a run, part by part
abbrev pub run_text : Topology → RunView → List ℕ
run_text t run =
    codes "anamp 1\n" ++ head_line t ++ flat_map (rows_text t) run.rows ++ flat_map keep_line run.keeping
    ++ flat_map (lane_text run.keeper) (enumerate_from 0 run.lanes)
    ++ codes "drain\n" ++ events_text run.drain
    ++ flat_map (request_line t run.rows) run.requests ++ codes "end\n"
