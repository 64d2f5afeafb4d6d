-- The parts of a run's text, with the sections and closings or without, as they follow from the run.
use Rattle.std.specs.Prelude.{ℕ, Bool, ◌||◌, List, [], ◌++◌, codes, map, Option, if◌then◌else◌}
use Rattle.std.specs.List.{flat_map, enumerate_from}
use Rattle.mp_words.specs.declared.entry.RowEntry.{RowEntry}
use Rattle.mp_words.specs.declared.entry.KeepEntry.{KeepEntry}
use Rattle.mp_words.specs.declared.trying.Try.{Try}
use Rattle.mp_words.specs.RequestView.{RequestView}
use Rattle.mp_words.specs.Request.{tried_of, asked_of}
use Rattle.mp_topology.specs.declared.topology.Topology.{Topology}
use Rattle.mp_record.specs.declared.event.Event.{Event}
use Rattle.mp_record.specs.declared.run.Run.{Run}
use Rattle.mp_record.specs.NotesView.{NotesView}
use Rattle.mp_record.specs.RunView.{is_plain, is_order}
use Rattle.mp_line.specs.Words.{one_number}
use Rattle.mp_record.specs.EventText.{event_line}
use Rattle.mp_record.specs.RunText.{head_line, row_line, is_written, keep_line, lane_word, request_line}

-- the line of a version of a row, where it is written
abbrev pub written_row : Topology → RowEntry → List ℕ
written_row t e = if is_written e then row_line t e else []

-- the lines of the versions of a row that are written
abbrev pub written_rows : Topology → List RowEntry → List ℕ
written_rows t entries = flat_map (written_row t) entries

-- an event's line; a section has one only with the notes
abbrev pub noted_event : Bool → Event → List ℕ
noted_event notes event = if notes || is_plain event then event_line event else []

-- the lines of events, sections only with the notes
abbrev pub noted_events : Bool → List Event → List ℕ
noted_events notes events = flat_map (noted_event notes) events

-- the line of what the keeper made; a closing has one only with the notes
abbrev pub noted_keep : Bool → KeepEntry → List ℕ
noted_keep notes entry = if notes || is_order entry then keep_line entry else []

-- a lane's block, sections only with the notes
abbrev pub noted_lane : Bool → Option ℕ → ℕ × NotesView → List ℕ
noted_lane notes keeper lane = one_number (lane_word keeper lane.0) lane.0 ++ codes "\n" ++ noted_events notes lane.1.events

-- the line of a request of this number, of this node and with these tries
abbrev pub tries_line : Topology → List (List RowEntry) → ℕ → ℕ → List Try → List ℕ
tries_line t rows id node tries = request_line t rows (record { req = id; node = node; tries = map tried_of tries })

-- a request's line
abbrev pub asked_line : Topology → List (List RowEntry) → RequestView → List ℕ
asked_line t rows request = request_line t rows (asked_of request)

-- the whole text, with the notes or without
abbrev pub noted_text : Bool → Topology → Run → List ℕ
noted_text notes t run =
    codes "anamp 1\n" ++ head_line t ++ flat_map (written_rows t) run.rows ++ flat_map (noted_keep notes) run.keeping
    ++ flat_map (noted_lane notes run.keeper) (enumerate_from 0 run.lanes)
    ++ codes "drain\n" ++ noted_events notes run.drain.events
    ++ flat_map (asked_line t run.rows) run.requests ++ codes "end\n"
