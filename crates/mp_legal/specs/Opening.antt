-- The state with which a run begins.
use Rattle.std.specs.Prelude.{ℕ, List, [], ◌++◌, map, take, length, replicate, slice_get, Option, Some, None, Result, Ok, Err, if◌then◌else◌}
use Rattle.std.specs.List.{range_with_len}
use Rattle.mp_words.specs.declared.row.Row.{Row}
use Rattle.mp_words.specs.declared.op.Op.TheVariants as op
use Rattle.mp_words.specs.declared.op.Maker.TheVariants as maker
use Rattle.mp_words.specs.declared.entry.RowEntry.{RowEntry}
use Rattle.mp_words.specs.declared.entry.OrderEntry.{OrderEntry}
use Rattle.mp_page.specs.declared.page.Page.{Page}
use Rattle.mp_page.specs.declared.page.PageError.{PageError}
use Rattle.mp_topology.specs.declared.topology.Controller.{Controller}
use Rattle.mp_words.specs.Order.{order_of}
use Rattle.mp_words.specs.Effect.{free_row, given_row}
use Rattle.mp_page.specs.Gifts.{gift_of, page_at, empty_page}
use Rattle.mp_legal.specs.PlainState.{State}
use Rattle.mp_legal.specs.PlainCall.{Inputs}

-- a refused opening page counts as an empty one
abbrev pub page_or_empty : Result Page PageError → Page
page_or_empty (Ok page) = page
page_or_empty (Err error) = empty_page

-- the page in a box, where an opening page is named, and else an empty one
abbrev pub named_page : Inputs → Option ℕ → Page
named_page i None = empty_page
named_page i (Some box) = page_or_empty (page_at i.pages box)

-- the page of an opening path, if its controller has ANA
abbrev pub opening_page : Inputs → Controller → Option Page
opening_page i c = if c.ana then Some (named_page i c.page) else None

-- the row of a controller's opening path
abbrev pub opening_row : Inputs → ℕ → Option Controller → Row
opening_row i ctrl None = free_row 0
opening_row i ctrl (Some c) = record (given_row 0 (gift_of i.topology.nsid ctrl (opening_page i c))) { cstate = c.state }

-- the rows by slot: those of the opening paths, and then free ones
abbrev pub opening_rows : Inputs → List Row
opening_rows i =
    let opened : ℕ → Row = λ ctrl. opening_row i ctrl (slice_get i.topology.controllers ctrl) in
    take 15 (map opened i.topology.opening ++ replicate 15 (free_row 0))

-- the opening paths take the slots from 0 on, in order
abbrev pub opening : Inputs → State
opening i =
    record {
      rows = opening_rows i;
      order = order_of 0 i.topology.policy (range_with_len 0 (length i.topology.opening));
      lasts = replicate 8 None;
      flights = replicate 17 [];
      waiting = [];
      removals = [];
      flips = 0;
      requests = [];
      reads = [];
    }

-- the entry of a row of the opening
abbrev pub opening_entry : ℕ × Row → RowEntry
opening_entry r = record { slot = r.0; row = r.1; op = op.Pending; by = maker.Start }

-- the entry of the order of the opening
abbrev pub first_order : Inputs → OrderEntry
first_order i = record { order = (opening i).order; by = maker.Start }
