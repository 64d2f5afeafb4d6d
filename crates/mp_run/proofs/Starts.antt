-- The state with which a run begins.
use Rattle.std.proofs.Common.{◌≡◌, ℕ, zero, suc, ◌<◌, List, map, replicate, get_or, Option, None, refl, sym, ap, ◌∙◌, arith}
use Rattle.std.proofs.Math.ListN.{get_or-map}
use Rattle.std.proofs.lemmas.List.{length-map}
use Rattle.atomic_table.specs.Seated.{TableId}
use Rattle.mp_words.specs.declared.order.Order.{Order}
use Rattle.mp_words.specs.declared.row.Policy.{Policy}
use Rattle.mp_words.specs.declared.row.Policy.TheVariants.{Numa, RoundRobin, QueueDepth}
use Rattle.mp_words.specs.Effect.{free_row}
use Rattle.mp_words.specs.Row.{is_given}
use Rattle.mp_core.specs.declared.view.View.{View}
use Rattle.mp_core.specs.Memory.{Memory, row_at}
use Rattle.mp_core.specs.Seats.{turned, with_keeping, no_view}
use Rattle.mp_core.specs.Unpacked.{unpacked}
use Rattle.mp_keep.specs.Keeper.{KeeperView, StandsTo, IsNew, AtStart, owner_of}
use Rattle.mp_plain.specs.declared.ledger.Opening.{Opening}
use Rattle.mp_plain.specs.Lanes.{begun, lane_begun, start_of}
use Rattle.mp_plain.specs.Told.{core_begun}
use Rattle.mp_legal.specs.Opening.{opening, opening_rows}
use Rattle.mp_legal.specs.PlainCall.{Inputs}
use Rattle.mp_legal.specs.ToldState.{lasts_by}
use Rattle.mp_run.specs.FirstMemory.{memory_of}
use Rattle.mp_run.proofs.FirstMemory.{IsOpened, rows_length, opening_lawful, opening_given, opening_unmarked, opening_apart}

among : (n i : ℕ) (v d : View) → i < n → get_or (replicate n v) i d ≡ v
among zero i v d lt = absurd (omega arith)
among (suc n) zero v d lt = refl
among (suc n) (suc i) v d lt = among n i v d (omega arith)

-- what a lane knows at its first turn
pub first_view : (home : TableId) (o : Opening) (m : Memory) (lane : ℕ) → lane < 17 → (turned (begun (core_begun home o).view.keeping.start) lane (core_begun home o) m).view ≡ lane_begun o
first_view home o m zero lt = refl
first_view home o m (suc lane) lt = ap (with_keeping (begun (start_of o))) (among 16 lane (lane_begun o) (no_view (begun (start_of o))) (omega arith))

-- what the law of new keepers says
abbrev pub NewStands : Type 0
NewStands = (order : Order) (owners : List (Option ℕ)) (k : KeeperView) (v : View) → IsNew order owners k → AtStart order owners v → StandsTo k v

pub by_none : (p : Policy) → replicate 8 None ≡ lasts_by p (replicate 8 None)
by_none Numa = refl
by_none RoundRobin = refl
by_none QueueDepth = refl

-- a new keeper of the opening's list and controllers
pub new_is : (i : Inputs) (order : Order) (owners : List (Option ℕ)) (k : KeeperView) → order ≡ (opening i).order → owners ≡ map owner_of (opening i).rows → IsNew order owners k → IsNew (opening i).order (map owner_of (opening i).rows) k
new_is i order owners k p q h = record { order_is = h.order_is ∙ p; owners_are = h.owners_are ∙ q; removals = h.removals; flips = h.flips; entries = h.entries }

-- the steps of the opening, of which none is made yet
pub at_start : (i : Inputs) (home : TableId) (o : Opening) → IsOpened i → unpacked o.words ≡ memory_of (opening i) → AtStart (opening i).order (map owner_of (opening i).rows) (core_begun home o).view
at_start i home o opened says = record {
  keeper = refl;
  start = record {
    order_is = ap (λ (w : Memory). w.order) (sym says);
    lawful = (opening_lawful i opened).order;
    version = omega arith;
    sized = length-map (opening_rows i) owner_of ∙ rows_length i;
    owned = λ slot lt. get_or-map owner_of (opening_rows i) slot (free_row 0) ∙ ap (λ (w : Memory). owner_of (row_at w slot)) (sym says);
    listed_are = λ slot lt. ap (λ (w : Memory). is_given (row_at w slot)) says ∙ opening_given i opened slot;
    unmarked = λ slot lt. ap (λ (w : Memory). (row_at w slot).marked) says ∙ opening_unmarked i opened slot;
    apart = opening_apart i opened;
  };
  index = ap (λ (w : Memory). w.index) says;
  flips = refl;
  events = refl;
}
