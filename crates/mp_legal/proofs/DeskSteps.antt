-- A call of a lane's desk that is a step of the plain run.
use Rattle.std.proofs.Common.{◌≡◌, ℕ, ◌≤◌, false, List, [], ◌++◌, map, get_or, Some, sym, ap, ◌∙◌, subst, append-nil}
use Rattle.std.specs.List.{AllByRecursion, flat_map}
use Rattle.mp_checks.specs.Marks.{has}
use Rattle.mp_words.specs.declared.entry.RowEntry.{RowEntry}
use Rattle.mp_words.specs.declared.entry.OrderEntry.{OrderEntry}
use Rattle.mp_record.specs.declared.event.Event.{Event}
use Rattle.mp_core.specs.Memory.{Memory}
use Rattle.mp_keep.specs.Keeper.{KeeperView, StandsTo, IsSound}
use Rattle.mp_desk.specs.declared.flying.Flying.{Flying}
use Rattle.mp_desk.specs.Calls.{DeskCall, Stand, IsAloft, IsWaiting}
use Rattle.mp_legal.specs.Stepped.{Stepped}
use Rattle.mp_legal.specs.ToldCalls.{IsStep}
use Rattle.mp_legal.specs.ToldDesks.{SitsAt, AreInRun, IsSameIn, Leads, told_events, times, number_of}
use Rattle.mp_legal.specs.ToldKeeper.{KeepsAt, NobodyInside, orders_in}
use Rattle.mp_legal.specs.ToldState.{Beside, state_in}
use Rattle.mp_legal.specs.TryRead.{notes_for}
use Rattle.mp_legal.specs.Numbers.{has_req}

-- A lane's call is a step of the plain run, and leaves the desk so.
pub record LaneStep (step : Stepped) (units : ℕ) (calls : List DeskCall) (p q : Stand) (before : List ℕ) (m : Memory) (x y : Beside) (made : List RowEntry) (told : List Event) : Type 0 where
  pub steps : IsStep step units p.core q.core y made told
  pub alone : q.core.alone ≡ p.core.alone
  pub role : q.core.view.role ≡ p.core.view.role
  pub flying : q.core.view.flights ≡ map (λ (f : Flying). f.flight) q.desk.flying
  pub aloft : AllByRecursion IsAloft q.desk.flying
  pub waits : AllByRecursion IsWaiting q.desk.out
  pub own : AllByRecursion (λ (f : Flying). f.flight.lane ≡ p.core.lane) q.desk.flying
  pub stand : AreInRun y q.desk
  pub noted : (req : ℕ) → has_req req y.requests ≡ false → notes_for req y.reads ≡ []
  pub waiting : y.waiting ≡ before ++ map (λ r. r.id) q.desk.out
  pub nobody : (memory : Memory) → q.core.told ≡ Some memory → NobodyInside memory
  pub keeper : q.keeper ≡ p.keeper
  pub stands : (k : KeeperView) → StandsTo k p.core.view → StandsTo k q.core.view
  pub agrees : (k : KeeperView) → IsSound k → KeepsAt k (state_in m x) → KeepsAt k step.state
  pub rows : q.desk.rows ≡ p.desk.rows ++ made
  pub events : told_events q.desk.events ≡ told_events p.desk.events ++ told
  pub desk : (req : ℕ) → has (flat_map number_of calls) req ≡ false → times req q.desk ≤ times req p.desk
  pub requests : (req : ℕ) → has (flat_map number_of calls) req ≡ false → IsSameIn req x y
  pub flights : (lane : ℕ) → (lane ≡ p.core.lane → ⊥) → get_or y.flights lane [] ≡ get_or x.flights lane []

pub lane_leads : (step : Stepped) (units : ℕ) (calls : List DeskCall) (p q : Stand) (before : List ℕ) (m : Memory) (x y : Beside) (made : List RowEntry) (told : List Event) → SitsAt p before m x → LaneStep step units calls p q before m x y made told
    → Leads step calls p q before m x
lane_leads step units calls p q before m x y made told h s =
    let k = s.steps in
    record {
      memory = k.memory;
      beside = y;
      sits = record {
        at = k.at;
        sits = record { closed = k.at.closed; flights = s.flying; aloft = s.aloft; waiting = s.waits };
        own = subst (λ l. AllByRecursion (λ (f : Flying). f.flight.lane ≡ l) q.desk.flying) (sym k.lane) s.own;
        requests = s.stand;
        waiting = s.waiting;
        nobody = s.nobody k.memory k.at.told;
        noted = s.noted;
      };
      state = k.state;
      rows = s.rows ∙ ap (λ (es : List RowEntry). p.desk.rows ++ es) (sym k.rows);
      orders = ap (λ (z : KeeperView). orders_in z.entries) s.keeper ∙ sym (append-nil (orders_in p.keeper.entries)) ∙ ap (λ (es : List OrderEntry). orders_in p.keeper.entries ++ es) (sym k.orders);
      events = s.events ∙ ap (λ (es : List Event). told_events p.desk.events ++ es) (sym k.events);
      pass = record { home = k.home; lane = k.lane; alone = s.alone; others = k.others; role = s.role; start = k.keeping };
      keeper = λ old. record {
        stands = subst (λ (z : KeeperView). StandsTo z q.core.view) (sym s.keeper) (s.stands p.keeper old.stands);
        agrees = subst (λ (z : KeeperView). KeepsAt z (state_in k.memory y)) (sym s.keeper) (subst (KeepsAt p.keeper) k.state (s.agrees p.keeper old.stands.sound old.agrees));
      };
      desk = s.desk;
      requests = s.requests;
      flights = s.flights;
      agrees = λ lanes z sound old. subst (KeepsAt z) k.state (s.agrees z sound old);
    }
