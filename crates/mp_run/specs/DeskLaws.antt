-- The laws of desks, as one record.
use Rattle.std.specs.Prelude.{[], ◌≡◌, ◌+◌, ◌-◌, ◌≤◌, ◌==◌, count_by, ◌∷◌, ℕ, List, Some, Ok, IfSome, map, false}
use Rattle.std.specs.List.{flat_map, AllByRecursion}
use Rattle.mp_script.specs.Distinct.{IsDistinct}
use Rattle.mp_words.specs.RequestView.{RequestView}
use Rattle.mp_page.specs.declared.page.Page.{Page}
use Rattle.mp_page.specs.Gifts.{state_for}
use Rattle.mp_page.specs.Page.{page_in}
use Rattle.mp_core.specs.Core.{Core}
use Rattle.mp_core.specs.Memory.{Memory}
use Rattle.mp_keep.specs.Keeper.{KeeperView}
use Rattle.mp_desk.specs.declared.flying.Flying.{Flying}
use Rattle.mp_desk.specs.DeskView.{DeskView, flying_with}
use Rattle.mp_desk.specs.Calls.{DeskCall, Means, Stand, CallTo, CallsTo, StopsTo, EndsAll, finish, submit}
use Rattle.mp_legal.specs.Numbers.{has_req}
use Rattle.mp_legal.specs.PlainCall as plain
use Rattle.mp_legal.specs.PlainCall.{Inputs, call}
use Rattle.mp_legal.specs.PlainLine.{flights_of, flights_with}
use Rattle.mp_legal.specs.Stepped.{Stepped, each}
use Rattle.mp_legal.specs.ToldDesks.{GoesBy, SitsAt, MayCall, MaySubmit, MayCalls, Leads, Stops, IsNext, AreElsewhere, IsSameIn, plain_of, place_at, submitted_by, times, with_request, with_waiting, once_listed}
use Rattle.mp_legal.specs.ToldKeeper.{KeepsAt}
use Rattle.mp_legal.specs.ToldState.{Beside, state_in}
use Rattle.mp_legal.specs.Units.{each_paid, pay_call, settled, uses}

-- What is known of the calls of a desk, and of what the desks keep from turn to turn: the laws of desks in mp_legal, and
-- that a stated ANA state is in range.
pub record DeskLaws : Type 0 where
  pub call_is : (i : Inputs) (w : Means) (c : DeskCall) (p q : Stand) (before : List ℕ) (m : Memory) (x : Beside) → GoesBy i w → SitsAt p before m x → MayCall c p m x → CallTo w c p q → Leads (call i (place_at w p) (state_in m x) (plain_of c)) (c ∷ []) p q before m x × (q.core.view.left ≡ p.core.view.left - uses (plain_of c) (call i (place_at w p) (state_in m x) (plain_of c))) × (pay_call i (place_at w p) (state_in m x) p.core.view.left (plain_of c) ≡ record { step = call i (place_at w p) (state_in m x) (plain_of c); left = Some q.core.view.left })
  pub calls_are : (i : Inputs) (w : Means) (calls : List DeskCall) (p q : Stand) (before : List ℕ) (m : Memory) (x : Beside) → GoesBy i w → SitsAt p before m x → MayCalls calls p m x → CallsTo w calls p q → Leads (each (call i (place_at w p)) (state_in m x) (map plain_of calls)) calls p q before m x × (each_paid (pay_call i (place_at w p)) (state_in m x) p.core.view.left (map plain_of calls) ≡ record { step = each (call i (place_at w p)) (state_in m x) (map plain_of calls); left = Some q.core.view.left })
  pub stopped_are : (i : Inputs) (w : Means) (calls : List DeskCall) (p q : Stand) (before : List ℕ) (m : Memory) (x : Beside) → GoesBy i w → SitsAt p before m x → MayCalls calls p m x → StopsTo w calls p q → Stops (each_paid (pay_call i (place_at w p)) (state_in m x) p.core.view.left (map plain_of calls)) calls p q before m x
  pub spent_settled : (i : Inputs) (w : Means) (calls : List DeskCall) (p q : Stand) (b : Core) (e : DeskView) (before : List ℕ) (m : Memory) (x : Beside) → GoesBy i w → SitsAt p before m x → MayCalls calls p m x → StopsTo w calls p q → EndsAll q.core b q.desk e → Leads (settled p.core.lane (each_paid (pay_call i (place_at w p)) (state_in m x) p.core.view.left (map plain_of calls))).step calls p (record { core = b; desk = e; keeper = q.keeper }) before m x
  pub keep_requests : (w : Means) (calls : List DeskCall) (p q : Stand) → CallsTo w calls p q → (req : ℕ) → times req q.desk ≡ times req p.desk + count_by (λ n. n == req) (flat_map submitted_by calls)
  pub has_flights : (p : Stand) (before : List ℕ) (m : Memory) (x : Beside) → SitsAt p before m x → (flights_of p.core.lane (state_in m x) ≡ map (λ f. f.flight) p.desk.flying) × ((req : ℕ) → flights_with req (flights_of p.core.lane (state_in m x)) ≡ map (λ f. f.flight) (flying_with req p.desk.flying))
  pub may_finish : (p : Stand) (m : Memory) (x : Beside) (flying : List Flying) → MayCalls (map finish flying) p m x × (map plain_of (map finish flying) ≡ map plain.finish (map (λ f. f.flight) flying))
  pub may_submit : (p : Stand) (m : Memory) (x : Beside) (requests : List RequestView) → AllByRecursion (λ r. MaySubmit r p x) requests → IsDistinct (map (λ r. r.id) requests) → MayCalls (map submit requests) p m x × (map plain_of (map submit requests) ≡ map plain.submit (map (λ r. r.id) requests))
  pub may_submit_new : (p : Stand) (before : List ℕ) (m : Memory) (x : Beside) (r : RequestView) → SitsAt p before m x → r.tries ≡ [] → has_req r.id x.requests ≡ false → SitsAt p before m (with_request r x) × MaySubmit r p (with_request r x) × ((req : ℕ) → (req ≡ r.id → ⊥) → IsSameIn req x (with_request r x))
  pub list_taken : (p : Stand) (before : List ℕ) (m : Memory) (x : Beside) (waiting : List ℕ) → SitsAt p before m x → p.desk.out ≡ [] → SitsAt p waiting m (with_waiting waiting x)
  pub list_given : (p : Stand) (before : List ℕ) (m : Memory) (x : Beside) → SitsAt p before m x → SitsAt (once_listed p) x.waiting m x
  pub others_sit : (step : Stepped) (calls : List DeskCall) (p q r s : Stand) (before since : List ℕ) (m : Memory) (x : Beside) → (l : Leads step calls p q before m x) → SitsAt r since m x → (r.core.lane ≡ p.core.lane → ⊥) → r.desk.out ≡ [] → AreElsewhere calls r.desk → IsNext q r s → SitsAt s l.beside.waiting l.memory l.beside
  pub keeper_still : (k : KeeperView) (m : Memory) (x y : Beside) → KeepsAt k (state_in m x) → y.removals ≡ x.removals → y.flips ≡ x.flips → KeepsAt k (state_in m y)
  pub stated : (max : ℕ) (bytes : List ℕ) (page : Page) (nsid : ℕ) → page_in max bytes ≡ Ok page → IfSome (state_for page nsid) (λ state. (1 ≤ state) × (state ≤ 15))
