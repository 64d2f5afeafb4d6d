-- The keeper's calls at a desk.
use Rattle.std.proofs.Common.{◌≡◌, ℕ, suc, ◌+◌, ◌-◌, ◌<◌, ◌≤◌, true, false, List, map, append-nil, None, refl, sym, ap, ◌∙◌, subst, arith}
use Rattle.std.specs.Prelude.{Result, Ok, Err}
use Rattle.mp_words.specs.declared.answers.Answer.{Answer}
use Rattle.mp_words.specs.declared.entry.OrderEntry.{OrderEntry}
use Rattle.mp_words.specs.declared.entry.RowEntry.{RowEntry}
use Rattle.mp_words.specs.declared.near.Near.{Near}
use Rattle.mp_words.specs.declared.op.Gift.{Gift}
use Rattle.mp_words.specs.declared.op.Maker.{Maker}
use Rattle.mp_words.specs.declared.op.Maker.TheVariants as maker
use Rattle.mp_words.specs.declared.row.Policy.{Policy}
use Rattle.mp_words.specs.declared.row.Row.{Row}
use Rattle.mp_words.specs.Effect.{clears_of}
use Rattle.mp_record.specs.declared.event.Event.{Event}
use Rattle.mp_record.specs.declared.event.Event.TheVariants as event
use Rattle.mp_core.specs.declared.view.View.{View}
use Rattle.mp_core.specs.Core.{Core}
use Rattle.mp_core.specs.Views.{order_stored, row_held, row_kept}
use Rattle.mp_keep.specs.declared.added.Added.{Added}
use Rattle.mp_keep.specs.declared.add_error.AddError.{AddError}
use Rattle.mp_keep.specs.declared.reaped.Reaped.{Reaped}
use Rattle.mp_keep.specs.declared.remove_error.RemoveError.{RemoveError}
use Rattle.mp_keep.specs.declared.remove_error.RemoveError.TheVariants as refused
use Rattle.mp_keep.specs.Keeper.{KeeperView, StandsTo}
use Rattle.mp_keep.specs.Keeps.{AddTo, Removes, RemoveTo, SetsPolicy, MeetsRow}
use Rattle.mp_keep.specs.Walks.{Reaps}
use Rattle.mp_desk.specs.DeskView.{DeskView, noting, entering, unended}
use Rattle.mp_desk.specs.Calls.{Means, CallTo, remove, RemovalStays, RemovalBegins, After, HasMoved, IsShort, MakesRoom, Sits, KeepsPass, with_room}
use Rattle.mp_desk.specs.Desks.{KeeperLeaves, stand}
use Rattle.mp_desk.specs.Says.{entry_marked, marked_said, is_begun}
use Rattle.mp_desk.proofs.Again.{Again, after_again}
use Rattle.mp_desk.proofs.KeeperStands.{stands_room}
use Rattle.mp_desk.proofs.Sitting.{AtDesk, Same, Stays, clears_same, kept_on, sits_so}

-- by what a line goes
abbrev pub means : Near → List Answer → ℕ → Means
means near answers line = record { near = near; answers = answers; line = line }

-- the pass and its desk are as they were, but for room
pub room_leaves : (a c : Core) (d e r : DeskView) (k l : KeeperView) → KeepsPass a c → Sits c e → r ≡ e → StandsTo k c.view → l ≡ record k { spare = l.spare } → KeeperLeaves a c r l
room_leaves a c d e r k l kept sits room stands is = record { sits = subst (Sits c) (sym room) sits; kept = kept; stands = stands_room k l c.view is stands }

-- room leaves the requests
pub room_weighs : (d r : DeskView) → r ≡ d → unended r ≤ unended d
room_weighs d r is = let same : unended r ≡ unended d = ap unended is in omega (arith, same)

-- what was made and noted leaves them too
pub notes_weigh : (d r e : DeskView) (rows : List RowEntry) (events : List Event) → r ≡ d → e ≡ entering rows (noting events r) → unended e ≤ unended d
notes_weigh d r e rows events room is = let same : unended e ≡ unended r = ap unended is in let even : unended r ≡ unended d = ap unended room in omega (arith, same, even)

-- ---- what a view keeps

pub same_stays : (a b : Core) (v : View) → b.home ≡ a.home → b.lane ≡ a.lane → b.alone ≡ a.alone → b.others ≡ a.others → b.view ≡ v → Same a.view v → a.view.inside ≡ None → Stays a.view.flights a b
same_stays a b v home lane alone others is s closed = record {
  kept = record { home = home; lane = lane; alone = alone; others = others; role = ap (λ (w : View). w.role) is ∙ s.role; start = ap (λ (w : View). w.keeping.start) is ∙ s.start };
  flights_are = ap (λ (w : View). w.flights) is ∙ s.flights;
  closed = ap (λ (w : View). w.inside) is ∙ s.inside ∙ closed;
}

none_stays : (a b : Core) → b ≡ a → a.view.inside ≡ None → Stays a.view.flights a b
none_stays a b is closed = same_stays a b a.view (ap (λ c. c.home) is) (ap (λ c. c.lane) is) (ap (λ c. c.alone) is) (ap (λ c. c.others) is) (ap (λ c. c.view) is) (record { role = refl; start = refl; flights = refl; inside = refl }) closed

pub adds_stays : (k l : KeeperView) (a b : Core) (gift : Gift) (by : Maker) (answer : Result Added AddError) → AddTo k l a b gift by answer → a.view.inside ≡ None → Stays a.view.flights a b
adds_stays k l a b gift by (Err e) to closed = none_stays a b to.1 closed
adds_stays k l a b gift by (Ok added) to closed =
    let h = to.3 in
    let s = clears_same (clears_of added.row.op added.row.row) to.1 (order_stored added.order (row_kept added.row (row_held to.1 h.old a.view))) in
    same_stays a b _ (ap (λ c. c.home) h.core) (ap (λ c. c.lane) h.core) (ap (λ c. c.alone) h.core) (ap (λ c. c.others) h.core) (ap (λ c. c.view) h.core) (record { role = s.role; start = s.start; flights = s.flights; inside = s.inside }) closed

pub removes_stays : (k l : KeeperView) (a b : Core) (ctrl : ℕ) (by : Maker) (answer : Result RowEntry RemoveError) → RemoveTo k l a b ctrl by answer → a.view.inside ≡ None → Stays a.view.flights a b
removes_stays k l a b ctrl by (Err (refused.NoPath order)) to closed = none_stays a b to.2 closed
removes_stays k l a b ctrl by (Err (refused.Moved row)) to closed =
    let h = to.2 in
    same_stays a b _ (ap (λ c. c.home) h.core) (ap (λ c. c.lane) h.core) (ap (λ c. c.alone) h.core) (ap (λ c. c.others) h.core) (ap (λ c. c.view) h.core) (record { role = refl; start = refl; flights = refl; inside = refl }) closed
removes_stays k l a b ctrl by (Ok entry) to closed =
    let h = to.2 in
    same_stays a b _ (ap (λ c. c.home) h.core) (ap (λ c. c.lane) h.core) (ap (λ c. c.alone) h.core) (ap (λ c. c.others) h.core) (ap (λ c. c.view) h.core) (record { role = refl; start = refl; flights = refl; inside = refl }) closed

pub sets_stays : (k l : KeeperView) (a b : Core) (policy : Policy) (by : Maker) (entry : OrderEntry) → SetsPolicy k l a b policy by entry → a.view.inside ≡ None → Stays a.view.flights a b
sets_stays k l a b policy by entry h closed =
    same_stays a b _ (ap (λ c. c.home) h.core) (ap (λ c. c.lane) h.core) (ap (λ c. c.alone) h.core) (ap (λ c. c.others) h.core) (ap (λ c. c.view) h.core) (record { role = refl; start = refl; flights = refl; inside = refl }) closed

pub reaps_stays : (k l : KeeperView) (a b : Core) (by : Maker) (answer : Reaped) → Reaps k l a b by answer → a.view.inside ≡ None → Stays a.view.flights a b
reaps_stays k l a b by answer h closed = record {
  kept = record { home = h.kept.home; lane = h.kept.lane; alone = h.kept.alone; others = h.kept.others; role = h.kept.role; start = h.kept.start };
  flights_are = h.kept.flights;
  closed = h.kept.inside ∙ closed;
}

-- the pass sits at the desk with what was made and noted
pub stays_leaves : (a b : Core) (d r e : DeskView) (rows : List RowEntry) (events : List Event) (l : KeeperView) → Stays a.view.flights a b → Sits a d → r ≡ d → e ≡ entering rows (noting events r) → StandsTo l b.view → KeeperLeaves a b e l
stays_leaves a b d r e rows events l s sits room is stands =
    let k = sits_so a.view.flights a b e s (subst (AtDesk a.view.flights) (sym (is ∙ ap (λ (z : DeskView). entering rows (noting events z)) room)) (record { flights_are = sits.flights; aloft = sits.aloft; waiting = sits.waiting })) in
    record { sits = k.sits; kept = k.kept; stands = stands }

-- ---- the begin of a removal

-- A removal goes on from here: it has met other changes of the row so far, each for a unit.
pub record GoesOn (line ctrl : ℕ) (a c : Core) (d e : DeskView) (k l : KeeperView) (n most : ℕ) : Type 0 where
  pub sits : Sits c e
  pub kept : KeepsPass a c
  pub stands : StandsTo l c.view
  pub left : c.view.left + n ≡ most
  pub all : most ≡ a.view.left
  pub weight : unended e ≤ unended d
  pub again : (near : Near) (answers : List Answer) → (m : ℕ) × Again m (RemovalStays (means near answers line) ctrl) (stand a d k) (stand c e l)

-- One begin of a removal, and what was noted of it.
pub record Notes (line ctrl : ℕ) (c b : Core) (e f r : DeskView) (l o m : KeeperView) (lane : ℕ) (answer : Result RowEntry RemoveError) : Type 0 where
  pub removes : Removes o m c b ctrl (maker.Line lane line) answer
  pub lane_is : lane ≡ c.lane
  pub keeper : o ≡ record l { spare = o.spare }
  pub room : r ≡ e
  pub desk : f ≡ entering (entry_marked answer) (noting (map (event.At line) (marked_said answer)) r)

moved : (answer : Result RowEntry RemoveError) → is_begun answer ≡ false → (row : Row) × (answer ≡ Err (refused.Moved row))
moved (Ok entry) begun = absurd cc
moved (Err (refused.NoPath order)) begun = absurd cc
moved (Err (refused.Moved row)) begun = (row, refl)

still : (answer : Result RowEntry RemoveError) → is_begun answer ≡ true → HasMoved answer → ⊥
still (Ok entry) begun h = h
still (Err (refused.NoPath order)) begun h = h
still (Err (refused.Moved row)) begun h = absurd cc

desk_so : {line ctrl : ℕ} {c b : Core} {e f r : DeskView} {l o m : KeeperView} {lane : ℕ} {answer : Result RowEntry RemoveError} → Notes line ctrl c b e f r l o m lane answer → f ≡ entering (entry_marked answer) (noting (map (event.At line) (marked_said answer)) e)
desk_so {line = line} {answer = answer} h = h.desk ∙ ap (λ (z : DeskView). entering (entry_marked answer) (noting (map (event.At line) (marked_said answer)) z)) h.room

removes_so : {line ctrl : ℕ} {c b : Core} {e f r : DeskView} {l o m : KeeperView} {lane : ℕ} {answer : Result RowEntry RemoveError} → (h : Notes line ctrl c b e f r l o m lane answer) → Removes (with_room o.spare l) m c b ctrl (maker.Line c.lane line) answer
removes_so {line = line} {ctrl = ctrl} {c = c} {b = b} {o = o} {m = m} {answer = answer} h =
    subst (λ (z : KeeperView). Removes z m c b ctrl (maker.Line c.lane line) answer) h.keeper (subst (λ (n : ℕ). Removes o m c b ctrl (maker.Line n line) answer) h.lane_is h.removes)

pub leaves : (line ctrl : ℕ) (a c b : Core) (d e f r : DeskView) (k l o m : KeeperView) (n most lane : ℕ) (answer : Result RowEntry RemoveError) → GoesOn line ctrl a c d e k l n most → Notes line ctrl c b e f r l o m lane answer → KeeperLeaves a b f m
leaves line ctrl a c b d e f r k l o m n most lane answer g h =
    let x = stays_leaves c b e r f (entry_marked answer) (map (event.At line) (marked_said answer)) m (removes_stays o m c b ctrl _ answer h.removes.to g.sits.closed) g.sits h.room h.desk h.removes.stands in
    record { sits = x.sits; kept = kept_on a c b g.kept x.kept; stands = x.stands }

-- no request came
pub weighs : (line ctrl : ℕ) (a c b : Core) (d e f r : DeskView) (k l o m : KeeperView) (n most lane : ℕ) (answer : Result RowEntry RemoveError) → GoesOn line ctrl a c d e k l n most → Notes line ctrl c b e f r l o m lane answer → unended f ≤ unended d
weighs line ctrl a c b d e f r k l o m n most lane answer g h = let same : unended f ≡ unended e = ap unended (desk_so h) in omega (arith, same, g.weight)

pub does : (line ctrl : ℕ) (a c b : Core) (d e f r : DeskView) (k l o m : KeeperView) (n most lane : ℕ) (answer : Result RowEntry RemoveError) → GoesOn line ctrl a c d e k l n most → Notes line ctrl c b e f r l o m lane answer → is_begun answer ≡ true → n < most
    → (near : Near) (answers : List Answer) → CallTo (means near answers line) (remove ctrl) (stand a d k) (stand b f m)
does line ctrl a c b d e f r k l o m n most lane answer g h begun below near answers =
    let again = g.again near answers in
    let w = means near answers line in
    let begins : RemovalBegins w ctrl (stand c e l) (stand b f m) = record { paid = omega (arith, g.left, below); room = o.spare; answer = answer; removes = removes_so h; still = still answer begun; desk = desk_so h } in
    record { enough = omega (arith, g.all, below); goes = after_again again.0 0 (RemovalStays w ctrl) (RemovalBegins w ctrl) (stand a d k) (stand c e l) (stand b f m) again.1 begins }

pub goes_on : (line ctrl : ℕ) (a c b : Core) (d e f r : DeskView) (k l o m : KeeperView) (n most lane : ℕ) (answer : Result RowEntry RemoveError) → GoesOn line ctrl a c d e k l n most → Notes line ctrl c b e f r l o m lane answer → is_begun answer ≡ false → n < most
    → GoesOn line ctrl a b d f k m (n + 1) most
goes_on line ctrl a c b d e f r k l o m n most lane answer g h begun below =
    let x = leaves line ctrl a c b d e f r k l o m n most lane answer g h in
    let is = moved answer begun in
    let removes : Removes (with_room o.spare l) m c b ctrl (maker.Line c.lane line) (Err (refused.Moved is.0)) = subst (λ (z : Result RowEntry RemoveError). Removes (with_room o.spare l) m c b ctrl (maker.Line c.lane line) z) is.1 (removes_so h) in
    let met : (slot : ℕ) × _ × MeetsRow (with_room o.spare l) m c b slot is.0 = removes.to in
    let used : b.view.left ≡ c.view.left - 1 = ap (λ (z : Core). z.view.left) met.2.core in
    let same : f ≡ e = desk_so h ∙ ap (λ (z : Result RowEntry RemoveError). entering (entry_marked z) (noting (map (event.At line) (marked_said z)) e)) is.1 ∙ (λ i. record e { events = append-nil e.events i; rows = append-nil e.rows i }) in
    record {
      sits = x.sits;
      kept = x.kept;
      stands = x.stands;
      weight = weighs line ctrl a c b d e f r k l o m n most lane answer g h;
      left = omega (arith, used, g.left, below);
      all = g.all;
      again = λ near answers.
          let again = g.again near answers in
          (suc again.0, (stand c e l, again.1, record { paid = omega (arith, g.left, below); room = o.spare; row = is.0; removes = removes; desk = same }));
    }

pub stops : (line ctrl : ℕ) (a c : Core) (d e : DeskView) (k l : KeeperView) (n most : ℕ) → GoesOn line ctrl a c d e k l n most → most ≤ n
    → (near : Near) (answers : List Answer) → (j : ℕ) × After j (RemovalStays (means near answers line) ctrl) (IsShort 1) (stand a d k) (stand c e l)
stops line ctrl a c d e k l n most g all near answers =
    let again = g.again near answers in
    let w = means near answers line in
    let short : c.view.left < 1 = omega (arith, g.left, all) in
    after_again again.0 0 (RemovalStays w ctrl) (IsShort 1) (stand a d k) (stand c e l) (stand c e l) again.1 (short, refl)

-- where memory runs out the keeper may have more room
pub makes_room : (c : Core) (e r : DeskView) (k l : KeeperView) → r ≡ e → l ≡ record k { spare = l.spare } → MakesRoom (stand c e k) (stand c r l)
makes_room c e r k l room is = record { room = l.spare; same = λ i. stand c (room i) (is i) }

-- and a removal breaks off
pub breaks : (line ctrl : ℕ) (a c : Core) (d e r : DeskView) (k l o : KeeperView) (n most : ℕ) → GoesOn line ctrl a c d e k l n most → r ≡ e → o ≡ record l { spare = o.spare }
    → (near : Near) (answers : List Answer) → (j : ℕ) × After j (RemovalStays (means near answers line) ctrl) MakesRoom (stand a d k) (stand c r o)
breaks line ctrl a c d e r k l o n most g room is near answers =
    let again = g.again near answers in
    after_again again.0 0 (RemovalStays (means near answers line) ctrl) MakesRoom (stand a d k) (stand c e l) (stand c r o) again.1 (makes_room c e r l o room is)
