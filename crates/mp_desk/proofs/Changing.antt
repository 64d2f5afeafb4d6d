-- A row change at a desk.
use Rattle.std.proofs.Common.{◌≡◌, ℕ, suc, ◌+◌, ◌-◌, ◌<◌, ◌≤◌, true, false, List, [], ◌∷◌, map, append-nil, refl, sym, ap, ◌∙◌, subst, arith}
use Rattle.mp_words.specs.declared.answers.Answer.{Answer}
use Rattle.mp_words.specs.declared.near.Near.{Near}
use Rattle.mp_words.specs.declared.note.Note.{Note}
use Rattle.mp_words.specs.declared.op.Op.{Op}
use Rattle.mp_words.specs.declared.op.Maker.TheVariants as maker
use Rattle.mp_words.specs.declared.row.Row.{Row}
use Rattle.mp_record.specs.declared.event.Event.TheVariants as event
use Rattle.mp_core.specs.declared.view.Seen.{Seen}
use Rattle.mp_core.specs.Core.{Core}
use Rattle.mp_change.specs.declared.change.ChangeEnd.{ChangeEnd}
use Rattle.mp_change.specs.declared.change.ChangeEnd.TheVariants as ending
use Rattle.mp_change.specs.Changes.{ChangesPath, IsMoved}
use Rattle.mp_keep.specs.Keeper.{KeeperView}
use Rattle.mp_desk.specs.DeskView.{DeskView, noting, entering, unended}
use Rattle.mp_desk.specs.Calls.{Means, CallTo, change, ChangeStays, ChangeEnds, After, DoesNothing, IsShort, Sits, KeepsPass}
use Rattle.mp_desk.specs.Desks.{KeepsStand, Leaves, stand}
use Rattle.mp_desk.specs.Says.{entry_in, said_of, section_of, section, is_over}
use Rattle.mp_desk.proofs.Again.{Again, after_again}
use Rattle.mp_desk.proofs.KeeperStands.{change_stands}
use Rattle.mp_desk.proofs.Sitting.{AtDesk, change_stays, kept_on, sits_so}

-- by what a line goes
abbrev pub means : Near → List Answer → ℕ → Means
means near answers line = record { near = near; answers = answers; line = line }

-- A change goes on from here: it has met other changes of the row so far, each for a unit.
pub record GoesOn (line ctrl : ℕ) (o : Op) (a c : Core) (d e : DeskView) (n most : ℕ) : Type 0 where
  pub sits : Sits c e
  pub kept : KeepsPass a c
  pub left : c.view.left + n ≡ most
  pub all : most ≡ a.view.left
  pub stands : KeepsStand a c
  pub weight : unended e ≤ unended d
  pub again : (near : Near) (answers : List Answer) (k : KeeperView) → (m : ℕ) × Again m (ChangeStays (means near answers line) ctrl o) (stand a d k) (stand c e k)

-- One change, and what was noted of it.
pub record Notes (line ctrl : ℕ) (o : Op) (c b : Core) (e f r : DeskView) (lane : ℕ) (end : ChangeEnd) (n : Note) : Type 0 where
  pub seen : Seen
  pub changes : ChangesPath ctrl o (maker.Line lane line) c b end n seen
  pub lane_is : lane ≡ c.lane
  pub room : r ≡ e
  pub desk : f ≡ entering (entry_in end) (noting (section_of n end ∷ map (event.At line) (said_of end)) r)

-- it met another row
moved : (e : ChangeEnd) → is_over e ≡ false → (slot : ℕ) × (row : Row) × (e ≡ ending.Moved slot row)
moved (ending.Changed e) over = absurd cc
moved (ending.Refused slot row) over = absurd cc
moved (ending.NotArmed slot row) over = absurd cc
moved (ending.NoPath order) over = absurd cc
moved (ending.Moved slot row) over = (slot, row, refl)

still : (e : ChangeEnd) → is_over e ≡ true → IsMoved e → ⊥
still (ending.Changed e) over h = h
still (ending.Refused slot row) over h = h
still (ending.NotArmed slot row) over h = h
still (ending.NoPath order) over h = h
still (ending.Moved slot row) over h = absurd cc

section_over : (n : Note) (e : ChangeEnd) → is_over e ≡ true → section_of n e ≡ section n
section_over n (ending.Changed e) over = refl
section_over n (ending.Refused slot row) over = refl
section_over n (ending.NotArmed slot row) over = refl
section_over n (ending.NoPath order) over = refl
section_over n (ending.Moved slot row) over = absurd cc

-- the desk after it
desk_so : {line ctrl : ℕ} {o : Op} {c b : Core} {e f r : DeskView} {lane : ℕ} {end : ChangeEnd} {n : Note} → Notes line ctrl o c b e f r lane end n → f ≡ entering (entry_in end) (noting (section_of n end ∷ map (event.At line) (said_of end)) e)
desk_so {line = line} {end = end} {n = n} h = h.desk ∙ ap (λ (z : DeskView). entering (entry_in end) (noting (section_of n end ∷ map (event.At line) (said_of end)) z)) h.room

changes_so : {line ctrl : ℕ} {o : Op} {c b : Core} {e f r : DeskView} {lane : ℕ} {end : ChangeEnd} {n : Note} → (h : Notes line ctrl o c b e f r lane end n) → ChangesPath ctrl o (maker.Line c.lane line) c b end n h.seen
changes_so {line = line} {ctrl = ctrl} {o = o} {c = c} {b = b} {end = end} {n = n} h = subst (λ (l : ℕ). ChangesPath ctrl o (maker.Line l line) c b end n h.seen) h.lane_is h.changes

-- the pass sits at the desk then
pub leaves : (line ctrl : ℕ) (o : Op) (a c b : Core) (d e f r : DeskView) (m most lane : ℕ) (end : ChangeEnd) (n : Note) → GoesOn line ctrl o a c d e m most → Notes line ctrl o c b e f r lane end n → Leaves a b f
leaves line ctrl o a c b d e f r m most lane end n g h =
    let s = change_stays ctrl o _ c b end n h.seen h.changes in
    let k = sits_so c.view.flights c b f s (subst (AtDesk c.view.flights) (sym (desk_so h)) (record { flights_are = g.sits.flights; aloft = g.sits.aloft; waiting = g.sits.waiting })) in
    record { sits = k.sits; kept = kept_on a c b g.kept k.kept }

-- a keeper stands as before then, and no request came
pub stands : (line ctrl : ℕ) (o : Op) (a c b : Core) (d e f r : DeskView) (m most lane : ℕ) (end : ChangeEnd) (n : Note) → GoesOn line ctrl o a c d e m most → Notes line ctrl o c b e f r lane end n → KeepsStand a b
stands line ctrl o a c b d e f r m most lane end n g h k s = change_stands ctrl o _ c b end n h.seen h.changes k (g.stands k s)

pub weighs : (line ctrl : ℕ) (o : Op) (a c b : Core) (d e f r : DeskView) (m most lane : ℕ) (end : ChangeEnd) (n : Note) → GoesOn line ctrl o a c d e m most → Notes line ctrl o c b e f r lane end n → unended f ≤ unended d
weighs line ctrl o a c b d e f r m most lane end n g h = let same : unended f ≡ unended e = ap unended (desk_so h) in omega (arith, same, g.weight)

-- where it met no other row it is done
pub does : (line ctrl : ℕ) (o : Op) (a c b : Core) (d e f r : DeskView) (m most lane : ℕ) (end : ChangeEnd) (n : Note) → GoesOn line ctrl o a c d e m most → Notes line ctrl o c b e f r lane end n → is_over end ≡ true → m < most
    → (near : Near) (answers : List Answer) (k : KeeperView) → CallTo (means near answers line) (change ctrl o) (stand a d k) (stand b f k)
does line ctrl o a c b d e f r m most lane end n g h over below near answers k =
    let again = g.again near answers k in
    let w = means near answers line in
    let ends : ChangeEnds w ctrl o (stand c e k) (stand b f k) = record {
      paid = omega (arith, g.left, below);
      end = end;
      note = n;
      seen = h.seen;
      changes = changes_so h;
      still = still end over;
      desk = desk_so h ∙ ap (λ z. entering (entry_in end) (noting (z ∷ map (event.At line) (said_of end)) e)) (section_over n end over);
      keeper = refl;
    } in
    record { enough = omega (arith, g.all, below); goes = after_again again.0 0 (ChangeStays w ctrl o) (ChangeEnds w ctrl o) (stand a d k) (stand c e k) (stand b f k) again.1 ends }

-- where it met another it goes on
pub goes_on : (line ctrl : ℕ) (o : Op) (a c b : Core) (d e f r : DeskView) (m most lane : ℕ) (end : ChangeEnd) (n : Note) → GoesOn line ctrl o a c d e m most → Notes line ctrl o c b e f r lane end n → is_over end ≡ false → m < most
    → GoesOn line ctrl o a b d f (m + 1) most
goes_on line ctrl o a c b d e f r m most lane end n g h over below =
    let l = leaves line ctrl o a c b d e f r m most lane end n g h in
    let is = moved end over in
    let changes : ChangesPath ctrl o (maker.Line c.lane line) c b (ending.Moved is.0 is.1) n h.seen = subst (λ (z : ChangeEnd). ChangesPath ctrl o (maker.Line c.lane line) c b z n h.seen) is.2 (changes_so h) in
    let used : b.view.left ≡ c.view.left - 1 = ap (λ (z : Core). z.view.left) changes.view in
    record {
      sits = l.sits;
      kept = l.kept;
      left = omega (arith, used, g.left, below);
      all = g.all;
      stands = stands line ctrl o a c b d e f r m most lane end n g h;
      weight = weighs line ctrl o a c b d e f r m most lane end n g h;
      again = λ near answers k.
          let again = g.again near answers k in (
            suc again.0,
            (
              stand c e k,
              again.1,
              record {
                paid = omega (arith, g.left, below);
                slot = is.0;
                row = is.1;
                note = n;
                seen = h.seen;
                changes = changes;
                desk = desk_so h ∙ ap (λ (z : ChangeEnd). entering (entry_in z) (noting (section_of n z ∷ map (event.At line) (said_of z)) e)) is.2 ∙ (λ i. record (noting (section_of n (ending.Moved is.0 is.1) ∷ []) e) { rows = append-nil e.rows i });
                keeper = refl;
              },
            ),
          );
    }

-- where no unit is left it stops
pub stops : (line ctrl : ℕ) (o : Op) (a c : Core) (d e : DeskView) (m most : ℕ) → GoesOn line ctrl o a c d e m most → most ≤ m
    → (near : Near) (answers : List Answer) (k : KeeperView) → (j : ℕ) × After j (ChangeStays (means near answers line) ctrl o) (IsShort 1) (stand a d k) (stand c e k)
stops line ctrl o a c d e m most g all near answers k =
    let again = g.again near answers k in
    let w = means near answers line in
    let short : c.view.left < 1 = omega (arith, g.left, all) in
    after_again again.0 0 (ChangeStays w ctrl o) (IsShort 1) (stand a d k) (stand c e k) (stand c e k) again.1 (short, refl)

-- where memory runs out it breaks off
pub breaks : (line ctrl : ℕ) (o : Op) (a c : Core) (d e r : DeskView) (m most : ℕ) → GoesOn line ctrl o a c d e m most → r ≡ e
    → (near : Near) (answers : List Answer) (k : KeeperView) → (j : ℕ) × After j (ChangeStays (means near answers line) ctrl o) DoesNothing (stand a d k) (stand c r k)
breaks line ctrl o a c d e r m most g room near answers k =
    let again = g.again near answers k in
    after_again again.0 0 (ChangeStays (means near answers line) ctrl o) DoesNothing (stand a d k) (stand c e k) (stand c r k) again.1 (ap (λ (z : DeskView). stand c z k) room)
