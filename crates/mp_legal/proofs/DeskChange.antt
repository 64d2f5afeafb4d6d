-- A row change of a desk is the plain run's.
use Rattle.std.proofs.Common.{◌≡◌, ℕ, zero, suc, ◌≤◌, List, [], ◌∷◌, ◌++◌, map, get_or, set, option_map, Option, Some, None, refl, sym, ap, ◌∙◌, subst, arith}
use Rattle.std.specs.List.{AllByRecursion}
use Rattle.std.proofs.lemmas.List.Elements.{filter-append}
use Rattle.mp_words.specs.declared.note.Note.{Note}
use Rattle.mp_words.specs.declared.entry.RowEntry.{RowEntry}
use Rattle.mp_words.specs.declared.op.Effect.{Effect}
use Rattle.mp_words.specs.declared.op.Effect.TheVariants as effect
use Rattle.mp_words.specs.declared.op.Op.{Op}
use Rattle.mp_words.specs.declared.op.Maker.{Maker}
use Rattle.mp_words.specs.declared.order.Order.{Order}
use Rattle.mp_words.specs.declared.path.Path.{Path}
use Rattle.mp_words.specs.declared.row.Row.{Row}
use Rattle.mp_words.specs.declared.words.Side.{Side}
use Rattle.mp_words.specs.Effect.{Clears, every_one, the_slots, none, clears_of, effect_of}
use Rattle.mp_words.specs.PathTable.{path_table, path_with}
use Rattle.mp_record.specs.declared.event.Event.{Event}
use Rattle.mp_record.specs.declared.event.Event.TheVariants as event
use Rattle.mp_record.specs.declared.event.Said.{Said}
use Rattle.mp_record.specs.RunView.{is_plain}
use Rattle.mp_core.specs.declared.view.Seen.{Seen}
use Rattle.mp_core.specs.Core.{Core}
use Rattle.mp_core.specs.declared.view.View.{View}
use Rattle.mp_core.specs.Memory.{Memory, row_at, row_in, entered_in, no_side, one_out}
use Rattle.mp_core.specs.Views.{unheld}
use Rattle.mp_core.specs.Reads.{section_in}
use Rattle.mp_change.specs.declared.change.ChangeEnd.{ChangeEnd}
use Rattle.mp_change.specs.declared.change.ChangeEnd.TheVariants as end
use Rattle.mp_change.specs.Changes.{ChangesPath, IsMoved, IsLineOp, end_by, end_on, end_in, made_in, end_view}
use Rattle.mp_change.specs.Clears.{clears_in, cleared_upto_in, emptied_upto_in, cleared_upto, clears_view}
use Rattle.mp_desk.specs.declared.flying.Flying.{Flying}
use Rattle.mp_desk.specs.DeskView.{DeskView, noting, entering}
use Rattle.mp_desk.specs.Says.{section, said_of, entry_in}
use Rattle.mp_desk.specs.Calls.{change, Means, Stand, ChangeEnds, maker_at, IsAloft, IsWaiting}
use Rattle.mp_legal.specs.PlainChange.{changed}
use Rattle.mp_legal.specs.ToldDesks.{SitsAt, AreInRun, told_events, place_at, times}
use Rattle.mp_legal.specs.ToldKeeper.{NobodyInside}
use Rattle.mp_legal.specs.ToldState.{Beside, state_in}
use Rattle.mp_legal.proofs.ChangeStep.{change_step}
use Rattle.mp_legal.proofs.DeskNobody.{nobody_visited}
use Rattle.mp_legal.proofs.DeskSteps.{LaneStep}
use Rattle.mp_legal.proofs.KeeperKept.{change_stands, changed_same, keeps_on}

by_effect : (slot : ℕ) (row : Row) (o : Op) (by : Maker) (f : Effect) → IsMoved (end_by slot row o by f) → ⊥
by_effect slot row o by (effect.Changed new) moved = moved
by_effect slot row o by (effect.Refused cstate) moved = moved
by_effect slot row o by effect.NotArmed moved = moved

by_path : (order : Order) (o : Op) (by : Maker) (found : Option Path) → IsMoved (end_on order o by found) → ⊥
by_path order o by None moved = moved
by_path order o by (Some path) moved = by_effect path.slot path.row o by (effect_of path.row o) moved

-- where the words are told the row hasn't moved
pub told_still : (ctrl : ℕ) (o : Op) (by : Maker) (a b : Core) (ending : ChangeEnd) (n : Note) (seen : Seen) (m : Memory) → ChangesPath ctrl o by a b ending n seen → a.told ≡ Some m → IsMoved ending → ⊥
told_still ctrl o by a b ending n seen m h told moved = by_path m.order o by (path_with ctrl (path_table m.order (row_at m))) (subst IsMoved (h.told m told) moved)

-- the sides stay in clearings
pub cleared_sides : (slot n : ℕ) (m : Memory) → (cleared_upto_in slot n m).sides ≡ m.sides
cleared_sides slot zero m = refl
cleared_sides slot (suc n) m = cleared_sides slot n m

pub emptied_sides : (n : ℕ) (m : Memory) → (emptied_upto_in n m).sides ≡ m.sides
emptied_sides zero m = refl
emptied_sides (suc n) m = emptied_sides n m

pub clears_sides : (c : Clears) (slot : ℕ) (m : Memory) → (clears_in c slot m).sides ≡ m.sides
clears_sides every_one slot m = emptied_sides 8 m
clears_sides the_slots slot m = cleared_sides slot 8 m
clears_sides none slot m = refl

pub made_sides : (e : RowEntry) (m : Memory) → (made_in e m).sides ≡ m.sides
made_sides e m = clears_sides (clears_of e.op e.row) e.slot (row_in e.slot e.row m)

end_sides : (ending : ChangeEnd) (m : Memory) → (end_in ending m).sides ≡ m.sides
end_sides (end.Changed e) m = made_sides e m
end_sides (end.Refused slot row) m = refl
end_sides (end.NotArmed slot row) m = refl
end_sides (end.NoPath order) m = refl
end_sides (end.Moved slot row) m = refl

inj_some : (m n : Memory) → Some m ≡ Some n → m ≡ n
inj_some m n e = cc

-- the sides after one of them was left
abbrev left_sides : ℕ → List Side → List Side
left_sides at sides = set sides at (one_out (get_or sides at no_side))

-- nobody is inside after a section, whose change leaves the sides
pub nobody_section : (at : ℕ) (made : Memory → Memory) (m n : Memory) (a t : Option Memory) → a ≡ Some m → t ≡ option_map (section_in at made) a → t ≡ Some n → ((w : Memory) → (made w).sides ≡ w.sides) → NobodyInside m → NobodyInside n
nobody_section at made m n a t told after is kept nobody =
    let words : n ≡ section_in at made m = inj_some n (section_in at made m) (sym is ∙ after ∙ ap (option_map (section_in at made)) told) in
    nobody_visited at m n (ap (λ (w : Memory). w.sides) words ∙ ap (left_sides at) (kept (entered_in at m))) nobody

-- sections aside, what a line says is told
pub said_told : (line : ℕ) (said : List Said) → told_events (map (event.At line) said) ≡ map (event.At line) said
said_told line [] = refl
said_told line (s ∷ said) = ap (λ (es : List Event). event.At line s ∷ es) (said_told line said)

pub told_more : (events : List Event) (n : Note) (said : List Event) → told_events said ≡ said → told_events (events ++ section n ∷ said) ≡ told_events events ++ said
told_more events n said is = filter-append is_plain events (section n ∷ said) ∙ ap (λ (es : List Event). told_events events ++ es) is

-- clearings leave the role and the flights
pub cleared_role : (slot n : ℕ) (v : View) → (cleared_upto slot n v).role ≡ v.role
cleared_role slot zero v = refl
cleared_role slot (suc n) v = cleared_role slot n v

pub cleared_flights : (slot n : ℕ) (v : View) → (cleared_upto slot n v).flights ≡ v.flights
cleared_flights slot zero v = refl
cleared_flights slot (suc n) v = cleared_flights slot n v

pub clears_role : (c : Clears) (slot : ℕ) (v : View) → (clears_view c slot v).role ≡ v.role
clears_role every_one slot v = refl
clears_role the_slots slot v = cleared_role slot 8 v
clears_role none slot v = refl

clears_flights : (c : Clears) (slot : ℕ) (v : View) → (clears_view c slot v).flights ≡ v.flights
clears_flights every_one slot v = refl
clears_flights the_slots slot v = cleared_flights slot 8 v
clears_flights none slot v = refl

pub end_role : (ending : ChangeEnd) (v : View) → (end_view ending v).role ≡ v.role
end_role (end.Changed e) v = clears_role (clears_of e.op e.row) e.slot (record v { entries = v.entries ++ e ∷ []; keeping = unheld v.keeping })
end_role (end.Refused slot row) v = refl
end_role (end.NotArmed slot row) v = refl
end_role (end.NoPath order) v = refl
end_role (end.Moved slot row) v = refl

pub end_flights : (ending : ChangeEnd) (v : View) → (end_view ending v).flights ≡ v.flights
end_flights (end.Changed e) v = clears_flights (clears_of e.op e.row) e.slot (record v { entries = v.entries ++ e ∷ []; keeping = unheld v.keeping })
end_flights (end.Refused slot row) v = refl
end_flights (end.NotArmed slot row) v = refl
end_flights (end.NoPath order) v = refl
end_flights (end.Moved slot row) v = refl

pub desk_change : (w : Means) (ctrl : ℕ) (o : Op) (p q : Stand) (before : List ℕ) (m : Memory) (x : Beside) → SitsAt p before m x → IsLineOp o → (s : ChangeEnds w ctrl o p q)
    → LaneStep (changed (place_at w p) (state_in m x) ctrl o) 1 (change ctrl o ∷ []) p q before m x x (entry_in s.end) (map (event.At w.line) (said_of s.end))
desk_change w ctrl o p q before m x h line s =
    let d : q.desk ≡ entering (entry_in s.end) (noting (section s.note ∷ map (event.At w.line) (said_of s.end)) p.desk) = s.desk in
    let sits = h.sits in
    record {
      steps = change_step (place_at w p) ctrl o p.core q.core s.end s.note s.seen m x s.changes h.at;
      alone = ap (λ (c : Core). c.alone) s.changes.view;
      role = ap (λ (c : Core). c.view.role) s.changes.view ∙ end_role s.end p.core.view;
      flying = ap (λ (c : Core). c.view.flights) s.changes.view ∙ end_flights s.end p.core.view ∙ sits.flights ∙ ap (λ (e : DeskView). map (λ (f : Flying). f.flight) e.flying) (sym d);
      aloft = subst (λ (e : DeskView). AllByRecursion IsAloft e.flying) (sym d) sits.aloft;
      waits = subst (λ (e : DeskView). AllByRecursion IsWaiting e.out) (sym d) sits.waiting;
      own = subst (λ (e : DeskView). AllByRecursion (λ (f : Flying). f.flight.lane ≡ p.core.lane) e.flying) (sym d) h.own;
      stand = subst (AreInRun x) (sym d) (record { flying = h.requests.flying; out = h.requests.out; ended = h.requests.ended; once = h.requests.once });
      noted = h.noted;
      waiting = h.waiting ∙ ap (λ (e : DeskView). before ++ map (λ r. r.id) e.out) (sym d);
      nobody = λ n told. nobody_section s.note.side (end_in s.end) m n p.core.told q.core.told h.at.told (ap (λ (c : Core). c.told) s.changes.view) told (end_sides s.end) h.nobody;
      keeper = s.keeper;
      stands = change_stands ctrl o (maker_at w p) p.core q.core s.end s.note s.seen s.changes;
      agrees = λ k sound old. keeps_on k (state_in m x) _ (changed_same k (place_at w p) (state_in m x) ctrl o line sound old) old;
      rows = ap (λ (e : DeskView). e.rows) d;
      events = ap (λ (e : DeskView). told_events e.events) d ∙ told_more p.desk.events s.note (map (event.At w.line) (said_of s.end)) (said_told w.line (said_of s.end));
      desk = λ req apart. subst (λ (e : DeskView). times req e ≤ times req p.desk) (sym d) (omega arith);
      requests = λ req apart. record { there = refl; told = refl; read = refl };
      flights = λ lane apart. refl;
    }
