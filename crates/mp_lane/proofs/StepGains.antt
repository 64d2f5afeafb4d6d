-- What a pass gains by a step of its lane, and the units that it uses.
use Rattle.std.proofs.Common.{◌≡◌, ℕ, ◌+◌, true, false, Bool, List, [], ◌∷◌, ◌++◌, map, length, append-nil, append_assoc, inl, inr, refl, sym, ap, ◌∙◌, subst, arith}
use Rattle.std.specs.Prelude.{Result, Ok, Err}
use Rattle.std.specs.List.{AllByRecursion}
use Rattle.mp_record.specs.declared.event.Event.{Event}
use Rattle.mp_record.specs.declared.event.Event.TheVariants as event
use Rattle.mp_record.specs.declared.event.Said.{Said}
use Rattle.mp_words.specs.declared.note.Note.{Note}
use Rattle.mp_script.specs.declared.script.Numbered1.{Numbered1}
use Rattle.mp_desk.specs.DeskView.{noting}
use Rattle.mp_core.specs.Core.{Core}
use Rattle.mp_keep.specs.Keeper.{KeeperView}
use Rattle.mp_desk.specs.declared.halt.Halt.{Halt}
use Rattle.mp_desk.specs.declared.halt.Halt.TheVariants as halt
use Rattle.mp_desk.specs.Desks.{stand}
use Rattle.mp_desk.specs.Calls.{BreaksTo, CallsTo, DeskCall, EndsAll, IsLaneCall, Means, Stand, StopsTo}
use Rattle.mp_desk.specs.Gains.{Gains, UsesSections, sections_in}
use Rattle.mp_lane.specs.declared.error.LaneError.{LaneError}
use Rattle.mp_lane.specs.declared.stepped.Stepped.{Stepped}
use Rattle.mp_lane.specs.LaneView.{LaneView}
use Rattle.mp_lane.specs.Lines.{LineStart, Reads}
use Rattle.mp_lane.specs.Steps.{HasNoKeeperLine, Runs, Settles, line_of, start_at}
use Rattle.mp_lane.proofs.LaneCalls.{finishes_all, lane_calls}

-- what the laws of desks say
abbrev pub DoneGains : Type 0
DoneGains = (w : Means) (cs : List DeskCall) (p q : Stand) → CallsTo w cs p q → Gains p q

abbrev pub StoppedGains : Type 0
StoppedGains = (w : Means) (cs : List DeskCall) (p q : Stand) → StopsTo w cs p q → Gains p q

abbrev pub BrokenGains : Type 0
BrokenGains = (w : Means) (cs : List DeskCall) (p q : Stand) → BreaksTo w cs p q → Gains p q

abbrev pub EndedGains : Type 0
EndedGains = (p q : Stand) → EndsAll p.core q.core p.desk q.desk → Gains p q

abbrev pub DoneUses : Type 0
DoneUses = (w : Means) (cs : List DeskCall) (p q : Stand) → AllByRecursion IsLaneCall cs → CallsTo w cs p q → UsesSections p q

abbrev pub BrokenUses : Type 0
BrokenUses = (w : Means) (cs : List DeskCall) (p q : Stand) → AllByRecursion IsLaneCall cs → BreaksTo w cs p q → UsesSections p q

abbrev pub StoppedUses : Type 0
StoppedUses = (w : Means) (cs : List DeskCall) (p q : Stand) → AllByRecursion IsLaneCall cs → StopsTo w cs p q → UsesSections p q

said_none : (line : ℕ) (said : List Said) (es : List Event) → sections_in (map (event.At line) said ++ es) ≡ sections_in es
said_none line [] es = refl
said_none line (s ∷ said) es = said_none line said es

-- what the line says before its calls has no sections
said_gains : (line : ℕ) (said : List Said) (p q : Stand) → Gains (record p { desk = noting (map (event.At line) said) p.desk }) q → Gains p q
said_gains line said p q g = record {
  events = map (event.At line) said ++ g.events;
  noted = g.noted ∙ append_assoc p.desk.events (map (event.At line) said) g.events;
  sections = g.sections ∙ ap (λ ns. p.core.view.done ++ ns) (sym (said_none line said g.events));
  rows = g.rows;
  kept = g.kept;
  made = g.made;
}

said_uses : (line : ℕ) (said : List Said) (p q : Stand) → UsesSections (record p { desk = noting (map (event.At line) said) p.desk }) q → UsesSections p q
said_uses line said p q g = record {
  events = map (event.At line) said ++ g.events;
  noted = g.noted ∙ append_assoc p.desk.events (map (event.At line) said) g.events;
  used = omega (arith, g.used, ap length (said_none line said g.events));
}

sections-append : (es fs : List Event) → sections_in (es ++ fs) ≡ sections_in es ++ sections_in fs
sections-append [] fs = refl
sections-append (event.Sec n m ∷ es) fs = ap (λ (ns : List Note). n ∷ ns) (sections-append es fs)
sections-append (event.At l s ∷ es) fs = sections-append es fs
sections-append (event.Try r h e ∷ es) fs = sections-append es fs
sections-append (event.Fin r h ss c b ∷ es) fs = sections-append es fs

gains_none : (p : Stand) → Gains p p
gains_none p = record { events = []; noted = sym (append-nil p.desk.events); sections = sym (append-nil p.core.view.done); rows = []; kept = sym (append-nil p.desk.rows); made = sym (append-nil p.core.view.entries) }

uses_none : (p : Stand) → UsesSections p p
uses_none p = record { events = []; noted = sym (append-nil p.desk.events); used = omega arith }

gains_on : (p m q : Stand) → Gains p m → Gains m q → Gains p q
gains_on p m q g h = record {
  events = g.events ++ h.events;
  noted = h.noted ∙ ap (λ es. es ++ h.events) g.noted ∙ append_assoc p.desk.events g.events h.events;
  sections = h.sections ∙ ap (λ ns. ns ++ sections_in h.events) g.sections ∙ append_assoc p.core.view.done (sections_in g.events) (sections_in h.events) ∙ ap (λ ns. p.core.view.done ++ ns) (sym (sections-append g.events h.events));
  rows = g.rows ++ h.rows;
  kept = h.kept ∙ ap (λ rs. rs ++ h.rows) g.kept ∙ append_assoc p.desk.rows g.rows h.rows;
  made = h.made ∙ ap (λ rs. rs ++ h.rows) g.made ∙ append_assoc p.core.view.entries g.rows h.rows;
}

-- the end of all flights uses no unit
ends_use : (p m q : Stand) → UsesSections p m → EndsAll m.core q.core m.desk q.desk → UsesSections p q
ends_use p m q g h = record {
  events = g.events;
  noted = ap (λ d. d.events) h.desk ∙ g.noted;
  used = ap (λ n. n + length (sections_in g.events)) (ap (λ c. c.view.left) h.core) ∙ g.used;
}

-- what the calls of a line noted is what was gained, however they ended
run_gains : {T : Type 0} (ran : Result T Halt) (i : Reads) (line : ℕ) (start : LineStart) (p m : Stand) → DoneGains → StoppedGains → BrokenGains → Runs ran i line start p m → Gains p m
run_gains (Ok x) i line start p m done stopped broken h = said_gains line start.said p m (done _ _ _ m h)
run_gains (Err halt.Spent) i line start p m done stopped broken h = said_gains line start.said p m (stopped _ _ _ m h)
run_gains (Err halt.NoMemory) i line start p m done stopped broken (inl is) = subst (Gains p) (sym is) (gains_none p)
run_gains (Err halt.NoMemory) i line start p m done stopped broken (inr h) = said_gains line start.said p m (broken _ _ _ m h)

settle_gains : (ran : Result Bool Halt) (result : Result Stepped LaneError) (r w : LaneView) (p : Stand) (b c : Core) (k : KeeperView) → EndedGains → Settles ran result r w b c → Gains p (stand b r.desk k) → Gains p (stand c w.desk k)
settle_gains (Ok true) result r w p b c k ended h g = subst (Gains p) (λ j. stand (sym h.2 j) (sym (ap (λ (z : LaneView). z.desk) h.1) j) k) g
settle_gains (Ok false) result r w p b c k ended h g = subst (Gains p) (λ j. stand (sym h.2 j) (sym (ap (λ (z : LaneView). z.desk) h.1) j) k) g
settle_gains (Err halt.Spent) result r w p b c k ended h g = gains_on p (stand b r.desk k) (stand c w.desk k) g (ended (stand b r.desk k) (stand c w.desk k) h.1.ends)
settle_gains (Err halt.NoMemory) result r w p b c k ended h g = gains_on p (stand b r.desk k) (stand c w.desk k) g (ended (stand b r.desk k) (stand c w.desk k) h.1.ends)

-- a step gains what it notes, however it ends
pub step_gains : (ran : Result Bool Halt) (result : Result Stepped LaneError) (i : Reads) (v r w : LaneView) (p : Stand) (b c : Core) (k : KeeperView) → DoneGains → StoppedGains → BrokenGains → EndedGains → Runs ran i (line_of v) (start_at i v) p (stand b r.desk k) → Settles ran result r w b c → Gains p (stand c w.desk k)
step_gains ran result i v r w p b c k done stopped broken ended runs h = settle_gains ran result r w p b c k ended h (run_gains ran i (line_of v) (start_at i v) p (stand b r.desk k) done stopped broken runs)

-- the calls of a lane that isn't the keeper's
start_calls : (i : Reads) (v : LaneView) (rest : List Numbered1) → v.rest ≡ rest → HasNoKeeperLine rest → AllByRecursion IsLaneCall (start_at i v).calls
start_calls i v [] is none_keeps = subst (λ (r : List Numbered1). AllByRecursion IsLaneCall (start_at i (record v { rest = r })).calls) (sym is) (finishes_all v.desk.flying)
start_calls i v (l ∷ rest) is none_keeps = subst (λ (r : List Numbered1). AllByRecursion IsLaneCall (start_at i (record v { rest = r })).calls) (sym is) (lane_calls i v.list v.desk.flying l.line none_keeps.0)

run_uses : {T : Type 0} (ran : Result T Halt) (i : Reads) (line : ℕ) (start : LineStart) (p m : Stand) → DoneUses → StoppedUses → BrokenUses → AllByRecursion IsLaneCall start.calls → Runs ran i line start p m → UsesSections p m
run_uses (Ok x) i line start p m done stopped broken all h = said_uses line start.said p m (done _ _ _ m all h)
run_uses (Err halt.Spent) i line start p m done stopped broken all h = said_uses line start.said p m (stopped _ _ _ m all h)
run_uses (Err halt.NoMemory) i line start p m done stopped broken all (inl is) = subst (UsesSections p) (sym is) (uses_none p)
run_uses (Err halt.NoMemory) i line start p m done stopped broken all (inr h) = said_uses line start.said p m (broken _ _ _ m all h)

settle_uses : (ran : Result Bool Halt) (result : Result Stepped LaneError) (r w : LaneView) (p : Stand) (b c : Core) (k : KeeperView) → Settles ran result r w b c → UsesSections p (stand b r.desk k) → UsesSections p (stand c w.desk k)
settle_uses (Ok true) result r w p b c k h g = subst (UsesSections p) (λ j. stand (sym h.2 j) (sym (ap (λ (z : LaneView). z.desk) h.1) j) k) g
settle_uses (Ok false) result r w p b c k h g = subst (UsesSections p) (λ j. stand (sym h.2 j) (sym (ap (λ (z : LaneView). z.desk) h.1) j) k) g
settle_uses (Err halt.Spent) result r w p b c k h g = ends_use p (stand b r.desk k) (stand c w.desk k) g h.1.ends
settle_uses (Err halt.NoMemory) result r w p b c k h g = ends_use p (stand b r.desk k) (stand c w.desk k) g h.1.ends

-- a step of a lane that isn't the keeper's uses a unit for each section, however it ends
pub step_uses : (ran : Result Bool Halt) (result : Result Stepped LaneError) (i : Reads) (v r w : LaneView) (p : Stand) (b c : Core) (k : KeeperView) → DoneUses → StoppedUses → BrokenUses → HasNoKeeperLine v.rest → Runs ran i (line_of v) (start_at i v) p (stand b r.desk k) → Settles ran result r w b c → UsesSections p (stand c w.desk k)
step_uses ran result i v r w p b c k done stopped broken plan runs h = settle_uses ran result r w p b c k h (run_uses ran i (line_of v) (start_at i v) p (stand b r.desk k) done stopped broken (start_calls i v v.rest refl plan) runs)
