-- What a step of a lane did.
use Rattle.std.proofs.Common.{◌≡◌, ℕ, true, false, Bool, List, [], ◌∷◌, map, refl, sym, ap, ◌∙◌, subst}
use Rattle.std.specs.Prelude.{Result, Ok, Err, IfOk, OnErr}
use Rattle.mp_words.specs.RequestView.{RequestView}
use Rattle.mp_record.specs.declared.event.Event.TheVariants as event
use Rattle.mp_script.specs.declared.script.Numbered1.{Numbered1}
use Rattle.mp_core.specs.Core.{Core}
use Rattle.mp_keep.specs.Keeper.{KeeperView}
use Rattle.mp_desk.specs.DeskView.{DeskView, noting}
use Rattle.mp_desk.specs.Calls.{CallsTo, EndsAll, Stand, StopsTo}
use Rattle.mp_desk.specs.declared.halt.Halt.{Halt}
use Rattle.mp_desk.specs.declared.halt.Halt.TheVariants as halt
use Rattle.mp_desk.specs.Desks.{stand}
use Rattle.mp_lane.specs.declared.wants.Wants.{Wants}
use Rattle.mp_lane.specs.LaneView.{LaneView, wants_next, wants_of}
use Rattle.mp_lane.specs.Lines.{Reads, means_of, start_of}
use Rattle.mp_lane.specs.declared.error.LaneError.{LaneError}
use Rattle.mp_lane.specs.declared.stepped.Stepped.{Stepped}
use Rattle.mp_lane.specs.Steps.{BreaksOff, ComesToEnd, Fails, IsBroken, IsSpent, Runs, RunsOn, Settles, StepTo, Stops, Told, behind, has_line, line_of, start_at}

split : (rest : List Numbered1) → has_line rest ≡ true → (l : Numbered1) × (rest ≡ l ∷ behind rest)
split [] has = absurd cc
split (l ∷ rest) has = (l, refl)

none_left : (rest : List Numbered1) → has_line rest ≡ false → rest ≡ []
none_left [] has = refl
none_left (l ∷ rest) has = absurd cc

end_line : (v : LaneView) (rest : List Numbered1) → v.rest ≡ rest → rest ≡ [] → line_of v ≡ 0
end_line v rest is none = ap (λ (r : List Numbered1). line_of (record v { rest = r })) (is ∙ none)

-- the stand from which the calls of the next line go
abbrev pub begun : Reads → LaneView → Core → KeeperView → Stand
begun i v a k = stand a (noting (map (event.At (line_of v)) (start_at i v).said) v.desk) k

-- the next line ran
pub ran_on : (i : Reads) (v r w : LaneView) (p : Stand) (b : Core) (k : KeeperView) → r ≡ record v { list = []; desk = r.desk } → w ≡ record r { rest = behind r.rest; listed = false } → has_line v.rest ≡ true
    → CallsTo (means_of i (line_of v)) (start_at i v).calls (record p { desk = noting (map (event.At (line_of v)) (start_at i v).said) p.desk }) (stand b r.desk k) → RunsOn i v w p (stand b w.desk k)
ran_on i v r w p b k is_r is_w has calls =
    let same : r.desk ≡ w.desk = sym (ap (λ (z : LaneView). z.desk) is_w) in
    record {
      line = (split v.rest has).0;
      behind = behind v.rest;
      rest = (split v.rest has).1;
      lane = is_w ∙ (λ j. record (is_r j) { rest = behind (is_r j).rest; listed = false }) ∙ (λ j. record v { rest = behind v.rest; list = []; listed = false; desk = same j });
      calls = subst (λ (d : DeskView). CallsTo (means_of i (line_of v)) (start_at i v).calls (record p { desk = noting (map (event.At (line_of v)) (start_at i v).said) p.desk }) (stand b d k)) same calls;
    }

-- the lane came to its end
pub ended : (i : Reads) (v r w : LaneView) (p : Stand) (b : Core) (k : KeeperView) → r ≡ record v { list = []; desk = r.desk } → w ≡ record r { listed = false; over = true } → has_line v.rest ≡ false
    → CallsTo (means_of i (line_of v)) (start_at i v).calls (record p { desk = noting (map (event.At (line_of v)) (start_at i v).said) p.desk }) (stand b r.desk k) → ComesToEnd i v w p (stand b w.desk k)
ended i v r w p b k is_r is_w has calls =
    let same : r.desk ≡ w.desk = sym (ap (λ (z : LaneView). z.desk) is_w) in
    let line : line_of v ≡ 0 = end_line v v.rest refl (none_left v.rest has) in
    record {
      rest = none_left v.rest has;
      lane = is_w ∙ (λ j. record (is_r j) { listed = false; over = true }) ∙ (λ j. record v { list = []; listed = false; over = true; desk = same j });
      calls = subst (λ (n : ℕ). CallsTo (means_of i n) (start_at i v).calls (record p { desk = noting (map (event.At n) (start_at i v).said) p.desk }) (stand b w.desk k)) line
          (subst (λ (d : DeskView). CallsTo (means_of i (line_of v)) (start_at i v).calls (record p { desk = noting (map (event.At (line_of v)) (start_at i v).said) p.desk }) (stand b d k)) same calls);
    }

-- the lane is spent
pub spent : (i : Reads) (v r w : LaneView) (p : Stand) (b c : Core) (k : KeeperView) → r ≡ record v { list = []; desk = r.desk } → w ≡ record r { list = []; listed = false; over = true; desk = w.desk }
    → StopsTo (means_of i (line_of v)) (start_at i v).calls (record p { desk = noting (map (event.At (line_of v)) (start_at i v).said) p.desk }) (stand b r.desk k) → EndsAll b c r.desk w.desk → IsSpent i v w p (stand c w.desk k)
spent i v r w p b c k is_r is_w stops ends = record {
  mid = stand b r.desk k;
  stops = stops;
  ends = ends;
  keeper = refl;
  lane = is_w ∙ (λ j. record (is_r j) { list = []; listed = false; over = true; desk = w.desk });
}

-- memory ran out
fails : (v r w : LaneView) (b c : Core) (k : KeeperView) → r ≡ record v { list = []; desk = r.desk } → Stops r w b c → Fails v w (stand c w.desk k)
fails v r w b c k is_r h = record {
  over = ap (λ (z : LaneView). z.over) h.lane;
  list = ap (λ (z : LaneView). z.list) h.lane;
  flying = ap (λ (d : DeskView). d.flying) h.ends.desk;
  id = ap (λ (z : LaneView). z.id) h.lane ∙ ap (λ (z : LaneView). z.id) is_r;
  keeper = ap (λ (z : LaneView). z.keeper) h.lane ∙ ap (λ (z : LaneView). z.keeper) is_r;
  rest = ap (λ (z : LaneView). z.rest) h.lane ∙ ap (λ (z : LaneView). z.rest) is_r;
  listed = ap (λ (z : LaneView). z.listed) h.lane;
}

-- what a step did whose next line was run so, or its end
pub settles_to : (ran : Result Bool Halt) (result : Result Stepped LaneError) (i : Reads) (v r w : LaneView) (p : Stand) (b c : Core) (k : KeeperView) → r ≡ record v { list = []; desk = r.desk } → IfOk ran (λ x. x ≡ has_line v.rest)
    → Runs ran i (line_of v) (start_at i v) p (stand b r.desk k) → Settles ran result r w b c → StepTo result i v w p (stand c w.desk k)
settles_to (Ok true) result i v r w p b c k is_r has runs h =
    subst (λ z. StepTo z i v w p (stand c w.desk k)) (sym h.0) (subst (λ (z : Core). RunsOn i v w p (stand z w.desk k)) (sym h.2) (ran_on i v r w p b k is_r h.1 (sym has) runs))
settles_to (Ok false) result i v r w p b c k is_r has runs h =
    subst (λ z. StepTo z i v w p (stand c w.desk k)) (sym h.0) (subst (λ (z : Core). ComesToEnd i v w p (stand z w.desk k)) (sym h.2) (ended i v r w p b k is_r h.1 (sym has) runs))
settles_to (Err halt.Spent) result i v r w p b c k is_r has runs h =
    subst (λ z. StepTo z i v w p (stand c w.desk k)) (sym h.0) (spent i v r w p b c k is_r h.1.lane runs h.1.ends)
settles_to (Err halt.NoMemory) result i v r w p b c k is_r has runs h =
    subst (λ z. StepTo z i v w p (stand c w.desk k)) (sym h.0) (fails v r w b c k is_r h.1)

-- where memory ran out, what was done before
pub breaks_to : (ran : Result Bool Halt) (result : Result Stepped LaneError) (i : Reads) (v r w : LaneView) (p : Stand) (b c : Core) (k : KeeperView) → r ≡ record v { list = []; desk = r.desk }
    → Runs ran i (line_of v) (start_at i v) p (stand b r.desk k) → Settles ran result r w b c → OnErr result (IsBroken i v w p (stand c w.desk k))
breaks_to (Ok true) result i v r w p b c k is_r runs h = subst (λ z. OnErr z (IsBroken i v w p (stand c w.desk k))) (sym h.0) tt
breaks_to (Ok false) result i v r w p b c k is_r runs h = subst (λ z. OnErr z (IsBroken i v w p (stand c w.desk k))) (sym h.0) tt
breaks_to (Err halt.Spent) result i v r w p b c k is_r runs h = subst (λ z. OnErr z (IsBroken i v w p (stand c w.desk k))) (sym h.0) tt
breaks_to (Err halt.NoMemory) result i v r w p b c k is_r runs h =
    subst (λ z. OnErr z (IsBroken i v w p (stand c w.desk k))) (sym h.0) (record {
      mid = stand b r.desk k;
      breaks = runs;
      ends = h.1.ends;
      keeper = refl;
      lane = h.1.lane ∙ (λ j. record (is_r j) { list = []; listed = false; over = true; desk = w.desk });
    })

-- what a lane wants that isn't over and has a next line
pub wants_so : (v : LaneView) (over listed : Bool) (rest behind : List Numbered1) (l : Numbered1) (answer : Wants) → v.over ≡ over → over ≡ false → v.listed ≡ listed → v.rest ≡ rest → rest ≡ l ∷ behind → answer ≡ wants_next listed (l ∷ behind) → answer ≡ wants_of v
wants_so v over listed rest behind l answer over_is not_over listed_is rest_is next is =
    is ∙ (λ j. wants_next (sym listed_is j) (sym (rest_is ∙ next) j)) ∙ sym (ap (λ (o : Bool). wants_of (record v { over = o })) (over_is ∙ not_over))

-- what a line did is what the next line did
pub runs_at : {T : Type 0} (result : Result T Halt) (i : Reads) (v w : LaneView) (l : Numbered1) (rest : List Numbered1) (list : List RequestView) (a b : Core) (e : DeskView) (k : KeeperView) → v ≡ w → v.rest ≡ l ∷ rest → list ≡ v.list
    → Runs result i l.number (start_of i list v.desk.flying l.line) (stand a v.desk k) (stand b e k) → Runs result i (line_of w) (start_at i w) (stand a w.desk k) (stand b e k)
runs_at result i v w l rest list a b e k same next listed h =
    subst (λ (z : LaneView). Runs result i (line_of z) (start_at i z) (stand a z.desk k) (stand b e k)) same
    (subst (λ (r : List Numbered1). Runs result i (line_of (record v { rest = r })) (start_at i (record v { rest = r })) (stand a v.desk k) (stand b e k)) (sym next)
    (subst (λ (z : List RequestView). Runs result i l.number (start_of i z v.desk.flying l.line) (stand a v.desk k) (stand b e k)) listed h))

-- what stopped did the same, whatever it would have answered
pub fails_alike : (T U : Type 0) (why : Halt) (Done Stopped Broken : Type 0) → Told {T = T} (Err why) Done Stopped Broken → Told {T = U} (Err why) Done Stopped Broken
fails_alike T U halt.NoMemory Done Stopped Broken h = h
fails_alike T U halt.Spent Done Stopped Broken h = h

-- what was done there
pub does_so : {T : Type 0} (result : Result T Halt) (x : T) (Done Stopped Broken : Type 0) → result ≡ Ok x → Told result Done Stopped Broken → Done
does_so result x Done Stopped Broken is h = subst (λ r. Told r Done Stopped Broken) is h

-- the next line was run
pub runs_done : {T : Type 0} (result : Result T Halt) (x : T) (i : Reads) (v w : LaneView) (l : Numbered1) (rest : List Numbered1) (list : List RequestView) (a b : Core) (e : DeskView) (k : KeeperView) → v ≡ w → v.rest ≡ l ∷ rest → list ≡ v.list → result ≡ Ok x
    → Runs result i l.number (start_of i list v.desk.flying l.line) (stand a v.desk k) (stand b e k) → CallsTo (means_of i (line_of w)) (start_at i w).calls (begun i w a k) (stand b e k)
runs_done result x i v w l rest list a b e k same next listed ok h =
    does_so result x (CallsTo (means_of i (line_of w)) (start_at i w).calls (begun i w a k) (stand b e k)) (StopsTo (means_of i (line_of w)) (start_at i w).calls (begun i w a k) (stand b e k)) (BreaksOff i (line_of w) (start_at i w) (stand a w.desk k) (stand b e k)) ok (runs_at result i v w l rest list a b e k same next listed h)

-- the next line stopped, or memory ran out
pub runs_failed : (U : Type 0) {T : Type 0} (result : Result T Halt) (why : Halt) (i : Reads) (v w : LaneView) (l : Numbered1) (rest : List Numbered1) (list : List RequestView) (a b : Core) (e : DeskView) (k : KeeperView) → v ≡ w → v.rest ≡ l ∷ rest → list ≡ v.list → result ≡ Err why
    → Runs result i l.number (start_of i list v.desk.flying l.line) (stand a v.desk k) (stand b e k) → Told {T = U} (Err why) (CallsTo (means_of i (line_of w)) (start_at i w).calls (begun i w a k) (stand b e k)) (StopsTo (means_of i (line_of w)) (start_at i w).calls (begun i w a k) (stand b e k)) (BreaksOff i (line_of w) (start_at i w) (stand a w.desk k) (stand b e k))
runs_failed U {T = T} result why i v w l rest list a b e k same next listed failed h =
    let Done = CallsTo (means_of i (line_of w)) (start_at i w).calls (begun i w a k) (stand b e k) in
    let Stopped = StopsTo (means_of i (line_of w)) (start_at i w).calls (begun i w a k) (stand b e k) in
    let Broken = BreaksOff i (line_of w) (start_at i w) (stand a w.desk k) (stand b e k) in
    fails_alike T U why Done Stopped Broken (subst (λ r. Told r Done Stopped Broken) failed (runs_at result i v w l rest list a b e k same next listed h))
