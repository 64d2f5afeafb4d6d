-- What the calls of a lane leave for the next one.
use Rattle.std.proofs.Common.{◌≡◌, ◌∙◌, Bool, true, false, List, [], ◌∷◌, ◌++◌, Result, Ok, Err, refl, sym, ap, subst}
use Rattle.mp_words.specs.TwoPaths.{two_paths}
use Rattle.mp_core.specs.Core.{Core}
use Rattle.mp_keep.specs.Keeper.{KeeperView}
use Rattle.mp_script.specs.declared.script.Numbered1.{Numbered1}
use Rattle.mp_desk.specs.Desks.{stand, Leaves}
use Rattle.mp_lane.specs.declared.error.LaneError.{LaneError}
use Rattle.mp_lane.specs.declared.error.LaneError.TheVariants as error
use Rattle.mp_lane.specs.declared.stepped.Stepped.{Stepped}
use Rattle.mp_lane.specs.declared.stepped.Stepped.TheVariants.{Ran, Ended, Spent}
use Rattle.mp_lane.specs.declared.wants.Wants.{Wants}
use Rattle.mp_lane.specs.LaneView.{LaneView, wants_of}
use Rattle.mp_lane.specs.Lines.{Reads, is_keepers}
use Rattle.mp_lane.specs.Steps.{HasNoKeeperLine, IsToStep, StepTo}
use Rattle.mp_laps.specs.Lanes.{IsReady}

-- a lane that wants something isn't over
pub not_over : (v : LaneView) (over : Bool) (w : Wants) → v.over ≡ over → w ≡ wants_of v → IsToStep w → v.over ≡ false
not_over v false w is wanted steps = is
not_over v true w is wanted steps = absurd (subst IsToStep (wanted ∙ ap (λ (o : Bool). wants_of (record v { over = o })) is) steps)

tail_of : (rest : List Numbered1) (l : Numbered1) (behind : List Numbered1) → rest ≡ l ∷ behind → HasNoKeeperLine rest → HasNoKeeperLine behind
tail_of rest l behind is all = (subst HasNoKeeperLine is all).1

-- a lane that is over is ready, where the pass sits at its desk
pub over_ready : (v w : LaneView) (a b : Core) → Leaves a b w.desk → a.lane ≡ v.id → w.id ≡ v.id → w.over ≡ true → IsReady w b
over_ready v w a b leaves lane id over = record {
  lane = leaves.kept.lane ∙ lane ∙ sym id;
  sits = leaves.sits;
  plan = λ going. absurd (let h : true ≡ false = sym over ∙ going in cc);
}

-- what a step leaves
pub stepped_ready : (result : Result Stepped LaneError) (i : Reads) (v w : LaneView) (a b : Core) (k : KeeperView) → IsReady v a → v.over ≡ false
    → StepTo result i v w (stand a v.desk k) (stand b w.desk k) → Leaves a b w.desk → IsReady w b
stepped_ready (Ok Ran) i v w a b k ready going h leaves = record {
  lane = leaves.kept.lane ∙ ready.lane ∙ sym (ap (λ (x : LaneView). x.id) h.lane);
  sits = leaves.sits;
  plan = λ _. subst HasNoKeeperLine (sym (ap (λ (x : LaneView). x.rest) h.lane)) (tail_of v.rest h.line h.behind h.rest (ready.plan going));
}
stepped_ready (Ok Ended) i v w a b k ready going h leaves = over_ready v w a b leaves ready.lane (ap (λ (x : LaneView). x.id) h.lane) (ap (λ (x : LaneView). x.over) h.lane)
stepped_ready (Ok Spent) i v w a b k ready going h leaves = over_ready v w a b leaves ready.lane (ap (λ (x : LaneView). x.id) h.lane) (ap (λ (x : LaneView). x.over) h.lane)
stepped_ready (Err error.NoMemory) i v w a b k ready going h leaves = over_ready v w a b leaves ready.lane h.id h.over

-- more lines, none of them the keeper's
none_more : (lines more : List Numbered1) → HasNoKeeperLine lines → HasNoKeeperLine more → HasNoKeeperLine (lines ++ more)
none_more [] more all rest = rest
none_more (l ∷ lines) more all rest = (all.0, none_more lines more all.1 rest)

-- a keeper, whichever
nobody : KeeperView
nobody = record { order = two_paths; owners = []; removals = []; flips = 0; entries = []; spare = 0 }

-- what a step leaves of a lane that wanted a line or its end
pub goes_on : (result : Result Stepped LaneError) (i : Reads) (v w : LaneView) (a b : Core) (asked : Wants) → IsReady v a → asked ≡ wants_of v → IsToStep asked
    → ((k : KeeperView) → StepTo result i v w (stand a v.desk k) (stand b w.desk k)) → Leaves a b w.desk → IsReady w b
goes_on result i v w a b asked ready wanted steps does leaves = stepped_ready result i v w a b nobody ready (not_over v v.over asked refl wanted steps) (does nobody) leaves

-- one line more that isn't the keeper's
pub one_more : (lines items : List Numbered1) (l m : Numbered1) → items ≡ lines ++ l ∷ [] → l ≡ m → is_keepers m.line ≡ false → HasNoKeeperLine lines → HasNoKeeperLine items
one_more lines items l m is same not_keepers all = subst HasNoKeeperLine (sym is) (none_more lines (l ∷ []) all (ap (λ (n : Numbered1). is_keepers n.line) same ∙ not_keepers, tt))
