-- What the step of a lane did, from its turn to the list after it.
use Rattle.std.proofs.Common.{[], ◌≡◌, List, ◌++◌, ℕ, Ok, refl, sym, ap, ◌∙◌, subst}
use Rattle.mp_words.specs.RequestView.{RequestView}
use Rattle.mp_core.specs.Core.{Core}
use Rattle.mp_plain.specs.declared.plain.Plain.{Plain}
use Rattle.mp_plain.specs.Told.{told_core}
use Rattle.mp_keep.specs.Keeper.{KeeperView, StandsTo}
use Rattle.mp_desk.specs.DeskView.{DeskView}
use Rattle.mp_desk.specs.Desks.{stand}
use Rattle.mp_lane.specs.declared.stepped.Stepped.{Stepped}
use Rattle.mp_lane.specs.declared.wants.Wants.{Wants}
use Rattle.mp_lane.specs.declared.wants.Wants.TheVariants as wants
use Rattle.mp_lane.specs.LaneView.{LaneView, wants_of}
use Rattle.mp_lane.specs.Lines.{Reads}
use Rattle.mp_lane.specs.Steps.{StepTo}
use Rattle.mp_run.specs.Runner.{core_for, given, kept_list, stand_at, StepsFrom}
use Rattle.mp_run.proofs.KeeperKept.{stands_same}
use Rattle.mp_run.proofs.NobodyIn.{keeper_role}

-- the keeper stands to the steps of each lane at its turn
pub stands_at : (lane : ℕ) (p q : Plain) (k : KeeperView) → told_core q ≡ core_for lane p → StandsTo k (told_core p).view → StandsTo k (told_core q).view
stands_at lane p q k core s =
    let kept = ap (λ (c : Core). c.view.keeping) core in
    stands_same k (told_core p).view (told_core q).view (keeper_role q ∙ sym s.keeper) (λ i. (kept i).start) (λ i. (kept i).events) (λ i. (kept i).flips) (λ i. (kept i).index) s

-- a lane has its desk still once it has the list
pub given_desk : (w : Wants) (l : List RequestView) (v : LaneView) → (given w l v).desk ≡ v.desk
given_desk wants.List l v = refl
given_desk wants.Line l v = refl
given_desk wants.End l v = refl
given_desk wants.Nothing l v = refl

pub steps_from : (stepped : Stepped) (i : Reads) (lane : ℕ) (p : Plain) (v u after w : LaneView) (l kept m out : List RequestView) (k k2 : KeeperView) (c c2 : Core) → u ≡ given (wants_of v) l v → c ≡ core_for lane p → StandsTo k c.view
    → StepTo (Ok stepped) i u after (stand c u.desk k) (stand c2 after.desk k2) → kept ≡ kept_list (wants_of v) l → w ≡ record after { desk = record (after.desk) { out = [] } } → out ≡ after.desk.out → m ≡ kept ++ out
    → StepsFrom stepped i v w l m (stand_at lane v.desk k p) c2 k2
steps_from stepped i lane p v u after w l kept m out k k2 c c2 given_so core stands does kept_so left out_is list =
    let desk : u.desk ≡ v.desk = ap (λ (z : LaneView). z.desk) given_so ∙ given_desk (wants_of v) l v in
    let at_core : StepTo (Ok stepped) i u after (stand (core_for lane p) u.desk k) (stand c2 after.desk k2) = subst (λ (z : Core). StepTo (Ok stepped) i u after (stand z u.desk k) (stand c2 after.desk k2)) core does in
    let at_desk : StepTo (Ok stepped) i u after (stand (core_for lane p) v.desk k) (stand c2 after.desk k2) = subst (λ (d : DeskView). StepTo (Ok stepped) i u after (stand (core_for lane p) d k) (stand c2 after.desk k2)) desk at_core in
    record {
      stood = subst (λ (z : Core). StandsTo k z.view) core stands;
      after = after;
      does = subst (λ (z : LaneView). StepTo (Ok stepped) i z after (stand (core_for lane p) v.desk k) (stand c2 after.desk k2)) given_so at_desk;
      lane = left;
      list = list ∙ ap (λ (rs : List RequestView). rs ++ out) kept_so ∙ ap (λ (rs : List RequestView). kept_list (wants_of v) l ++ rs) out_is;
    }
