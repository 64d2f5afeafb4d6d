-- The calls of the lines that every lane may have.
use Rattle.std.proofs.Common.{◌≡◌, ℕ, false, List, [], ◌∷◌, map}
use Rattle.std.specs.Prelude.{Result, Ok, Err}
use Rattle.std.specs.List.{AllByRecursion}
use Rattle.mp_words.specs.RequestView.{RequestView}
use Rattle.mp_page.specs.declared.page.Page.{Page}
use Rattle.mp_page.specs.declared.page.PageError.{PageError}
use Rattle.mp_page.specs.Gifts.{page_at}
use Rattle.mp_script.specs.declared.script.Line.{Line}
use Rattle.mp_script.specs.declared.script.Line.TheVariants as line
use Rattle.mp_desk.specs.declared.flying.Flying.{Flying}
use Rattle.mp_desk.specs.DeskView.{flying_with}
use Rattle.mp_desk.specs.Calls.{IsLaneCall, finish, submit}
use Rattle.mp_lane.specs.Lines.{Reads, by_page, is_keepers, reads_log, start_of}

submits_all : (rs : List RequestView) → AllByRecursion IsLaneCall (map submit rs)
submits_all [] = tt
submits_all (r ∷ rs) = (tt, submits_all rs)

pub finishes_all : (fs : List Flying) → AllByRecursion IsLaneCall (map finish fs)
finishes_all [] = tt
finishes_all (f ∷ fs) = (tt, finishes_all fs)

logs_all : (nsid ctrl : ℕ) (r : Result Page PageError) → AllByRecursion IsLaneCall (by_page r (reads_log nsid ctrl)).calls
logs_all nsid ctrl (Ok page) = (tt, tt)
logs_all nsid ctrl (Err error) = tt

pub lane_calls : (i : Reads) (list : List RequestView) (flying : List Flying) (l : Line) → is_keepers l ≡ false → AllByRecursion IsLaneCall (start_of i list flying l).calls
lane_calls i list flying (line.Submit req node) no_keeper = (tt, tt)
lane_calls i list flying (line.Finish req) no_keeper = finishes_all (flying_with req flying)
lane_calls i list flying line.FinishAll no_keeper = finishes_all flying
lane_calls i list flying line.Requeue no_keeper = submits_all list
lane_calls i list flying (line.Log ctrl box) no_keeper = logs_all i.nsid ctrl (page_at i.pages box)
lane_calls i list flying (line.Ctrl ctrl cstate) no_keeper = (tt, tt)
lane_calls i list flying (line.Anatt ctrl) no_keeper = (tt, tt)
lane_calls i list flying (line.Add ctrl box) no_keeper = absurd cc
lane_calls i list flying (line.Remove ctrl) no_keeper = absurd cc
lane_calls i list flying line.Reap no_keeper = absurd cc
lane_calls i list flying (line.Policy policy) no_keeper = absurd cc
