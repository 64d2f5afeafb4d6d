-- The lanes and the story with which a run begins.
use Rattle.std.specs.Prelude.{[], ℕ, false, replicate}
use Rattle.mp_script.specs.declared.script.LanePlan.{LanePlan}
use Rattle.mp_desk.specs.DeskView.{DeskView}
use Rattle.mp_lane.specs.LaneView.{LaneView}
use Rattle.mp_legal.specs.ToldState.{Beside}
use Rattle.mp_run.specs.Runner.{Story}

-- a desk without anything, which keeps no section
abbrev pub empty_desk : DeskView
empty_desk = record { flying = []; out = []; ended = []; events = []; rows = []; keeps = false }

-- a lane of this number and plan that has run nothing yet
abbrev pub first_lane : ℕ × LanePlan → LaneView
first_lane p = record { id = p.0; keeper = p.1.keeper; rest = p.1.lines; list = []; listed = false; over = false; desk = empty_desk }

-- what a run has beside its words before its first turn
abbrev pub first_beside : Beside
first_beside = record { flights = replicate 17 []; waiting = []; removals = []; flips = 0; requests = []; reads = [] }

-- the story of a run before its first turn
abbrev pub first_story : Story
first_story = record { beside = first_beside; rows = [] }
