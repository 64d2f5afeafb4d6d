-- A lane: what it wants, how its lines start, and what its steps do.
pub mod LaneView
pub mod Lines
pub mod Steps
