-- The desk of a lane: its flights with their requests, what it has to list, its notes, and what its calls do.
pub mod Calls
pub mod DeskView
pub mod Desks
pub mod Gains
pub mod Indexed
pub mod Noted
pub mod Roomy
pub mod Says
