-- The keeper of the list of paths: how it stands to its steps, and what its calls do.
pub mod Keeper
pub mod Keeps
pub mod Walks
