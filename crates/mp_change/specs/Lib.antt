-- What a row change does, and what a failover does to its path: each is one finished section of the pass that makes it.
pub mod Clears
pub mod Finds
pub mod Changes
pub mod Pending
