-- The rule of the shared table: what holds of its words and of what all passes know, between any two steps, and that
-- each kind of step keeps it.
pub mod Sequence
pub mod Rule
pub mod History
pub mod Sums
pub mod Holds
pub mod Promises
pub mod Lawful
pub mod Parts
pub mod Laws
pub mod At
pub mod Kept
pub mod Reader
