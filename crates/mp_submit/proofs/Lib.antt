pub mod Paths
pub mod Depths
pub mod Selecting
pub mod Submitting
pub mod Hops
pub mod Finishing
