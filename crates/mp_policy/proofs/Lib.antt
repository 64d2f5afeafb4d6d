pub mod Least
pub mod NoChoice
pub mod FirstNearest
pub mod Walks
pub mod Chosen
pub mod RobinNone
pub mod Next
