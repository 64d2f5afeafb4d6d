pub mod Packed
pub mod Lanes
pub mod Stands
pub mod Told
pub mod TwoPaths
pub mod Stages
