pub mod Keeping
pub mod Lanes
pub mod OneLap
pub mod Tabled
