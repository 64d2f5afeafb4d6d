pub mod Words
pub mod Rows
pub mod Lanes
pub mod LaneKinds
pub mod KeeperKinds
pub mod Opening
pub mod Worked
pub mod Stages
