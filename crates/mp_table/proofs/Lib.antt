pub mod Words
pub mod Tells
pub mod Table
pub mod LaneKinds
pub mod KeeperKinds
pub mod Ends
pub mod Trials
