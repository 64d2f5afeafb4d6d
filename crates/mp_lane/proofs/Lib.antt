-- What is proved of lanes.
pub mod LaneCalls
pub mod NoPage
pub mod OneCall
pub mod Rests
pub mod StepGains
pub mod Stepping
pub mod Weighs
