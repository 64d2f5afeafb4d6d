pub mod Keeping
pub mod Laning
pub mod Lapping
pub mod Tabling
