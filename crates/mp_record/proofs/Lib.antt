pub mod Joined
pub mod Trails
pub mod Noted
pub mod Apart
pub mod PlainIn
pub mod Packing
