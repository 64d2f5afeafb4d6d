-- The choice of each policy, over the path table, and what it means in the subject's own words.
pub mod Choices
pub mod Means
pub mod Nearer
pub mod Walks
