-- How a reader states its refusals.
pub mod Checks
pub mod Marks
pub mod Digits
