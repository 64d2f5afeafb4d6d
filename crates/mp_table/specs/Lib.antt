-- The rule over the 42 words of the table, and what a pass over them knows.
pub mod Words
pub mod Known
pub mod Table
pub mod Passes
pub mod Trials
pub mod Jobs
