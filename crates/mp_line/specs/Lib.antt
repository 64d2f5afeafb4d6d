-- A line of text, put together in place.
pub mod Words
