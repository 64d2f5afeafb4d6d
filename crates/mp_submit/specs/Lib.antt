-- What a submit and a finish do: each is a finished section at most, the request's tries, and the flight that is sent or
-- spent.
pub mod Choice
pub mod Selects
pub mod Submits
pub mod Finishes
