pub mod Reading
pub mod Begun
pub mod Seats
pub mod Flights
