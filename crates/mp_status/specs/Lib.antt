-- What follows a status, and which attempts a request makes on one path.
pub mod Statuses
pub mod Disposition
pub mod Hop
