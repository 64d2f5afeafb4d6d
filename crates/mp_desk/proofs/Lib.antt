-- What is proved of the desk.
pub mod Again
pub mod Changing
pub mod DeskKeeps
pub mod Ending
pub mod Finishing
pub mod FinishingEach
pub mod KeeperStands
pub mod Keeping
pub mod LastTry
pub mod Sitting
pub mod SubmittingEach
pub mod Gaining
pub mod Indexed
