-- The log page of Asymmetric Namespace Access, log page 0Ch of the NVM Express Base Specification 2.0.
pub mod Page
pub mod Grammar
pub mod Written
pub mod Gifts
pub mod Boxes
pub mod Text
