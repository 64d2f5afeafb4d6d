-- Scripts: what a text says, and the canonical text.
pub mod Splitting
pub mod Shape
pub mod Wording
pub mod Numbers
pub mod Places
pub mod Before
pub mod Requests
pub mod Lines
pub mod Plans
pub mod Script
pub mod Distinct
pub mod Facts
pub mod Answered
pub mod Building
pub mod Written
pub mod Readable
