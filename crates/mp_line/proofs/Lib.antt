pub mod Decimals
pub mod Lists
