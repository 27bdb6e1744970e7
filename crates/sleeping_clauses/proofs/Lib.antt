pub mod Stored
pub mod Found
pub mod Listed
