pub mod Searched
pub mod Found
