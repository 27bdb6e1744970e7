pub mod Searched
pub mod Recorded
pub mod Found
