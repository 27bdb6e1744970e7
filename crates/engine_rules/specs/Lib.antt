pub mod Outcomes
pub mod Faults
pub mod Searches
pub mod Recording
