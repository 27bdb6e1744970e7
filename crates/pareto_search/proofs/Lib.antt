pub mod Costs
pub mod Records
pub mod Entries
pub mod Passed
pub mod Steps
pub mod Places
pub mod Finished
