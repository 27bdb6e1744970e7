pub mod Ranges
pub mod Costs
pub mod Listed
pub mod Frontiers
pub mod Copied
pub mod Rows
