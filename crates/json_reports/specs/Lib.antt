pub mod Rows
pub mod Candidates
