pub mod Judging
pub mod Joins
pub mod Parts
pub mod Rows
