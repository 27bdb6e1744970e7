pub mod InRange
pub mod Keyed
