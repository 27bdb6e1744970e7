pub mod Recorded
pub mod inner
