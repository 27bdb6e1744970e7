pub mod Proving
pub mod Tested
pub mod Faults
pub mod Files
pub mod Kept
pub mod inner
