pub mod SizeAndCounts
pub mod Sought
pub mod Claimed
pub mod OneVerdict
pub mod Denied
pub mod Ends
pub mod Answered
pub mod OverFiles
