pub mod Replay
pub mod Showing
pub mod Points
pub mod Rows
pub mod inner
