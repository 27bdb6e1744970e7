pub mod Proved
pub mod Kept
pub mod Beside
pub mod Trying
pub mod Single
pub mod Laws
pub mod Questions
pub mod inner
