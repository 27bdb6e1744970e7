pub mod Members
pub mod Keeping
pub mod Beside
pub mod Laws
pub mod inner
