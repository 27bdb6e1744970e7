pub mod Shelved
pub mod inner
