pub mod Shelved
pub mod Beside
