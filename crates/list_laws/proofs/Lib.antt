pub mod Each
pub mod Fronts
pub mod Members
pub mod Pairs
pub mod Places
pub mod Ranges
pub mod Tests
