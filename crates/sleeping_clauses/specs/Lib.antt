pub mod Sleeping
pub mod Naming
