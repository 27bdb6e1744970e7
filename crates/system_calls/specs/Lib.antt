pub mod Untold
pub mod Numbers
