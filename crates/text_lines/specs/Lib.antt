pub mod Text
pub mod Line
pub mod Number
pub mod Check
pub mod Repeated
