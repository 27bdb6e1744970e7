pub mod Ends
pub mod Throughout
