pub mod Lines
pub mod Showable
pub mod Bodies
pub mod Machined
pub mod Ends
