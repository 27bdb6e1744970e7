pub mod Gives
pub mod Wide
pub mod Asking
pub mod Spelled
pub mod Room
pub mod Heads
