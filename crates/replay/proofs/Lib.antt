pub mod Drawn
pub mod Moving
pub mod Ended
pub mod Throughout
