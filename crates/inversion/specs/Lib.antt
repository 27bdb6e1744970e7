pub mod Judging
pub mod Saying
pub mod Reductions
pub mod Inverted
