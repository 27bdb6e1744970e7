pub mod Noting
pub mod Permuting
pub mod Parted
pub mod Turned
pub mod Summed
pub mod Bounded
