mod Names
pub mod Begun
mod Searches
mod Readable
pub mod Tried
mod FewOrdered
mod SmallFormulas
pub mod Noting
pub mod Settling
