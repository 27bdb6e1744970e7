pub mod Counting
pub mod Totalizers
