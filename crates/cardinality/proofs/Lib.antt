pub mod Ranges
pub mod Lengths
pub mod Pairs
pub mod Wider
pub mod Joins
pub mod Totals
pub mod Sides
pub mod FewClauses
