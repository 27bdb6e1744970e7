pub mod Clauses
pub mod Codes
pub mod Growing
pub mod Keeping
pub mod Lying
