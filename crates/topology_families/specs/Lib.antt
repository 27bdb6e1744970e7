pub mod Family
pub mod FamilyWords
pub mod Rows
