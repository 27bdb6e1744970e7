pub mod Names
pub mod Value
pub mod Spelling
pub mod Reading
pub mod First
pub mod Answer
