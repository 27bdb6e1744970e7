pub mod Printing
pub mod Tokens
pub mod Reading
pub mod inner
