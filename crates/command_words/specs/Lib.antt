pub mod Codes
pub mod Tables
pub mod Given
pub mod Commands
pub mod Words
pub mod inner
