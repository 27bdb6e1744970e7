pub mod Laying
pub mod KindRows
pub mod Copying
pub mod Sized
pub mod Chunks
