pub mod Exchanged
pub mod ComesBack
