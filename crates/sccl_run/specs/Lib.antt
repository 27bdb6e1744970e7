pub mod TopCall
pub mod Rows
pub mod Laws
pub mod Headline
pub mod inner
