-- What no contract of a public call says, and only proofs inside this crate cite.
pub mod After
pub mod Bodies
pub mod Gives
pub mod Header
pub mod Wide
