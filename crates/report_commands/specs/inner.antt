-- What no contract of a public call says: contracts and proofs inside this crate alone cite it.
pub mod Faults
pub mod Judged
