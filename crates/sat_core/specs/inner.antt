-- What no contract of a public call says: contracts and proofs inside this crate alone cite it.
pub mod Dividing
pub mod Ending
pub mod Going
pub mod Guided
pub mod Hints
pub mod Holding
pub mod Jumping
pub mod Loading
pub mod Measure
pub mod Stating
pub mod Totals
pub mod Turning
