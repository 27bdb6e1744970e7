pub mod AuditAnswers
pub mod Pointed
mod Stopped
mod Taken
mod Told
mod Faulted
