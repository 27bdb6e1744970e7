pub mod Turns
pub mod Numbers
pub mod Onward
pub mod FrontierTurns
pub mod Scheduled
pub mod ReaderAnswers
pub mod BehindTopology
