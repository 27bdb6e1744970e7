pub mod Naming
pub mod Cutting
pub mod Found
pub mod Proper
pub mod Taking
