pub mod Conflicts
pub mod Learning
pub mod PlaceSets
pub mod Met
pub mod Learned
pub mod UnitLines
pub mod inner
