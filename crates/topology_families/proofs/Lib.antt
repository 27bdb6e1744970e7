pub mod FamilyLinks
mod FamilyGroups
pub mod FamilyLaws
