pub mod Inclusions
pub mod Kept
pub mod NewInclusion
pub mod NewConcept
pub mod NewRole
pub mod NewQuery
pub mod Answers
pub mod Reach
