pub mod Judging
pub mod TestLaws
pub mod InclusionLaws
