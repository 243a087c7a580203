pub mod Lays
pub mod LayLaws
