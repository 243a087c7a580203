pub mod Packed
pub mod Edits
pub mod EditLaws
