pub mod Editing
pub mod Inclusions
pub mod Examples
