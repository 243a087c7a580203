pub mod Everys
pub mod Entries
