pub mod Blocks
pub mod Labels
pub mod Words
