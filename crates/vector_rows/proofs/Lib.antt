pub mod Fields
pub mod Loops
pub mod Parts
