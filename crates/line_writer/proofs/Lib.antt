pub mod WriteOrder
pub mod Pasting
