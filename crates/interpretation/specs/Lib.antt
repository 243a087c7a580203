pub mod Meaning
pub mod Models
pub mod Reading
pub mod Examples
