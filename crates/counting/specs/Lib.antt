pub mod Trees
pub mod Rows
pub mod Examples
