pub mod Closing
pub mod Rows
pub mod Steps
