pub mod Tables
pub mod Concepts
