pub mod Bundles
pub mod Trees
pub mod Steps
pub mod Nodes
pub mod Encoding
