pub mod Encoding
pub mod Examples
pub mod Bundles
pub mod Trees
pub mod Steps
pub mod Nodes
