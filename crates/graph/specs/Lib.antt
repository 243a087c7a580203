pub mod Graphs
pub mod Line
pub mod GraphTests
pub mod Relabel
pub mod Examples
