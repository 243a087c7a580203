pub mod Copies
pub mod Sound
pub mod LiftedGraph
pub mod GraphTests
