pub mod Ancestors
pub mod Disjoint
pub mod Records
