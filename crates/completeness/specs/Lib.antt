pub mod Derivable
pub mod Types
pub mod TypeRows
pub mod Nodes
pub mod Elimination
pub mod Dichotomy
