pub mod ListTree
pub mod TreeSteps
pub mod TreeLaws
pub mod HeldLaws
pub mod Examples
