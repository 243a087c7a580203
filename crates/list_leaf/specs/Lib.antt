pub mod Gap
pub mod Leaf
pub mod OpenLaws
pub mod Totals
pub mod Weights
pub mod WeightSteps
pub mod WeightLaws
