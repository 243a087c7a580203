pub mod Reading
pub mod LineSteps
pub mod TruthSteps
pub mod Order
