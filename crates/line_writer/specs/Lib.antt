pub mod Writing
pub mod WriteSteps
pub mod WriteJoin
pub mod WriteBytes
pub mod WriteOrder
pub mod ReadBack
pub mod Examples
