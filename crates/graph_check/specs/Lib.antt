pub mod GraphEvidence
pub mod GraphSteps
pub mod GraphJoin
pub mod Examples
