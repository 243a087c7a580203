pub mod Claims
pub mod ClaimSteps
