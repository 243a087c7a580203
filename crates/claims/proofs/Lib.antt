pub mod ClaimSteps
pub mod ClaimEnds
