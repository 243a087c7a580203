pub mod Intake
pub mod Listed
pub mod Answered
