pub mod Unions
pub mod EdgeSteps
