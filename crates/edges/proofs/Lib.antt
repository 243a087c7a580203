pub mod EdgeSteps
