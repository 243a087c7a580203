pub mod StepForm
pub mod StepSteps
