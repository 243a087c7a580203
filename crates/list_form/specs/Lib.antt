pub mod ListForm
pub mod FormSteps
pub mod FormLaws
pub mod Examples
