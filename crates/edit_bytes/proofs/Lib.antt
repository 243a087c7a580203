pub mod OutLaws
pub mod OutSmall
pub mod Again
