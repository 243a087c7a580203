pub mod Out
pub mod Again
pub mod Examples
