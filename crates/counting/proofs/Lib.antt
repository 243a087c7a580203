pub mod TreeLaws
pub mod Small
pub mod Multipliers
pub mod Complete
pub mod Solutions
pub mod Examples
