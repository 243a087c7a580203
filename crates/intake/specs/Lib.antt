pub mod Intake
pub mod Steps
pub mod Order
pub mod Opening
pub mod Examples
