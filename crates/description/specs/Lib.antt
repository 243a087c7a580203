pub mod Literals
pub mod Descriptions
pub mod Roles
pub mod Acceptance
pub mod Examples
