pub mod Literals
pub mod Roles
pub mod Acceptance
