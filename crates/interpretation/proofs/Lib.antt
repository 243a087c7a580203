pub mod Models
pub mod Examples
