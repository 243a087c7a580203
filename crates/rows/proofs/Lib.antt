pub mod HeldRows
pub mod Made
