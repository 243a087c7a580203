pub mod Copying
pub mod Totals
