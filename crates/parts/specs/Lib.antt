pub mod Numbers
pub mod Pairs
pub mod Filling
