pub mod Exact
pub mod Lifted
pub mod Widths
pub mod ThreePairs
pub mod InTable
pub mod Cut
pub mod ClaimExact
