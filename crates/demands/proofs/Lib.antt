pub mod True
pub mod Exact
pub mod Decoded
pub mod Lifted
pub mod InTable
pub mod Cut
pub mod ClaimExact
