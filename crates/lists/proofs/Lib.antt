pub mod Lists
pub mod ListEvidence
