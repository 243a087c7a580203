pub mod GraphEvidence
pub mod GraphJoin
