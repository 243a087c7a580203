pub mod RowMet
pub mod Sound
pub mod LiftedRefutation
pub mod RecordTests
