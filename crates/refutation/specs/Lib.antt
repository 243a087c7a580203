pub mod Cells
pub mod Records
pub mod RecordTests
pub mod Examples
pub mod BarredExamples
