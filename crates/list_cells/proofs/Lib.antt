pub mod CellGathered
pub mod CellJoin
