pub mod CellShows
pub mod CellLaws
pub mod CellRows
